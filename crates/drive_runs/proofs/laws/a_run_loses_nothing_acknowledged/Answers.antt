use Rattle.drive_runs.proofs.Lasting.{crash_finds, opening_finds, sittings_store}
use Rattle.drive_runs.proofs.laws.a_run_loses_nothing_acknowledged.Goals as goal

pub returns : goal.returns
returns g c = record {
  openings = sittings_store g.D.RunDisk.state g.met.D.RunDisk.is_disk;
  in_opening = opening_finds g.D.RunDisk.state g.met.D.RunDisk.is_disk;
  after_answers = crash_finds g.D.RunDisk.state g.met.D.RunDisk.is_disk;
}
