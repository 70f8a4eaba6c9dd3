use Rattle.drive_runs.proofs.Faultless.{played_whole}
use Rattle.drive_runs.proofs.laws.what_is_reported_was_played_whole.Goals as goal

pub returns : goal.returns
returns g c = played_whole g.D.RunDisk.state
