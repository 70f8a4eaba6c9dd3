use Rattle.run_disk.proofs.RunLemmas.{rested}
use Rattle.run_disk.proofs.disk_laws.a_synced_disk_is_at_rest.Goals as goal

pub returns : goal.returns
returns g c =
    rested (g.D.RunDisk.state c.args.disk.now) (g.met.D.RunDisk.is_disk c.args.disk.now)
