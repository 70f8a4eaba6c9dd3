use Rattle.night_program.proofs.Begins.{made_new}
use Rattle.night_program.proofs.demos.format.Goals as goal

pub returns-in-Ok-clause-made : goal.returns-in-Ok-clause-made
returns-in-Ok-clause-made g c =
    let state = g.D.RunDisk.state in
    made_new (state c.args.disk) (state c.in-Ok.disk) (g.met.D.RunDisk.is_disk c.in-Ok.disk)
    c.requires.honest c.requires.size c.in-Ok.ensures.formats
