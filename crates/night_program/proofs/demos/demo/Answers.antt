use Rattle.std.proofs.Common.{inl, refl}
use Rattle.night_program.proofs.Begins.{demo_ends, unopened}
use Rattle.night_program.proofs.demos.demo.Goals as goal

pub returns-in-Ok : goal.returns-in-Ok
returns-in-Ok g c =
    demo_ends c.args.until c.script.result.0 c.in-Ok.disk c.script.result.1 _ _ _ _
    c.in-Ok.ensures.made c.script.ensures

pub returns-in-Err : goal.returns-in-Err
returns-in-Err g c =
    rw c.from.ensures (inl (unopened c.in-Err.fault c.in-Err.ensures.fault, refl, refl))
