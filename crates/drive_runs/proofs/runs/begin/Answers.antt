use Rattle.std.proofs.Common.{inl, inr, refl}
use Rattle.drive_runs.proofs.Driving.{first_from}
use Rattle.drive_runs.proofs.runs.begin.Goals as goal

pub returns-in-Part-clause-first : goal.returns-in-Part-clause-first
returns-in-Part-clause-first g c =
    first_from g.D.RunDisk.state _ _ _ _ _ _ _ c.in-Part.is (refl, refl, refl)

pub returns-in-Ok-clause-first : goal.returns-in-Ok-clause-first
returns-in-Ok-clause-first g c =
    first_from g.D.RunDisk.state _ _ _ _ _ _ _ c.in-Recorded.is
    (inl (c.in-Ok.answer, c.in-Ok.ensures.answered, c.give.ensures))

pub returns-in-Err-clause-first : goal.returns-in-Err-clause-first
returns-in-Err-clause-first g c =
    first_from g.D.RunDisk.state _ _ _ _ _ _ _ c.in-Recorded.is (inr (refl, refl))
