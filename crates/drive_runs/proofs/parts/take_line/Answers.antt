use Rattle.std.proofs.Common.{inl, inr, refl}
use Rattle.drive_runs.proofs.parts.take_line.Goals as goal

pub returns-in-Ok-clause-taken : goal.returns-in-Ok-clause-taken
returns-in-Ok-clause-taken g c =
    inl (c.in-Ok.answer, c.in-Ok.ensures.answered, c.give.ensures)

pub returns-in-Err-clause-taken : goal.returns-in-Err-clause-taken
returns-in-Err-clause-taken g c = inr (refl, refl)
