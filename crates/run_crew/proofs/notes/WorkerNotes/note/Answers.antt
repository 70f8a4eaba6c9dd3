use Rattle.std.proofs.Common.{arith, ◌∙◌}
use Rattle.run_crew.proofs.notes.WorkerNotes.note.Goals as goal

pub invariant_of-self : goal.invariant_of-self
invariant_of-self c = (
  omega (arith, c.push_reserved.ensures.len),
  c.push_reserved.ensures.capacity ∙ c.self.invariant.1,
)
