use Rattle.run_model.proofs.Common.{◌≤◌, length, not, is_done}
use Rattle.state_renewal.specs.Marks.{AreFlags}
use Rattle.state_renewal.proofs.flags.flag_live.Given as goal

abbrev pub invariant-loop-s : goal.invariant-loop-s
invariant-loop-s g l = record {
  flags : AreFlags (λ s. not (is_done l.tree.scopes s)) l.s l.flags.items;
  room : length l.tree.scopes ≤ l.flags.cap;
}
