use Rattle.std.proofs.Common.{◌≡◌, ◌≤◌, length, drop}
use Rattle.run_model.proofs.spellings.is_spelled.Given as goal

abbrev pub invariant-loop-left : goal.invariant-loop-left
invariant-loop-left l = record {
  same : length l.word ≡ length l.spelled;
  within : l.left ≤ length l.word;
  alike : drop l.left l.word ≡ drop l.left l.spelled;
}

abbrev pub decreases-loop-left : goal.decreases-loop-left
decreases-loop-left l = l.left
