use Rattle.std.proofs.Common.{◌≡◌, ◌≤◌, ◌+◌, length}
use Rattle.state_renewal.specs.Marks.{is_flagged}
use Rattle.state_renewal.specs.Renewed.{new_number}
use Rattle.state_renewal.proofs.Numbering.{AreNumbers}
use Rattle.state_renewal.proofs.marks.new_numbers.Given as goal

abbrev pub invariant-loop-n : goal.invariant-loop-n
invariant-loop-n g l = record {
  numbers : AreNumbers l.flags l.n l.numbers.items;
  next : l.next ≡ new_number (is_flagged l.flags) l.n;
  small : l.next ≤ l.n;
  room : length l.flags + 1 ≤ l.numbers.cap;
}
