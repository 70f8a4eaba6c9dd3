use Rattle.std.proofs.Common.{◌≡◌, length}
use Rattle.std.specs.List.{AllWithin}
use Rattle.night_plan.specs.Ranks.{AreMet, HasRanks, IsGrouped}
use Rattle.night_plan.proofs.ranks.blocker.Given as goal

abbrev pub invariant-loop-k : goal.invariant-loop-k
invariant-loop-k l = record {
  groups : IsGrouped l.commands l.links l.ranks l.cursors.items;
  sized : length l.cursors.items ≡ length l.fn.cursors.items;
  met : AreMet l.commands l.ranks l.met.items;
  upto : AllWithin (HasRanks l.commands l.ranks) l.needs 0 l.k;
}
