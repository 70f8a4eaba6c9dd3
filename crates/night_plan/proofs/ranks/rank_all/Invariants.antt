use Rattle.std.proofs.Common.{◌≡◌, ◌<◌, ◌+◌, ℕ, [], length}
use Rattle.std.specs.Prelude.{slice_index}
use Rattle.night_plan.specs.Ranks.{AreRanks, IsPath, IsSearching, unranked}
use Rattle.night_plan.proofs.ranks.rank_all.Given as goal

abbrev pub invariant-loop-first : goal.invariant-loop-first
invariant-loop-first l = record {
  search : IsSearching l.commands l.links l.ranks.items l.cursors.items l.met.items;
  grouped : length l.cursors.items ≡ l.groups;
  ranked : AreRanks l.commands l.ranks.items l.order.items (length l.order.items);
  path : IsPath l.commands l.ranks.items l.places.items l.path.items;
  empty : l.path.items ≡ [];
  done : (k : ℕ) → k < l.first → 0 < slice_index l.ranks.items k;
}

abbrev pub invariant-walk : goal.invariant-walk
invariant-walk l = record {
  search : IsSearching l.commands l.links l.ranks.items l.cursors.items l.met.items;
  grouped : length l.cursors.items ≡ l.groups;
  ranked : AreRanks l.commands l.ranks.items l.order.items (length l.order.items);
  path : IsPath l.commands l.ranks.items l.places.items l.path.items;
  begun : 0 < slice_index l.places.items l.first;
  done : (k : ℕ) → k < l.first → 0 < slice_index l.ranks.items k;
}

abbrev pub decreases-walk : goal.decreases-walk
decreases-walk l = unranked l.ranks.items + unranked l.places.items
