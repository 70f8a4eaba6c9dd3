use Rattle.run_model.proofs.Common.{◌≡◌, ℕ, fold, take, Some, has_kind, is_group_kind}
use Rattle.run_model.proofs.Common.{after_cancel}
use Rattle.scope_tree.specs.Checks.{AreEarlierOrAlike}
use Rattle.run_session.proofs.group_hits.hit_groups.Given as goal

abbrev pub invariant-loop-scope : goal.invariant-loop-scope
invariant-loop-scope g l = record {
  tree : l.tree
      ≡ fold (λ t s. after_cancel l.event s (Some l.error) t) l.initial.tree
      (take l.scope-index l.scopes);
  kinds : (s : ℕ) → has_kind is_group_kind l.tree s ≡ has_kind is_group_kind l.initial.tree s;
  later : AreEarlierOrAlike l.tree.scopes l.event l.error;
}
