use Rattle.run_model.proofs.Common.{Some, refl, sym, ap, ◌∙◌, get_or, has_kind, is_group_kind}
use Rattle.run_model.proofs.Common.{after_cancel}
use Rattle.std.proofs.lemmas.List.Sums.{fold_more}
use Rattle.scope_tree.proofs.Events.{earlier_is_alike, has_kind-after_cancel}
use Rattle.run_session.proofs.group_hits.hit_groups.Goals as goal

pub loop-scope-init : goal.loop-scope-init
loop-scope-init g c = record {
  tree = refl;
  kinds = λ s. refl;
  later =
      earlier_is_alike c.args.tree.now.scopes c.args.event c.args.error.now c.requires.later;
}

pub loop-scope-preserved : goal.loop-scope-preserved
loop-scope-preserved g c =
    let so_far = c.loop-scope.invariant in
    let n = get_or c.args.scopes.now c.loop-scope.scope-index 0 in
    record {
      tree =
          c.hit_group.ensures.tree
          ∙ ap (λ t. after_cancel c.args.event n (Some c.args.error.now) t) so_far.tree
          ∙ sym
          (fold_more (λ t s. after_cancel c.args.event s (Some c.args.error.now) t)
          c.args.tree.now c.args.scopes.now c.loop-scope.scope-index 0 c.loop-scope-test.true);
      kinds =
          λ s.
          ap (λ t. has_kind is_group_kind t s) c.hit_group.ensures.tree
          ∙ has_kind-after_cancel is_group_kind c.loop-scope.tree c.args.event n s
          (Some c.args.error.now)
          ∙ so_far.kinds s;
      later = c.hit_group.ensures.again;
    }
