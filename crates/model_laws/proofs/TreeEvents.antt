-- The events of the tree keep the rules.
use Rattle.run_model.proofs.Common.{refl, ◌≡◌, ℕ, true, List, length, Option, Some, None, ap, ◌∙◌}
use Rattle.run_model.proofs.Common.{◌<◌, ◌+◌, arith, option_map, option_map_or, IsSome, is_none}
use Rattle.run_model.proofs.Common.{not, ◌&&◌, ltb-true, slice_get-map, most_scopes, has_kind}
use Rattle.run_model.proofs.Common.{is_cancellable, has_row, has_room, new_scope, IsConsistent}
use Rattle.run_model.proofs.Common.{can_be_hit, State, scope_named, step, with_hit, after_cancel}
use Rattle.run_model.proofs.Common.{hit_due, tick, after_derive, after_advance, name_is_free}
use Rattle.run_model.proofs.Common.{is_root, is_group_kind}
use Rattle.run_model.specs.declared.scopes.Hit.{Hit}
use Rattle.run_model.specs.declared.scopes.Kind.{Kind}
use Rattle.run_model.specs.declared.scopes.Scope.{Scope}
use Rattle.run_model.specs.Event as event
use Rattle.model_laws.proofs.Changes.{right_now, hits_change}
use Rattle.model_laws.proofs.Ends.{hit_cancelled}
use Rattle.model_laws.proofs.FirstErrors.{hits_alike, hits_pushed, errors_tree}
use Rattle.model_laws.proofs.Numbering.{numbered_scope}
use Rattle.model_laws.proofs.Owners.{kind_row, row_kind, owners_scope}
use Rattle.model_laws.proofs.RightHits.{AreRight, are_right, hits_right, deadlines_right}
use Rattle.model_laws.proofs.RightHits.{or_else_some, right_pushed, right_advanced}
use Rattle.model_laws.proofs.Shapes.{IsSameScope, alike_map, tick_same}
use Rattle.model_laws.proofs.Tests.{derived_kind, cancelled_kind}

pub derived : (p : State) (name : List ℕ) (parent : ℕ) (k : Kind)
    → (not (is_root k) && not (is_group_kind k)) ≡ true
    → has_row p.tree.scopes parent ≡ true → is_none (scope_named p.tree name) ≡ true
    → has_room (most_scopes p.tree.layout) p.tree.scopes ≡ true → IsConsistent p
    → IsConsistent (step p (event.Derive name parent k))
derived p name parent k derivable known free room kept =
    let e : ℕ = p.count + 1 in
    let new = tick e p.tree.clock (new_scope name parent k) in
    let same : IsSameScope (new_scope name parent k) new =
    tick_same e p.tree.clock (new_scope name parent k) in
    let kinds = derived_kind k derivable in
    let right : AreRight e (after_derive e name parent k p.tree) =
    right_pushed e name parent k p.tree (omega arith) (right_now p e (omega arith) kept) in
    record {
      numbered =
          numbered_scope p e p.tree.clock new
          (ltb-true (length p.tree.scopes) (most_scopes p.tree.layout) room)
          (rw (same.parent) (ltb-true parent (length p.tree.scopes) known))
          (rw (same.kind) kinds.0)
          (λ s a found is.
          name_is_free (λ row. row.name) name p.tree.scopes free s a found (is ∙ same.name))
          kept.numbered;
      hits = hits_right e (after_derive e name parent k p.tree) p.work right;
      deadlines = deadlines_right e (after_derive e name parent k p.tree) right;
      group_scopes =
          owners_scope p e p.tree.clock new (rw (same.kind) kinds.1) kept.group_scopes;
      admitted = kept.admitted;
      errors =
          errors_tree p e (after_derive e name parent k p.tree)
          (hits_pushed p.tree p.tree.clock new) kept.errors;
      links = kept.links;
    }

pub cancelled : (p : State) (s : ℕ) (cause : Option (List ℕ))
    → has_kind is_cancellable p.tree s ≡ true → IsConsistent p
    → IsConsistent (step p (event.Cancel s cause))
cancelled p s cause is kept =
    let row = kind_row is_cancellable p.tree s is in
    hits_change p (p.count + 1) (after_cancel (p.count + 1) s cause p.tree)
    (hit_cancelled (p.count + 1) s cause p.tree (omega arith) kept.numbered.rooted
    (row_kind can_be_hit p.tree s row.0 row.1 (cancelled_kind row.0.kind row.2))
    (right_now p (p.count + 1) (omega arith) kept)) kept

hit_stays : (o : Option Hit) (row : Scope) → IsSome row.hit
    → IsSome (option_map_or (λ hit. with_hit hit row) o row).hit
hit_stays None row is = is
hit_stays (Some hit) row is = or_else_some row.hit hit

pub advanced : (p : State) (moment : ℕ) → p.tree.clock < moment → IsConsistent p
    → IsConsistent (step p (event.Advance moment))
advanced p moment later kept =
    let e : ℕ = p.count + 1 in
    hits_change p e (after_advance e moment p.tree)
    (record {
      layout = refl;
      same = alike_map IsSameScope (tick e moment) p.tree.scopes (tick_same e moment);
      rooted =
          slice_get-map (tick e moment) p.tree.scopes 0
          ∙ ap (option_map (tick e moment)) kept.numbered.rooted;
      right =
          right_advanced p.count e moment p.tree (omega arith) (omega arith)
          (omega (arith, later)) (are_right p kept.hits kept.deadlines);
      kept =
          hits_alike p.tree (after_advance e moment p.tree)
          (alike_map (λ x y. IsSome x.hit → IsSome y.hit) (tick e moment) p.tree.scopes
          (λ x is. hit_stays (hit_due e moment x.kind) x is));
    }) kept
