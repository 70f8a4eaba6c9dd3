-- The events of groups keep the rules.
use Rattle.run_model.proofs.Common.{◌≡◌, ℕ, true, false, List, length, Option, refl, ◌+◌, [], ◌∷◌}
use Rattle.run_model.proofs.Common.{◌++◌, arith, ltb-true, most_scopes, has_row, has_room}
use Rattle.run_model.proofs.Common.{new_scope, new_group, IsConsistent, State, TreeState}
use Rattle.run_model.proofs.Common.{WorkState, scope_named, group_named, step, unfinished_in}
use Rattle.run_model.proofs.Common.{with_limit, after_limit, name_is_free, is_none}
use Rattle.std.proofs.lemmas.List.{length_push}
use Rattle.run_model.specs.declared.bounds.TheConstants.{MOST_GROUPS}
use Rattle.model_laws.proofs.Links.{links_beside}
use Rattle.run_model.specs.declared.scopes.Kind.TheVariants as kind
use Rattle.run_model.specs.Event as event
use Rattle.model_laws.proofs.Admission.{admitted_group, admitted_limit}
use Rattle.model_laws.proofs.Changes.{right_now, hit_now, rows_change}
use Rattle.model_laws.proofs.FirstErrors.{errors_alike, IsSameEnd, end_same, hits_pushed}
use Rattle.model_laws.proofs.FirstErrors.{errors_group}
use Rattle.model_laws.proofs.Numbering.{numbered_scope, numbered_group}
use Rattle.model_laws.proofs.Owners.{owners_bare, owners_made}
use Rattle.model_laws.proofs.RightHits.{AreRight, hits_right, deadlines_right, right_pushed}
use Rattle.model_laws.proofs.Shapes.{alike_same, alike_at, IsSameGroup, group_same, IsSameTask}
use Rattle.model_laws.proofs.Shapes.{task_same}

pub made : (p : State) (name : List ℕ) (parent : ℕ) → has_row p.tree.scopes parent ≡ true
    → is_none (scope_named p.tree name) ≡ true → is_none (group_named p.work name) ≡ true
    → has_room (most_scopes p.tree.layout) p.tree.scopes ≡ true
    → has_room MOST_GROUPS p.work.groups ≡ true
    → IsConsistent p → IsConsistent (step p (event.Group name parent))
made p name parent known free group_free room group_room kept =
    let e : ℕ = p.count + 1 in
    let row = new_scope name parent kind.Group in
    let new = new_group name (length p.tree.scopes) false in
    let u : TreeState = record p.tree { scopes = p.tree.scopes ++ row ∷ [] } in
    let v : WorkState = record p.work { groups = p.work.groups ++ new ∷ [] } in
    let right : AreRight e u =
    right_pushed e name parent kind.Group p.tree (omega arith)
    (right_now p e (omega arith) kept) in
    record {
      numbered =
          numbered_group (record { count = e; tree = u; work = p.work }) e new
          (ltb-true (length p.work.groups) MOST_GROUPS group_room)
          (rw (length_push p.tree.scopes row) (omega arith))
          (name_is_free (λ group. group.name) name p.work.groups group_free)
          (numbered_scope p e p.tree.clock row
          (ltb-true (length p.tree.scopes) (most_scopes p.tree.layout) room)
          (ltb-true parent (length p.tree.scopes) known) refl
          (name_is_free (λ scope. scope.name) name p.tree.scopes free) kept.numbered);
      hits = hits_right e u v right;
      deadlines = deadlines_right e u right;
      group_scopes =
          owners_made p e p.tree.clock row new refl refl refl refl kept.numbered.scopes
          kept.group_scopes;
      admitted = admitted_group p.work new refl kept.numbered.groups kept.admitted;
      errors =
          errors_group p e u new (hits_pushed p.tree p.tree.clock row) refl refl
          kept.numbered.groups kept.errors;
      links = links_beside p.work v refl kept.links;
    }

pub made_bare : (p : State) (name : List ℕ) (s : ℕ) → has_row p.tree.scopes s ≡ true
    → is_none (group_named p.work name) ≡ true → has_room MOST_GROUPS p.work.groups ≡ true
    → IsConsistent p → IsConsistent (step p (event.Bare name s))
made_bare p name s known free room kept =
    let e : ℕ = p.count + 1 in
    let new = new_group name s true in
    let v : WorkState = record p.work { groups = p.work.groups ++ new ∷ [] } in
    record {
      numbered =
          numbered_group p e new (ltb-true (length p.work.groups) MOST_GROUPS room)
          (ltb-true s (length p.tree.scopes) known)
          (name_is_free (λ group. group.name) name p.work.groups free) kept.numbered;
      hits = hits_right e p.tree v (right_now p e (omega arith) kept);
      deadlines = kept.deadlines;
      group_scopes = owners_bare p e new refl kept.group_scopes;
      admitted = admitted_group p.work new refl kept.numbered.groups kept.admitted;
      errors =
          errors_group p e p.tree new (λ s is. is) refl refl kept.numbered.groups kept.errors;
      links = links_beside p.work v refl kept.links;
    }

pub limited : (p : State) (g : ℕ) (limit : Option ℕ) → unfinished_in g p.work.tasks ≡ 0
    → IsConsistent p → IsConsistent (step p (event.SetLimit g limit))
limited p g limit idle kept =
    let e : ℕ = p.count + 1 in
    let v = after_limit g limit p.work in
    rows_change p e p.tree v (hit_now p e (omega arith) kept) refl
    (alike_at IsSameGroup (with_limit limit) g p.work.groups group_same
    (λ x at. record { name = refl; scope = refl; bare = refl }))
    (alike_same IsSameTask p.work.tasks task_same)
    (admitted_limit p.work g limit idle kept.admitted)
    (errors_alike p e v
    (alike_at IsSameEnd (with_limit limit) g p.work.groups end_same
    (λ x at. record { scope = refl; bare = refl; waited = refl; error = refl }))
    (λ h. refl) kept.errors) kept
