-- A scope is hit by a cancel, or because a group of it ended.
use Rattle.run_model.proofs.Common.{◌≡◌, ◌≢◌, ◌≤◌, ◌==◌, ◌&&◌, ℕ, Bool, true, false, List, length}
use Rattle.run_model.proofs.Common.{Option, Some, None, slice_get, refl, sym, ap, subst, ◌∙◌}
use Rattle.run_model.proofs.Common.{list_any, option_map, option_map_or, option_and_then, IsSome}
use Rattle.run_model.proofs.Common.{if◌then◌else◌, both_ways, and_left, and_from, ne_eqb, eq-eqb}
use Rattle.run_model.proofs.Common.{none-some, same_Some, has_kind, root, at_row, IsConsistent}
use Rattle.run_model.proofs.Common.{Owns, AreGroupScopes, can_be_hit, has_task_error, HasRow}
use Rattle.run_model.proofs.Common.{own_hit, is_group_kind, State, TreeState, WorkState, own_scope}
use Rattle.run_model.proofs.Common.{after_group_cancel, after_task_end, is_running, is_unfinished}
use Rattle.run_model.proofs.Common.{is_interrupted, ended_in_error, unfinished_in, with_hit}
use Rattle.run_model.proofs.Common.{after_cancel, new_hit, with_stage, with_error, with_wait}
use Rattle.run_model.proofs.Common.{group_of_task, after_end, after_wait, slice_get-at_row_same}
use Rattle.run_model.proofs.Common.{slice_get-at_row_other, any_passes_from_place}
use Rattle.run_model.specs.declared.groups.Group.{Group}
use Rattle.run_model.specs.declared.scopes.Scope.{Scope}
use Rattle.run_model.specs.declared.tasks.Stage.{Stage}
use Rattle.run_model.specs.declared.tasks.Task.{Task}
use Rattle.run_model.specs.declared.scopes.Reason.TheVariants.{Canceled}
use Rattle.model_laws.proofs.Admission.{IsSameTerms, terms_same, admitted_stage, admitted_wait}
use Rattle.model_laws.proofs.Changes.{IsHit, hit_none, rows_change}
use Rattle.model_laws.proofs.FirstErrors.{hits_cancelled, errors_changed, any_at}
use Rattle.model_laws.proofs.Owners.{kind_row, row_kind}
use Rattle.model_laws.proofs.RightHits.{AreRight, are_right, later_right, right_cancelled}
use Rattle.model_laws.proofs.RightHits.{right_cancellation, own_hit_of, or_else_some}
use Rattle.model_laws.proofs.Shapes.{alike_same, alike_at, IsSameScope, scope_same, IsSameGroup}
use Rattle.model_laws.proofs.Shapes.{group_same, IsSameTask, task_same, stage_same}
use Rattle.model_laws.proofs.Tests.{group_kind_hit}

not_root : (t : TreeState) (s : ℕ) (row : Scope) → slice_get t.scopes 0 ≡ Some root
    → HasRow t.scopes s row → can_be_hit row.kind ≡ true → 0 ≢ s
not_root t s row rooted found is same =
    let here : root ≡ row =
    same_Some root row (sym rooted ∙ ap (slice_get t.scopes) same ∙ found) in
    both_ways (can_be_hit row.kind) (ap (λ r. can_be_hit r.kind) (sym here)) is

-- A canceled scope of a kind that can be hit.
pub hit_cancelled : (e s : ℕ) (cause : Option (List ℕ)) (t : TreeState) → 1 ≤ e
    → slice_get t.scopes 0 ≡ Some root → has_kind can_be_hit t s ≡ true → AreRight e t
    → IsHit e t (after_cancel e s cause t)
hit_cancelled e s cause t counted rooted is right =
    let row = kind_row can_be_hit t s is in
    record {
      layout = refl;
      same =
          alike_at IsSameScope (with_hit (new_hit e t.clock Canceled cause)) s t.scopes scope_same
          (λ x found. record { name = refl; parent = refl; kind = refl });
      rooted =
          slice_get-at_row_other (with_hit (new_hit e t.clock Canceled cause)) s 0 t.scopes
          (not_root t s row.0 rooted row.1 row.2)
          ∙ rooted;
      right =
          right_cancelled e s (new_hit e t.clock Canceled cause) t
          (λ x found.
          right_cancellation e t.clock cause x.kind counted
          (ap (λ r. can_be_hit r.kind) (same_Some x row.0 (sym found ∙ row.1)) ∙ row.2)) right;
      kept = hits_cancelled e s cause t;
    }

cancelled_hit : (e s : ℕ) (cause : Option (List ℕ)) (t : TreeState) (row : Scope)
    → HasRow t.scopes s row → IsSome (own_hit (after_cancel e s cause t).scopes s)
cancelled_hit e s cause t row found =
    let hit = new_hit e t.clock Canceled cause in
    rw
    (own_hit_of (at_row (with_hit hit) s t.scopes) s (with_hit hit row)
    (slice_get-at_row_same (with_hit hit) s t.scopes ∙ ap (option_map (with_hit hit)) found))
    (or_else_some row.hit hit)

own_scope_of : (w : WorkState) (g s : ℕ) (row : Group) → Owns w g row s → own_scope w g ≡ Some s
own_scope_of w g s row owns =
    ap (λ o. option_and_then (λ group. if group.bare then None else Some group.scope) o)
    owns.found
    ∙ ap (λ b. if b then None else Some row.scope) owns.not_bare
    ∙ ap Some owns.scope

owner_if : (b : Bool) (scope s : ℕ) → (if b then None else Some scope) ≡ Some s
    → (b ≡ false) × (scope ≡ s)
owner_if true scope s is = absurd (none-some s is)
owner_if false scope s is = (refl, same_Some scope s is)

pub owner_found : (w : WorkState) (g s : ℕ) (o : Option Group) → slice_get w.groups g ≡ o
    → option_and_then (λ group. if group.bare then None else Some group.scope) o ≡ Some s
    → (row : Group) × Owns w g row s
owner_found w g s None found is = absurd (none-some s is)
owner_found w g s (Some row) found is =
    let parts = owner_if row.bare row.scope s is in
    (row, record { found = found; not_bare = parts.0; scope = parts.1 })

can_be : (p : State) (g s : ℕ) (row : Group) → AreGroupScopes p → Owns p.work g row s
    → has_kind can_be_hit p.tree s ≡ true
can_be p g s row scopes owns =
    let found = kind_row is_group_kind p.tree s (scopes.own g s row owns) in
    row_kind can_be_hit p.tree s found.0 found.1 (group_kind_hit found.0.kind found.2)

end_by : (e : ℕ) (p : State) (g : ℕ) (cause : Option (List ℕ)) (o : Option ℕ)
    → own_scope p.work g ≡ o → 1 ≤ e → slice_get p.tree.scopes 0 ≡ Some root → AreGroupScopes p
    → AreRight e p.tree
    → IsHit e p.tree (option_map_or (λ s. after_cancel e s cause p.tree) o p.tree)
end_by e p g cause None own counted rooted scopes right = hit_none e p.tree rooted right
end_by e p g cause (Some s) own counted rooted scopes right =
    let owner = owner_found p.work g s (slice_get p.work.groups g) refl own in
    hit_cancelled e s cause p.tree counted rooted (can_be p g s owner.0 scopes owner.1) right

-- The tree after the end of a group.
pub hit_ended : (e : ℕ) (p : State) (g : ℕ) (cause : Option (List ℕ)) → p.count ≤ e → 1 ≤ e
    → IsConsistent p → IsHit e p.tree (after_group_cancel e p.work g cause p.tree)
hit_ended e p g cause more counted kept =
    end_by e p g cause (own_scope p.work g) refl counted kept.numbered.rooted kept.group_scopes
    (later_right p.count e p.tree more (are_right p kept.hits kept.deadlines))

-- The group's own scope is hit then.
pub own_hit_ended : (e : ℕ) (p : State) (g s : ℕ) (row : Group) (cause : Option (List ℕ))
    → IsConsistent p → Owns p.work g row s
    → IsSome (own_hit (after_group_cancel e p.work g cause p.tree).scopes s)
own_hit_ended e p g s row cause kept owns =
    let found = kind_row is_group_kind p.tree s (kept.group_scopes.own g s row owns) in
    let P : Option ℕ → Type 0 =
    λ o.
    IsSome (own_hit (option_map_or (λ s. after_cancel e s cause p.tree) o p.tree).scopes s) in
    subst P (sym (own_scope_of p.work g s row owns))
    (cancelled_hit e s cause p.tree found.0 found.1)

group_of_found : (w : WorkState) (n : ℕ) (row : Task) → HasRow w.tasks n row
    → group_of_task w n ≡ row.group
group_of_found w n row found =
    ap (λ o. option_map_or (λ task. task.group) o (length w.groups)) found

-- The end of a task is no end in another group.
lost_elsewhere : (w : WorkState) (n g h : ℕ) (stage : Stage) (row : Task) → HasRow w.tasks n row
    → g ≡ row.group → h ≢ g
    → list_any (λ task. task.group == h && ended_in_error task.stage)
    (at_row (with_stage stage) n w.tasks) ≡ has_task_error w h
lost_elsewhere w n g h stage row found of_group other =
    any_at (λ task. task.group == h && ended_in_error task.stage) (with_stage stage) n w.tasks
    (λ x at.
    let same : x.group ≡ g =
    ap (λ r. r.group) (same_Some x row (sym at ∙ found)) ∙ sym of_group in
    let not : (x.group == h) ≡ false = ne_eqb x.group h (λ is. other (sym is ∙ same)) in
    and_left (x.group == h) (ended_in_error stage) not
    ∙ sym (and_left (x.group == h) (ended_in_error x.stage) not))

lost_here : (w : WorkState) (n g : ℕ) (stage : Stage) (row : Task) → HasRow w.tasks n row
    → g ≡ row.group → ended_in_error stage ≡ true
    → list_any (λ task. task.group == g && ended_in_error task.stage)
    (at_row (with_stage stage) n w.tasks) ≡ true
lost_here w n g stage row found of_group lost =
    any_passes_from_place (λ task. task.group == g && ended_in_error task.stage)
    (at_row (with_stage stage) n w.tasks) n (with_stage stage row)
    (slice_get-at_row_same (with_stage stage) n w.tasks
    ∙ ap (option_map (with_stage stage)) found)
    (and_from (row.group == g) (ended_in_error stage) (eq-eqb row.group g (sym of_group))
    lost)

-- A task ended in an error.
pub consistent_lost : (p : State) (e n : ℕ) (text : List ℕ) (stage : Stage) (row : Task)
    → p.count ≤ e → 1 ≤ e → HasRow p.work.tasks n row → ended_in_error stage ≡ true
    → is_unfinished stage ≡ false → is_running stage ≡ false
    → (is_interrupted row.stage ≡ true → is_interrupted stage ≡ true) → IsConsistent p
    → IsConsistent
    (record {
      count = e;
      tree = after_task_end e p.work n (Some text) p.tree;
      work = after_end n stage (Some text) p.work;
    })
consistent_lost p e n text stage row more counted found lost finished stopped stays kept =
    let g = group_of_task p.work n in
    let of_group : g ≡ row.group = group_of_found p.work n row found in
    let u = after_task_end e p.work n (Some text) p.tree in
    let v = after_end n stage (Some text) p.work in
    let hit = hit_ended e p g (Some text) more counted kept in
    rows_change p e u v hit refl
    (alike_at IsSameGroup (with_error text) g p.work.groups group_same
    (λ x at. record { name = refl; scope = refl; bare = refl }))
    (alike_at IsSameTask (with_stage stage) n p.work.tasks task_same
    (λ x at.
    stage_same stage x
    (λ is. stays (ap (λ r. is_interrupted r.stage) (same_Some row x (sym found ∙ at)) ∙ is))))
    (admitted_stage p.work v.groups n stage
    (alike_at IsSameTerms (with_error text) g p.work.groups terms_same
    (λ x at. record { limit = refl; waited = refl }))
    (λ x at is. absurd (both_ways (is_unfinished stage) finished is))
    (λ x at is. absurd (both_ways (is_running stage) stopped is)) kept.admitted)
    (errors_changed p e g u v.tasks (with_error text) hit.kept
    (λ s group owns. own_hit_ended e p g s group (Some text) kept owns)
    (λ x. record { name = refl; scope = refl; bare = refl })
    (λ h other. lost_elsewhere p.work n g h stage row found of_group other)
    (λ x at. (
      λ is. lost_here p.work n g stage row found of_group lost,
      λ is. or_else_some x.error text,
    )) kept.errors) kept

-- A group was waited for.
pub consistent_wait : (p : State) (e g : ℕ) → p.count ≤ e → 1 ≤ e
    → unfinished_in g p.work.tasks ≡ 0 → IsConsistent p
    → IsConsistent
    (record {
      count = e;
      tree = after_group_cancel e p.work g None p.tree;
      work = after_wait g p.work;
    })
consistent_wait p e g more counted idle kept =
    let u = after_group_cancel e p.work g None p.tree in
    let hit = hit_ended e p g None more counted kept in
    rows_change p e u (after_wait g p.work) hit refl
    (alike_at IsSameGroup with_wait g p.work.groups group_same
    (λ x at. record { name = refl; scope = refl; bare = refl }))
    (alike_same IsSameTask p.work.tasks task_same) (admitted_wait p.work g idle kept.admitted)
    (errors_changed p e g u p.work.tasks with_wait hit.kept
    (λ s group owns. own_hit_ended e p g s group None kept owns)
    (λ x. record { name = refl; scope = refl; bare = refl }) (λ h other. refl)
    (kept.errors.exact g) kept.errors) kept
