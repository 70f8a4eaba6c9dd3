-- The events of tasks keep the rules.
use Rattle.run_model.proofs.Common.{◌≡◌, ◌&&◌, ℕ, true, false, List, length, slice_get, refl, sym}
use Rattle.run_model.proofs.Common.{ap, None, subst, ◌∙◌, ◌+◌, not, [], ◌∷◌, ◌++◌, arith}
use Rattle.run_model.proofs.Common.{both_ways, and_parts, ltb-true, option_map_or, none-some}
use Rattle.run_model.proofs.Common.{same_Some, slice_get_within, most_tasks, is_open, has_room}
use Rattle.run_model.proofs.Common.{new_task, IsConsistent, AreLinked, IsRetry, HasRow, State}
use Rattle.run_model.proofs.Common.{WorkState, step, is_running, is_unfinished, ended_in_error}
use Rattle.run_model.proofs.Common.{is_admitted, is_fresh, is_interrupted, is_retried, has_stage}
use Rattle.run_model.proofs.Common.{first_ready, group_of_task, retried_row, ◌==◌}
use Rattle.std.proofs.lemmas.Bool.{not-true}
use Rattle.run_model.specs.declared.tasks.Outcome.TheVariants as outcome
use Rattle.run_model.specs.declared.tasks.Stage.TheVariants as stage
use Rattle.run_model.specs.declared.tasks.Task.{Task}
use Rattle.run_model.specs.Event as event
use Rattle.run_model.specs.WorkChanges.{after_retry}
use Rattle.model_laws.proofs.Admission.{admitted_task}
use Rattle.model_laws.proofs.Changes.{right_now, stage_changed}
use Rattle.model_laws.proofs.Ends.{consistent_lost}
use Rattle.model_laws.proofs.FirstErrors.{errors_alike, IsSameEnd, end_same, lost_pushed}
use Rattle.model_laws.proofs.Links.{links_pushed}
use Rattle.model_laws.proofs.Numbering.{numbered_task}
use Rattle.model_laws.proofs.Owners.{owners_kept}
use Rattle.model_laws.proofs.RightHits.{hits_right}
use Rattle.model_laws.proofs.Shapes.{AreAlike, alike_same, IsSameScope, scope_same, IsSameGroup}
use Rattle.model_laws.proofs.Shapes.{group_same}
use Rattle.model_laws.proofs.Tests.{passing, fresh_stage, running_stage, first_is_ready}
use Rattle.model_laws.proofs.Tests.{fresh_not_running, going_on, not_yet}

-- One task more, which was not started, of a group that was not waited for.
added : (p : State) (new : Task) → is_fresh new.stage ≡ true → is_open p.work new.group ≡ true
    → has_room (most_tasks p.work.layout) p.work.tasks ≡ true
    → AreLinked (record p.work { tasks = p.work.tasks ++ new ∷ [] }) → IsConsistent p
    → IsConsistent
    (record {
      count = p.count + 1;
      tree = p.tree;
      work = record p.work { tasks = p.work.tasks ++ new ∷ [] };
    })
added p new fresh is room links kept =
    let e : ℕ = p.count + 1 in
    let g = new.group in
    let start = fresh_stage new.stage fresh in
    let v : WorkState = record p.work { tasks = p.work.tasks ++ new ∷ [] } in
    let group = passing (λ group. not group.waited) (slice_get p.work.groups g) is in
    let scopes : AreAlike IsSameScope p.tree.scopes p.tree.scopes =
    alike_same IsSameScope p.tree.scopes scope_same in
    let groups : AreAlike IsSameGroup p.work.groups p.work.groups =
    alike_same IsSameGroup p.work.groups group_same in
    record {
      numbered =
          numbered_task p e new (ltb-true (length p.work.tasks) (most_tasks p.work.layout) room)
          (slice_get_within p.work.groups g group.0 group.1) kept.numbered;
      hits = hits_right e p.tree v (right_now p e (omega arith) kept);
      deadlines = kept.deadlines;
      group_scopes =
          owners_kept p (record { count = e; tree = p.tree; work = v }) scopes groups
          kept.group_scopes;
      admitted =
          admitted_task p.work new (fresh_not_running new.stage fresh)
          (λ row found.
          ap (λ r. r.waited) (same_Some row group.0 (sym found ∙ group.1))
          ∙ not-true group.0.waited group.2) kept.admitted;
      errors =
          errors_alike p e v (alike_same IsSameEnd p.work.groups end_same)
          (λ h. lost_pushed p.work new h start.1) kept.errors;
      links = links;
    }

pub submitted : (p : State) (g : ℕ) (job argument : List ℕ) → is_open p.work g ≡ true
    → has_room (most_tasks p.work.layout) p.work.tasks ≡ true → IsConsistent p
    → IsConsistent (step p (event.Go g job argument))
submitted p g job argument is room kept =
    added p (new_task g job argument None) refl is room
    (links_pushed p.work (new_task g job argument None) (λ m link. absurd (none-some m link))
    (λ m link. absurd (none-some m link)) kept.links) kept

-- The effect of a retry of an existing task.
pub retry_found : (w : WorkState) (n : ℕ) (row : Task) → HasRow w.tasks n row
    → after_retry n w
    ≡ record w { tasks = w.tasks ++ retried_row n row ∷ [] }
retry_found w n row found =
    ap
    (λ o. option_map_or (λ row. record w { tasks = w.tasks ++ retried_row n row ∷ [] }) o w)
    found

pub retried : (p : State) (n : ℕ) → has_stage is_interrupted p.work n ≡ true
    → is_retried p.work n ≡ false → is_open p.work (group_of_task p.work n) ≡ true
    → has_room (most_tasks p.work.layout) p.work.tasks ≡ true → IsConsistent p
    → IsConsistent (step p (event.Retry n))
retried p n is first going room kept =
    let row = passing (λ task. is_interrupted task.stage) (slice_get p.work.tasks n) is in
    let new = retried_row n row.0 in
    let P : WorkState → Type 0 =
    λ v. IsConsistent (record { count = p.count + 1; tree = p.tree; work = v }) in
    let of_group : group_of_task p.work n ≡ row.0.group =
    ap (λ o. option_map_or (λ task. task.group) o (length p.work.groups)) row.1 in
    subst P (sym (retry_found p.work n row.0 row.1))
    (added p new refl (ap (is_open p.work) (sym of_group) ∙ going) room
    (links_pushed p.work new
    (λ m link. old_of m row.0 row.1 row.2 (same_Some n m link))
    (λ m link. ap (is_retried p.work) (sym (same_Some n m link)) ∙ first) kept.links) kept)
  where
    old_of : (m : ℕ) (row : Task) → HasRow p.work.tasks n row → is_interrupted row.stage ≡ true
        → n ≡ m
        → (old : Task) × HasRow p.work.tasks m old
        × IsRetry (length p.work.tasks) (retried_row n row) m old
    old_of m row found is same = (
      row,
      rw (sym same) found,
      record {
        before = rw (sym same) (slice_get_within p.work.tasks n row found);
        interrupted = is;
        group = refl;
        job = refl;
        argument = refl;
      },
    )

pub started : (p : State) (n : ℕ)
    → option_map_or (λ first. first == n) (first_ready p.work) false ≡ true → IsConsistent p
    → IsConsistent (step p (event.Start n))
started p n is kept =
    let row =
    passing (λ task. is_fresh task.stage && is_admitted p.work n task)
    (slice_get p.work.tasks n) (first_is_ready p.work n is) in
    let parts = and_parts (is_fresh row.0.stage) (is_admitted p.work n row.0) row.2 in
    let fresh = fresh_stage row.0.stage parts.0 in
    let same : (x : Task) → HasRow p.work.tasks n x → row.0 ≡ x =
    λ x at. same_Some row.0 x (sym row.1 ∙ at) in
    stage_changed p (p.count + 1) n stage.Running (omega arith)
    (λ x at runs. ap (λ r. is_unfinished r.stage) (sym (same x at)) ∙ fresh.0)
    (λ x at runs. ap (is_admitted p.work n) (sym (same x at)) ∙ parts.1)
    (λ x at. sym fresh.1 ∙ ap (λ r. ended_in_error r.stage) (same x at))
    (λ x at.
    ap (λ r. is_interrupted r.stage) (sym (same x at))
    ∙ going_on row.0.stage fresh.0) kept

pub succeeded : (p : State) (n : ℕ) → has_stage is_running p.work n ≡ true → IsConsistent p
    → IsConsistent (step p (event.Finish n outcome.Success))
succeeded p n is kept =
    let row = passing (λ task. is_running task.stage) (slice_get p.work.tasks n) is in
    stage_changed p (p.count + 1) n stage.Success (omega arith)
    (λ x at unfinished. absurd (both_ways false refl unfinished))
    (λ x at runs. absurd (both_ways false refl runs))
    (λ x at.
    sym (running_stage row.0.stage row.2)
    ∙ ap (λ r. ended_in_error r.stage) (same_Some row.0 x (sym row.1 ∙ at)))
    (λ x at.
    ap (λ r. is_interrupted r.stage) (same_Some x row.0 (sym at ∙ row.1))
    ∙ not_yet row.0.stage row.2) kept

pub failed : (p : State) (n : ℕ) (text : List ℕ) → has_stage is_running p.work n ≡ true
    → IsConsistent p → IsConsistent (step p (event.Finish n (outcome.Failure text)))
failed p n text is kept =
    let row = passing (λ task. is_running task.stage) (slice_get p.work.tasks n) is in
    consistent_lost p (p.count + 1) n text (stage.Failure text) row.0 (omega arith)
    (omega arith) row.1 refl refl refl
    (λ is. absurd (both_ways (is_interrupted row.0.stage) (not_yet row.0.stage row.2) is)) kept
