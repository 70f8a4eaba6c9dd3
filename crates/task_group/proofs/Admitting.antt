-- An end admits the oldest held task of its group, stated for phases.
use Rattle.run_model.proofs.Common.{◌≡◌, ◌≢◌, ◌<◌, ◌&&◌, List, ℕ, Bool, true, false, cond, length}
use Rattle.run_model.proofs.Common.{Option, Some, None, slice_get, refl, sym, ap, subst, ◌∙◌}
use Rattle.run_model.proofs.Common.{arith, option_map, option_map_or, phase_by, group_of_task}
use Rattle.run_model.proofs.Common.{is_fresh, slice_get-push_last}
use Rattle.run_model.specs.declared.tasks.Phase.{Phase}
use Rattle.run_model.specs.declared.tasks.Phase.TheVariants as phase
use Rattle.run_model.specs.declared.tasks.Stage.{Stage}
use Rattle.run_model.specs.declared.tasks.Stage.TheVariants as stage
use Rattle.run_model.specs.declared.tasks.Task.{Task}
use Rattle.run_model.specs.Tasks as model
use Rattle.task_group.specs.declared.counts.GroupCounts.{GroupCounts}
use Rattle.task_group.specs.Admitting.{AdmitsOldest, IsOldestHeld, phase_new}
use Rattle.task_group.specs.Kept.{IsNext, GroupCountsOf}
use Rattle.task_group.proofs.Words.{Work, is_admitted, is_held, fresh_task, submitted}
use Rattle.task_group.proofs.Admits.{held_is, is_held_from, ready_at}
use Rattle.task_group.proofs.Bridges.{phase_same}
use Rattle.task_group.proofs.Ends.{Ends, Stays, oldest_admitted, task_there}
use Rattle.task_group.proofs.Starts.{go_new}
use Rattle.task_group.proofs.Leaves.{Oldest, calm_stays, oldest_stays, calm_from, oldest_from}

phase_at : (w : Work) (n : ℕ) (t : Task) → slice_get w.tasks n ≡ Some t
    → model.phase_of w n ≡ Some (phase_by (is_admitted w n t) t.stage)
phase_at w n t found =
    phase_same w n
    ∙ ap (option_map (λ task. phase_by (is_admitted w n task) task.stage)) found

group_at : (w : Work) (n : ℕ) (t : Task) → slice_get w.tasks n ≡ Some t
    → group_of_task w n ≡ t.group
group_at w n t found =
    ap (λ (o : Option Task). option_map_or (λ task. task.group) o (length w.groups)) found

-- A task is held if it is fresh and not admitted.
held_by : (s : Stage) (b : Bool) → phase_by b s ≡ phase.Held
    → (is_fresh s ≡ true) × (b ≡ false)
held_by stage.Fresh true e = absurd cc
held_by stage.Fresh false e = (refl, refl)
held_by stage.Running b e = absurd cc
held_by stage.Success b e = absurd cc
held_by (stage.Failure text) b e = absurd cc
held_by stage.Interrupted b e = absurd cc

by_fresh : (s : Stage) (b : Bool) → is_fresh s ≡ true → phase_by b s ≡ cond b phase.Ready
    phase.Held
by_fresh stage.Fresh b e = refl
by_fresh stage.Running b e = absurd cc
by_fresh stage.Success b e = absurd cc
by_fresh (stage.Failure text) b e = absurd cc
by_fresh stage.Interrupted b e = absurd cc

row_of : (w : Work) (n : ℕ) (p : Phase) → model.phase_of w n ≡ Some p
    → (t : Task) × (slice_get w.tasks n ≡ Some t) × (phase_by (is_admitted w n t) t.stage ≡ p)
row_of w n p is = by (slice_get w.tasks n) refl (sym (phase_same w n) ∙ is)
  where
    by : (o : Option Task) → slice_get w.tasks n ≡ o
        → option_map (λ task. phase_by (is_admitted w n task) task.stage) o ≡ Some p
        → (t : Task) × (slice_get w.tasks n ≡ Some t) × (phase_by (is_admitted w n t) t.stage ≡ p)
    by None e is = absurd cc
    by (Some t) e is = (t, e, cc)

-- The two ways to say that a task is held.
to_held : (w : Work) (g n : ℕ) → model.phase_of w n ≡ Some phase.Held → group_of_task w n ≡ g
    → is_held w g n ≡ true
to_held w g n is of =
    let t = row_of w n phase.Held is in
    let both = held_by t.0.stage (is_admitted w n t.0) t.2 in
    is_held_from w g n t.0
    (record {
      found = t.1;
      group = sym (group_at w n t.0 t.1) ∙ of;
      fresh = both.0;
      waits = both.1;
    })

from_held : (w : Work) (g n : ℕ) → is_held w g n ≡ true
    → (model.phase_of w n ≡ Some phase.Held) × (group_of_task w n ≡ g)
from_held w g n held =
    let t = held_is w g n held in (
      phase_at w n t.0 t.1.found
          ∙ ap Some (by_fresh t.0.stage (is_admitted w n t.0) t.1.fresh
          ∙ ap (λ b. cond b phase.Ready phase.Held) t.1.waits),
      group_at w n t.0 t.1.found ∙ t.1.group,
    )

oldest_to : (w : Work) (g h : ℕ) → Oldest w g h → IsOldestHeld w g h
oldest_to w g h o = record {
  held = (from_held w g h o.held).0;
  group = (from_held w g h o.held).1;
  oldest =
      λ j less of is.
      (let held = to_held w g j is of in let none = o.least j less in absurd cc);
}

-- ---- the others

same_by : (s : Stage) (a b : Bool) → (is_fresh s && a) ≡ (is_fresh s && b)
    → phase_by a s ≡ phase_by b s
same_by stage.Fresh a b e = ap (λ c. phase_by c stage.Fresh) e
same_by stage.Running a b e = refl
same_by stage.Success a b e = refl
same_by (stage.Failure text) a b e = refl
same_by stage.Interrupted a b e = refl

same_phase : (w v : Work) (n : ℕ) (t : Task) (s : Stage) → Ends w n t s v → (m : ℕ) → m ≢ n
    → Stays w v m → model.phase_of v m ≡ model.phase_of w m
same_phase w v n t s e m apart stay = by (slice_get w.tasks m) refl
  where
    none_of : (u : Work) → slice_get u.tasks m ≡ None → model.phase_of u m ≡ None
    none_of u e =
        phase_same u m
        ∙ ap (option_map (λ task. phase_by (is_admitted u m task) task.stage)) e

    by : (o : Option Task) → slice_get w.tasks m ≡ o → model.phase_of v m ≡ model.phase_of w m
    by None here = none_of v (task_there w v n t s e m apart ∙ here) ∙ sym (none_of w here)
    by (Some x) here =
        let there : slice_get v.tasks m ≡ Some x = task_there w v n t s e m apart ∙ here in
        phase_at v m x there
        ∙ ap Some
        (same_by x.stage (is_admitted v m x) (is_admitted w m x)
        (sym (ready_at v m x there) ∙ stay.ready ∙ ready_at w m x here))
        ∙ sym (phase_at w m x here)

-- The oldest held task is ready.
now_ready : (w v : Work) (n : ℕ) (t : Task) (s : Stage) → Ends w n t s v → (h : ℕ)
    → IsOldestHeld w t.group h → model.phase_of v h ≡ Some phase.Ready
now_ready w v n t s e h o =
    let held = to_held w t.group h o.held o.group in
    let least : (j : ℕ) → j < h → is_held w t.group j ≡ false =
    (λ (j : ℕ) (less : j < h). by_test j less (is_held w t.group j) refl) in
    let now = oldest_admitted w v n t s e h held least in
    let x = held_is w t.group h held in
    let there : slice_get v.tasks h ≡ Some x.0 =
    task_there w v n t s e h (λ (q : h ≡ n). absurd (let more = now.2 in omega (arith, q, more)))
    ∙ x.1.found in
    let ready : (is_fresh x.0.stage && is_admitted v h x.0) ≡ true =
    sym (ready_at v h x.0 there) ∙ now.0 in
    phase_at v h x.0 there
    ∙ ap Some (same_by x.0.stage (is_admitted v h x.0) true (ready
    ∙ sym (fresh_true x.0.stage x.1.fresh))
    ∙ by_fresh x.0.stage true x.1.fresh)
  where
    fresh_true : (q : Stage) → is_fresh q ≡ true → (is_fresh q && true) ≡ true
    fresh_true q f = rw f refl

    by_test : (j : ℕ) → j < h → (b : Bool) → is_held w t.group j ≡ b → is_held w t.group j ≡ false
    by_test j less true is =
        (let both = from_held w t.group j is in absurd (o.oldest j less both.1 both.0))
    by_test j less false is = is

pub end_admits : (w v : Work) (n : ℕ) (t : Task) (s : Stage) (x : GroupCounts) → Ends w n t s v
    → GroupCountsOf w t.group x → AdmitsOldest w n v
end_admits w v n t s x e r =
    let group : group_of_task w n ≡ t.group = group_at w n t e.found in
    record {
      oldest = λ h o. now_ready w v n t s e h (subst (λ g. IsOldestHeld w g h) group o);
      others =
          λ m apart other.
          by m apart (λ o. other (subst (λ g. IsOldestHeld w g m) (sym group) o)) x.first r.first;
    }
  where
    by : (m : ℕ) → m ≢ n → (IsOldestHeld w t.group m → ⊥) → (o : Option ℕ)
        → IsNext (is_held w t.group) 0 o → model.phase_of v m ≡ model.phase_of w m
    by m apart other None none =
        same_phase w v n t s e m apart (calm_stays w v n t s e (calm_from w t.group none) m)
    by m apart other (Some h) least =
        let o = oldest_from w t.group h least in
        same_phase w v n t s e m apart
        (oldest_stays w v n t s e h o m
        (λ (same : m ≡ h). other (oldest_to w t.group m (subst (Oldest w t.group) (sym same) o))))

-- ---- a new task

pub new_phase : (w : Work) (g : ℕ) (job argument : List ℕ) (tried : Option ℕ)
    → model.phase_of (submitted g job argument tried w) (length w.tasks) ≡ Some (phase_new w g)
new_phase w g job argument tried =
    let v = submitted g job argument tried w in
    let row = fresh_task g job argument tried in
    let found : slice_get v.tasks (length w.tasks) ≡ Some row = slice_get-push_last w.tasks row in
    phase_at v (length w.tasks) row found
    ∙ ap (λ b. Some (cond b phase.Ready phase.Held))
    (sym (ready_at v (length w.tasks) row found) ∙ (go_new w g job argument tried).0)
