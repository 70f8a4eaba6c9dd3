-- A task at any stage is added, as it is read from an image.
use Rattle.run_model.proofs.Common.{◌≡◌, ◌+◌, ◌<◌, ◌≤◌, ◌++◌, ◌∷◌, [], ℕ, Bool, true, false, cond}
use Rattle.run_model.proofs.Common.{List, length, Option, Some, None, inl, inr, slice_get, refl}
use Rattle.run_model.proofs.Common.{sym, ap, subst, ◌∙◌, arith, ◌==◌, count_by, slice_set, IfSome}
use Rattle.run_model.proofs.Common.{cases_eq, cases_lt, length-append, take-append-le}
use Rattle.run_model.proofs.Common.{sum_by-append, most_tasks, new_task, admits, at_row, is_fresh}
use Rattle.run_model.proofs.Common.{is_running, is_unfinished, running_count, unfinished_in}
use Rattle.run_model.proofs.Common.{with_stage, and-false, slice_get-push_last, length-at_row}
use Rattle.std.proofs.Common.{zero-add}
use Rattle.run_model.specs.declared.groups.Group.{Group}
use Rattle.run_model.specs.declared.tasks.Stage.{Stage}
use Rattle.run_model.specs.declared.tasks.Stage.TheVariants as stage
use Rattle.run_model.specs.declared.tasks.Task.{Task}
use Rattle.task_group.specs.declared.counts.GroupCounts.{GroupCounts}
use Rattle.task_group.specs.Flags.{AreFlagged, flags_after}
use Rattle.task_group.specs.Held.{fits_limit}
use Rattle.task_group.specs.Kept.{Kept, GroupCountsOf, entered, linked}
use Rattle.task_group.specs.Sound.{AreKept}
use Rattle.task_group.proofs.Admits.{is_of, eqb_same, eqb_apart, ended_not_fresh, held_none}
use Rattle.task_group.proofs.Admits.{ready_none, running_not_fresh, running_unfinished}
use Rattle.task_group.proofs.Ends.{Stays, neither, same_admission}
use Rattle.task_group.proofs.Flaggings.{flagged_pushed, flagged_staged, ended_rests}
use Rattle.task_group.proofs.Keeping.{go_keeps}
use Rattle.task_group.proofs.Moves.{none_past, whole}
use Rattle.task_group.proofs.Queued.{queued_same}
use Rattle.task_group.proofs.Ranks.{rank}
use Rattle.task_group.proofs.Starts.{slice_get_left, pushed_row, changed_row}
use Rattle.task_group.proofs.Tests.{next_same, last_same}
use Rattle.task_group.proofs.Words.{Work, IsSound, is_held, limit_of}

abbrev pub with_task : Task → Work → Work
with_task x w = record w { tasks = w.tasks ++ x ∷ [] }

-- ---- a task that was not started

fresh_is : (s : Stage) → is_fresh s ≡ true → stage.Fresh ≡ s
fresh_is stage.Fresh e = refl
fresh_is stage.Running e = absurd cc
fresh_is stage.Success e = absurd cc
fresh_is (stage.Failure text) e = absurd cc
fresh_is stage.Interrupted e = absurd cc

pub fresh_comes : (w : Work) (x : Task) (counts : List GroupCounts) (next : List (Option ℕ))
    (ready : List Bool) (count : ℕ) (flags : List Bool) (s : GroupCounts) (row : Group) (b : Bool)
    → is_fresh x.stage ≡ true → AreKept w counts next ready count flags
    → slice_get counts x.group ≡ Some s → slice_get w.groups x.group ≡ Some row
    → length w.tasks < most_tasks w.layout → IfSome x.retry_of (λ m. m < length w.tasks)
    → b ≡ admits row.limit s.unfinished
    → AreKept (with_task x w) (at_row (entered b (length w.tasks)) x.group counts)
    (linked b s.first s.last (length w.tasks) next) (slice_set ready (length w.tasks) b) count
    (flags_after x.retry_of flags)
fresh_comes w x counts next ready count flags s row b fresh k here at room known e =
    subst
    (λ (q : Stage).
    AreKept (with_task (with_stage q x) w) (at_row (entered b (length w.tasks)) x.group counts)
    (linked b s.first s.last (length w.tasks) next) (slice_set ready (length w.tasks) b) count
    (flags_after x.retry_of flags))
    (fresh_is x.stage fresh)
    (go_keeps w x.group x.job x.argument x.retry_of counts next ready count flags s row b k here
    at room known e)

-- ---- a task that was started: it is neither ready nor held, and leaves the others as they were

taken : (w : Work) (x : Task) (m : ℕ) → m ≤ length w.tasks → (g : ℕ)
    → rank (is_of g) (w.tasks ++ x ∷ []) m ≡ rank (is_of g) w.tasks m
taken w x m le g =
    ap (λ (l : List Task). count_by (is_of g) l) (take-append-le m w.tasks (x ∷ []) le)

stays_before : (w : Work) (x : Task) (m : ℕ) → m < length w.tasks → Stays w (with_task x w) m
stays_before w x m lt = by (slice_get w.tasks m) refl
  where
    there : slice_get (with_task x w).tasks m ≡ slice_get w.tasks m
    there = slice_get_left w.tasks (x ∷ []) m lt

    by : (o : Option Task) → slice_get w.tasks m ≡ o → Stays w (with_task x w) m
    by None e = record {
      ready = ready_none (with_task x w) m (there ∙ e) ∙ sym (ready_none w m e);
      held = λ k. held_none (with_task x w) k m (there ∙ e) ∙ sym (held_none w k m e);
    }
    by (Some y) e =
        same_admission w (with_task x w) m y e (there ∙ e)
        (ap (admits (limit_of w.groups y.group)) (taken w x m (omega arith) y.group))

stays_none : (w v : Work) (m : ℕ) → length w.tasks ≤ m → length v.tasks ≤ m → Stays w v m
stays_none w v m past over =
    let before = none_past w m past in
    let now = none_past v m over in
    record { ready = now.0 ∙ sym before.0; held = λ k. now.1 k ∙ sym (before.1 k) }

all_stay : (w : Work) (x : Task) → is_fresh x.stage ≡ false → (m : ℕ) → Stays w (with_task x w) m
all_stay w x e m =
    elim (cases_lt m (length w.tasks)) [
      | inl lt ↦ stays_before w x m lt
      | inr ge ↦
          elim (cases_eq m (length w.tasks)) [
            | inl same ↦
                let found : slice_get (w.tasks ++ x ∷ []) m ≡ Some x =
                ap (slice_get (w.tasks ++ x ∷ [])) same ∙ slice_get-push_last w.tasks x in
                let now = neither (with_task x w) m x found e in
                let before = none_past w m ge in
                record { ready = now.0 ∙ sym before.0; held = λ k. now.1 k ∙ sym (before.1 k) }
            | inr apart ↦
                let more : length (w.tasks ++ x ∷ []) ≡ length w.tasks + 1 =
                length-append w.tasks (x ∷ []) in
                stays_none w (with_task x w) m ge (omega (arith, ge, apart, more))
          ]
    ]

count_pushed : (k : ℕ) (tasks : List Task) (x : Task)
    → unfinished_in k (tasks ++ x ∷ []) ≡ unfinished_in k tasks + cond {A = ℕ} (is_of k x) 1 0
count_pushed k tasks x =
    sum_by-append (λ t. cond (is_of k t) 1 0) tasks (x ∷ [])
    ∙ ap (λ n. unfinished_in k tasks + n) (zero-add (cond (is_of k x) 1 0))

count_without : (k : ℕ) (tasks : List Task) (x : Task) → is_of k x ≡ false
    → unfinished_in k (tasks ++ x ∷ []) ≡ unfinished_in k tasks
count_without k tasks x not_of =
    let more : cond {A = ℕ} (is_of k x) 1 0 ≡ 0 = rw not_of refl in
    count_pushed k tasks x ∙ omega (arith, more)

counts_stay : (w : Work) (x : Task) (k : ℕ) (s : GroupCounts) → is_fresh x.stage ≡ false
    → is_of k x ≡ false → GroupCountsOf w k s → GroupCountsOf (with_task x w) k s
counts_stay w x k s e not_of r =
    let count = count_without k w.tasks x not_of in
    let held = λ (j : ℕ). (all_stay w x e j).held k in
    record {
      unfinished = r.unfinished ∙ sym count;
      first = next_same (is_held w k) (is_held (with_task x w) k) held 0 s.first r.first;
      last = last_same (is_held w k) (is_held (with_task x w) k) held s.first s.last r.last;
    }

counts_more : (w : Work) (x : Task) (s : GroupCounts) → is_running x.stage ≡ true
    → admits (limit_of w.groups x.group) (unfinished_in x.group w.tasks) ≡ true
    → GroupCountsOf w x.group s
    → GroupCountsOf (with_task x w) x.group (entered true (length w.tasks) s)
counts_more w x s run ok r =
    let g = x.group in
    let of : is_of g x ≡ true =
    rw (eqb_same g g refl, running_unfinished x.stage run) refl in
    let one : cond {A = ℕ} (is_of g x) 1 0 ≡ 1 = rw of refl in
    let count : unfinished_in g (w.tasks ++ x ∷ []) ≡ unfinished_in g w.tasks + 1 =
    count_pushed g w.tasks x ∙ ap (λ n. unfinished_in g w.tasks + n) one in
    let held = λ (j : ℕ). (all_stay w x (running_not_fresh x.stage run) j).held g in
    record {
      unfinished = ap (λ (n : ℕ). n + 1) r.unfinished ∙ sym count;
      first = next_same (is_held w g) (is_held (with_task x w) g) held 0 s.first r.first;
      last = last_same (is_held w g) (is_held (with_task x w) g) held s.first s.last r.last;
    }

sound_with : (w : Work) (x : Task) → x.group < length w.groups
    → length w.tasks < most_tasks w.layout
    → (is_running x.stage ≡ true
    → admits (limit_of w.groups x.group) (unfinished_in x.group w.tasks) ≡ true)
    → IsSound w → IsSound (with_task x w)
sound_with w x known room fits sound = record {
  few_groups = sound.few_groups;
  few_tasks = (let size = length-append w.tasks (x ∷ []) in omega (arith, size));
  grouped =
      λ m y found.
      elim (pushed_row w.tasks x y m found) [
        | inl old ↦ sound.grouped m y old.1
        | inr new ↦
            (let same : x.group ≡ y.group = ap (λ (t : Task). t.group) new.1 in
            omega (arith, same))
      ];
  admitted =
      λ m y found run.
      elim (pushed_row w.tasks x y m found) [
        | inl old ↦
            ap (admits (limit_of w.groups y.group))
            (taken w x m (let lt = old.0 in omega arith) y.group)
            ∙ sound.admitted m y old.1 run
        | inr new ↦ last m y new.0 new.1 run
      ];
}
  where
    last : (m : ℕ) (y : Task) → m ≡ length w.tasks → x ≡ y → is_running y.stage ≡ true
        → fits_limit (with_task x w) m y ≡ true
    last m y here same run =
        let P : Task → Type 0 = λ t. fits_limit (with_task x w) m t ≡ true in
        subst P same
        (ap (admits (limit_of w.groups x.group))
        (ap (rank (is_of x.group) (w.tasks ++ x ∷ [])) here
        ∙ taken w x (length w.tasks) (omega arith) x.group ∙ whole x.group w.tasks)
        ∙ fits (ap (λ (t : Task). is_running t.stage) same ∙ run))

kept_with : (w : Work) (x : Task) (counts with_x : List GroupCounts) (next : List (Option ℕ))
    → is_fresh x.stage ≡ false → IsSound (with_task x w) → length with_x ≡ length w.groups
    → ((g : ℕ) (s : GroupCounts) → slice_get with_x g ≡ Some s → GroupCountsOf (with_task x w) g s)
    → Kept w counts next → Kept (with_task x w) with_x (next ++ None ∷ [])
kept_with w x counts with_x next e sound size right kept = record {
  sound = sound;
  as_groups = size;
  as_tasks =
      length-append next (None ∷ []) ∙ ap (λ (n : ℕ). n + 1) kept.as_tasks
      ∙ sym (length-append w.tasks (x ∷ []));
  right = right;
  links =
      λ g n r held found.
      elim (pushed_row next None r n found) [
        | inl old ↦
            next_same (is_held w g) (is_held (with_task x w) g)
            (λ j. (all_stay w x e j).held g) (n + 1) r
            (kept.links g n r (sym ((all_stay w x e n).held g) ∙ held) old.1)
        | inr new ↦
            (let at = new.0 in
            let tasks = kept.as_tasks in
            let none : is_held w g n ≡ false = (none_past w n (omega (arith, at, tasks))).1 g in
            let is : is_held w g n ≡ true = sym ((all_stay w x e n).held g) ∙ held in absurd cc)
      ];
}

-- ---- flags and the number of running tasks

at_row_end : {X : Type 0} (f : X → X) (xs : List X) (x : X)
    → at_row f (length xs) (xs ++ x ∷ []) ≡ xs ++ f x ∷ []
at_row_end f [] x = refl
at_row_end f (y ∷ xs) x = ap (λ l. y ∷ l) (at_row_end f xs x)

flagged_with : (tasks : List Task) (flags : List Bool) (x : Task)
    → IfSome x.retry_of (λ m. m < length tasks) → AreFlagged tasks flags
    → AreFlagged (tasks ++ x ∷ []) (flags_after x.retry_of flags)
flagged_with tasks flags x known old =
    let new : Task = new_task x.group x.job x.argument x.retry_of in
    subst (λ (l : List Task). AreFlagged l (flags_after x.retry_of flags))
    (at_row_end (with_stage x.stage) tasks new)
    (flagged_staged x.stage (length tasks) (tasks ++ new ∷ []) (flags_after x.retry_of flags)
    (flagged_pushed tasks flags x.group x.job x.argument x.retry_of known old))

running_with : (tasks : List Task) (x : Task)
    → running_count (tasks ++ x ∷ []) ≡ running_count tasks + cond {A = ℕ} (is_running x.stage) 1 0
running_with tasks x =
    sum_by-append (λ t. cond (is_running t.stage) 1 0) tasks (x ∷ [])
    ∙ ap (λ n. running_count tasks + n) (zero-add (cond (is_running x.stage) 1 0))

-- ---- what is kept as it comes in

pub ended_comes : (w : Work) (x : Task) (counts : List GroupCounts) (next : List (Option ℕ))
    (ready : List Bool) (count : ℕ) (flags : List Bool) → is_unfinished x.stage ≡ false
    → x.group < length w.groups → length w.tasks < most_tasks w.layout
    → IfSome x.retry_of (λ m. m < length w.tasks) → AreKept w counts next ready count flags
    → AreKept (with_task x w) counts (next ++ None ∷ []) ready count
    (flags_after x.retry_of flags)
ended_comes w x counts next ready count flags ended known room link k =
    let e = ended_not_fresh x.stage ended in
    let rests : is_running x.stage ≡ false = ended_rests x.stage ended in
    let none : cond {A = ℕ} (is_running x.stage) 1 0 ≡ 0 = rw rests refl in
    record {
      seated =
          kept_with w x counts counts next e
          (sound_with w x known room (λ run. absurd cc) k.seated.sound) k.seated.as_groups
          (λ g s found.
          counts_stay w x g s e (rw ended (and-false (x.group == g))) (k.seated.right g s found))
          k.seated;
      queued = queued_same w (with_task x w) ready refl (λ m. (all_stay w x e m).ready) k.queued;
      running =
          (let now = running_with w.tasks x in
          let was = k.running in
          omega (arith, now, was, none));
      flagged = flagged_with w.tasks flags x link k.flagged;
    }

pub running_comes : (w : Work) (x : Task) (counts : List GroupCounts) (next : List (Option ℕ))
    (ready : List Bool) (count : ℕ) (flags : List Bool) → is_running x.stage ≡ true
    → admits (limit_of w.groups x.group) (unfinished_in x.group w.tasks) ≡ true
    → x.group < length w.groups → length w.tasks < most_tasks w.layout
    → IfSome x.retry_of (λ m. m < length w.tasks) → AreKept w counts next ready count flags
    → AreKept (with_task x w) (at_row (entered true (length w.tasks)) x.group counts)
    (next ++ None ∷ []) ready (count + 1) (flags_after x.retry_of flags)
running_comes w x counts next ready count flags run ok known room link k =
    let e = running_not_fresh x.stage run in
    let one : cond {A = ℕ} (is_running x.stage) 1 0 ≡ 1 = rw run refl in
    record {
      seated =
          kept_with w x counts (at_row (entered true (length w.tasks)) x.group counts) next e
          (sound_with w x known room (λ _. ok) k.seated.sound)
          (length-at_row (entered true (length w.tasks)) x.group counts ∙ k.seated.as_groups)
          (λ g s found.
          elim (changed_row (entered true (length w.tasks)) x.group counts g s found) [
            | inl other ↦
                counts_stay w x g s e
                (rw (eqb_apart x.group g (λ same. other.0 (sym same))) refl)
                (k.seated.right g s other.1)
            | inr here ↦
                subst (λ (y : GroupCounts). GroupCountsOf (with_task x w) g y) here.3
                (subst
                (λ (j : ℕ). GroupCountsOf (with_task x w) j (entered true (length w.tasks) here.1))
                (sym here.0)
                (counts_more w x here.1 run ok
                (subst (λ (j : ℕ). GroupCountsOf w j here.1) here.0
                (k.seated.right g here.1 here.2))))
          ])
          k.seated;
      queued = queued_same w (with_task x w) ready refl (λ m. (all_stay w x e m).ready) k.queued;
      running =
          (let now = running_with w.tasks x in let was = k.running in omega (arith, now, was, one));
      flagged = flagged_with w.tasks flags x link k.flagged;
    }
