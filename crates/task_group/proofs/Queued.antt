-- The queue holds the ready tasks, through every change.
use Rattle.run_model.proofs.Common.{◌≡◌, ◌≢◌, ◌+◌, ◌<◌, ◌≤◌, ◌∷◌, [], ℕ, Bool, true, false, List}
use Rattle.run_model.proofs.Common.{length, Option, Some, None, inl, inr, refl, sym, ap, subst}
use Rattle.run_model.proofs.Common.{◌∙◌, arith, slice_set, cases_eq, cases_lt, get_or-set_same}
use Rattle.run_model.proofs.Common.{get_or-set_other, length-set, length-append, slice_get_within}
use Rattle.run_model.proofs.Common.{most_tasks, admits, unfinished_in}
use Rattle.run_model.specs.declared.tasks.Stage.{Stage}
use Rattle.run_model.specs.declared.tasks.Task.{Task}
use Rattle.task_group.specs.declared.counts.GroupCounts.{GroupCounts}
use Rattle.task_group.specs.Kept.{IsNext, GroupCountsOf}
use Rattle.task_group.specs.Sound.{AreQueued}
use Rattle.task_group.proofs.Words.{Work, is_ready, is_held, limit_of, first_ready, submitted}
use Rattle.task_group.proofs.Words.{started, fresh_task}
use Rattle.task_group.specs.Trees.{is_up, with_flag}
use Rattle.task_group.proofs.Admits.{held_is}
use Rattle.task_group.proofs.Bridges.{ready_same}
use Rattle.task_group.proofs.Ends.{Ends, oldest_admitted}
use Rattle.task_group.proofs.Leaves.{calm_stays, oldest_stays, calm_from, oldest_from}
use Rattle.task_group.proofs.Moves.{none_past}
use Rattle.task_group.proofs.Picks.{find_at, find_none}
use Rattle.task_group.proofs.Starts.{Starts, starts, start_stays, start_takes, go_stays, go_new}

-- ---- the queue and the tests of a task

-- A task is in the queue if it is fresh and admitted.
ready_in : (w : Work) (flags : List Bool) → AreQueued w flags
    → (n : ℕ) → is_up flags n ≡ is_ready w n
ready_in w flags q n = q.right n ∙ ready_same w n

queued_by : (w : Work) (flags : List Bool) → length flags ≡ most_tasks w.layout
    → ((n : ℕ) → is_up flags n ≡ is_ready w n) → AreQueued w flags
queued_by w flags size right = record {
  size = size;
  right = λ n. right n ∙ sym (ready_same w n);
}

-- ---- one flag is set

up_here : (flags : List Bool) (n : ℕ) (b : Bool) → n < length flags
    → is_up (slice_set flags n b) n ≡ b
up_here flags n b less = get_or-set_same flags n b false less

up_else : (flags : List Bool) (n m : ℕ) (b : Bool) → m ≢ n
    → is_up (slice_set flags n b) m ≡ is_up flags m
up_else flags n m b apart = get_or-set_other flags n m b false apart

-- One task is ready as the flag says, and the others are as they were.
queued_set : (w v : Work) (flags : List Bool) (n : ℕ) (b : Bool) → v.layout ≡ w.layout
    → n < length flags → is_ready v n ≡ b
    → ((m : ℕ) → m ≢ n → is_ready v m ≡ is_ready w m) → AreQueued w flags
    → AreQueued v (slice_set flags n b)
queued_set w v flags n b layout less here others q =
    queued_by v (slice_set flags n b)
    (length-set flags n b ∙ q.size ∙ ap most_tasks (sym layout))
    (λ m.
    elim (cases_eq m n) [
      | inl same ↦ rw same (up_here flags n b less ∙ sym here)
      | inr apart ↦ up_else flags n m b apart ∙ ready_in w flags q m ∙ sym (others m apart)
    ])

-- All tasks are ready as they were.
pub queued_same : (w v : Work) (flags : List Bool) → v.layout ≡ w.layout
    → ((m : ℕ) → is_ready v m ≡ is_ready w m) → AreQueued w flags → AreQueued v flags
queued_same w v flags layout same q =
    queued_by v flags (q.size ∙ ap most_tasks (sym layout))
    (λ m. ready_in w flags q m ∙ sym (same m))

-- ---- the first

-- The least number in the queue is the first ready task.
pub first_is : (w : Work) (flags : List Bool) (r : Option ℕ) → AreQueued w flags
    → IsNext (is_up flags) 0 r → first_ready w ≡ r
first_is w flags None q none =
    find_none (is_ready w) 0 (length w.tasks) (λ k low high. sym (ready_in w flags q k)
    ∙ none k low)
first_is w flags (Some n) q least =
    let ready : is_ready w n ≡ true = sym (ready_in w flags q n) ∙ least.1 in
    let s = starts w n ready in
    let less = slice_get_within w.tasks n s.0 s.1.found in
    find_at (is_ready w) 0 (length w.tasks) n
    (λ k low high. sym (ready_in w flags q k) ∙ least.2 k low high) ready (omega arith)
    (omega arith)

-- ---- each change

pub queued_go : (w : Work) (g : ℕ) (job argument : List ℕ) (tried : Option ℕ) (flags : List Bool)
    (b : Bool) → length w.tasks < most_tasks w.layout
    → admits (limit_of w.groups g) (unfinished_in g w.tasks) ≡ b → AreQueued w flags
    → AreQueued (submitted g job argument tried w) (slice_set flags (length w.tasks) b)
queued_go w g job argument tried flags b room lets q =
    queued_set w (submitted g job argument tried w) flags (length w.tasks) b refl
    (let size = q.size in omega arith)
    ((go_new w g job argument tried).0 ∙ lets) others q
  where
    more : length (submitted g job argument tried w).tasks ≡ length w.tasks + 1
    more = length-append w.tasks (fresh_task g job argument tried ∷ [])

    others : (m : ℕ) → m ≢ length w.tasks
        → is_ready (submitted g job argument tried w) m ≡ is_ready w m
    others m apart =
        elim (cases_lt m (length w.tasks)) [
          | inl less ↦ (go_stays w g job argument tried m less).ready
          | inr past ↦
              (none_past (submitted g job argument tried w) m (omega (arith, more, apart))).0
              ∙ sym ((none_past w m past).0)
        ]

pub queued_start : (w : Work) (n : ℕ) (t : Task) (flags : List Bool) → Starts w n t
    → n < length flags → AreQueued w flags → AreQueued (started n w) (slice_set flags n false)
queued_start w n t flags s less q =
    queued_set w (started n w) flags n false refl less (start_takes w n t s).0
    (λ m apart. (start_stays w n t s m apart).ready) q

-- The oldest held task of the group, where there is one, gets in.
pub queued_end : (w v : Work) (n : ℕ) (t : Task) (s : Stage) (x : GroupCounts) (flags : List Bool)
    → Ends w n t s v → v.layout ≡ w.layout → GroupCountsOf w t.group x
    → length w.tasks ≤ length flags
    → (o : Option ℕ) → x.first ≡ o → AreQueued w flags → AreQueued v (with_flag o flags)
queued_end w v n t s x flags e layout r room None is q =
    let calm = calm_from w t.group (subst (λ o. IsNext (is_held w t.group) 0 o) is r.first) in
    queued_same w v flags layout (λ m. (calm_stays w v n t s e calm m).ready) q
queued_end w v n t s x flags e layout r room (Some h) is q =
    let oldest = oldest_from w t.group h
    (subst (λ o. IsNext (is_held w t.group) 0 o) is r.first) in
    let held = held_is w t.group h oldest.held in
    let less = slice_get_within w.tasks h held.0 held.1.found in
    queued_set w v flags h true layout (omega arith)
    (oldest_admitted w v n t s e h oldest.held oldest.least).0
    (λ m apart. (oldest_stays w v n t s e h oldest m apart).ready) q
