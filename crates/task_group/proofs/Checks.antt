-- Facts about a group's row that the tests of a change found, and the result of two tests in a row.
use Rattle.run_model.proofs.Common.{◌≡◌, ◌<◌, ◌≤◌, ◌==◌, ℕ, Bool, true, false, List, [], ◌∷◌}
use Rattle.run_model.proofs.Common.{◌++◌, length, unfinished_in}
use Rattle.run_model.proofs.Common.{if◌then◌else◌, Option, Some, None, Result, Ok, Err, refl, sym}
use Rattle.run_model.proofs.Common.{ap, ◌∙◌, not, option_map_or, has_row, is_open, tested}
use Rattle.run_model.proofs.Common.{and_then, WorkState, has_stage, is_running, is_interrupted}
use Rattle.run_model.proofs.Common.{lt-ltb, le-ltb, slice_get, slice_get_within, none-some}
use Rattle.run_model.proofs.Common.{cases_lt, inl, inr, row_there}
use Rattle.run_model.specs.Replies.{has_waited}
use Rattle.run_model.specs.declared.groups.Group.{Group}
use Rattle.run_model.specs.declared.tasks.Task.{Task}
use Rattle.run_model.specs.declared.refusals.Refusal.{Refusal}
use Rattle.run_model.specs.declared.refusals.Refusal.TheVariants as refusal
use Rattle.task_group.proofs.Admits.{eqb_apart}

-- Whether a group can be changed.
abbrev pub opens : WorkState → ℕ → List (Bool × Refusal)
opens w g =
    (not (has_row w.groups g), refusal.NoSuchGroup) ∷ (not (is_open w g), refusal.Waited) ∷ []

-- No row of this number was found.
pub row_missed : {X : Type 0} (rows : List X) (n : ℕ) → slice_get rows n ≡ None
    → has_row rows n ≡ false
row_missed rows n none =
    elim (cases_lt n (length rows)) [
      | inl less ↦ (let row = row_there rows n less in
          absurd (none-some row.0 (sym none ∙ row.1)))
      | inr past ↦ le-ltb n (length rows) past
    ]

-- A row of this number was found.
pub row_found : {X : Type 0} (rows : List X) (n : ℕ) (row : X) → slice_get rows n ≡ Some row
    → has_row rows n ≡ true
row_found rows n row found = lt-ltb n (length rows) (slice_get_within rows n row found)

-- No row was found.
pub opens_missed : (w : WorkState) (g : ℕ) → slice_get w.groups g ≡ None
    → Err refusal.NoSuchGroup ≡ tested (opens w g)
opens_missed w g none = rw (row_missed w.groups g none) refl

-- A row was found, which was waited for or not.
pub opens_found : (w : WorkState) (g : ℕ) (row : Group) (waited : Bool)
    → slice_get w.groups g ≡ Some row → row.waited ≡ waited
    → (if waited then Err refusal.Waited else Ok tt) ≡ tested (opens w g)
opens_found w g row waited found e =
    let there = row_found w.groups g row found in
    let unwaited : is_open w g ≡ not waited =
    ap (λ (o : Option Group). option_map_or (λ group. not group.waited) o false) found
    ∙ ap not e in
    rw (there, unwaited) (by waited)
  where
    by : (b : Bool) → (if b then Err refusal.Waited else Ok tt)
        ≡ tested ((not (not b), refusal.Waited) ∷ [])
    by true = refl
    by false = refl

-- A task that is there is running, or isn't.
pub finish_cancels : (w : WorkState) (n : ℕ) (runs : Bool) → n < length w.tasks
    → runs ≡ has_stage is_running w n → (if runs then Ok tt else Err refusal.NotRunning)
    ≡ tested ((not (has_row w.tasks n), refusal.NoSuchTask)
    ∷ (not (has_stage is_running w n), refusal.NotRunning) ∷ [])
finish_cancels w n runs known is = rw (lt-ltb n (length w.tasks) known, ← is) (by runs)
  where
    by : (b : Bool) → (if b then Ok tt else Err refusal.NotRunning)
        ≡ tested ((not b, refusal.NotRunning) ∷ [])
    by true = refl
    by false = refl

-- The task of a retry is there, and was interrupted or wasn't.
pub retry_found : (w : WorkState) (n : ℕ) (row : Task) (answer : Bool)
    → slice_get w.tasks n ≡ Some row → answer ≡ is_interrupted row.stage
    → (has_row w.tasks n ≡ true) × (has_stage is_interrupted w n ≡ answer)
retry_found w n row answer found is = (
  row_found w.tasks n row found,
  ap (λ (o : Option Task). option_map_or (λ task. is_interrupted task.stage) o false) found
      ∙ sym is,
)

-- Whether a group can be waited for.
abbrev pub waits : WorkState → ℕ → List (Bool × Refusal)
waits w g =
    (not (has_row w.groups g), refusal.NoSuchGroup)
    ∷ (not (unfinished_in g w.tasks == 0), refusal.Unfinished (unfinished_in g w.tasks))
    ∷ (not (is_open w g), refusal.Waited) ∷ []

pub wait_missed : (w : WorkState) (g : ℕ) → length w.groups ≤ g
    → Err refusal.NoSuchGroup ≡ tested (waits w g)
wait_missed w g past = rw (le-ltb g (length w.groups) past) refl

pub wait_busy : (w : WorkState) (g n : ℕ) → g < length w.groups → n ≡ unfinished_in g w.tasks
    → (n ≡ 0 → ⊥) → Err (refusal.Unfinished n) ≡ tested (waits w g)
wait_busy w g n known is busy =
    rw (
      lt-ltb g (length w.groups) known,
      eqb_apart (unfinished_in g w.tasks) 0 (λ none. busy (is ∙ none)),
    )
    (ap (λ k. Err (refusal.Unfinished k)) is)

-- An idle group was waited for or not.
pub wait_cancels : (w : WorkState) (g n : ℕ) (waited : Bool) → g < length w.groups
    → n ≡ unfinished_in g w.tasks → n ≡ 0 → waited ≡ has_waited w g
    → (if waited then Err refusal.Waited else Ok tt) ≡ tested (waits w g)
wait_cancels w g n waited known is none e =
    let row = row_there w.groups g known in
    let idle : unfinished_in g w.tasks ≡ 0 = sym is ∙ none in
    let same : row.0.waited ≡ waited =
    sym (e ∙ ap (λ (o : Option Group). option_map_or (λ group. group.waited) o false) row.1) in
    let unwaited : is_open w g ≡ not waited =
    ap (λ (o : Option Group). option_map_or (λ group. not group.waited) o false) row.1
    ∙ ap not same in
    rw (lt-ltb g (length w.groups) known, idle, unwaited) (by waited)
  where
    by : (b : Bool) → (if b then Err refusal.Waited else Ok tt)
        ≡ tested ((not (not b), refusal.Waited) ∷ [])
    by true = refl
    by false = refl

-- What stands after tests is asked where none of them holds.
pub tested_then : (first rest : List (Bool × Refusal)) (answer : Result (Unit {0}) Refusal)
    → answer ≡ tested first → and_then answer (λ _. tested rest) ≡ tested (first ++ rest)
tested_then first rest answer is = ap (λ a. and_then a (λ _. tested rest)) is ∙ by first
  where
    by : (tests : List (Bool × Refusal))
        → and_then (tested tests) (λ _. tested rest) ≡ tested (tests ++ rest)
    by [] = refl
    by (t ∷ tests) =
        elim t.0 as
        (λ b. and_then (if b then Err t.1 else tested tests) (λ _. tested rest)
        ≡ (if b then Err t.1 else tested (tests ++ rest)))
        [ true ↦ refl | false ↦ by tests ]
