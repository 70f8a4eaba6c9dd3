-- What is seen of commands once a task has come to another stage.
use Rattle.std.proofs.Common.{◌≡◌, ◌≢◌, ◌<◌, ◌∙◌, ◌&&◌, ℕ, ◌+◌, Bool, true, false, cond, List}
use Rattle.std.proofs.Common.{Option, Some, None, slice_get, length, inl, inr, refl, sym, ap}
use Rattle.std.proofs.Common.{arith}
use Rattle.std.proofs.lemmas.Bool.{cases_eq, true≢false}
use Rattle.std.proofs.lemmas.Option.{slice_get_within}
use Rattle.std.specs.Option.{option_map, option_map_or}
use Rattle.std.specs.Str.{bytes_eq}
use Rattle.run_model.proofs.RowLemmas.{length-at_row, slice_get-at_row_other}
use Rattle.run_model.proofs.RowLemmas.{slice_get-at_row_same}
use Rattle.run_model.specs.declared.tasks.Stage.{Stage}
use Rattle.run_model.specs.declared.tasks.Task.{Task}
use Rattle.run_model.specs.Rows.{at_row}
use Rattle.run_model.specs.State.{State}
use Rattle.run_model.specs.Tasks.{has_stage}
use Rattle.run_model.specs.WorkChanges.{with_stage}
use Rattle.night_plan.specs.declared.facts.Known.{Known}
use Rattle.night_plan.specs.declared.facts.Phase.{Phase}
use Rattle.night_plan.specs.declared.facts.Phase.TheVariants.{Fresh}
use Rattle.night_drive.specs.Searches.{count_below, last_below}
use Rattle.night_drive.specs.Seen.{is_owned, is_try, known_of, phase_after}
use Rattle.night_drive.specs.Tries.{counts, has_failed, phase_by}
use Rattle.night_drive.specs.Turns.{is_task, IsLast}
use Rattle.night_drive.proofs.Searching.{count_alike, count_more, last_alike, last_is, last_passes}

-- In the second state task n is at this stage. The other tasks are the same, and each group is of
-- the same night.
pub record IsStaged (p q : State) (n : ℕ) (stage : Stage) : Type 0 where
  pub tasks : q.work.tasks ≡ at_row (with_stage stage) n p.work.tasks
  pub owned : (night : Option (List ℕ)) (group : List ℕ) (g : ℕ)
      → is_owned q night group g ≡ is_owned p night group g

-- There is a row, and its stage passes the test.
pub record HasRowAt (p : State) (n : ℕ) (test : Stage → Bool) : Type 0 where
  pub row : Task
  pub found : slice_get p.work.tasks n ≡ Some row
  pub passes : test row.stage ≡ true

pub row_at : (p : State) (n : ℕ) (test : Stage → Bool) → has_stage test p.work n ≡ true
    → HasRowAt p n test
row_at p n test holds = by_row (slice_get p.work.tasks n) refl holds
  where
    by_row : (o : Option Task) → slice_get p.work.tasks n ≡ o
        → option_map_or (λ task. test task.stage) o false ≡ true → HasRowAt p n test
    by_row None found passes = cc
    by_row (Some row) found passes = record { row = row; found = found; passes = passes }

-- ---- rows

row_other : (p q : State) (n : ℕ) (stage : Stage) → IsStaged p q n stage → (m : ℕ) → m ≢ n
    → slice_get q.work.tasks m ≡ slice_get p.work.tasks m
row_other p q n stage staged m other =
    ap (λ (tasks : List Task). slice_get tasks m) staged.tasks
    ∙ slice_get-at_row_other (with_stage stage) n m p.work.tasks other

row_here : (p q : State) (n : ℕ) (stage : Stage) → IsStaged p q n stage
    → slice_get q.work.tasks n ≡ option_map (with_stage stage) (slice_get p.work.tasks n)
row_here p q n stage staged =
    ap (λ (tasks : List Task). slice_get tasks n) staged.tasks
    ∙ slice_get-at_row_same (with_stage stage) n p.work.tasks

size_stays : (p q : State) (n : ℕ) (stage : Stage) → IsStaged p q n stage
    → length q.work.tasks ≡ length p.work.tasks
size_stays p q n stage staged =
    ap length staged.tasks ∙ length-at_row (with_stage stage) n p.work.tasks

-- ---- tries

-- What makes a row a try.
abbrev row_test : State → Option (List ℕ) → (group key : List ℕ) → Task → Bool
row_test p night group key task =
    bytes_eq task.argument key && (counts task.stage && is_owned p night group task.group)

row_test_stays : (p q : State) (n : ℕ) (stage : Stage) → IsStaged p q n stage
    → (night : Option (List ℕ)) (group key : List ℕ) (o : Option Task)
    → option_map_or (row_test q night group key) o false
    ≡ option_map_or (row_test p night group key) o false
row_test_stays p q n stage staged night group key None = refl
row_test_stays p q n stage staged night group key (Some task) =
    ap (λ b. bytes_eq task.argument key && (counts task.stage && b))
    (staged.owned night group task.group)

try_other : (p q : State) (n : ℕ) (stage : Stage) → IsStaged p q n stage
    → (night : Option (List ℕ)) (group key : List ℕ) (m : ℕ) → m ≢ n
    → is_try q night group key m ≡ is_try p night group key m
try_other p q n stage staged night group key m other =
    ap (λ o. option_map_or (row_test q night group key) o false)
    (row_other p q n stage staged m other)
    ∙ row_test_stays p q n stage staged night group key (slice_get p.work.tasks m)

swap : (a b c : Bool) → (a && (b && c)) ≡ ((a && c) && b)
swap true true c = by c
  where
    by : (c : Bool) → c ≡ (c && true)
    by true = refl
    by false = refl
swap true false c = by c
  where
    by : (c : Bool) → false ≡ (c && false)
    by true = refl
    by false = refl
swap false b c = refl

-- A task is a try if it is the command's and counts.
pub try_is : (p : State) (night : Option (List ℕ)) (group key : List ℕ) (n : ℕ)
    → is_try p night group key n ≡ (is_task p night group key n && has_stage counts p.work n)
try_is p night group key n = by_row (slice_get p.work.tasks n)
  where
    by_row : (o : Option Task)
        → option_map_or (row_test p night group key) o false
        ≡ (option_map_or
        (λ task. bytes_eq task.argument key && is_owned p night group task.group) o false
        && option_map_or (λ task. counts task.stage) o false)
    by_row None = refl
    by_row (Some task) =
        swap (bytes_eq task.argument key) (counts task.stage) (is_owned p night group task.group)

task_here : (p q : State) (n : ℕ) (stage : Stage) → IsStaged p q n stage
    → (night : Option (List ℕ)) (group key : List ℕ)
    → is_task q night group key n ≡ is_task p night group key n
task_here p q n stage staged night group key =
    ap (λ o. option_map_or
    (λ task. bytes_eq task.argument key && is_owned q night group task.group) o false)
    (row_here p q n stage staged) ∙ by_row (slice_get p.work.tasks n)
  where
    by_row : (o : Option Task)
        → option_map_or (λ task. bytes_eq task.argument key && is_owned q night group task.group)
        (option_map (with_stage stage) o) false
        ≡ option_map_or (λ task. bytes_eq task.argument key && is_owned p night group task.group) o
        false
    by_row None = refl
    by_row (Some task) =
        ap (λ b. bytes_eq task.argument key && b) (staged.owned night group task.group)

-- The task passes what the new stage passes.
pub stage_here : (p q : State) (n : ℕ) (stage : Stage) → IsStaged p q n stage → (row : Task)
    → slice_get p.work.tasks n ≡ Some row → (test : Stage → Bool)
    → has_stage test q.work n ≡ test stage
stage_here p q n stage staged row found test =
    ap (λ o. option_map_or (λ task. test task.stage) o false)
    (row_here p q n stage staged ∙ ap (option_map (with_stage stage)) found)

-- ---- failures

-- Task n is a try that has failed.
abbrev pub failing : State → (night : Option (List ℕ)) → (group key : List ℕ) → ℕ → Bool
failing p night group key n = is_try p night group key n && has_stage has_failed p.work n

failing_other : (p q : State) (n : ℕ) (stage : Stage) → IsStaged p q n stage
    → (night : Option (List ℕ)) (group key : List ℕ) (m : ℕ) → m ≢ n
    → failing q night group key m ≡ failing p night group key m
failing_other p q n stage staged night group key m other =
    ap (λ b. b && has_stage has_failed q.work m)
    (try_other p q n stage staged night group key m other)
    ∙ ap (λ o. is_try p night group key m
    && option_map_or (λ task. has_failed task.stage) o false)
    (row_other p q n stage staged m other)

-- What doesn't count hasn't failed as a try.
pub uncounted : (p : State) (night : Option (List ℕ)) (group key : List ℕ) (n : ℕ)
    → is_try p night group key n ≡ false → failing p night group key n ≡ false
uncounted p night group key n lacks = ap (λ b. b && has_stage has_failed p.work n) lacks

-- Tests that agree at all numbers but one, and at that one, agree.
alike_at_all : (f g : ℕ → Bool) (n : ℕ) → f n ≡ g n → ((m : ℕ) → m ≢ n → f m ≡ g m) → (m : ℕ)
    → f m ≡ g m
alike_at_all f g n here others m = elim (cases_eq m n) [
  | inl it ↦ ap f it ∙ here ∙ ap g (sym it)
  | inr other ↦ others m other
]

-- ---- what is known

abbrev made : Phase → ℕ → Known
made phase failures = record { phase = phase; failures = failures; canceled = false }

pub known_is : (p : State) (ended : ℕ → ℕ) (night : Option (List ℕ)) (group key : List ℕ)
    (phase : Phase) (failures : ℕ)
    → phase_after p ended (last_below (is_try p night group key) (length p.work.tasks)) ≡ phase
    → count_below (failing p night group key) (length p.work.tasks) ≡ failures
    → known_of p ended night group key ≡ made phase failures
known_is p ended night group key phase failures at count =
    ap (λ x. made x (count_below (failing p night group key) (length p.work.tasks))) at
    ∙ ap (made phase) count

phase_other : (p q : State) (n : ℕ) (stage : Stage) → IsStaged p q n stage → (before after : ℕ → ℕ)
    → ((m : ℕ) → m ≢ n → after m ≡ before m) → (last : Option ℕ)
    → ((m : ℕ) → last ≡ Some m → m ≢ n) → phase_after q after last ≡ phase_after p before last
phase_other p q n stage staged before after same None not = refl
phase_other p q n stage staged before after same (Some m) not =
    let other : m ≢ n = not m refl in
    ap (λ o. option_map_or (λ task. phase_by (after m) task.stage) o Fresh)
    (row_other p q n stage staged m other)
    ∙ ap (λ moment. option_map_or (λ task. phase_by moment task.stage)
    (slice_get p.work.tasks m) Fresh) (same m other)

-- If the task is no try of a command before or after, what is known of it stays.
pub known_apart : (p q : State) (n : ℕ) (stage : Stage) → IsStaged p q n stage
    → (before after : ℕ → ℕ) → ((m : ℕ) → m ≢ n → after m ≡ before m)
    → (night : Option (List ℕ)) (group key : List ℕ) → is_try p night group key n ≡ false
    → is_try q night group key n ≡ false
    → known_of q after night group key ≡ known_of p before night group key
known_apart p q n stage staged before after same night group key not_before not_after =
    let f : ℕ → Bool = is_try p night group key in
    let g : ℕ → Bool = is_try q night group key in
    let size : length q.work.tasks ≡ length p.work.tasks = size_stays p q n stage staged in
    let tries : (m : ℕ) → g m ≡ f m =
    alike_at_all g f n (not_after ∙ sym not_before)
    (try_other p q n stage staged night group key) in
    let last : last_below g (length q.work.tasks) ≡ last_below f (length p.work.tasks) =
    ap (last_below g) size ∙ last_alike g f tries (length p.work.tasks) in
    let apart : (m : ℕ) → last_below f (length p.work.tasks) ≡ Some m → m ≢ n =
    λ m it same_one. true≢false (sym (last_passes f (length p.work.tasks) m it)
    ∙ ap f same_one ∙ not_before) in
    let fails : (m : ℕ) → failing q night group key m ≡ failing p night group key m =
    alike_at_all (failing q night group key) (failing p night group key) n
    (uncounted q night group key n not_after ∙ sym (uncounted p night group key n not_before))
    (failing_other p q n stage staged night group key) in
    known_is q after night group key
    (phase_after p before (last_below f (length p.work.tasks)))
    (count_below (failing p night group key) (length p.work.tasks))
    (ap (phase_after q after) last ∙ phase_other p q n stage staged before after same
    (last_below f (length p.work.tasks)) apart)
    (ap (count_below (failing q night group key)) size
    ∙ count_alike (failing q night group key) (failing p night group key) fails
    (length p.work.tasks))

-- So it does for a command whose task it isn't.
pub known_other : (p q : State) (n : ℕ) (stage : Stage) → IsStaged p q n stage
    → (before after : ℕ → ℕ) → ((m : ℕ) → m ≢ n → after m ≡ before m)
    → (night : Option (List ℕ)) (group key : List ℕ) → is_task p night group key n ≡ false
    → known_of q after night group key ≡ known_of p before night group key
known_other p q n stage staged before after same night group key lacks =
    known_apart p q n stage staged before after same night group key
    (try_is p night group key n ∙ ap (λ b. b && has_stage counts p.work n) lacks)
    (try_is q night group key n
    ∙ ap (λ b. b && has_stage counts q.work n)
    (task_here p q n stage staged night group key ∙ lacks))

-- Of the command whose last try it is, the stage says how far it has come, and one failure comes to
-- the others if the stage is one.
pub known_own : (p q : State) (n : ℕ) (stage : Stage) → IsStaged p q n stage → (after : ℕ → ℕ)
    (night : Option (List ℕ)) (group key : List ℕ) (row : Task)
    → slice_get p.work.tasks n ≡ Some row → counts stage ≡ true
    → is_task p night group key n ≡ true → IsLast p night group key n
    → failing p night group key n ≡ false
    → known_of q after night group key
    ≡ made (phase_by (after n) stage)
    (count_below (failing p night group key) (length p.work.tasks) + cond (has_failed stage) 1 0)
known_own p q n stage staged after night group key row found counted own last sound =
    let g = is_try q night group key in
    let most = length p.work.tasks in
    let size : length q.work.tasks ≡ most = size_stays p q n stage staged in
    let below : n < most = slice_get_within p.work.tasks n row found in
    let passes : g n ≡ true =
    try_is q night group key n
    ∙ ap (λ b. b && has_stage counts q.work n) (task_here p q n stage staged night group key ∙ own)
    ∙ stage_here p q n stage staged row found counts ∙ counted in
    let none : (m : ℕ) → n < m → g m ≡ false =
    λ m less. try_other p q n stage staged night group key m (λ it. omega (arith, less, it))
    ∙ last own m less in
    let is_last : last_below g (length q.work.tasks) ≡ Some n =
    ap (last_below g) size ∙ last_is g most n below passes none in
    let fails : failing q night group key n ≡ has_failed stage =
    ap (λ b. b && has_stage has_failed q.work n) passes
    ∙ stage_here p q n stage staged row found has_failed in
    known_is q after night group key (phase_by (after n) stage)
    (count_below (failing p night group key) most + cond (has_failed stage) 1 0)
    (ap (phase_after q after) is_last
    ∙ ap (λ o. option_map_or (λ task. phase_by (after n) task.stage) o Fresh)
    (row_here p q n stage staged ∙ ap (option_map (with_stage stage)) found))
    (ap (count_below (failing q night group key)) size
    ∙ by_failure (has_failed stage) below fails sound)
  where
    by_failure : (b : Bool) → n < length p.work.tasks → failing q night group key n ≡ b
        → failing p night group key n ≡ false
        → count_below (failing q night group key) (length p.work.tasks)
        ≡ count_below (failing p night group key) (length p.work.tasks) + cond b 1 0
    by_failure true below fails sound =
        count_more (failing p night group key) (failing q night group key) (length p.work.tasks) n
        below sound fails (failing_other p q n stage staged night group key)
    by_failure false below fails sound =
        count_alike (failing q night group key) (failing p night group key)
        (alike_at_all (failing q night group key) (failing p night group key) n
        (fails ∙ sym sound) (failing_other p q n stage staged night group key))
        (length p.work.tasks) ∙ omega arith
