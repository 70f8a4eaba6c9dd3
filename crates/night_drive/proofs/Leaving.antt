-- The events that concern no command leave what is known of each as it is.
use Rattle.std.proofs.Common.{◌≡◌, ◌<◌, ◌⊎◌, ◌∙◌, ◌&&◌, ℕ, zero, suc, ◌+◌, Bool, true, false, cond}
use Rattle.std.proofs.Common.{List, [], ◌∷◌, ◌++◌, Option, Some, None, slice_get, length, codes}
use Rattle.std.proofs.Common.{inl, inr, refl, ap, arith}
use Rattle.std.proofs.Math.Bool.{and-false}
use Rattle.std.specs.List.{filter_map}
use Rattle.std.specs.Option.{option_map, option_map_or}
use Rattle.std.specs.Str.{bytes_eq}
use Rattle.run_model.proofs.RowLemmas.{map-at_row, slice_get-push_last, slice_get-push_left}
use Rattle.run_model.specs.declared.groups.Group.{Group}
use Rattle.run_model.specs.declared.scopes.Kind.TheVariants as kind
use Rattle.run_model.specs.declared.scopes.Scope.{Scope}
use Rattle.run_model.specs.declared.tasks.Task.{Task}
use Rattle.run_model.specs.Event.{Event}
use Rattle.run_model.specs.Event as event
use Rattle.run_model.specs.Rows.{at_row, new_group, new_scope, new_task}
use Rattle.run_model.specs.Rules.{AreNumbered}
use Rattle.run_model.specs.Scopes.{AreOrdered, is_root, line, line_within, text_under, upwards}
use Rattle.run_model.specs.State.{State}
use Rattle.run_model.specs.Step.{step}
use Rattle.run_model.specs.Tasks.{has_stage}
use Rattle.run_model.specs.TreeChanges.{tick}
use Rattle.run_model.specs.WorkChanges.{retried_row, with_limit, with_wait}
use Rattle.model_laws.specs.Kinds.{is_finish, is_restart, is_start}
use Rattle.night_plan.specs.declared.facts.Phase.TheVariants.{Fresh}
use Rattle.night_drive.specs.Names.{belongs, is_same, night_of}
use Rattle.night_drive.specs.Searches.{count_below, last_below}
use Rattle.night_drive.specs.Seen.{is_owned, is_try, known_of, phase_after}
use Rattle.night_drive.specs.Tries.{counts, has_failed, phase_by}
use Rattle.night_drive.specs.Turns.{OthersLeaveCommands, is_task}
use Rattle.night_drive.proofs.Searching.{count_alike_below, last_alike_below, last_within}
use Rattle.night_drive.proofs.Staying.{KeepsGroups, KeepsScopes, advance_keeps, cancel_keeps}
use Rattle.night_drive.proofs.Staying.{group_end_keeps, owned_stays, row_by_row, same_groups}
use Rattle.night_drive.proofs.Staying.{same_scopes, unhit, unmarked}
use Rattle.night_drive.proofs.Turning.{failing, known_is, try_is}

-- At most one task comes after those that were there, and it doesn't count.
abbrev pub OneMore : (p q : State) → Type 0
OneMore p q =
    (length q.work.tasks ≡ length p.work.tasks)
    ⊎ ((length q.work.tasks ≡ suc (length p.work.tasks))
    × (has_stage counts q.work (length p.work.tasks) ≡ false))

-- The tasks that were there are the same ones, in groups of the same nights.
pub record Leaves (p q : State) : Type 0 where
  pub rows : (m : ℕ) → m < length p.work.tasks
      → slice_get q.work.tasks m ≡ slice_get p.work.tasks m
  pub owned : (night : Option (List ℕ)) (group : List ℕ) (g : ℕ) → g < length p.work.groups
      → is_owned q night group g ≡ is_owned p night group g
  pub size : OneMore p q

-- ---- what is known

try_left : (p q : State) → AreNumbered p → Leaves p q → (night : Option (List ℕ))
    (group key : List ℕ) (m : ℕ) → m < length p.work.tasks
    → is_try q night group key m ≡ is_try p night group key m
try_left p q numbered left night group key m less =
    ap (λ o. option_map_or (λ task. bytes_eq task.argument key
    && (counts task.stage && is_owned q night group task.group)) o false) (left.rows m less)
    ∙ by_row (slice_get p.work.tasks m) refl
  where
    by_row : (o : Option Task) → slice_get p.work.tasks m ≡ o
        → option_map_or (λ task. bytes_eq task.argument key
        && (counts task.stage && is_owned q night group task.group)) o false
        ≡ option_map_or (λ task. bytes_eq task.argument key
        && (counts task.stage && is_owned p night group task.group)) o false
    by_row None found = refl
    by_row (Some task) found =
        ap (λ b. bytes_eq task.argument key && (counts task.stage && b))
        (left.owned night group task.group (numbered.groups m task found))

failing_left : (p q : State) → AreNumbered p → Leaves p q → (night : Option (List ℕ))
    (group key : List ℕ) (m : ℕ) → m < length p.work.tasks
    → failing q night group key m ≡ failing p night group key m
failing_left p q numbered left night group key m less =
    ap (λ b. b && has_stage has_failed q.work m) (try_left p q numbered left night group key m less)
    ∙ ap (λ o. is_try p night group key m
    && option_map_or (λ task. has_failed task.stage) o false) (left.rows m less)

known_left : (p q : State) → AreNumbered p → Leaves p q → (ended : ℕ → ℕ)
    (night : Option (List ℕ)) (group key : List ℕ)
    → known_of q ended night group key ≡ known_of p ended night group key
known_left p q numbered left ended night group key =
    known_is q ended night group key (phase_after p ended (last_below f most))
    (count_below (failing p night group key) most)
    (ap (phase_after q ended) (by_size left.size) ∙ by_last (last_below f most) refl)
    (count_by left.size)
  where
    most : ℕ
    most = length p.work.tasks

    f : ℕ → Bool
    f = is_try p night group key

    g : ℕ → Bool
    g = is_try q night group key

    same : last_below g (length p.work.tasks) ≡ last_below f (length p.work.tasks)
    same = last_alike_below g f (length p.work.tasks) (try_left p q numbered left night group key)

    uncounted_last : has_stage counts q.work (length p.work.tasks) ≡ false
        → g (length p.work.tasks) ≡ false
    uncounted_last lacks =
        try_is q night group key (length p.work.tasks)
        ∙ ap (λ b. is_task q night group key (length p.work.tasks) && b) lacks
        ∙ and-false (is_task q night group key (length p.work.tasks))

    by_size : OneMore p q → last_below g (length q.work.tasks) ≡ last_below f (length p.work.tasks)
    by_size (inl size) = ap (last_below g) size ∙ same
    by_size (inr more) =
        ap (last_below g) more.0
        ∙ ap (λ b. cond b (Some (length p.work.tasks)) (last_below g (length p.work.tasks)))
        (uncounted_last more.1)
        ∙ same

    same_count : count_below (failing q night group key) (length p.work.tasks)
        ≡ count_below (failing p night group key) (length p.work.tasks)
    same_count =
        count_alike_below (failing q night group key) (failing p night group key)
        (length p.work.tasks) (failing_left p q numbered left night group key)

    count_by : OneMore p q
        → count_below (failing q night group key) (length q.work.tasks)
        ≡ count_below (failing p night group key) (length p.work.tasks)
    count_by (inl size) = ap (count_below (failing q night group key)) size ∙ same_count
    count_by (inr more) =
        let n = length p.work.tasks in
        let none : failing q night group key n ≡ false =
        ap (λ b. b && has_stage has_failed q.work n) (uncounted_last more.1) in
        let nothing : count_below (failing q night group key) n + 0
        ≡ count_below (failing q night group key) n = omega arith in
        ap (count_below (failing q night group key)) more.0
        ∙ ap (λ b. count_below (failing q night group key) n + cond b 1 0) none
        ∙ nothing ∙ same_count

    by_last : (o : Option ℕ) → last_below f (length p.work.tasks) ≡ o
        → phase_after q ended o ≡ phase_after p ended o
    by_last None is = refl
    by_last (Some m) is =
        ap (λ o. option_map_or (λ task. phase_by (ended m) task.stage) o Fresh)
        (left.rows m (last_within f (length p.work.tasks) m is))

-- ---- a row more

pub line_pushed : (rows : List Scope) (new : Scope) → AreOrdered rows → (most s : ℕ)
    → s < length rows
    → line_within most (rows ++ new ∷ []) s ≡ line_within most rows s
line_pushed rows new ordered zero s less = refl
line_pushed rows new ordered (suc most) s less =
    ap (λ o. upwards (line_within most (rows ++ new ∷ [])) s o)
    (slice_get-push_left rows new s less)
    ∙ by_row (slice_get rows s) refl (line_pushed rows new ordered most)
  where
    by_row : (o : Option Scope) → slice_get rows s ≡ o
        → ((t : ℕ) → t < length rows
        → line_within most (rows ++ new ∷ []) t ≡ line_within most rows t)
        → upwards (line_within most (rows ++ new ∷ [])) s o ≡ upwards (line_within most rows) s o
    by_row None found same = refl
    by_row (Some row) found same = ap (λ xs. (s, row) ∷ xs) (by_root (is_root row.kind) refl)
      where
        by_root : (b : Bool) → is_root row.kind ≡ b
            → cond b [] (line_within most (rows ++ new ∷ []) row.parent)
            ≡ cond b [] (line_within most rows row.parent)
        by_root true is = refl
        by_root false is =
            let lower : row.parent < s = ordered s row found is in
            same row.parent (omega (arith, lower, less))

pub night_pushed : (p q : State) (new : Scope) → AreOrdered p.tree.scopes
    → q.tree.scopes ≡ p.tree.scopes ++ new ∷ [] → (s : ℕ) → s < length p.tree.scopes
    → night_of q s ≡ night_of p s
night_pushed p q new ordered pushed s less =
    ap (λ rows. slice_get (filter_map (λ r. text_under (codes "night") r.1.kind) (line rows s)) 0)
    pushed
    ∙ ap (λ rows. slice_get (filter_map (λ r. text_under (codes "night") r.1.kind) rows) 0)
    (line_pushed p.tree.scopes new ordered (suc s) s less)

-- The groups that were there are the same ones, in scopes of the same nights.
owned_left : (p q : State) → AreNumbered p
    → ((s : ℕ) → s < length p.tree.scopes → night_of q s ≡ night_of p s)
    → ((g : ℕ) → g < length p.work.groups
    → slice_get q.work.groups g ≡ slice_get p.work.groups g)
    → (night : Option (List ℕ)) (group : List ℕ) (g : ℕ) → g < length p.work.groups
    → is_owned q night group g ≡ is_owned p night group g
owned_left p q numbered nights groups night group g less =
    ap (λ o. option_map_or
    (λ row. belongs group row.name && is_same (night_of q row.scope) night) o false) (groups g less)
    ∙ by_row (slice_get p.work.groups g) refl
  where
    by_row : (o : Option Group) → slice_get p.work.groups g ≡ o
        → option_map_or
        (λ row. belongs group row.name && is_same (night_of q row.scope) night) o false
        ≡ option_map_or
        (λ row. belongs group row.name && is_same (night_of p row.scope) night) o false
    by_row None found = refl
    by_row (Some row) found =
        ap (λ n. belongs group row.name && is_same n night)
        (nights row.scope (numbered.scopes g row found))

-- ---- event by event

task_more : (p q : State) (new : Task) → counts new.stage ≡ false
    → q.work.tasks ≡ p.work.tasks ++ new ∷ [] → q.work.groups ≡ p.work.groups
    → q.tree ≡ p.tree → Leaves p q
task_more p q new uncounted pushed groups tree = record {
  rows = λ m less.
      ap (λ (tasks : List Task). slice_get tasks m) pushed
      ∙ slice_get-push_left p.work.tasks new m less;
  owned = λ night group g less.
      owned_stays p q (λ s. ap (λ t. option_map unhit (slice_get t.scopes s)) tree)
      (λ g. ap (λ rows. option_map unmarked (slice_get rows g)) groups) night group g;
  size = inr (
    ap length pushed ∙ length_pushed p.work.tasks new,
    ap (λ (tasks : List Task). option_map_or (λ task. counts task.stage)
        (slice_get tasks (length p.work.tasks)) false) pushed
        ∙ ap (λ o. option_map_or (λ task. counts task.stage) o false)
        (slice_get-push_last p.work.tasks new)
        ∙ uncounted,
  );
}
  where
    length_pushed : {X : Type 0} (xs : List X) (x : X) → length (xs ++ x ∷ []) ≡ suc (length xs)
    length_pushed [] x = refl
    length_pushed (y ∷ xs) x = ap suc (length_pushed xs x)

marks_left : (p q : State) → q.work.tasks ≡ p.work.tasks
    → KeepsScopes p.tree.scopes q.tree.scopes → KeepsGroups p.work.groups q.work.groups
    → Leaves p q
marks_left p q tasks scopes groups = record {
  rows = λ m less. ap (λ (rows : List Task). slice_get rows m) tasks;
  owned = λ night group g less. owned_stays p q scopes groups night group g;
  size = inl (ap length tasks);
}

-- A scope or a group more, or both.
rows_more : (p q : State) → AreNumbered p → q.work.tasks ≡ p.work.tasks
    → ((s : ℕ) → s < length p.tree.scopes → night_of q s ≡ night_of p s)
    → ((g : ℕ) → g < length p.work.groups
    → slice_get q.work.groups g ≡ slice_get p.work.groups g)
    → Leaves p q
rows_more p q numbered tasks nights groups = record {
  rows = λ m less. ap (λ (rows : List Task). slice_get rows m) tasks;
  owned = owned_left p q numbered nights groups;
  size = inl (ap length tasks);
}

retry_left : (p : State) (n : ℕ) → Leaves p (step p (event.Retry n))
retry_left p n = by_row (slice_get p.work.tasks n)
  where
    by_row : (o : Option Task)
        → Leaves p
        (record {
          count = p.count + 1;
          tree = p.tree;
          work = option_map_or
              (λ row. record p.work { tasks = p.work.tasks ++ retried_row n row ∷ [] }) o p.work;
        })
    by_row None = record {
      rows = λ m less. refl;
      owned = λ night group g less. refl;
      size = inl refl;
    }
    by_row (Some row) =
        task_more p
        (record {
          count = p.count + 1;
          tree = p.tree;
          work = record p.work { tasks = p.work.tasks ++ retried_row n row ∷ [] };
        }) (retried_row n row) refl refl refl refl

event_left : (p : State) (e : Event) → AreNumbered p → is_start e ≡ false
    → is_finish e ≡ false → is_restart e ≡ false → Leaves p (step p e)
event_left p (event.Derive name parent kind) numbered no_start no_finish no_restart =
    let new : Scope = tick (p.count + 1) p.tree.clock (new_scope name parent kind) in
    rows_more p (step p (event.Derive name parent kind)) numbered refl
    (night_pushed p (step p (event.Derive name parent kind)) new numbered.ordered refl)
    (λ g less. refl)
event_left p (event.Cancel s cause) numbered no_start no_finish no_restart =
    marks_left p (step p (event.Cancel s cause)) refl (cancel_keeps (p.count + 1) s cause p.tree)
    (same_groups p.work.groups)
event_left p (event.Advance moment) numbered no_start no_finish no_restart =
    marks_left p (step p (event.Advance moment)) refl (advance_keeps (p.count + 1) moment p.tree)
    (same_groups p.work.groups)
event_left p (event.Group name parent) numbered no_start no_finish no_restart =
    let scope : Scope = tick (p.count + 1) p.tree.clock (new_scope name parent kind.Group) in
    let group : Group = new_group name (length p.tree.scopes) false in
    rows_more p (step p (event.Group name parent)) numbered refl
    (night_pushed p (step p (event.Group name parent)) scope numbered.ordered refl)
    (slice_get-push_left p.work.groups group)
event_left p (event.Bare name s) numbered no_start no_finish no_restart =
    rows_more p (step p (event.Bare name s)) numbered refl (λ s less. refl)
    (slice_get-push_left p.work.groups (new_group name s true))
event_left p (event.SetLimit g limit) numbered no_start no_finish no_restart =
    marks_left p (step p (event.SetLimit g limit)) refl (same_scopes p.tree.scopes)
    (row_by_row unmarked p.work.groups (at_row (with_limit limit) g p.work.groups)
    (map-at_row unmarked (with_limit limit) g p.work.groups (λ row. refl)))
event_left p (event.Go g job argument) numbered no_start no_finish no_restart =
    task_more p (step p (event.Go g job argument)) (new_task g job argument None) refl refl refl
    refl
event_left p (event.TryGo g job argument) numbered no_start no_finish no_restart =
    task_more p (step p (event.TryGo g job argument)) (new_task g job argument None) refl refl refl
    refl
event_left p (event.Retry n) numbered no_start no_finish no_restart = retry_left p n
event_left p (event.Start n) numbered no_start no_finish no_restart = cc
event_left p (event.Finish n o) numbered no_start no_finish no_restart = cc
event_left p (event.Wait g) numbered no_start no_finish no_restart =
    marks_left p (step p (event.Wait g)) refl
    (group_end_keeps (p.count + 1) p.work g None p.tree)
    (row_by_row unmarked p.work.groups (at_row with_wait g p.work.groups)
    (map-at_row unmarked with_wait g p.work.groups (λ row. refl)))
event_left p event.Restart numbered no_start no_finish no_restart = cc

pub others_leave : OthersLeaveCommands
others_leave p e ended night group key numbered no_start no_finish no_restart =
    known_left p (step p e) numbered (event_left p e numbered no_start no_finish no_restart) ended
    night group key
