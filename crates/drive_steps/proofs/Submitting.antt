-- What is submitted is a task of its command, as the last row.
use Rattle.std.proofs.Common.{◌≡◌, ◌∙◌, ◌==◌, ◌&&◌, ℕ, Bool, true, false, cond, List, [], ◌∷◌}
use Rattle.std.proofs.Common.{◌++◌, Option, Some, None, codes, length, slice_get, IsSome}
use Rattle.std.proofs.Common.{ap, refl, sym}
use Rattle.std.proofs.lemmas.Bool.{eqb-true}
use Rattle.std.proofs.lemmas.Option.{none-some, same_Some, slice_get_within}
use Rattle.std.specs.Prelude.{unwrap_or}
use Rattle.std.specs.Option.{option_map, option_map_or}
use Rattle.std.specs.Str.{bytes_eq}
use Rattle.run_model.proofs.Common.{and_parts, bytes_eq-Decides}
use Rattle.run_model.specs.declared.commands.Command.{Command as Call}
use Rattle.run_model.specs.declared.commands.Command.TheVariants as call
use Rattle.run_model.specs.declared.groups.Group.{Group}
use Rattle.run_model.specs.declared.tasks.Stage.TheVariants.{Fresh}
use Rattle.run_model.specs.declared.tasks.Task.{Task}
use Rattle.run_model.specs.Event.{Event}
use Rattle.run_model.specs.Event as event
use Rattle.run_model.specs.Replies.{event_of, group_of, is_repeated}
use Rattle.run_model.specs.Rows.{new_task as new_row}
use Rattle.run_model.specs.Rules.{AreNumbered}
use Rattle.run_model.specs.State.{State, WorkState}
use Rattle.run_model.specs.Step.{step}
use Rattle.run_model.specs.WorkChanges.{retried_row}
use Rattle.model_laws.proofs.Names.{place_of_name}
use Rattle.model_laws.specs.Kinds.{is_finish, is_restart, is_start}
use Rattle.night_drive.specs.Names.{belongs, is_same, night_of}
use Rattle.night_drive.specs.Searches.{last_below}
use Rattle.night_drive.specs.Seen.{is_owned, is_try}
use Rattle.night_drive.specs.Tries.{counts}
use Rattle.night_drive.proofs.Searching.{last_passes}
use Rattle.night_drive.proofs.Staying.{unmarked}
use Rattle.drive_steps.specs.Rooms.{last_group, name_of}
use Rattle.drive_steps.specs.Starts.{can_retry, is_in, new_task, next_of, next_task}
use Rattle.drive_steps.proofs.Going.{Came, owned_goes, row_is, unstaged}

-- The call submits a task of this command, which becomes the last row. This is the event.
pub record Submits (q : State) (night : Option (List ℕ)) (group key : List ℕ) (asked : Call)
    (made : Event) : Type 0 where
  pub new : is_repeated q asked ≡ false
  pub asks : event_of q asked ≡ made
  pub row : Task
  pub fresh : row.stage ≡ Fresh
  pub own : row_is q night group key row ≡ true
  pub tasks : (step q made).work.tasks ≡ q.work.tasks ++ row ∷ []
  pub groups : (step q made).work.groups ≡ q.work.groups
  pub tree : (step q made).tree ≡ q.tree
  pub no_start : is_start made ≡ false
  pub no_finish : is_finish made ≡ false
  pub no_restart : is_restart made ≡ false

-- The event by which it does that.
pub record Submission (q : State) (night : Option (List ℕ)) (group key : List ℕ) (asked : Call)
    : Type 0 where
  pub made : Event
  pub submits : Submits q night group key asked made

-- ---- rows

-- There is a row of a group.
record FoundGroup (p : State) (g : ℕ) : Type 0 where
  row : Group
  found : slice_get p.work.groups g ≡ Some row

found_group : (p : State) (night : Option (List ℕ)) (group : List ℕ) (g : ℕ)
    → is_owned p night group g ≡ true → FoundGroup p g
found_group p night group g owned = by_row (slice_get p.work.groups g) refl owned
  where
    by_row : (o : Option Group) → slice_get p.work.groups g ≡ o
        → option_map_or (λ (row : Group). belongs group row.name
        && is_same (night_of p row.scope) night) o false ≡ true → FoundGroup p g
    by_row None found owned = cc
    by_row (Some row) found owned = record { row = row; found = found }

-- There is a row of a task.
record FoundTask (p : State) (n : ℕ) (test : Task → Bool) : Type 0 where
  row : Task
  found : slice_get p.work.tasks n ≡ Some row
  passes : test row ≡ true

found_task : (p : State) (n : ℕ) (test : Task → Bool)
    → option_map_or test (slice_get p.work.tasks n) false ≡ true → FoundTask p n test
found_task p n test holds = by_row (slice_get p.work.tasks n) refl holds
  where
    by_row : (o : Option Task) → slice_get p.work.tasks n ≡ o
        → option_map_or test o false ≡ true → FoundTask p n test
    by_row None found holds = cc
    by_row (Some row) found holds = record { row = row; found = found; passes = holds }

-- ---- a new task

-- A name is found at the group that has it.
named_so : (p q : State) → Came p q → AreNumbered q → (night : Option (List ℕ)) (group : List ℕ)
    (g : ℕ) → is_owned p night group g ≡ true → group_of q (name_of p g) ≡ g
named_so p q came numbered night group g owned =
    by_row (slice_get q.work.groups g) refl
    (came.groups g ∙ ap (option_map unmarked) at.found)
  where
    at : FoundGroup p g
    at = found_group p night group g owned

    by_row : (o : Option Group) → slice_get q.work.groups g ≡ o
        → option_map unmarked o ≡ Some (unmarked at.row) → group_of q (name_of p g) ≡ g
    by_row None found same = absurd (none-some (unmarked at.row) same)
    by_row (Some row) found same =
        let one : unmarked row ≡ unmarked at.row =
        same_Some (unmarked row) (unmarked at.row) same in
        let named : name_of p g ≡ row.name =
        ap (λ (o : Option Group). option_map_or (λ (x : Group). x.name) o []) at.found
        ∙ sym (ap (λ (x : Group). x.name) one) in
        ap (group_of q) named
        ∙ ap (λ (o : Option ℕ). unwrap_or o (length q.work.groups))
        (place_of_name (λ (x : Group). x.name) q.work.groups g row
        (λ m n a b one other same. numbered.group_names m n a b one other same) found)

go_submits : (p q : State) → Came p q → AreNumbered q → (night : Option (List ℕ))
    (group key : List ℕ) (g : ℕ) → is_owned p night group g ≡ true
    → Submission q night group key (new_task p g key)
go_submits p q goes numbered night group key g owned =
    let h : ℕ = group_of q (name_of p g) in
    let here : is_owned q night group h ≡ true =
    ap (is_owned q night group) (named_so p q goes numbered night group g owned)
    ∙ owned_goes p q goes night group g ∙ owned in
    record {
      made = event.Go h (codes "sh") key;
      submits = record {
        new = refl;
        asks = refl;
        row = new_row h (codes "sh") key None;
        fresh = refl;
        own = ap (λ b. b && is_owned q night group h) ((bytes_eq-Decides key key).1 refl) ∙ here;
        tasks = refl;
        groups = refl;
        tree = refl;
        no_start = refl;
        no_finish = refl;
        no_restart = refl;
      };
    }

-- ---- a retry

retry_submits : (p q : State) → Came p q → (night : Option (List ℕ)) (group key : List ℕ)
    (g n : ℕ) → is_owned p night group g ≡ true → is_in p g n ≡ true
    → is_try p night group key n ≡ true → Submission q night group key (call.Retry n)
retry_submits p q came night group key g n owned within tried =
    by_row (slice_get q.work.tasks n) refl
    (came.rows n (slice_get_within p.work.tasks n at.row at.found)
    ∙ ap (option_map unstaged) at.found)
  where
    at : FoundTask p n (λ task. task.group == g)
    at = found_task p n (λ task. task.group == g) within

    own : FoundTask p n (λ task. bytes_eq task.argument key
        && (counts task.stage && is_owned p night group task.group))
    own = found_task p n (λ task. bytes_eq task.argument key
        && (counts task.stage && is_owned p night group task.group)) tried

    same : at.row ≡ own.row
    same = cc (at.found, own.found)

    key_is : bytes_eq at.row.argument key ≡ true
    key_is =
        ap (λ (task : Task). bytes_eq task.argument key) same
        ∙ (and_parts (bytes_eq own.row.argument key)
        (counts own.row.stage && is_owned p night group own.row.group) own.passes).0

    here : is_owned q night group at.row.group ≡ true
    here =
        owned_goes p q came night group at.row.group
        ∙ ap (is_owned p night group) (eqb-true at.row.group g at.passes) ∙ owned

    retried : WorkState → Option Task → WorkState
    retried w o = option_map_or
        (λ (row : Task). record w { tasks = w.tasks ++ retried_row n row ∷ [] }) o w

    by_row : (o : Option Task) → slice_get q.work.tasks n ≡ o
        → option_map unstaged o ≡ Some (unstaged at.row)
        → Submission q night group key (call.Retry n)
    by_row None found alike = absurd (none-some (unstaged at.row) alike)
    by_row (Some row) found alike =
        let one : unstaged row ≡ unstaged at.row =
        same_Some (unstaged row) (unstaged at.row) alike in
        let new : retried_row n row ≡ retried_row n at.row = ap (retried_row n) one in
        record {
          made = event.Retry n;
          submits = record {
            new = refl;
            asks = refl;
            row = retried_row n at.row;
            fresh = refl;
            own = ap (λ b. b && is_owned q night group at.row.group) key_is ∙ here;
            tasks = ap (λ (o : Option Task). (retried q.work o).tasks) found
                ∙ ap (λ (x : Task). q.work.tasks ++ x ∷ []) new;
            groups = ap (λ (o : Option Task). (retried q.work o).groups) found;
            tree = refl;
            no_start = refl;
            no_finish = refl;
            no_restart = refl;
          };
        }

-- ---- the next task of a command

pub next_submits : (p q : State) → Came p q → AreNumbered q → (night : Option (List ℕ))
    (group key : List ℕ) → IsSome (last_group p night group)
    → Submission q night group key (next_of p night group key)
next_submits p q goes numbered night group key housed =
    by_group (last_group p night group) refl housed
  where
    by_try : (g : ℕ) → is_owned p night group g ≡ true → (o : Option ℕ)
        → last_below (is_try p night group key) (length p.work.tasks) ≡ o
        → Submission q night group key (next_task p g key o)
    by_try g owned None last = go_submits p q goes numbered night group key g owned
    by_try g owned (Some n) last = by_retry (can_retry p g n) refl
      where
        by_retry : (b : Bool) → can_retry p g n ≡ b
            → Submission q night group key (cond b (call.Retry n) (new_task p g key))
        by_retry true can =
            retry_submits p q goes night group key g n owned (and_parts _ (is_in p g n) can).1
            (last_passes (is_try p night group key) (length p.work.tasks) n last)
        by_retry false can = go_submits p q goes numbered night group key g owned

    by_group : (o : Option ℕ) → last_group p night group ≡ o → IsSome o
        → Submission q night group key (next_task p (unwrap_or o 0) key
        (last_below (is_try p night group key) (length p.work.tasks)))
    by_group None is there = cc
    by_group (Some g) is there =
        by_try g (last_passes (is_owned p night group) (length p.work.groups) g is)
        (last_below (is_try p night group key) (length p.work.tasks)) refl
