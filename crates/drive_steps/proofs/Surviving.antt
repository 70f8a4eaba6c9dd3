-- The tries that live between two rounds, after a round as before.
use Rattle.std.proofs.Common.{◌≡◌, ◌<◌, ◌≤◌, ◌∙◌, ◌==◌, ◌&&◌, ◌||◌, ◌⊎◌, ◌-◌, ℕ, zero, suc, not}
use Rattle.std.proofs.Common.{Bool, true}
use Rattle.std.proofs.Common.{false, cond, List, [], ◌∷◌, ◌++◌, Option, Some, None, length, filter}
use Rattle.std.proofs.Common.{slice_get, slice_index_or}
use Rattle.std.proofs.Common.{ap, refl, sym, subst, inl, inr, arith}
use Rattle.std.proofs.lemmas.Bool.{cases_eq, cases_lt, eq-eqb, eqb-true, false≢true, ne_eqb}
use Rattle.std.proofs.lemmas.List.Elements.{All-append, All-contains, All-filter}
use Rattle.std.proofs.lemmas.List.Elements.{Contains-append_left, Contains-append_right}
use Rattle.std.proofs.lemmas.List.Elements.{filter_passes}
use Rattle.std.proofs.lemmas.Option.{get_or_from_slice_get, same_Some, slice_get-map}
use Rattle.std.proofs.lemmas.Option.{slice_get_within}
use Rattle.std.specs.List.{Contains}
use Rattle.std.specs.Option.{option_map, option_map_or}
use Rattle.std.specs.Str.{bytes_eq}
use Rattle.run_model.proofs.Common.{and_parts}
use Rattle.run_model.specs.declared.tasks.Stage.{Stage}
use Rattle.run_model.specs.declared.tasks.Stage.TheVariants as stage
use Rattle.run_model.specs.declared.tasks.Task.{Task}
use Rattle.run_model.specs.Event as event
use Rattle.run_model.specs.Session.{Session, session_after}
use Rattle.run_model.specs.State.{State}
use Rattle.run_model.specs.Step as change
use Rattle.run_model.specs.Step.{own_scope}
use Rattle.run_model.specs.Tasks.{has_stage, is_running}
use Rattle.run_model.specs.WorkChanges.{group_of_task, stage_of}
use Rattle.night_plan.proofs.Ordering.{not_before}
use Rattle.night_plan.proofs.Rows.{all_from_contains, at_is, at_there, row_at}
use Rattle.night_plan.specs.Choices.{IsChosen, comes_before}
use Rattle.night_plan.specs.declared.commands.Command.{Command}
use Rattle.night_plan.specs.declared.commands.Plan.{Plan}
use Rattle.night_plan.specs.declared.facts.Known.{Known}
use Rattle.night_plan.specs.declared.facts.Phase.TheVariants.{Fresh}
use Rattle.night_plan.specs.Nights.{IsReady, Night, is_busy, is_ok, runs}
use Rattle.night_drive.specs.declared.ends.Ends.{Ends}
use Rattle.night_drive.specs.declared.names.Names.{Names}
use Rattle.night_drive.specs.PlanTurns.{IsOfCommand, night_in}
use Rattle.night_drive.specs.Searches.{last_below}
use Rattle.night_drive.specs.Seen.{AreNames, IsCalled, is_owned, is_try, known_of, moment_of}
use Rattle.night_drive.specs.Seen.{phase_after}
use Rattle.night_drive.specs.Tries.{counts, phase_by}
use Rattle.night_drive.specs.Turns.{is_task}
use Rattle.night_drive.proofs.Playing.{known_shown}
use Rattle.night_drive.proofs.Searching.{last_is}
use Rattle.night_drive.proofs.Turning.{HasRowAt, row_at as staged_at, try_is}
use Rattle.drive_steps.specs.declared.heard.Ended.{Ended}
use Rattle.drive_steps.specs.declared.reported.Begun.{Begun}
use Rattle.drive_steps.specs.Heard.{AreEnds, has_ended}
use Rattle.drive_steps.specs.Living.{AreBareRooms, AreLiving, IsLiving, TheirEndsAreEnds}
use Rattle.drive_steps.specs.Rows.{AreDifferent, Reports}
use Rattle.drive_steps.specs.Starts.{group_of, key_of, row_of}
use Rattle.drive_steps.proofs.Going.{Goes, stage_goes, task_goes}
use Rattle.drive_steps.proofs.Playing.{Called, Played, all_of, call_of, contains_there}
use Rattle.drive_steps.proofs.Playing.{past_is_no_try, reported_so, reports_last_tries}
use Rattle.drive_steps.proofs.Remaining.{AfterEnds, end_leaves, run_counts}

-- ---- lists

pub contains_cases : {X : Type 0} (x y : X) (xs : List X) → Contains (x ∷ xs) y
    → (x ≡ y) ⊎ Contains xs y
contains_cases x y xs (zero, less, is) = inl is
contains_cases x y xs (suc k, less, is) = inr (k, omega (arith, less), is)

-- What passes a test is listed among what passes it.
contains_kept : {X : Type 0} (test : X → Bool) (xs : List X) (x : X) → test x ≡ true
    → Contains xs x → Contains (filter test xs) x
contains_kept test [] x passes (k, less, is) = absurd (omega (arith, less))
contains_kept {X = X} test (y ∷ xs) x passes has =
    by_test (test y) refl (contains_cases y x xs has)
    (λ more. contains_kept test xs x passes more)
  where
    by_test : (b : Bool) → test y ≡ b → (y ≡ x) ⊎ Contains xs x
        → (Contains xs x → Contains (filter test xs) x)
        → Contains (cond b (y ∷ filter test xs) (filter test xs)) x
    by_test true is (inl same) later = (zero, omega arith, same)
    by_test true is (inr more) later = contains_there (filter test xs) y x (later more)
    by_test false is (inl same) later =
        absurd (false≢true (sym is ∙ ap test same ∙ passes))
    by_test false is (inr more) later = later more

pub listed_at : {X : Type 0} (xs : List X) (i : ℕ) (x : X) → slice_get xs i ≡ Some x
    → Contains xs x
listed_at xs i x at = (i, slice_get_within xs i x at, get_or_from_slice_get xs i x x at)

not_true : (b : Bool) → not b ≡ true → b ≡ false
not_true true is = cc
not_true false is = refl

fewer : (a b c : Bool) → (c ≡ true → b ≡ true) → (a && b) ≡ false → (a && c) ≡ false
fewer false b c more none = refl
fewer true b false more none = refl
fewer true b true more none = absurd (false≢true (sym none ∙ more refl))

-- ---- one try

living_stays : (p q : State) (names : Names) (commands : List Command) (try : Begun)
    → IsLiving p names commands try → has_stage is_running q.work try.task ≡ true
    → ((group key : List ℕ) → is_task q names.night group key try.task
    ≡ is_task p names.night group key try.task)
    → ((d : ℕ) (command : Command) (group key : List ℕ)
    → IsCalled names commands d command group key
    → is_task p names.night group key try.task ≡ true → (m : ℕ) → try.task < m
    → is_try p names.night group key m ≡ false → is_try q names.night group key m ≡ false)
    → IsLiving q names commands try
living_stays p q names commands try lives runs own later = record {
  within = lives.within;
  runs = runs;
  of = record {
    only = λ d command group key called.
        own group key ∙ lives.of.only d command group key called;
    last = λ d command group key called its m after.
        later d command group key called (sym (own group key) ∙ its) m after
        (lives.of.last d command group key called (sym (own group key) ∙ its) m after);
  };
}

-- A try that hasn't ended lives on.
pub lives_on : (p q : State) (names : Names) (commands : List Command) (heard : List Ended)
    (try : Begun) → AfterEnds p q heard → has_ended heard try.task ≡ false
    → IsLiving p names commands try → IsLiving q names commands try
lives_on p q names commands heard try after not lives =
    living_stays p q names commands try lives
    (ap (λ x. option_map_or (λ (task : Task). is_running task.stage) x false)
    (after.others try.task not) ∙ lives.runs)
    (λ group key. after.own names.night group key try.task)
    (λ d command group key called its m less none.
    try_is q names.night group key m
    ∙ ap (λ b. b && has_stage counts q.work m) (after.own names.night group key m)
    ∙ fewer (is_task p names.night group key m) (has_stage counts p.work m)
    (has_stage counts q.work m) (after.tried m) (sym (try_is p names.night group key m) ∙ none))

own_task : (p : State) (plan : Plan) (names : Names) (try : Begun)
    → IsLiving p names plan.commands.items try → (command : Command) (group key : List ℕ)
    → IsCalled names plan.commands.items try.command command group key
    → is_task p names.night group key try.task ≡ true
own_task p plan names try lives command group key called =
    lives.of.only try.command command group key called
    ∙ eq-eqb try.command try.command refl

-- The group of its task is bare.
pub bare_at : (p : State) (plan : Plan) (names : Names) (try : Begun) → AreNames plan names
    → AreBareRooms p names → IsLiving p names plan.commands.items try
    → own_scope p.work (group_of_task p.work try.task) ≡ None
bare_at p plan names try are bare lives =
    by_row (slice_get p.work.tasks try.task) refl
    (own_task p plan names try lives it.command _ _ it.called)
  where
    it : Called plan names try.command
    it = call_of plan names are try.command lives.within

    by_row : (o : Option Task) → slice_get p.work.tasks try.task ≡ o
        → option_map_or (λ (task : Task).
        bytes_eq task.argument (key_of names try.command)
        && is_owned p names.night (group_of names plan.commands.items try.command) task.group) o
        false ≡ true
        → own_scope p.work (option_map_or (λ (task : Task). task.group) o (length p.work.groups))
        ≡ None
    by_row None found own = cc
    by_row (Some task) found own =
        bare it.command.group task.group (group_of names plan.commands.items try.command)
        it.called.group_is
        (and_parts (bytes_eq task.argument (key_of names try.command))
        (is_owned p names.night (group_of names plan.commands.items try.command) task.group)
        own).1

pub bare_stays : (p q : State) (names : Names) (heard : List Ended) → AfterEnds p q heard
    → AreBareRooms p names → AreBareRooms q names
bare_stays p q names heard after bare g h group at owned =
    after.bare h ∙ bare g h group at (sym (after.owned names.night group h) ∙ owned)

-- ---- the ends of living tries

their_ends : (row : List (Ended × ℕ)) (p : State) (plan : Plan) (names : Names)
    → AreNames plan names → AreBareRooms p names
    → ((i : ℕ) (part : Ended × ℕ) → slice_get row i ≡ Some part
    → IsLiving p names plan.commands.items (record { command = part.1; task = part.0.task }))
    → ((i : ℕ) (part : Ended × ℕ) → slice_get row i ≡ Some part
    → counts (stage_of part.0.outcome) ≡ true)
    → ((i j : ℕ) (a b : Ended × ℕ) → slice_get row i ≡ Some a → slice_get row j ≡ Some b
    → a.0.task ≡ b.0.task → i ≡ j) → AreEnds p names plan.commands.items row
their_ends [] p plan names are bare lives counted once = tt
their_ends ((end, c) ∷ row) p plan names are bare lives counted once =
    let first : IsLiving p names plan.commands.items (record { command = c; task = end.task }) =
    lives zero (end, c) refl in
    let q : State = change.step p (event.Finish end.task end.outcome) in
    let after : AfterEnds p q (end ∷ []) = end_leaves p end first.runs in (
      record {
        runs = first.runs;
        counted = counted zero (end, c) refl;
        bare = bare_at p plan names (record { command = c; task = end.task }) are bare first;
        of = first.of;
      },
      their_ends row q plan names are (bare_stays p q names (end ∷ []) after bare)
          (λ i part at. lives_on p q names plan.commands.items (end ∷ [])
          (record { command = part.1; task = part.0.task }) after
          (apart i part at) (lives (suc i) part at))
          (λ i part at. counted (suc i) part at)
          (λ i j a b at there same.
          let next : suc i ≡ suc j = once (suc i) (suc j) a b at there same in
          omega (arith, next)),
    )
  where
    apart : (i : ℕ) (part : Ended × ℕ) → slice_get row i ≡ Some part
        → has_ended (end ∷ []) part.0.task ≡ false
    apart i part at =
        ap (λ b. b || false) (ne_eqb end.task part.0.task (λ same.
        let none : zero ≡ suc i = once zero (suc i) (end, c) part refl at same in
        absurd (omega (arith, none))))

pub their_ends_are_ends : TheirEndsAreEnds
their_ends_are_ends p plan names living row between theirs =
    their_ends row p plan names between.rest.named between.bare
    (λ i part at. All-contains (IsLiving p names plan.commands.items) living
    (record { command = part.1; task = part.0.task }) between.lives.each
    (theirs.lived i part at)) theirs.counted theirs.once

-- ---- those that haven't ended

pub left_living : (p q : State) (names : Names) (commands : List Command) (living : List Begun)
    (heard : List Ended) → AfterEnds p q heard → AreLiving p names commands living
    → AreLiving q names commands
    (filter (λ (try : Begun). not (has_ended heard try.task)) living)
left_living p q names commands living heard after was = record {
  each = all_from_contains (IsLiving q names commands) kept (λ try listed.
      lives_on p q names commands heard try after
      (not_true (has_ended heard try.task) (All-contains (λ (x : Begun). test x ≡ true) kept try
      (filter_passes test living) listed))
      (All-contains (IsLiving p names commands) kept try
      (All-filter test (IsLiving p names commands) living was.each) listed));
  every = λ c n command group key called its runs.
      by_ended c n command group key called its runs (has_ended heard n) refl;
}
  where
    test : Begun → Bool
    test try = not (has_ended heard try.task)

    kept : List Begun
    kept = filter test living

    by_ended : (c n : ℕ) (command : Command) (group key : List ℕ)
        → IsCalled names commands c command group key
        → is_task q names.night group key n ≡ true → has_stage is_running q.work n ≡ true
        → (b : Bool) → has_ended heard n ≡ b
        → Contains kept (record { command = c; task = n })
    by_ended c n command group key called its runs true is =
        absurd (false≢true (sym (after.ended n is) ∙ runs))
    by_ended c n command group key called its runs false is =
        contains_kept test living (record { command = c; task = n }) (ap not is)
        (was.every c n command group key called (sym (after.own names.night group key n) ∙ its)
        (sym (ap (λ x. option_map_or (λ (task : Task). is_running task.stage) x false)
        (after.others n is)) ∙ runs))

-- ---- a living try is busy

busy_by : (s : Stage) (m : ℕ) → is_running s ≡ true → is_busy (phase_by m s) ≡ true
busy_by stage.Fresh m is = cc
busy_by stage.Running m is = refl
busy_by stage.Success m is = cc
busy_by (stage.Failure text) m is = cc
busy_by stage.Interrupted m is = cc

-- It is the last try of its command.
pub own_last : (p : State) (plan : Plan) (names : Names) (try : Begun) → AreNames plan names
    → IsLiving p names plan.commands.items try
    → last_below (is_try p names.night (group_of names plan.commands.items try.command)
    (key_of names try.command)) (length p.work.tasks) ≡ Some try.task
own_last p plan names try are lives =
    last_is (is_try p names.night group key) (length p.work.tasks) try.task
    (slice_get_within p.work.tasks try.task row.row row.found)
    (try_is p names.night group key try.task
    ∙ ap (λ b. b && has_stage counts p.work try.task) own
    ∙ run_counts p try.task lives.runs)
    (λ m after. lives.of.last try.command it.command group key it.called own m after)
  where
    it : Called plan names try.command
    it = call_of plan names are try.command lives.within

    group : List ℕ
    group = group_of names plan.commands.items try.command

    key : List ℕ
    key = key_of names try.command

    row : HasRowAt p try.task is_running
    row = staged_at p try.task is_running lives.runs

    own : is_task p names.night group key try.task ≡ true
    own = own_task p plan names try lives it.command group key it.called

pub lives_busy : (p : State) (ends : Ends) (plan : Plan) (names : Names) (try : Begun)
    → AreNames plan names → IsLiving p names plan.commands.items try
    → runs (night_in p ends plan names) try.command ≡ true
lives_busy p ends plan names try are lives =
    at_is (night_in p ends plan names) c it.command known it.called.is
    (known_shown p ends names plan.commands.items names.keys.items c it.command group key
    it.called.is it.called.key_is it.called.group_is) (λ command fact. is_busy fact.phase)
    ∙ ap (λ o. is_busy (phase_after p (moment_of ends) o)) (own_last p plan names try are lives)
    ∙ ap (λ o. is_busy (option_map_or (λ (task : Task). phase_by (moment_of ends n) task.stage) o
    Fresh)) row.found
    ∙ busy_by row.row.stage (moment_of ends n) row.passes
  where
    c : ℕ
    c = try.command

    n : ℕ
    n = try.task

    it : Called plan names c
    it = call_of plan names are c lives.within

    group : List ℕ
    group = group_of names plan.commands.items c

    key : List ℕ
    key = key_of names c

    known : Known
    known = known_of p (moment_of ends) names.night group key

    row : HasRowAt p n is_running
    row = staged_at p n is_running lives.runs

-- So a command that is chosen isn't that of a living try.
pub none_twice : (p : State) (ends : Ends) (plan : Plan) (names : Names) (sizes chosen : List ℕ)
    (now : ℕ) → AreNames plan names → IsChosen (night_in p ends plan names) now sizes chosen
    → (try : Begun) → IsLiving p names plan.commands.items try → Contains chosen try.command
    → ⊥
none_twice p ends plan names sizes chosen now are is try lives listed =
    let n : Night = night_in p ends plan names in
    let ready = All-contains (IsReady n now) chosen try.command is.ready listed in
    let idle = at_there n try.command
    (λ command fact. not (is_busy fact.phase) && not (is_ok fact.phase)) ready.may.idle in
    let busy = at_there n try.command (λ command fact. is_busy fact.phase)
    (lives_busy p ends plan names try are lives) in
    let same : idle.1 ≡ busy.1 = same_Some idle.1 busy.1 (sym idle.3 ∙ busy.3) in
    let yes : is_busy idle.1.phase ≡ true =
    ap (λ (k : Known). is_busy k.phase) same ∙ busy.4 in
    false≢true (sym (ap (λ b. not b && not (is_ok idle.1.phase)) yes) ∙ idle.4)

-- And no command is chosen twice.
pub chosen_differ : (n : Night) (now : ℕ) (sizes chosen : List ℕ) → IsChosen n now sizes chosen
    → AreDifferent chosen
chosen_differ n now sizes chosen is i j c at there = elim (cases_lt i j) [
  | inl less ↦ absurd (clash i j less at there)
  | inr more ↦ elim (cases_eq i j) [
    | inl same ↦ same
    | inr other ↦ absurd (clash j i (omega (arith, more, other)) there at)
  ]
]
  where
    clash : (a b : ℕ) → a < b → slice_get chosen a ≡ Some c → slice_get chosen b ≡ Some c → ⊥
    clash a b less one other =
        let first : comes_before n c c ≡ true =
        subst (λ x. comes_before n x c ≡ true) (get_or_from_slice_get chosen a c 0 one)
        (subst (λ x. comes_before n (slice_index_or chosen a 0) x ≡ true)
        (get_or_from_slice_get chosen b c 0 other)
        (is.order a b less (slice_get_within chosen b c other))) in
        false≢true (sym (not_before n c c first) ∙ first)

-- ---- where tasks are added

-- Task m is new, and belongs to a command none of whose tries lives.
pub record IsNew (end : State) (names : Names) (commands : List Command) (living : List Begun)
    (m : ℕ) : Type 0 where
  pub command : ℕ
  pub own : (d : ℕ) (row : Command) (group key : List ℕ) → IsCalled names commands d row group key
      → is_task end names.night group key m ≡ (command == d)
  pub free : (try : Begun) → Contains living try → try.command ≡ command → ⊥

pub grown_lives : (p end : State) (names : Names) (commands : List Command)
    (living : List Begun) → Goes p end
    → ((m : ℕ) → length p.work.tasks ≤ m → m < length end.work.tasks
    → IsNew end names commands living m)
    → (try : Begun) → Contains living try → IsLiving p names commands try
    → IsLiving end names commands try
grown_lives p end names commands living goes new try listed lives =
    living_stays p end names commands try lives
    (stage_goes p end goes is_running try.task below ∙ lives.runs)
    (λ group key. task_goes p end goes names.night group key try.task below) later
  where
    row : HasRowAt p try.task is_running
    row = staged_at p try.task is_running lives.runs

    below : try.task < length p.work.tasks
    below = slice_get_within p.work.tasks try.task row.row row.found

    later : (d : ℕ) (command : Command) (group key : List ℕ)
        → IsCalled names commands d command group key
        → is_task p names.night group key try.task ≡ true → (m : ℕ) → try.task < m
        → is_try p names.night group key m ≡ false
        → is_try end names.night group key m ≡ false
    later d command group key called its m less none =
        elim (cases_lt m (length p.work.tasks)) [
          | inl before ↦
              try_is end names.night group key m
              ∙ ap (λ b. b && has_stage counts end.work m)
              (task_goes p end goes names.night group key m before)
              ∙ ap (λ b. is_task p names.night group key m && b)
              (stage_goes p end goes counts m before)
              ∙ sym (try_is p names.night group key m) ∙ none
          | inr past ↦ elim (cases_lt m (length end.work.tasks)) [
            | inl within ↦ by_new (new m past within)
            | inr beyond ↦
                past_is_no_try end names.night group key (length end.work.tasks) refl m beyond
          ]
        ]
      where
        other : (n : IsNew end names commands living m) → (b : Bool) → (n.command == d) ≡ b
            → b ≡ false
        other n false is = refl
        other n true is =
            let one : n.command ≡ d = eqb-true n.command d is in
            let two : try.command ≡ d = eqb-true try.command d
            (sym (lives.of.only d command group key called) ∙ its) in
            absurd (n.free try listed (two ∙ sym one))

        by_new : IsNew end names commands living m → is_try end names.night group key m ≡ false
        by_new n =
            try_is end names.night group key m
            ∙ ap (λ b. b && has_stage counts end.work m)
            (n.own d command group key called ∙ other n (n.command == d) refl)

-- ---- those that have begun

pub row_living : (s : Session) (plan : Plan) (names : Names) (living : List Begun)
    (chosen : List ℕ) (begun : List Begun) → Reports s plan names chosen begun
    → AreDifferent chosen
    → ((try : Begun) → Contains living try → Contains chosen try.command → ⊥)
    → AreLiving s.state names plan.commands.items living
    → AreLiving (session_after s (row_of s.state names plan.commands.items chosen)).state names
    plan.commands.items (living ++ begun)
row_living s plan names living chosen begun reports different free was = record {
  each = All-append (IsLiving end names commands) living begun
      (all_from_contains (IsLiving end names commands) living (λ try listed.
      grown_lives p end names commands living it.goes (λ m past within. is_new (made_at m past
      within)) try listed
      (All-contains (IsLiving p names commands) living try was.each listed)))
      (all_of (IsLiving end names commands) begun new);
  every = every;
}
  where
    commands : List Command
    commands = plan.commands.items

    p : State
    p = s.state

    end : State
    end = (session_after s (row_of s.state names plan.commands.items chosen)).state

    it : Played plan names s (row_of s.state names plan.commands.items chosen) chosen begun
    it = reported_so s plan names chosen begun reports

    -- The begin of a task that wasn't there before.
    Made : ℕ → Type 0
    Made n = (j : ℕ) × (begin : Begun) × (slice_get begun j ≡ Some begin) × (begin.task ≡ n)

    made_at : (n : ℕ) → length p.work.tasks ≤ n → n < length end.work.tasks → Made n
    made_at n past within =
        let j : ℕ = n - length p.work.tasks in
        let other = row_at begun j (omega (arith, within, past, it.more)) in
        (j, other.0, other.1, it.numbers j other.0 other.1 ∙ omega (arith, past))

    chosen_for : (j : ℕ) (begin : Begun) → slice_get begun j ≡ Some begin
        → Contains chosen begin.command
    chosen_for j begin at =
        listed_at chosen j begin.command
        (ap (λ (xs : List ℕ). slice_get xs j) (sym it.commands)
        ∙ slice_get-map (λ (x : Begun). x.command) begun j
        ∙ ap (option_map (λ (x : Begun). x.command)) at)

    is_new : {m : ℕ} → Made m → IsNew end names commands living m
    is_new (j, begin, at, number) = record {
      command = begin.command;
      own = λ d command group key called.
          ap (is_task end names.night group key) (sym number)
          ∙ (it.right j begin at).own d command group key called;
      free = λ try listed same.
          free try listed
          (subst (λ (x : ℕ). Contains chosen x) (sym same) (chosen_for j begin at));
    }

    new : (i : ℕ) (begin : Begun) → slice_get begun i ≡ Some begin
        → IsLiving end names commands begin
    new i begin at = record {
      within = All-contains (λ (c : ℕ). c < length commands) chosen begin.command reports.within
          (chosen_for i begin at);
      runs = (it.right i begin at).runs;
      of = All-contains
          (λ (x : Begun). IsOfCommand end names commands x.task x.command) begun begin
          (reports_last_tries s plan names chosen begun reports different)
          (listed_at begun i begin at);
    }

    every : (c n : ℕ) (command : Command) (group key : List ℕ)
        → IsCalled names commands c command group key
        → is_task end names.night group key n ≡ true → has_stage is_running end.work n ≡ true
        → Contains (living ++ begun) (record { command = c; task = n })
    every c n command group key called its runs = elim (cases_lt n (length p.work.tasks)) [
      | inl before ↦
          Contains-append_left living begun (record { command = c; task = n })
          (was.every c n command group key called
          (sym (task_goes p end it.goes names.night group key n before) ∙ its)
          (sym (stage_goes p end it.goes is_running n before) ∙ runs))
      | inr past ↦
          Contains-append_right living begun (record { command = c; task = n })
          (by_made (made_at n past within))
    ]
      where
        row : HasRowAt end n is_running
        row = staged_at end n is_running runs

        within : n < length end.work.tasks
        within = slice_get_within end.work.tasks n row.row row.found

        by_made : Made n → Contains begun (record { command = c; task = n })
        by_made (j, begin, at, number) =
            let own : begin.command ≡ c =
            eqb-true begin.command c (sym ((it.right j begin at).own c command group key called)
            ∙ ap (is_task end names.night group key) number ∙ its) in
            subst (λ (x : ℕ). Contains begun (record { command = x; task = n })) own
            (subst (λ (x : ℕ). Contains begun (record { command = begin.command; task = x })) number
            (listed_at begun j begin at))
