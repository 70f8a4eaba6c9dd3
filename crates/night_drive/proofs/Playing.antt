-- The night that a store shows after an event is the one after turns.
use Rattle.std.proofs.Common.{◌≡◌, ◌<◌, ◌∙◌, ◌==◌, ◌&&◌, ◌||◌, ℕ, zero, suc, ◌+◌, Bool, true}
use Rattle.std.proofs.Common.{false, cond, List, [], ◌∷◌, ◌++◌, map, length, Option, Some, None}
use Rattle.std.proofs.Common.{codes}
use Rattle.std.proofs.Common.{slice_get, set, fold, inl, inr, refl, sym, ap, arith}
use Rattle.std.proofs.Math.Bool.{or-false, or-true}
use Rattle.std.proofs.lemmas.Bool.{cases_eq, cases_lt, eq-eqb, ne_eqb}
use Rattle.std.proofs.lemmas.List.{length-map, length-set}
use Rattle.std.proofs.lemmas.List.Folds.{list_any-append}
use Rattle.std.proofs.lemmas.Option.{none-some, same_Some, slice_get-map, slice_get_past}
use Rattle.std.proofs.lemmas.Option.{slice_get_within}
use Rattle.std.specs.List.{filter_map}
use Rattle.std.specs.Option.{option_map, option_map_or}
use Rattle.std.specs.Prelude.{unwrap_or}
use Rattle.run_model.specs.Allowed.{takes_cause}
use Rattle.run_model.specs.declared.tasks.Outcome.{Outcome}
use Rattle.run_model.specs.declared.tasks.Outcome.TheVariants as outcome
use Rattle.run_model.specs.declared.tasks.Stage.TheVariants as stage
use Rattle.run_model.specs.Event.{Event}
use Rattle.run_model.specs.Event as event
use Rattle.run_model.specs.Scopes.{is_done}
use Rattle.run_model.specs.State.{State, TreeState, WorkState}
use Rattle.run_model.specs.Step.{after_task_end, own_scope, step}
use Rattle.run_model.specs.Tasks.{running_tasks}
use Rattle.run_model.specs.TreeChanges.{after_cancel}
use Rattle.run_model.specs.WorkChanges.{group_of_task, interruption}
use Rattle.model_laws.proofs.Folds.{same_rows}
use Rattle.model_laws.proofs.Interrupts.{group_of_task_stays, restarted}
use Rattle.night_plan.proofs.Lasting.{turned_at}
use Rattle.night_plan.proofs.Rows.{get_set_other, get_set_same, row_at}
use Rattle.night_plan.specs.declared.commands.Command.{Command}
use Rattle.night_plan.specs.declared.commands.Plan.{Plan}
use Rattle.night_plan.specs.declared.facts.Known.{Known}
use Rattle.night_plan.specs.declared.facts.Phase.TheVariants.{Busy}
use Rattle.night_plan.specs.Nights.{Night}
use Rattle.night_plan.specs.Sessions.{after_all}
use Rattle.night_plan.specs.Turns.{Turn, after as after_turn, Begin, Cut, Fail, Stop, all_turned}
use Rattle.night_plan.specs.Turns.{done_after, is_among, turned}
use Rattle.night_drive.specs.declared.ends.Ends.{Ends}
use Rattle.night_drive.specs.declared.names.Names.{Names}
use Rattle.night_drive.specs.Names.{belongs, is_same, night_of}
use Rattle.night_drive.specs.Openings.{interrupted}
use Rattle.night_drive.specs.PlanTurns.{AdvancesAreTurns, AreBare, CancelsAreTurns}
use Rattle.night_drive.specs.PlanTurns.{DerivesAreNoTurns, FailuresAreTurns, OpeningsReopen}
use Rattle.night_drive.specs.PlanTurns.{FinishesAreTurns, OthersAreNoTurns}
use Rattle.night_drive.specs.PlanTurns.{BeginsJoin, RowsAreOneTurn, SeenIsShown, StartsAreTurns}
use Rattle.night_drive.specs.PlanTurns.{WithdrawalsAreNoTurns, known_in, night_in}
use Rattle.night_drive.specs.Seen.{AreNames, IsCalled, is_over, known_of, moment_of}
use Rattle.night_drive.specs.Tries.{is_cancel}
use Rattle.night_drive.specs.Turns.{end_of}
use Rattle.night_drive.proofs.Deriving.{derives_stand_last, finishes_stop}
use Rattle.night_drive.proofs.Finishing.{finish_ends}
use Rattle.night_drive.proofs.Hitting.{advance_stops, bare_finishes, cancel_stops}
use Rattle.night_drive.proofs.Hitting.{others_leave_groups}
use Rattle.night_drive.proofs.Leaving.{others_leave}
use Rattle.night_drive.proofs.Opening.{known_reopened}
use Rattle.night_drive.proofs.Starting.{start_begins}
use Rattle.night_drive.proofs.Withdrawing.{withdrawal_leaves}

-- ---- each command and each group has a name

-- Command c, and how it is called.
record Called (plan : Plan) (names : Names) (c : ℕ) : Type 0 where
  pub command : Command
  pub group : List ℕ
  pub key : List ℕ
  pub called : IsCalled names plan.commands.items c command group key

named : (plan : Plan) (names : Names) → AreNames plan names → (c : ℕ)
    → c < length plan.commands.items → Called plan names c
named plan names are c less =
    let command = row_at plan.commands.items c less in
    let own : command.0.group < length plan.groups.items =
    plan.sound.own c command.0 command.1 in
    let group = row_at names.groups.items command.0.group (omega (arith, own, are.groups)) in
    let key = row_at names.keys.items c (omega (arith, less, are.keys)) in
    record {
      command = command.0;
      group = group.0;
      key = key.0;
      called = record { is = command.1; group_is = group.1; key_is = key.1 };
    }

length-all_turned : (t : Turn) (i : ℕ) (known : List Known)
    → length (all_turned t i known) ≡ length known
length-all_turned t i [] = refl
length-all_turned t i (k ∷ known) = ap suc (length-all_turned t (i + 1) known)

-- Lists of one length that agree at each number below it are the same.
same_below : {X : Type 0} (xs ys : List X) (n : ℕ) → length xs ≡ n → length ys ≡ n
    → ((m : ℕ) → m < n → slice_get xs m ≡ slice_get ys m) → xs ≡ ys
same_below xs ys n one other same = same_rows xs ys at
  where
    at : (m : ℕ) → slice_get xs m ≡ slice_get ys m
    at m = elim (cases_lt m n) [
      | inl less ↦ same m less
      | inr more ↦
          slice_get_past xs m (omega (arith, more, one))
          ∙ sym (slice_get_past ys m (omega (arith, more, other)))
    ]

-- ---- what is known of all commands

pub known_shown : (p : State) (ends : Ends) (names : Names) (commands : List Command)
    (keys : List (List ℕ)) (c : ℕ) (command : Command) (group key : List ℕ)
    → slice_get commands c ≡ Some command → slice_get keys c ≡ Some key
    → slice_get names.groups.items command.group ≡ Some group
    → slice_get (known_in p ends names commands keys) c
    ≡ Some (known_of p (moment_of ends) names.night group key)
known_shown p ends names [] keys c command group key is keyed of = absurd (none-some command is)
known_shown p ends names (x ∷ commands) [] c command group key is keyed of =
    absurd (none-some key keyed)
known_shown p ends names (x ∷ commands) (y ∷ keys) zero command group key is keyed of =
    let one : x ≡ command = same_Some x command is in
    let two : y ≡ key = same_Some y key keyed in
    ap (λ (z : Command). Some (known_of p (moment_of ends) names.night
    (unwrap_or (slice_get names.groups.items z.group) []) y)) one
    ∙ ap (λ o. Some (known_of p (moment_of ends) names.night (unwrap_or o []) y)) of
    ∙ ap (λ z. Some (known_of p (moment_of ends) names.night group z)) two
known_shown p ends names (x ∷ commands) (y ∷ keys) (suc c) command group key is keyed of =
    known_shown p ends names commands keys c command group key is keyed of

shown : (p : State) (ends : Ends) (plan : Plan) (names : Names) (c : ℕ) (it : Called plan names c)
    → slice_get (night_in p ends plan names).known c
    ≡ Some (known_of p (moment_of ends) names.night it.group it.key)
shown p ends plan names c it =
    known_shown p ends names plan.commands.items names.keys.items c it.command it.group it.key
    it.called.is it.called.key_is it.called.group_is

length-known_in : (p : State) (ends : Ends) (names : Names) (commands : List Command)
    (keys : List (List ℕ)) → length keys ≡ length commands
    → length (known_in p ends names commands keys) ≡ length commands
length-known_in p ends names [] keys same = refl
length-known_in p ends names (x ∷ commands) [] same = absurd (omega (arith, same))
length-known_in p ends names (x ∷ commands) (y ∷ keys) same =
    let less : length keys ≡ length commands = omega (arith, same) in
    ap suc (length-known_in p ends names commands keys less)

all_shown : (p : State) (ends : Ends) (plan : Plan) (names : Names) → AreNames plan names
    → length (night_in p ends plan names).known ≡ length plan.commands.items
all_shown p ends plan names are =
    length-known_in p ends names plan.commands.items names.keys.items are.keys

known_turned : (p q : State) (old new : Ends) (plan : Plan) (names : Names) (t : Turn)
    → AreNames plan names
    → ((c : ℕ) (command : Command) (group key : List ℕ)
    → IsCalled names plan.commands.items c command group key
    → known_of q (moment_of new) names.night group key
    ≡ turned t c (known_of p (moment_of old) names.night group key))
    → (night_in q new plan names).known ≡ all_turned t 0 (night_in p old plan names).known
known_turned p q old new plan names t are each =
    same_below (night_in q new plan names).known
    (all_turned t 0 (night_in p old plan names).known) (length plan.commands.items)
    (all_shown q new plan names are)
    (length-all_turned t 0 (night_in p old plan names).known ∙ all_shown p old plan names are) at
  where
    at : (c : ℕ) → c < length plan.commands.items
        → slice_get (night_in q new plan names).known c
        ≡ slice_get (all_turned t 0 (night_in p old plan names).known) c
    at c less =
        let it = named plan names are c less in
        let k : Known = known_of p (moment_of old) names.night it.group it.key in
        shown q new plan names c it
        ∙ ap (λ (x : Known). Some x) (each c it.command it.group it.key it.called)
        ∙ sym (turned_at (night_in p old plan names) t c k (shown p old plan names c it))

known_mapped : (p q : State) (ends : Ends) (plan : Plan) (names : Names) (f : Known → Known)
    → AreNames plan names
    → ((group key : List ℕ) → known_of q (moment_of ends) names.night group key
    ≡ f (known_of p (moment_of ends) names.night group key))
    → (night_in q ends plan names).known ≡ map f (night_in p ends plan names).known
known_mapped p q ends plan names f are each =
    same_below (night_in q ends plan names).known (map f (night_in p ends plan names).known)
    (length plan.commands.items) (all_shown q ends plan names are)
    (length-map (night_in p ends plan names).known f ∙ all_shown p ends plan names are) at
  where
    at : (c : ℕ) → c < length plan.commands.items
        → slice_get (night_in q ends plan names).known c
        ≡ slice_get (map f (night_in p ends plan names).known) c
    at c less =
        let it = named plan names are c less in
        shown q ends plan names c it ∙ ap (λ (x : Known). Some x) (each it.group it.key)
        ∙ sym (slice_get-map f (night_in p ends plan names).known c
        ∙ ap (option_map f) (shown p ends plan names c it))

map_none : {X : Type 0} (xs : List X) → map (λ x. x) xs ≡ xs
map_none [] = refl
map_none (x ∷ xs) = ap (λ ys. x ∷ ys) (map_none xs)

pub known_same : (p q : State) (ends : Ends) (plan : Plan) (names : Names) → AreNames plan names
    → ((group key : List ℕ) → known_of q (moment_of ends) names.night group key
    ≡ known_of p (moment_of ends) names.night group key)
    → (night_in q ends plan names).known ≡ (night_in p ends plan names).known
known_same p q ends plan names are each =
    known_mapped p q ends plan names (λ k. k) are each
    ∙ map_none (night_in p ends plan names).known

-- ---- which groups are done

-- These groups are done, too.
abbrev pub stopped_in : List ℕ → List Bool → List Bool
stopped_in [] done = done
stopped_in (g ∷ stopped) done = stopped_in stopped (set done g true)

set_none : {X : Type 0} (xs : List X) (i k : ℕ) (x : X) → slice_get xs k ≡ None
    → slice_get (set xs i x) k ≡ None
set_none xs i k x missing = elim (cases_lt k (length xs)) [
  | inl less ↦
      let row = row_at xs k less in absurd (none-some row.0 (sym missing ∙ row.1))
  | inr more ↦ slice_get_past (set xs i x) k (omega (arith, more, length-set xs i x))
]

set_at : (done : List Bool) (g h : ℕ)
    → slice_get (set done g true) h ≡ option_map (λ b. (g == h) || b) (slice_get done h)
set_at done g h = by_row (slice_get done h) refl
  where
    by_row : (o : Option Bool) → slice_get done h ≡ o
        → slice_get (set done g true) h ≡ option_map (λ b. (g == h) || b) o
    by_row None found = set_none done g h true found
    by_row (Some b) found =
        let less : h < length done = slice_get_within done h b found in
        elim (cases_eq h g) [
          | inl same ↦
              let here : g < length done = omega (arith, less, same) in
              ap (slice_get (set done g true)) same ∙ get_set_same done g true here
              ∙ ap (λ x. Some (x || b)) (sym (eq-eqb g h (sym same)))
          | inr other ↦
              get_set_other done g h true less other ∙ found
              ∙ ap (λ x. Some (x || b)) (sym (ne_eqb g h (λ it. other (sym it))))
        ]

stopped_at : (stopped : List ℕ) (done : List Bool) (h : ℕ)
    → slice_get (stopped_in stopped done) h
    ≡ option_map (λ b. b || is_among h stopped) (slice_get done h)
stopped_at [] done h = by_row (slice_get done h)
  where
    by_row : (o : Option Bool) → o ≡ option_map (λ b. b || false) o
    by_row None = refl
    by_row (Some b) = ap (λ x. Some x) (sym (or-false b))
stopped_at (g ∷ stopped) done h =
    stopped_at stopped (set done g true) h
    ∙ ap (option_map (λ b. b || is_among h stopped)) (set_at done g h)
    ∙ by_row (slice_get done h)
  where
    turn : (a b c : Bool) → ((a || b) || c) ≡ (b || (a || c))
    turn true b c = sym (or-true b)
    turn false b c = refl

    by_row : (o : Option Bool)
        → option_map (λ b. b || is_among h stopped) (option_map (λ b. (g == h) || b) o)
        ≡ option_map (λ b. b || is_among h (g ∷ stopped)) o
    by_row None = refl
    by_row (Some b) = ap (λ x. Some x) (turn (g == h) b (is_among h stopped))

length-stopped : (stopped : List ℕ) (done : List Bool)
    → length (stopped_in stopped done) ≡ length done
length-stopped [] done = refl
length-stopped (g ∷ stopped) done =
    length-stopped stopped (set done g true) ∙ length-set done g true

pub done_stopped : (p q : State) (names : Names) (stopped : List ℕ)
    → ((g : ℕ) (group : List ℕ) → slice_get names.groups.items g ≡ Some group
    → is_over q names.night group ≡ (is_over p names.night group || is_among g stopped))
    → map (is_over q names.night) names.groups.items
    ≡ stopped_in stopped (map (is_over p names.night) names.groups.items)
done_stopped p q names stopped each =
    let old : List Bool = map (is_over p names.night) names.groups.items in
    let new : List Bool = map (is_over q names.night) names.groups.items in
    same_below new (stopped_in stopped old) (length names.groups.items)
    (length-map names.groups.items (is_over q names.night))
    (length-stopped stopped old ∙ length-map names.groups.items (is_over p names.night)) at
  where
    at : (g : ℕ) → g < length names.groups.items
        → slice_get (map (is_over q names.night) names.groups.items) g
        ≡ slice_get (stopped_in stopped (map (is_over p names.night) names.groups.items)) g
    at g less =
        let group = row_at names.groups.items g less in
        slice_get-map (is_over q names.night) names.groups.items g
        ∙ ap (option_map (is_over q names.night)) group.1
        ∙ ap (λ (x : Bool). Some x) (each g group.0 group.1)
        ∙ sym (stopped_at stopped (map (is_over p names.night) names.groups.items) g
        ∙ ap (option_map (λ b. b || is_among g stopped))
        (slice_get-map (is_over p names.night) names.groups.items g
        ∙ ap (option_map (is_over p names.night)) group.1))

done_same : (p q : State) (names : Names)
    → ((group : List ℕ) → is_over q names.night group ≡ is_over p names.night group)
    → map (is_over q names.night) names.groups.items
    ≡ map (is_over p names.night) names.groups.items
done_same p q names each =
    done_stopped p q names []
    (λ g group is. each group ∙ sym (or-false (is_over p names.night group)))

-- ---- nights

-- The night with these facts.
abbrev pub with_facts : Plan → List Known → List Bool → Night
with_facts plan known done = record {
  first = plan.first;
  groups = plan.groups.items;
  commands = plan.commands.items;
  known = known;
  done = done;
}

pub facts_are : (plan : Plan) (old new : List Known) (before after : List Bool) → new ≡ old
    → after ≡ before → with_facts plan new after ≡ with_facts plan old before
facts_are plan old new before after first second =
    ap (λ x. with_facts plan x after) first ∙ ap (with_facts plan old) second

stops_know : (g i : ℕ) (known : List Known) → all_turned (Stop g) i known ≡ known
stops_know g i [] = refl
stops_know g i (k ∷ known) = ap (λ ks. k ∷ ks) (stops_know g (i + 1) known)

pub after_stops : (plan : Plan) (known : List Known) (done : List Bool) (stopped : List ℕ)
    → with_facts plan known (stopped_in stopped done)
    ≡ after_all (with_facts plan known done) (map Stop stopped)
after_stops plan known done [] = refl
after_stops plan known done (g ∷ stopped) =
    after_stops plan known (set done g true) stopped
    ∙ ap (λ ks. after_all (with_facts plan ks (set done g true)) (map Stop stopped))
    (sym (stops_know g 0 known))

-- ---- what was read

pub seen_is_shown : SeenIsShown
seen_is_shown p ends plan names facts are seen =
    facts_are plan (night_in p ends plan names).known facts.known.items
    (map (is_over p names.night) names.groups.items) facts.done.items
    (same_below facts.known.items (night_in p ends plan names).known (length plan.commands.items)
    seen.sized.known (all_shown p ends plan names are) known)
    (same_below facts.done.items (map (is_over p names.night) names.groups.items)
    (length plan.groups.items) seen.sized.done
    (length-map names.groups.items (is_over p names.night) ∙ are.groups) done)
  where
    known : (c : ℕ) → c < length plan.commands.items
        → slice_get facts.known.items c ≡ slice_get (night_in p ends plan names).known c
    known c less =
        let it = named plan names are c less in
        seen.known c it.command it.group it.key less it.called
        ∙ sym (shown p ends plan names c it)

    done : (g : ℕ) → g < length plan.groups.items
        → slice_get facts.done.items g
        ≡ slice_get (map (is_over p names.night) names.groups.items) g
    done g less =
        let group = row_at names.groups.items g (omega (arith, less, are.groups)) in
        seen.done g group.0 less group.1
        ∙ sym (slice_get-map (is_over p names.night) names.groups.items g
        ∙ ap (option_map (is_over p names.night)) group.1)

-- ---- event by event

pub starts_are_turns : StartsAreTurns
starts_are_turns p ends plan names n c now sizes are fresh of =
    facts_are plan (all_turned (Begin now sizes (c ∷ [])) 0 (night_in p ends plan names).known)
    (night_in (step p (event.Start n)) ends plan names).known
    (map (is_over p names.night) names.groups.items)
    (map (is_over (step p (event.Start n)) names.night) names.groups.items)
    (known_turned p (step p (event.Start n)) ends ends plan names (Begin now sizes (c ∷ [])) are
    (λ d command group key called.
    start_begins p (moment_of ends) names.night group key n d now sizes (c ∷ []) fresh
    (of.last d command group key called)
    (or-false (c == d) ∙ sym (of.only d command group key called))))
    (done_same p (step p (event.Start n)) names (λ group. refl))

-- An end changes no group.
end_leaves : (c moment : ℕ) (o : Outcome) (done : List Bool)
    → done ≡ done_after (end_of c moment o) done
end_leaves c moment outcome.Success done = refl
end_leaves c moment (outcome.Failure error) done = by_cancel (is_cancel error)
  where
    by_cancel : (b : Bool) → done ≡ done_after (cond b (Cut c) (Fail c moment)) done
    by_cancel true = refl
    by_cancel false = refl

pub finishes_are_turns : FinishesAreTurns
finishes_are_turns p old new plan names n c o are runs counted bare others of =
    let q : State = step p (event.Finish n o) in
    let t : Turn = end_of c (moment_of new n) o in
    let done : List Bool = map (is_over p names.night) names.groups.items in
    facts_are plan (all_turned t 0 (night_in p old plan names).known)
    (night_in q new plan names).known (done_after t done)
    (map (is_over q names.night) names.groups.items)
    (known_turned p q old new plan names t are
    (λ d command group key called.
    finish_ends p (moment_of old) (moment_of new) names.night group key n d c o runs
    (of.last d command group key called) counted others
    (sym (of.only d command group key called))))
    (done_same p q names
    (λ group. others_leave_groups p (event.Finish n o) names.night group (bare_finishes p n o bare))
    ∙ end_leaves c (moment_of new n) o done)

pub withdrawals_are_no_turns : WithdrawalsAreNoTurns
withdrawals_are_no_turns p ends plan names n are fresh bare =
    let began : State = step p (event.Start n) in
    let o : Outcome = outcome.Failure (codes "withdrawn") in
    let q : State = step began (event.Finish n o) in
    let still : own_scope began.work (group_of_task began.work n) ≡ None =
    ap (own_scope p.work) (group_of_task_stays stage.Running n n p.work.groups p.work refl)
    ∙ bare in
    facts_are plan (night_in p ends plan names).known (night_in q ends plan names).known
    (map (is_over p names.night) names.groups.items)
    (map (is_over q names.night) names.groups.items)
    (known_same p q ends plan names are
    (λ group key. withdrawal_leaves p (moment_of ends) names.night group key n fresh))
    (done_same p q names
    (λ group. others_leave_groups began (event.Finish n o) names.night group
    (bare_finishes began n o still)))

pub cancels_are_turns : CancelsAreTurns
cancels_are_turns p ends plan names s cause stopped are numbered those =
    let q : State = step p (event.Cancel s cause) in
    let known : List Known = (night_in p ends plan names).known in
    let done : List Bool = map (is_over p names.night) names.groups.items in
    facts_are plan known (night_in q ends plan names).known (stopped_in stopped done)
    (map (is_over q names.night) names.groups.items)
    (known_same p q ends plan names are
    (λ group key. others_leave p (event.Cancel s cause) (moment_of ends) names.night group key
    numbered refl refl refl))
    (done_stopped p q names stopped
    (λ g group is. cancel_stops p s cause names.night group
    ∙ ap (λ b. is_over p names.night group || b) (those g group is)))
    ∙ after_stops plan known done stopped

pub advances_are_turns : AdvancesAreTurns
advances_are_turns p ends plan names moment stopped are numbered those =
    let q : State = step p (event.Advance moment) in
    let known : List Known = (night_in p ends plan names).known in
    let done : List Bool = map (is_over p names.night) names.groups.items in
    facts_are plan known (night_in q ends plan names).known (stopped_in stopped done)
    (map (is_over q names.night) names.groups.items)
    (known_same p q ends plan names are
    (λ group key. others_leave p (event.Advance moment) (moment_of ends) names.night group key
    numbered refl refl refl))
    (done_stopped p q names stopped
    (λ g group is. advance_stops p moment names.night group
    ∙ ap (λ b. is_over p names.night group || b) (those g group is)))
    ∙ after_stops plan known done stopped

pub failures_are_turns : FailuresAreTurns
failures_are_turns p old new plan names n c s error stopped are runs counted own others of those =
    let o : Outcome = outcome.Failure error in
    let q : State = step p (event.Finish n o) in
    let t : Turn = end_of c (moment_of new n) o in
    let known : List Known = all_turned t 0 (night_in p old plan names).known in
    let done : List Bool = map (is_over p names.night) names.groups.items in
    facts_are plan known (night_in q new plan names).known (stopped_in stopped done)
    (map (is_over q names.night) names.groups.items)
    (known_turned p q old new plan names t are
    (λ d command group key called.
    finish_ends p (moment_of old) (moment_of new) names.night group key n d c o runs
    (of.last d command group key called) counted others
    (sym (of.only d command group key called))))
    (done_stopped p q names stopped
    (λ g group is. finishes_stop p n s o names.night group own
    ∙ ap (λ b. is_over p names.night group || b) (those g group is)))
    ∙ after_stops plan known done stopped
    ∙ ap (λ (x : List Bool). after_all (with_facts plan known x) (map Stop stopped))
    (end_leaves c (moment_of new n) o done)

pub derives_are_no_turns : DerivesAreNoTurns
derives_are_no_turns p ends plan names name parent k are numbered below alike =
    let e : Event = event.Derive name parent k in
    facts_are plan (night_in p ends plan names).known (night_in (step p e) ends plan names).known
    (map (is_over p names.night) names.groups.items)
    (map (is_over (step p e) names.night) names.groups.items)
    (known_same p (step p e) ends plan names are
    (λ group key. others_leave p e (moment_of ends) names.night group key numbered refl refl refl))
    (done_stopped p (step p e) names []
    (λ g group is. derives_stand_last p name parent k names.night group numbered below
    ∙ by_last g group is
    (takes_cause k && (belongs group name && is_same (night_of p parent) names.night)) refl
    ∙ sym (or-false (is_over p names.night group))))
  where
    by_last : (g : ℕ) (group : List ℕ) → slice_get names.groups.items g ≡ Some group → (b : Bool)
        → (takes_cause k && (belongs group name && is_same (night_of p parent) names.night)) ≡ b
        → cond b (is_done p.tree.scopes parent) (is_over p names.night group)
        ≡ is_over p names.night group
    by_last g group is true its = sym (alike g group is its)
    by_last g group is false its = refl

pub others_are_no_turns : OthersAreNoTurns
others_are_no_turns p e ends plan names are numbered same no_start no_finish no_restart =
    facts_are plan (night_in p ends plan names).known (night_in (step p e) ends plan names).known
    (map (is_over p names.night) names.groups.items)
    (map (is_over (step p e) names.night) names.groups.items)
    (known_same p (step p e) ends plan names are
    (λ group key. others_leave p e (moment_of ends) names.night group key numbered no_start
    no_finish no_restart))
    (done_same p (step p e) names (λ group. others_leave_groups p e names.night group same))

-- ---- several begins

begun_twice : (now : ℕ) (sizes first second : List ℕ) (c : ℕ) (k : Known)
    → turned (Begin now sizes second) c (turned (Begin now sizes first) c k)
    ≡ turned (Begin now sizes (first ++ second)) c k
begun_twice now sizes first second c k =
    by_both (is_among c first) (is_among c second)
    ∙ ap (λ b. cond b (record k { phase = Busy }) k)
    (sym (list_any-append (λ d. d == c) first second))
  where
    by_both : (a b : Bool)
        → cond b (record (cond a (record k { phase = Busy }) k) { phase = Busy })
        (cond a (record k { phase = Busy }) k)
        ≡ cond (a || b) (record k { phase = Busy }) k
    by_both true true = refl
    by_both true false = refl
    by_both false true = refl
    by_both false false = refl

all_begun_twice : (now : ℕ) (sizes first second : List ℕ) (i : ℕ) (known : List Known)
    → all_turned (Begin now sizes second) i (all_turned (Begin now sizes first) i known)
    ≡ all_turned (Begin now sizes (first ++ second)) i known
all_begun_twice now sizes first second i [] = refl
all_begun_twice now sizes first second i (k ∷ known) =
    ap (λ x. x ∷ all_turned (Begin now sizes second) (i + 1)
    (all_turned (Begin now sizes first) (i + 1) known)) (begun_twice now sizes first second i k)
    ∙ ap (λ xs. turned (Begin now sizes (first ++ second)) i k ∷ xs)
    (all_begun_twice now sizes first second (i + 1) known)

pub begins_join : BeginsJoin
begins_join n now sizes first second =
    ap (λ known. record n { known = known }) (all_begun_twice now sizes first second 0 n.known)

none_begun : (now : ℕ) (sizes : List ℕ) (i : ℕ) (known : List Known)
    → known ≡ all_turned (Begin now sizes []) i known
none_begun now sizes i [] = refl
none_begun now sizes i (k ∷ known) =
    ap (λ rest. k ∷ rest) (none_begun now sizes (i + 1) known)

pub rows_are_one_turn : RowsAreOneTurn
rows_are_one_turn p ends plan names [] now sizes are begins =
    ap (λ known. record (night_in p ends plan names) { known = known })
    (none_begun now sizes 0 (night_in p ends plan names).known)
rows_are_one_turn p ends plan names ((e, Some c) ∷ row) now sizes are begins =
    let one = begins.0 in
    let chosen : List ℕ = filter_map (λ part. part.1) row in
    rows_are_one_turn (step p e) ends plan names row now sizes are begins.1
    ∙ ap (λ x. after_turn (night_in (step p x) ends plan names) (Begin now sizes chosen)) one.starts
    ∙ ap (λ n. after_turn n (Begin now sizes chosen))
    (starts_are_turns p ends plan names one.task c now sizes are one.fresh one.of)
    ∙ begins_join (night_in p ends plan names) now sizes (c ∷ []) chosen
rows_are_one_turn p ends plan names ((e, None) ∷ row) now sizes are begins =
    let none = begins.0 in
    rows_are_one_turn (step p e) ends plan names row now sizes are begins.1
    ∙ ap (λ n. after_turn n (Begin now sizes (filter_map (λ part. part.1) row)))
    (others_are_no_turns p e ends plan names are none.numbered none.same none.no_start
    none.no_finish none.no_restart)

-- ---- an opening

-- A restart changes no scope where no group has one of its own.
fold_still : (e : ℕ) (w : WorkState) (t : TreeState) → AreBare w → (ns : List ℕ)
    → fold (λ t n. after_task_end e w n (Some interruption) t) t ns ≡ t
fold_still e w t bare [] = refl
fold_still e w t bare (n ∷ ns) =
    ap (λ o. fold (λ t n. after_task_end e w n (Some interruption) t)
    (option_map_or (λ s. after_cancel e s (Some interruption) t) o t) ns)
    (bare (group_of_task w n))
    ∙ fold_still e w t bare ns

pub openings_reopen : OpeningsReopen
openings_reopen p ends plan names are bare =
    let q : State = step p event.Restart in
    facts_are plan (map interrupted (night_in p ends plan names).known)
    (night_in q ends plan names).known (map (is_over p names.night) names.groups.items)
    (map (is_over q names.night) names.groups.items)
    (known_mapped p q ends plan names interrupted are
    (λ group key. known_reopened p q (restarted p) (moment_of ends) names.night group key))
    (done_same p q names
    (λ group. others_leave_groups p event.Restart names.night group
    (fold_still (p.count + 1) p.work p.tree bare (running_tasks p.work))))
