-- The steps in which two of four commands begin.
use Rattle.std.proofs.Common.{◌≡◌, ◌∙◌, ℕ, List, [], ◌∷◌, Option, Some, None, codes, slice_get}
use Rattle.std.proofs.Common.{ap, refl, sym}
use Rattle.std.proofs.Common.{◌<◌, ◌++◌, true, zero, suc, length, subst, arith}
use Rattle.std.proofs.lemmas.List.{length-map}
use Rattle.std.proofs.lemmas.List.Elements.{All-from_recursion}
use Rattle.std.specs.List.{list_all}
use Rattle.std.specs.Prelude.{is_some}
use Rattle.std.proofs.lemmas.Option.{none-some, same_Some, slice_get-map}
use Rattle.std.specs.Option.{option_map, option_map_or}
use Rattle.std.specs.Prelude.{unwrap_or}
use Rattle.run_model.specs.declared.commands.Command.{Command as Call}
use Rattle.run_model.specs.declared.commands.Command.TheVariants as call
use Rattle.run_model.specs.declared.commands.Step.TheVariants as step
use Rattle.run_model.specs.declared.commands.Step.{Step}
use Rattle.run_model.specs.declared.layouts.Layout.TheVariants.{Small}
use Rattle.run_model.specs.Session.{begun_at, replies}
use Rattle.run_model.specs.State.{State, formatted}
use Rattle.model_laws.proofs.Starting.{formatted_consistent}
use Rattle.model_laws.proofs.StateSteps.{run_keeps}
use Rattle.night_plan.specs.declared.commands.Command.{Command}
use Rattle.night_plan.specs.declared.commands.Plan.{Plan}
use Rattle.night_drive.specs.declared.names.Names.{Names}
use Rattle.night_drive.specs.Examples.{AreFour, second}
use Rattle.night_drive.proofs.Distinguishing.{four_are_distinct}
use Rattle.run_model.specs.declared.tasks.Outcome.TheVariants as outcome
use Rattle.std.specs.List.{cons_option}
use Rattle.drive_steps.specs.Cancels.{cuts_of, open_scope, scope_name, stops_of}
use Rattle.drive_steps.specs.declared.cancels.CommandCancel.{CommandCancel}
use Rattle.drive_steps.specs.Cancels.{are_started, can_cancel}
use Rattle.drive_steps.specs.Rounds.{AreCanceled}
use Rattle.drive_steps.specs.Examples.{cancel_command, cancel_group, canceled_round, cut_of_d}
use Rattle.drive_steps.specs.Examples.{stop_of_disks}
use Rattle.drive_steps.specs.Examples.{at_rest, begin, first_events, new_night, row_of_d_and_e}
use Rattle.drive_steps.specs.Living.{AreBareRooms, IsBetween, IsLiving}
use Rattle.drive_steps.specs.Rooms.{last_group}
use Rattle.drive_steps.specs.Rows.{IsAtRest, Reports}
use Rattle.drive_steps.specs.Reported.{begins_reported}
use Rattle.drive_steps.specs.Starts.{group_of, key_of, next_of, next_try, row_of}

-- The commands 1 and 2 belong to the disks.
in_disks : (plan : Plan) (names : Names) → AreFour plan names → (c : ℕ)
    → slice_get {X = ℕ} (0 ∷ 0 ∷ 0 ∷ 1 ∷ []) c ≡ Some 0
    → group_of names plan.commands.items c ≡ codes "disks"
in_disks plan names four c at =
    by_row (slice_get plan.commands.items c)
    (sym (slice_get-map (λ (command : Command). command.group) plan.commands.items c)
    ∙ ap (λ (xs : List ℕ). slice_get xs c) four.groups_of ∙ at)
  where
    by_row : (o : Option Command) → option_map (λ (command : Command). command.group) o ≡ Some 0
        → option_map_or (λ (command : Command).
        unwrap_or (slice_get names.groups.items command.group) []) o [] ≡ codes "disks"
    by_row None e = cc
    by_row (Some command) e =
        ap (λ (g : ℕ). unwrap_or (slice_get names.groups.items g) [])
        (same_Some command.group 0 e)
        ∙ ap (λ (xs : List (List ℕ)). unwrap_or (slice_get xs 0) []) four.groups

-- The next task of such a command.
next_at : (p : State) (plan : Plan) (names : Names) → AreFour plan names → (c : ℕ)
    (key : List ℕ)
    → slice_get {X = ℕ} (0 ∷ 0 ∷ 0 ∷ 1 ∷ []) c ≡ Some 0
    → slice_get (codes "a" ∷ codes "d" ∷ codes "e" ∷ codes "d" ∷ []) c ≡ Some key
    → next_try p names plan.commands.items c ≡ next_of p second (codes "disks") key
next_at p plan names four c key at keyed =
    ap (λ (night : Option (List ℕ)). next_of p night (group_of names plan.commands.items c)
    (key_of names c)) four.night
    ∙ ap (λ (group : List ℕ). next_of p second group (key_of names c))
    (in_disks plan names four c at)
    ∙ ap (next_of p second (codes "disks"))
    (ap (λ (xs : List (List ℕ)). unwrap_or (slice_get xs c) []) four.keys
    ∙ ap (λ (o : Option (List ℕ)). unwrap_or o []) keyed)

-- Two commands begin.
row_of_two : (p : State) (names : Names) (commands : List Command) (a b : ℕ) (one two : Call)
    → next_try p names commands a ≡ one → next_try p names commands b ≡ two
    → row_of p names commands (a ∷ b ∷ [])
    ≡ step.Command one ∷ step.Start ∷ step.Command two ∷ step.Start ∷ step.Flush ∷ []
row_of_two p names commands a b one two first next =
    ap (λ (x : Call). step.Command x ∷ step.Start
    ∷ step.Command (next_try p names commands b) ∷ step.Start ∷ step.Flush ∷ []) first
    ∙ ap (λ (x : Call). step.Command one ∷ step.Start ∷ step.Command x ∷ step.Start
    ∷ step.Flush ∷ []) next

pub two_begin : (plan : Plan) (names : Names) → AreFour plan names
    → row_of at_rest names plan.commands.items (1 ∷ 2 ∷ []) ≡ row_of_d_and_e
two_begin plan names four =
    row_of_two at_rest names plan.commands.items 1 2
    (call.Go (codes "disks--2-2") (codes "sh") (codes "d"))
    (call.Go (codes "disks--2-2") (codes "sh") (codes "e"))
    (next_at at_rest plan names four 1 (codes "d") refl refl)
    (next_at at_rest plan names four 2 (codes "e") refl refl)

-- ---- a new store

new_row : (plan : Plan) (names : Names) → AreFour plan names
    → row_of new_night names plan.commands.items (1 ∷ 2 ∷ [])
    ≡ step.Command (call.Go (codes "disks--2") (codes "sh") (codes "d")) ∷ step.Start
    ∷ step.Command (call.Go (codes "disks--2") (codes "sh") (codes "e")) ∷ step.Start
    ∷ step.Flush ∷ []
new_row plan names four =
    row_of_two new_night names plan.commands.items 1 2
    (call.Go (codes "disks--2") (codes "sh") (codes "d"))
    (call.Go (codes "disks--2") (codes "sh") (codes "e"))
    (next_at new_night plan names four 1 (codes "d") refl refl)
    (next_at new_night plan names four 2 (codes "e") refl refl)

new_rest : (plan : Plan) (names : Names) → AreFour plan names → IsAtRest new_night plan names
new_rest plan names four = record {
  named = four.named;
  distinct = four_are_distinct plan names four;
  housed = ap (λ (night : Option (List ℕ)).
      list_all (λ group. is_some (last_group new_night night group)) names.groups.items) four.night
      ∙ ap (list_all (λ group. is_some (last_group new_night second group))) four.groups;
  consistent = run_keeps first_events (formatted Small) new_night (formatted_consistent Small) refl;
  none_fresh = λ n. refl;
}

four_long : (plan : Plan) (names : Names) → AreFour plan names
    → length plan.commands.items ≡ 4
four_long plan names four =
    sym (length-map plan.commands.items (λ (command : Command). command.group))
    ∙ ap length four.groups_of

pub new_reported : (plan : Plan) (names : Names) → AreFour plan names
    → Reports (begun_at new_night) plan names (1 ∷ 2 ∷ []) (begin 1 0 ∷ begin 2 1 ∷ [])
new_reported plan names four =
    let long = four_long plan names four in
    record {
      rest = new_rest plan names four;
      within = All-from_recursion (λ c. c < length plan.commands.items) (1 ∷ 2 ∷ [])
          (omega (arith, long), (omega (arith, long), tt));
      reported = ap (λ (steps : List Step). begins_reported (1 ∷ 2 ∷ [])
          (replies (begun_at new_night) steps)) (new_row plan names four);
    }

-- ---- no try lives in it

new_bare : (names : Names) → AreBareRooms new_night names
new_bare names g zero group at owned = refl
new_bare names g (suc zero) group at owned = refl
new_bare names g (suc (suc h)) group at owned = refl

pub new_between : (plan : Plan) (names : Names) → AreFour plan names
    → IsBetween new_night plan names []
new_between plan names four = record {
  rest = new_rest plan names four;
  bare = new_bare names;
  lives = record {
    each = All-from_recursion (IsLiving new_night names plan.commands.items) [] tt;
    every = λ c n command group key called its runs. cc;
  };
}

-- ---- cancels

pub cut_d : (plan : Plan) (names : Names) → AreFour plan names
    → cuts_of at_rest names plan.commands.items 9 (cancel_command 1 ∷ []) ≡ cut_of_d 9
cut_d plan names four =
    ap (λ (x : Call). step.Command x ∷ step.Start
    ∷ step.Finish 9 (outcome.Failure (codes "canceled: by hand")) ∷ [])
    (next_at at_rest plan names four 1 (codes "d") refl refl)

abbrev stop_at : (night : Option (List ℕ)) → (group : List ℕ) → Option Step
stop_at night group =
    option_map (λ s. step.Command (call.Cancel (scope_name at_rest s) (Some (codes "by hand"))))
    (open_scope at_rest night group)

abbrev stops_at : (night : Option (List ℕ)) → (groups : List (List ℕ)) → List Step
stops_at night groups =
    cons_option (stop_at night (unwrap_or (slice_get groups 0) []))
    (cons_option (stop_at night (unwrap_or (slice_get groups 1) [])) [])

pub stop_disks : (plan : Plan) (names : Names) → AreFour plan names
    → stops_of at_rest names (cancel_group 0 ∷ cancel_group 1 ∷ []) ≡ stop_of_disks
stop_disks plan names four =
    ap (λ (night : Option (List ℕ)). stops_at night names.groups.items) four.night
    ∙ ap (stops_at second) four.groups

-- ---- a round with cancels in the new store

one_cancel : (i : ℕ) (cancel : CommandCancel)
    → slice_get (cancel_command 1 ∷ []) i ≡ Some cancel → (i ≡ 0) × (cancel_command 1 ≡ cancel)
one_cancel zero cancel at = (refl, same_Some (cancel_command 1) cancel at)
one_cancel (suc i) cancel at = absurd (none-some cancel at)

pub new_canceled : (plan : Plan) (names : Names) → AreFour plan names
    → AreCanceled (begun_at new_night) plan names canceled_round
new_canceled plan names four =
    let long = four_long plan names four in
    record {
      each = λ i cancel at.
          subst (λ (x : CommandCancel). (x.command < length plan.commands.items)
          × (can_cancel new_night names plan.commands.items [] x.command ≡ true))
          (one_cancel i cancel at).1 (omega (arith, long), refl);
      once = λ i j a b at there same. (one_cancel i a at).0 ∙ sym (one_cancel j b there).0;
      started = ap (λ (x : Call). are_started (cancel_command 1 ∷ [])
          (replies (begun_at new_night) (step.Command x ∷ step.Start
          ∷ step.Finish 0 (outcome.Failure (codes "canceled: by hand"))
          ∷ (stops_of new_night names (cancel_group 0 ∷ [])
          ++ step.Command (call.Advance 7) ∷ []))))
          (next_at new_night plan names four 1 (codes "d") refl refl);
    }
