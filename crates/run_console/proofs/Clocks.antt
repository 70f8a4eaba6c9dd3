-- No line moves a clock past the latest moment.
use Rattle.std.specs.Prelude.{◌≡◌, ◌≤◌, ◌⊎◌, ◌+◌, max, nat_lt, Bool, true, false, if◌then◌else◌, ℕ}
use Rattle.std.specs.Prelude.{List, [], ◌∷◌, Option, Some, None, Result, Ok, Err, length, unwrap_or}
use Rattle.std.specs.List.{All}
use Rattle.std.specs.Option.{option_map_or}
use Rattle.std.proofs.Common.{suc, arith, inl, inr, refl, sym, subst}
use Rattle.std.proofs.lemmas.Bool.Decides.{nat_tests}
use Rattle.run_model.specs.declared.bounds.TheConstants.{GREATEST_MOMENT}
use Rattle.run_model.specs.declared.commands.Command.{Command}
use Rattle.run_model.specs.declared.commands.Command.TheVariants as command
use Rattle.run_model.specs.declared.commands.Step.TheVariants as step
use Rattle.run_model.specs.declared.refusals.Refusal.{Refusal}
use Rattle.run_model.specs.declared.refusals.Refusal.TheVariants as refusal
use Rattle.run_model.specs.Event.{Event}
use Rattle.run_model.specs.Event as event
use Rattle.run_model.specs.State.{State, TreeState}
use Rattle.run_model.specs.TreeChanges.{after_cancel}
use Rattle.run_model.specs.WorkChanges.{error_of, group_of_task}
use Rattle.run_model.specs.Tasks.{first_ready}
use Rattle.run_model.specs.Step.{after_task_end, own_scope}
use Rattle.run_model.specs.Step as model
use Rattle.run_model.specs.Allowed.{refusals, unless}
use Rattle.run_model.specs.Replies.{decide, decide_finish, decide_start, decided, event_of, if_room}
use Rattle.run_model.specs.Replies.{is_full, is_repeated}
use Rattle.run_model.specs.Session.{Session, with_event}
use Rattle.std.specs.Result.{result_unwrap_or}
use Rattle.console_lines.specs.declared.line_requests.LineRequest.{LineRequest}
use Rattle.console_lines.specs.declared.line_requests.LineRequest.TheVariants as asked
use Rattle.console_lines.specs.LineRequests.{request_of}
use Rattle.console_lines.specs.Script.{after_asked, after_line, after_lines}
use Rattle.console_lines.proofs.Steps.{after_lines-append}
use Rattle.run_console.specs.Forward.{AreForward}
use Rattle.run_console.specs.Timed.{advance_line, advance_to, latest_asked, latest_after}
use Rattle.run_console.proofs.AdvanceTexts.{asks_so}

abbrev clock_of : Session → ℕ
clock_of s = s.state.tree.clock

-- ---- an event

-- An event that moves no clock past this moment; a restart is no line's.
abbrev IsWithin : ℕ → Event → Type 0
IsWithin latest (event.Advance moment) = moment ≤ latest
IsWithin latest event.Restart = ⊥
IsWithin latest _ = Unit {0}

cancel_keeps : (e : ℕ) (scope : Option ℕ) (cause : Option (List ℕ)) (t : TreeState)
    → (option_map_or (λ s. after_cancel e s cause t) scope t).clock ≡ t.clock
cancel_keeps e None cause t = refl
cancel_keeps e (Some s) cause t = refl

end_keeps : (e : ℕ) (p : State) (n : ℕ) (error : Option (List ℕ))
    → (after_task_end e p.work n error p.tree).clock ≡ p.tree.clock
end_keeps e p n None = refl
end_keeps e p n (Some text) =
    cancel_keeps e (own_scope p.work (group_of_task p.work n)) (Some text) p.tree

step_within : (p : State) (e : Event) (latest : ℕ)
    → p.tree.clock ≤ latest → IsWithin latest e → (model.step p e).tree.clock ≤ latest
step_within p (event.Derive name parent kind) latest h w = h
step_within p (event.Cancel s cause) latest h w = h
step_within p (event.Advance moment) latest h w = w
step_within p (event.Group name parent) latest h w = h
step_within p (event.Bare name s) latest h w = h
step_within p (event.SetLimit g limit) latest h w = h
step_within p (event.Go g job argument) latest h w = h
step_within p (event.TryGo g job argument) latest h w = h
step_within p (event.Retry n) latest h w = h
step_within p (event.Start n) latest h w = h
step_within p (event.Finish n outcome) latest h w =
    subst (λ c. c ≤ latest) (sym (end_keeps (p.count + 1) p n (error_of outcome))) h
step_within p (event.Wait g) latest h w =
    subst (λ c. c ≤ latest) (sym (cancel_keeps (p.count + 1) (own_scope p.work g) None p.tree)) h
step_within p event.Restart latest h w = absurd w

-- ---- a line

-- An event that is made, or none, is this one.
abbrev IsAtMost : Option Event → Event → Type 0
IsAtMost made e = (made ≡ None) ⊎ (made ≡ Some e)

by_room : (full : Bool) (e : Event)
    → IsAtMost (result_unwrap_or (if full then Err refusal.SessionFull else Ok (Some e)) None) e
by_room true e = inl refl
by_room false e = inr refl

unless_made : (tests : List (Bool × Refusal)) (answer : Result (Option Event) Refusal) (e : Event)
    → IsAtMost (result_unwrap_or answer None) e
    → IsAtMost (result_unwrap_or (unless tests answer) None) e
unless_made [] answer e h = h
unless_made ((true, why) ∷ tests) answer e h = inl refl
unless_made ((false, why) ∷ tests) answer e h = unless_made tests answer e h

decided_made : (p : State) (log : ℕ) (e : Event)
    → IsAtMost (result_unwrap_or (decided p log e) None) e
decided_made p log e =
    unless_made (refusals p e) (if_room p log e) e (by_room (is_full p log e) e)

repeated : (b : Bool) (answer : Result (Option Event) Refusal) (e : Event)
    → IsAtMost (result_unwrap_or answer None) e
    → IsAtMost (result_unwrap_or (if b then Ok None else answer) None) e
repeated true answer e h = inl refl
repeated false answer e h = h

some_same : (x e : Event) → Some x ≡ Some e → x ≡ e
some_same x e h = grind (arith, h)

after : (s : Session) (made : Option Event) (e : Event) (latest : ℕ)
    → clock_of s ≤ latest → IsAtMost made e → IsWithin latest e
    → clock_of (with_event s made) ≤ latest
after s None e latest h m w = h
after s (Some x) e latest h (inl none) w = absurd (grind (arith, none))
after s (Some x) e latest h (inr is) w =
    step_within s.state x latest h
    (subst (IsWithin latest) (sym (some_same x e is)) w)

-- A command's event is within what the command asks for.
command_within : (p : State) (call : Command) (latest : ℕ)
    → IsWithin (latest_asked latest (asked.Step (step.Command call))) (event_of p call)
command_within p (command.Derive name parent wish) latest = tt
command_within p (command.Cancel scope cause) latest = tt
command_within p (command.Advance moment) latest = omega arith
command_within p (command.Group name parent) latest = tt
command_within p (command.Bare name scope) latest = tt
command_within p (command.SetLimit group limit) latest = tt
command_within p (command.Go group job argument) latest = tt
command_within p (command.TryGo group job argument) latest = tt
command_within p (command.Retry n) latest = tt
command_within p (command.Wait group) latest = tt

later : (latest : ℕ) (a : LineRequest) → latest ≤ latest_asked latest a
later latest (asked.Step (step.Command (command.Advance moment))) = omega arith
later latest (asked.Step (step.Command call)) = omega arith
later latest (asked.Step x) = omega arith
later latest a = omega arith

asked_within : (s : Session) (a : LineRequest) (latest : ℕ)
    → clock_of s ≤ latest → clock_of (after_asked s a) ≤ latest_asked latest a
asked_within s asked.Nothing latest h = h
asked_within s asked.BadLine latest h = h
asked_within s (asked.Refused why) latest h = h
asked_within s (asked.Step (step.Command call)) latest h =
    let p = s.state in
    after s (result_unwrap_or (decide p s.log call) None) (event_of p call)
    (latest_asked latest (asked.Step (step.Command call)))
    (omega (arith, h, later latest (asked.Step (step.Command call))))
    (repeated (is_repeated p call) (decided p s.log (event_of p call)) (event_of p call)
    (decided_made p s.log (event_of p call)))
    (command_within p call latest)
asked_within s (asked.Step step.Start) latest h =
    let p = s.state in
    let e = event.Start (unwrap_or (first_ready p.work) (length p.work.tasks)) in
    after s (result_unwrap_or (decide_start p s.log) None) e latest h (decided_made p s.log e) tt
asked_within s (asked.Step (step.Finish n outcome)) latest h =
    let e = event.Finish n outcome in
    after s (result_unwrap_or (decide_finish s.state n outcome) None) e latest h
    (unless_made (refusals s.state e) (Ok (Some e)) e (inr refl)) tt
asked_within s (asked.Step step.Flush) latest h = h
asked_within s (asked.Step step.Checkpoint) latest h = h
asked_within s (asked.Scope name) latest h = h
asked_within s (asked.Value scope key) latest h = h
asked_within s (asked.Task n) latest h = h
asked_within s (asked.Result group) latest h = h
asked_within s asked.Tally latest h = h

pub line_within : (s : Session) (line : List ℕ) (latest : ℕ)
    → s.state.tree.clock ≤ latest
    → (after_line s line).state.tree.clock ≤ latest_after latest line
unfolding after_line
line_within s line latest h = asked_within s (request_of line) latest h

-- ---- timed lines

-- After the advance that is put before a line.
put_within : (s : Session) (later : Bool) (latest moment : ℕ)
    → clock_of s ≤ latest
    → moment ≤ GREATEST_MOMENT
    → clock_of (after_lines s (if later then advance_line moment ∷ [] else []))
    ≤ max latest moment
put_within s true latest moment h fits =
    subst (λ a. clock_of (after_line s (advance_line moment)) ≤ latest_asked latest a)
    (asks_so moment fits) (line_within s (advance_line moment) latest h)
put_within s false latest moment h fits = omega (arith, h)

pub are_forward : (s : Session) (latest : ℕ) (moments : List ℕ) (lines : List (List ℕ))
    → s.state.tree.clock ≤ latest
    → All (λ moment. moment ≤ GREATEST_MOMENT) moments
    → AreForward s latest moments lines
are_forward s latest [] lines h fit = tt
are_forward s latest (moment ∷ moments) [] h fit = tt
are_forward s latest (moment ∷ moments) (line ∷ lines) h fit =
    let l = max latest moment in
    let t = after_lines s (advance_to latest moment) in
    let put = put_within s (nat_lt latest moment) latest moment h (fit 0 0 (omega arith)) in (
      λ is. grind (arith, nat_tests, is, h),
      subst (λ u. AreForward u (latest_after l line) moments lines)
          (sym (after_lines-append s (advance_to latest moment) (line ∷ [])))
          (are_forward (after_line t line) (latest_after l line) moments lines
          (line_within t line l put)
          (λ k d fits. fit (suc k) d (omega (arith, fits)))),
    )
