-- No session answers a step as Broken, which only a book does.
use Rattle.run_model.proofs.Common.{◌≡◌, ℕ, Bool, true, false, if◌then◌else◌, List, [], ◌∷◌}
use Rattle.run_model.proofs.Common.{Option, Some, None, Result, Ok, Err, refl, list_any, ok_or}
use Rattle.run_model.proofs.Common.{option_and_then, Event, State, first_ready, refusals, unless}
use Rattle.run_model.proofs.Common.{if_room, is_full, is_repeated, and_then, decided, decide}
use Rattle.run_model.proofs.Common.{decide_start, decide_finish, event_of, started_of, Session}
use Rattle.run_model.proofs.Common.{replied, reply_of_step, or_parts}
use Rattle.run_model.specs.declared.commands.Command.{Command}
use Rattle.run_model.specs.declared.commands.Step.{Step}
use Rattle.run_model.specs.declared.commands.Step.TheVariants as step
use Rattle.run_model.specs.declared.answers.Reply.{Reply}
use Rattle.run_model.specs.declared.answers.Reply.TheVariants as reply
use Rattle.run_model.specs.declared.refusals.Refusal.{Refusal}
use Rattle.run_model.specs.declared.refusals.Refusal.TheVariants as refusal
use Rattle.run_model.specs.Event as event
use Rattle.model_laws.proofs.StartingReplies.{start_of}
use Rattle.book_model.specs.Plays.{is_broken, is_broken_reply}

-- A result is a refusal as Broken.
abbrev broken_result : {X : Type 0} → Result X Refusal → Bool
broken_result (Ok x) = false
broken_result (Err why) = is_broken why

chosen_sound : {X : Type 0} (b : Bool) (why : Refusal) (answer : Result X Refusal)
    → is_broken why ≡ false → broken_result answer ≡ false
    → broken_result (if b then Err why else answer) ≡ false
chosen_sound true why answer e sound = e
chosen_sound false why answer e sound = sound

unless_sound : {X : Type 0} (tests : List (Bool × Refusal)) (answer : Result X Refusal)
    → list_any (λ t. is_broken t.1) tests ≡ false → broken_result answer ≡ false
    → broken_result (unless tests answer) ≡ false
unless_sound [] answer none sound = sound
unless_sound (t ∷ tests) answer none sound =
    let parts = or_parts (is_broken t.1) (list_any (λ t. is_broken t.1) tests) none in
    chosen_sound t.0 t.1 (unless tests answer) parts.0 (unless_sound tests answer parts.1 sound)

and_then_sound : {X Y : Type 0} (r : Result X Refusal) (f : X → Result Y Refusal)
    → broken_result r ≡ false → ((x : X) → broken_result (f x) ≡ false)
    → broken_result (and_then r f) ≡ false
and_then_sound (Ok x) f r_sound f_sound = f_sound x
and_then_sound (Err why) f r_sound f_sound = r_sound

if_room_sound : (p : State) (log : ℕ) (made : Event) → broken_result (if_room p log made) ≡ false
if_room_sound p log made = go (is_full p log made)
  where
    go : (b : Bool)
        → broken_result {X = Option Event} (if b then Err refusal.SessionFull else Ok (Some made))
        ≡ false
    go true = refl
    go false = refl

refusals_sound : (p : State) (made : Event)
    → list_any (λ t. is_broken t.1) (refusals p made) ≡ false
refusals_sound p (event.Derive name parent kind) = refl
refusals_sound p (event.Cancel s cause) = refl
refusals_sound p (event.Advance moment) = refl
refusals_sound p (event.Group name parent) = refl
refusals_sound p (event.Bare name s) = refl
refusals_sound p (event.SetLimit g limit) = refl
refusals_sound p (event.Go g job argument) = refl
refusals_sound p (event.TryGo g job argument) = refl
refusals_sound p (event.Retry n) = refl
refusals_sound p (event.Start n) = refl
refusals_sound p (event.Finish n outcome) = refl
refusals_sound p (event.Wait g) = refl
refusals_sound p event.Restart = refl

decided_sound : (p : State) (log : ℕ) (made : Event) → broken_result (decided p log made) ≡ false
decided_sound p log made =
    unless_sound (refusals p made) (if_room p log made) (refusals_sound p made)
    (if_room_sound p log made)

decide_sound : (p : State) (log : ℕ) (call : Command) → broken_result (decide p log call) ≡ false
decide_sound p log call = go (is_repeated p call)
  where
    go : (b : Bool)
        → broken_result (if b then Ok None else decided p log (event_of p call)) ≡ false
    go true = refl
    go false = decided_sound p log (event_of p call)

ok_or_sound : {X : Type 0} (o : Option X) → broken_result (ok_or o refusal.NothingReady) ≡ false
ok_or_sound None = refl
ok_or_sound (Some x) = refl

replied_sound : {X : Type 0} (f : X → Reply) (r : Result X Refusal)
    → ((x : X) → is_broken_reply (f x) ≡ false) → broken_result r ≡ false
    → is_broken_reply (replied f r) ≡ false
replied_sound f (Ok x) f_sound r_sound = f_sound x
replied_sound f (Err why) f_sound r_sound = r_sound

pub never_broken : (s : Session) (x : Step) → is_broken_reply (reply_of_step s x) ≡ false
never_broken s (step.Command call) =
    replied_sound reply.Answer _ (λ x. refl)
    (and_then_sound (decide s.state s.log call) _ (decide_sound s.state s.log call) (λ made. refl))
never_broken s step.Start =
    replied_sound reply.Started _ (λ x. refl)
    (and_then_sound (decide_start s.state s.log) _ (decided_sound s.state s.log (start_of s.state))
    (λ made.
    ok_or_sound (option_and_then (started_of s.state) (first_ready s.state.work))))
never_broken s (step.Finish n outcome) =
    replied_sound reply.Finished _ (λ x. refl)
    (and_then_sound (decide_finish s.state n outcome) _
    (unless_sound (refusals s.state (event.Finish n outcome)) _ refl refl)
    (λ made. refl))
never_broken s step.Flush = refl
never_broken s step.Checkpoint = refl
