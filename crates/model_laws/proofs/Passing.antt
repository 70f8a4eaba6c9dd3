-- What is decided passes each test, and what passes each test is decided.
use Rattle.run_model.proofs.Common.{◌≡◌, ℕ, Bool, true, false, if◌then◌else◌, Some, None, Result}
use Rattle.run_model.proofs.Common.{Ok, Err, refl, sym, ap, ◌∙◌, Event, State, refusals, and_then}
use Rattle.run_model.proofs.Common.{is_repeated, is_full, if_room, event_of, decided, decide}
use Rattle.run_model.proofs.Common.{unless_Ok, not, list_all}
use Rattle.run_model.specs.declared.refusals.Refusal.{Refusal}
use Rattle.run_model.specs.declared.refusals.Refusal.TheVariants as refusal
use Rattle.run_model.specs.declared.commands.Command.{Command}
use Rattle.run_model.proofs.RefusalLemmas.{unless_none}

pub and_then_Ok :
    {X Y : Type 0} (r : Result X Refusal) (f : X → Result Y Refusal) (y : Y)
    → and_then r f ≡ Ok y → (x : X) × (r ≡ Ok x) × (f x ≡ Ok y)
and_then_Ok (Ok x) f y e = (x, refl, e)
and_then_Ok (Err why) f y e = cc

-- ---- room

pub room_fits : (p : State) (log : ℕ) (made event : Event)
    → if_room p log made ≡ Ok (Some event) → (is_full p log made ≡ false) × (made ≡ event)
room_fits p log made event e = go (is_full p log made) e
  where
    go : (full : Bool)
        → (if full then Err refusal.SessionFull else Ok (Some made)) ≡ Ok (Some event)
        → (full ≡ false) × (made ≡ event)
    go true e = cc
    go false e = (refl, cc)

pub fits_room : (p : State) (log : ℕ) (made : Event) → is_full p log made ≡ false
    → if_room p log made ≡ Ok (Some made)
fits_room p log made fits =
    ap (λ (b : Bool). if b then Err refusal.SessionFull else Ok (Some made)) fits

-- ---- decisions

-- The requested event isn't refused, its record fits, and this is the event.
pub record Leads (p : State) (log : ℕ) (asked event : Event) : Type 0 where
  pub may : list_all (λ t. not t.0) (refusals p asked) ≡ true
  pub room : is_full p log event ≡ false
  pub asks : asked ≡ event

pub decided_leads : (p : State) (log : ℕ) (asked event : Event)
    → decided p log asked ≡ Ok (Some event) → Leads p log asked event
decided_leads p log asked event e =
    let passed = unless_Ok (refusals p asked) (if_room p log asked) (Some event) e in
    let fits = room_fits p log asked event passed.1 in
    record {
      may = passed.0;
      room = sym (ap (is_full p log) fits.1) ∙ fits.0;
      asks = fits.1;
    }

pub fits_decided : (p : State) (log : ℕ) (event : Event)
    → list_all (λ t. not t.0) (refusals p event) ≡ true
    → is_full p log event ≡ false → decided p log event ≡ Ok (Some event)
fits_decided p log event may fits =
    unless_none (refusals p event) (if_room p log event) may ∙ fits_room p log event fits

-- ---- commands

pub repeated_decide : (p : State) (log : ℕ) (call : Command) → is_repeated p call ≡ true
    → decide p log call ≡ Ok None
repeated_decide p log call repeated =
    ap (λ (b : Bool). if b then Ok None else decided p log (event_of p call)) repeated

pub new_decide : (p : State) (log : ℕ) (call : Command) → is_repeated p call ≡ false
    → decide p log call ≡ decided p log (event_of p call)
new_decide p log call new =
    ap (λ (b : Bool). if b then Ok None else decided p log (event_of p call)) new

pub command_leads : (p : State) (log : ℕ) (call : Command) (event : Event)
    → decide p log call ≡ Ok (Some event) → Leads p log (event_of p call) event
command_leads p log call event e = go (is_repeated p call) e
  where
    go : (repeated : Bool)
        → (if repeated then Ok None else decided p log (event_of p call)) ≡ Ok (Some event)
        → Leads p log (event_of p call) event
    go true e = cc
    go false e = decided_leads p log (event_of p call) event e
