-- The changes that a tree accepts, and the refusals of all others.
use Rattle.std.specs.Prelude.{◌≡◌, ◌<◌, ◌⊎◌, ℕ, ◌+◌, nat_lt, Bool, true, ◌||◌, if◌then◌else◌}
use Rattle.std.specs.Prelude.{List, Some, Result, Ok, Err, slice_get}
use Rattle.run_model.specs.declared.bounds.TheConstants.{GREATEST_MOMENT}
use Rattle.run_model.specs.declared.scopes.Kind.{Kind}
use Rattle.run_model.specs.declared.scopes.Hit.{Hit}
use Rattle.run_model.specs.declared.scopes.Scope.{Scope}
use Rattle.run_model.specs.declared.refusals.Refusal.{Refusal}
use Rattle.run_model.specs.declared.refusals.Refusal.TheVariants as refusal
use Rattle.run_model.specs.Event.{Event}
use Rattle.run_model.specs.State.{TreeState, WorkState}
use Rattle.run_model.specs.Allowed.{refusals, tested}
use Rattle.run_model.specs.Records.{is_recorded_kind}
use Rattle.run_model.specs.Scopes.{is_group_kind}

-- A test returns the first refusal of the event in each state with this tree.
abbrev pub Answers : TreeState → Event → Result (Unit {0}) Refusal → Type 0
Answers t event answer = (count : ℕ) (work : WorkState)
    → answer ≡ tested (refusals (record { count = count; tree = t; work = work }) event)

-- The deadline that is this many seconds from now, unless it is past the greatest moment.
abbrev pub deadline_in : TreeState → ℕ → Result ℕ Refusal
deadline_in t seconds =
    if nat_lt GREATEST_MOMENT (t.clock + seconds) then Err refusal.MomentOutOfRange
    else Ok (t.clock + seconds)

-- A derive can make a scope of each kind except root's, also a group's, if its moment, key and
-- texts are in range.
abbrev pub is_derived_kind : Kind → Bool
is_derived_kind kind = is_recorded_kind kind || is_group_kind kind

-- No hit has a later event than e. Each hit of event e itself is that of a group's scope, and has
-- this cause.
abbrev pub AreEarlierOrAlike : List Scope → ℕ → List ℕ → Type 0
AreEarlierOrAlike rows e cause =
    (s : ℕ) (row : Scope) (hit : Hit) → slice_get rows s ≡ Some row → row.hit ≡ Some hit
    → (hit.event < e)
    ⊎ ((hit.event ≡ e) × (is_group_kind row.kind ≡ true) × (hit.cause ≡ cause))
