-- Groups of a store that have a scope of their own.
use Rattle.std.specs.Prelude.{◌≡◌, ℕ, Bool, true, is_none, is_some, length}
use Rattle.run_model.specs.State.{State}
use Rattle.run_model.specs.Step.{own_scope}
use Rattle.night_drive.specs.PlanTurns.{AreBare}
use Rattle.night_drive.specs.Searches.{last_below}

-- Group g of the store has a scope of its own.
abbrev pub has_own : State → ℕ → Bool
has_own p g = is_some (own_scope p.work g)

-- No group has one.
abbrev pub are_bare : State → Bool
are_bare p = is_none (last_below (has_own p) (length p.work.groups))

-- If no group below the end has one, none has.
abbrev pub AreBareIfNoneOwns : Type 0
AreBareIfNoneOwns = (p : State) → are_bare p ≡ true → AreBare p.work
