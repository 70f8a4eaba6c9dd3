-- The part of a state that goes on after its renewal, at any later time: the later states and
-- events of the old store, by the numbers of the renewed one.
use Rattle.std.specs.Prelude.{◌≡◌, ℕ, Bool, true, ◌&&◌, ◌||◌, List, [], ◌∷◌, length, nat_le, Some}
use Rattle.run_model.specs.Allowed.{run}
use Rattle.run_model.specs.Event.{Event}
use Rattle.run_model.specs.Rules.{IsConsistent}
use Rattle.run_model.specs.State.{State}
use Rattle.state_renewal.specs.Renewed.{Part, keeps_group, keeps_scope, keeps_task}
use Rattle.state_renewal.specs.PartEvents.{names_part}

-- ---- the part that goes on

-- A row goes on if it was there at the renewal and is kept, or if it is made later.
abbrev pub goes_on : ℕ → (ℕ → Bool) → ℕ → Bool
goes_on many keeps n = nat_le many n || keeps n

-- The part of a state that goes on from its renewal: the kept rows, and all rows that are made
-- later.
abbrev pub going_on : State → Part
going_on p = record {
  scopes = goes_on (length p.tree.scopes) (keeps_scope p);
  groups = goes_on (length p.work.groups) (keeps_group p);
  tasks = goes_on (length p.work.tasks) (keeps_task p);
}

-- ---- a store that goes on

-- Each event of the list refers only to this part.
abbrev pub all_name_part : Part → List Event → Bool
all_name_part part [] = true
all_name_part part (e ∷ events) = names_part part e && all_name_part part events

-- From state p, which could be renewed, a store goes on to state q, by events that refer only to
-- what goes on, each allowed at its place.
pub record GoesOn (p : State) (events : List Event) (q : State) : Type 0 where
  pub rules : IsConsistent p
  pub names : all_name_part (going_on p) events ≡ true
  pub run : run p events ≡ Some q
