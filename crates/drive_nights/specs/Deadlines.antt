-- The next moment at which something comes in a night by itself: a retry, or a deadline.
use Rattle.std.specs.Prelude.{◌≡◌, ◌<◌, ◌≤◌, ◌⊎◌, ℕ, if◌then◌else◌, List, Option, Some, None}
use Rattle.std.specs.Prelude.{nat_lt, slice_get}
use Rattle.std.specs.Option.{option_and_then}
use Rattle.run_model.specs.Scopes.{deadline_of, lesser}
use Rattle.run_model.specs.State.{State}
use Rattle.drive_nights.specs.Nights.{base_of}
use Rattle.drive_nights.specs.Rooms.{last_scope}

-- Scope s has its deadline at this moment, which hasn't come by the clock of the store.
pub record Ends (p : State) (s moment : ℕ) : Type 0 where
  pub deadline : deadline_of p.tree.scopes s ≡ Some moment
  pub ahead : p.tree.clock < moment

-- All groups of night n end at this moment, because the base of the night does.
pub record EndsAll (p : State) (n moment : ℕ) : Type 0 where
  pub base : ℕ
  pub is : base_of p n ≡ Some base
  pub ends : Ends p base moment

-- One of these groups ends at this moment in night n, because its last scope does.
pub record EndsGroup (p : State) (n : ℕ) (groups : List (List ℕ)) (moment : ℕ) : Type 0 where
  pub number : ℕ
  pub group : List ℕ
  pub is : slice_get groups number ≡ Some group
  pub scope : ℕ
  pub last : last_scope p n group ≡ Some scope
  pub ends : Ends p scope moment

-- At this moment something comes by itself: the next retry, if there is one, or a deadline.
abbrev pub Comes : State → (n : ℕ) → (groups : List (List ℕ)) → (retry : Option ℕ) → (moment : ℕ)
    → Type 0
Comes p n groups retry moment =
    (retry ≡ Some moment) ⊎ EndsAll p n moment ⊎ EndsGroup p n groups moment

-- The least of some moments; none if there are none.
abbrev pub IsLeastOf : (among : ℕ → Type 0) → Option ℕ → Type 0
IsLeastOf among None = (moment : ℕ) → among moment → ⊥
IsLeastOf among (Some least) = among least × ((moment : ℕ) → among moment → least ≤ moment)

-- The least moment at which something comes in night n, which has these groups.
abbrev pub IsNextMoment : State → (n : ℕ) → (groups : List (List ℕ)) → (retry next : Option ℕ)
    → Type 0
IsNextMoment p n groups retry next = IsLeastOf (Comes p n groups retry) next

-- ---- for private functions: no public contract cites what follows

-- The deadline of scope s, if it hasn't come by the clock of the store.
abbrev pub end_of : State → (s : ℕ) → Option ℕ
end_of p s =
    option_and_then (λ moment. if nat_lt p.tree.clock moment then Some moment else None)
    (deadline_of p.tree.scopes s)

-- The earlier of two moments, each of which may be missing.
abbrev pub sooner : Option ℕ → Option ℕ → Option ℕ
sooner None other = other
sooner (Some one) other = lesser one other
