-- How far a hit reaches.
use Rattle.std.specs.Prelude.{◌≡◌, ℕ, ◌==◌, Bool, true, false, not, ◌&&◌, if◌then◌else◌, List, []}
use Rattle.std.specs.Prelude.{◌∷◌, is_some, IsSome, slice_get}
use Rattle.std.specs.List.{list_any}
use Rattle.std.specs.Option.{option_map_or}
use Rattle.run_model.specs.declared.scopes.Scope.{Scope}
use Rattle.run_model.specs.Scopes.{is_detached, line, chain, own_hit, is_done}

-- ---- places on a line

-- Scope n is on this line or chain.
abbrev pub is_on : ℕ → List (ℕ × Scope) → Bool
is_on n rows = list_any (λ r. r.0 == n) rows

-- The scopes of a line that are below scope n.
abbrev pub below : ℕ → List (ℕ × Scope) → List (ℕ × Scope)
below n [] = []
below n (r ∷ rows) = if r.0 == n then [] else r ∷ below n rows

-- One of these scopes is detached.
abbrev pub has_detached : List (ℕ × Scope) → Bool
has_detached rows = list_any (λ r. is_detached r.1.kind) rows

-- One of these scopes was hit.
abbrev pub has_hit : List (ℕ × Scope) → Bool
has_hit rows = list_any (λ r. is_some r.1.hit) rows

-- Scope n is detached.
abbrev pub is_detached_at : List Scope → ℕ → Bool
is_detached_at rows n = option_map_or (λ row. is_detached row.kind) (slice_get rows n) false

-- Scope n isn't detached.
abbrev pub IsAttached : List Scope → ℕ → Type 0
IsAttached rows n = is_detached_at rows n ≡ false

-- Scope s is detached, or has a detached scope between itself and scope n above it.
abbrev pub is_cut_off : List Scope → ℕ → ℕ → Bool
is_cut_off rows n s = has_detached (below n (line rows s))

-- ---- the effect of a hit on scope n

-- Every scope with n on its chain is done.
abbrev pub EndsBelow : List Scope → ℕ → Type 0
EndsBelow rows n = (s : ℕ) → is_on n (chain rows s) ≡ true → is_done rows s ≡ true

-- Scope n is on the chain of each scope below it that isn't cut off, and on no other chain.
abbrev pub IsOnChains : List Scope → ℕ → Type 0
IsOnChains rows n = (s : ℕ)
    → is_on n (chain rows s) ≡ (is_on n (line rows s) && not (is_cut_off rows n s))

-- A scope below n whose chain lacks n is detached, or a detached scope is between the two.
abbrev pub EndsAllButCutOff : List Scope → ℕ → Type 0
EndsAllButCutOff rows n = (s : ℕ) → is_on n (line rows s) ≡ true → is_on n (chain rows s) ≡ false
    → is_cut_off rows n s ≡ true

-- A hit on scope n reaches down: every scope that has n on its chain is done, and a scope below n
-- whose chain lacks n is detached, or a detached scope is between the two.
pub record ReachesDown (rows : List Scope) (n : ℕ) : Type 0 where
  pub ends : EndsBelow rows n
  pub cut : EndsAllButCutOff rows n

-- Each hit of these rows reaches down.
abbrev pub HitsReachDown : List Scope → Type 0
HitsReachDown rows = (n : ℕ) → IsSome (own_hit rows n) → ReachesDown rows n
