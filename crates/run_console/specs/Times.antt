-- What a clock returns.
use Rattle.std.specs.Prelude.{◌≡◌, ℕ, List, [], ◌∷◌, Option, Some, None, ⊤}

-- A clock that was asked returned the next one of its moments, if these are known, and none after
-- the last of them.
abbrev pub ReportsNext : (old new : Option (List ℕ)) → Option ℕ → Type 0
ReportsNext None new reported = ⊤
ReportsNext (Some []) new reported = (new ≡ Some []) × (reported ≡ None)
ReportsNext (Some (moment ∷ moments)) new reported = (new ≡ Some moments) × (reported ≡ Some moment)
