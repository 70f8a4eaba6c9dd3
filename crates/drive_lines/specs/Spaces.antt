-- Words and what comes after them, with a single space between.
use Rattle.std.specs.Prelude.{◌++◌, ◌∷◌, ◌==◌, ℕ, List, [], Option, Some, None, if◌then◌else◌}
use Rattle.std.specs.Option.{option_map}
use Rattle.std.specs.Borrow.{Bor}

-- One text, a space, and another text.
abbrev pub spaced : (first rest : List ℕ) → List ℕ
spaced first rest = first ++ 32 ∷ rest

-- A word, and after a space what is left, if anything is.
abbrev pub after : (first : List ℕ) → (rest : Option (List ℕ)) → List ℕ
after first None = first
after first (Some rest) = spaced first rest

-- The bytes up to the first space.
abbrev pub first_of : List ℕ → List ℕ
first_of [] = []
first_of (b ∷ bytes) = if b == 32 then [] else b ∷ first_of bytes

-- The bytes after the first space, if there is one.
abbrev pub rest_of : List ℕ → Option (List ℕ)
rest_of [] = None
rest_of (b ∷ bytes) = if b == 32 then Some bytes else rest_of bytes

-- ---- for private functions: no public contract cites what follows

-- The bytes that are lent, if any are.
abbrev pub lent : Option (Bor (List ℕ)) → Option (List ℕ)
lent left = option_map (λ bytes. bytes.now) left
