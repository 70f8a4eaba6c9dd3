-- The bytes that were read and those that were written, part by part.
use Rattle.std.specs.Prelude.{◌≢◌, List, [], ◌∷◌, ◌++◌, Option, Some, None, ℕ, length}
use Rattle.std.specs.Io.KnownBytes.{Appends, Consumes, Keeps}
use Rattle.std.proofs.Common.{arith, refl, sym, ap, ◌∙◌, append_assoc, append-nil}
use Rattle.console_lines.specs.Progress.{IsCut}

pub appends_nothing : (a : Option (List ℕ)) → Appends a a []
appends_nothing None = tt
appends_nothing (Some xs) = sym (append-nil xs)

pub appends_then :
    (a b c : Option (List ℕ)) (xs ys : List ℕ)
    → Appends a b xs
    → Appends b c ys
    → Appends a c (xs ++ ys)
appends_then None b c xs ys h k = tt
appends_then (Some x) None c xs ys h k = absurd h
appends_then (Some x) (Some y) None xs ys h k = absurd k
appends_then (Some x) (Some y) (Some z) xs ys h k =
    k ∙ ap (λ t. t ++ ys) h ∙ append_assoc x xs ys

pub consumes_nothing : (a : Option (List ℕ)) → Consumes a a []
consumes_nothing None = tt
consumes_nothing (Some xs) = refl

pub consumes_kept : (a b : Option (List ℕ)) → Keeps a b → Consumes a b []
consumes_kept None b h = tt
consumes_kept (Some x) None h = absurd h
consumes_kept (Some x) (Some y) h = sym h

pub consumes_then :
    (a b c : Option (List ℕ)) (xs ys : List ℕ)
    → Consumes a b xs
    → Consumes b c ys
    → Consumes a c (xs ++ ys)
consumes_then None b c xs ys h k = tt
consumes_then (Some x) None c xs ys h k = absurd h
consumes_then (Some x) (Some y) None xs ys h k = absurd k
consumes_then (Some x) (Some y) (Some z) xs ys h k =
    h ∙ ap (λ t. xs ++ t) k ∙ sym (append_assoc xs ys z)

-- ---- fronts

-- What is put after some bytes leaves some.
more_than_none : (xs ys : List ℕ) → xs ≢ [] → xs ++ ys ≢ []
more_than_none [] ys h = absurd (h refl)
more_than_none (x ∷ xs) ys h = λ e. omega (arith, ap length e)

-- The first text with a prefix of the second one is a prefix of both joined.
pub prefix_after : (prefix xs ys : List ℕ) → IsCut prefix ys → IsCut (xs ++ prefix) (xs ++ ys)
prefix_after prefix xs ys k =
    (k.0, ap (λ t. xs ++ t) k.1 ∙ sym (append_assoc xs prefix k.0), k.2)

-- A prefix of the first of two texts is a prefix of both joined.
pub prefix_more : (prefix xs ys : List ℕ) → IsCut prefix xs → IsCut prefix (xs ++ ys)
prefix_more prefix xs ys k = (
  k.0 ++ ys,
  ap (λ t. t ++ ys) k.1 ∙ append_assoc prefix k.0 ys,
  more_than_none k.0 ys k.2,
)
