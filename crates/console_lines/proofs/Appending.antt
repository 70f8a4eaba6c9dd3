-- Texts that are appended one after another.
use Rattle.std.specs.Prelude.{◌+◌, ◌≤◌, ℕ, List, ◌++◌}
use Rattle.std.proofs.Common.{arith, ap, ◌∙◌, append_assoc}
use Rattle.console_lines.specs.Appended.{Appended}

pub appended_then : (a b c x y : List ℕ) (p q : ℕ)
    → Appended a b x p → Appended b c y q → Appended a c (x ++ y) (p + q)
appended_then a b c x y p q h k = record {
  items = k.items ∙ ap (λ t. t ++ y) h.items ∙ append_assoc a x y;
  fits = omega (arith, h.fits, k.fits);
}

-- Three texts, one after another.
pub appended_three : (a b c d x y z : List ℕ) (p q r : ℕ)
    → Appended a b x p → Appended b c y q → Appended c d z r
    → Appended a d (x ++ (y ++ z)) (p + (q + r))
appended_three a b c d x y z p q r h k m =
    appended_then a b d x (y ++ z) p (q + r) h (appended_then b c d y z q r k m)

-- One text after another, written between the two.
infixl 5 ◌followed_by◌
pub ◌followed_by◌ : {a b c x y : List ℕ} {p q : ℕ}
    → Appended a b x p → Appended b c y q → Appended a c (x ++ y) (p + q)
◌followed_by◌ {a} {b} {c} {x} {y} {p} {q} h k = appended_then a b c x y p q h k

-- A text that has at most p bytes has at most any greater number of bytes.
pub appended_within : {a b x : List ℕ} {p : ℕ} (q : ℕ) → Appended a b x p → p ≤ q → Appended a b x q
appended_within q h few = record { items = h.items; fits = omega (arith, h.fits, few) }
