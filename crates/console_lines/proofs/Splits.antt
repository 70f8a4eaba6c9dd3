-- The lines of two parts of an input, one part after the other.
use Rattle.std.specs.Prelude.{◌≡◌, ◌<◌, ◌≤◌, ◌+◌, ℕ, min, List, [], ◌∷◌, ◌++◌, length}
use Rattle.std.proofs.Common.{arith, refl, sym, ap, ◌∙◌}
use Rattle.std.proofs.lemmas.List.{length-append, length-take, take_all, take-append-le}
use Rattle.console_lines.specs.declared.lines.TheConstants.{LONGEST_LINE}
use Rattle.console_lines.specs.Lines.{whole_lines, open_line}
use Rattle.console_lines.specs.Progress.{kept}

pub whole_lines-append :
    (begun xs ys : List ℕ)
    → whole_lines begun (xs ++ ys)
    ≡ whole_lines begun xs ++ whole_lines (open_line begun xs) ys
whole_lines-append begun [] ys = refl
whole_lines-append begun (x ∷ xs) ys =
    grind (arith, whole_lines-append [] xs ys, whole_lines-append (begun ++ x ∷ []) xs ys)

pub open_line-append :
    (begun xs ys : List ℕ)
    → open_line begun (xs ++ ys) ≡ open_line (open_line begun xs) ys
open_line-append begun [] ys = refl
open_line-append begun (x ∷ xs) ys =
    grind (arith, open_line-append [] xs ys, open_line-append (begun ++ x ∷ []) xs ys)

-- An LF ends the current line, and begins an empty one.
pub line_ends :
    (begun part : List ℕ)
    → (whole_lines begun (part ++ 10 ∷ []) ≡ whole_lines begun part ++ open_line begun part ∷ [])
    × (open_line begun (part ++ 10 ∷ []) ≡ [])
line_ends begun part =
    (whole_lines-append begun part (10 ∷ []), open_line-append begun part (10 ∷ []))

-- The kept part of a longer line, while one more byte fits.
pub kept_more :
    (begun line : List ℕ) (b : ℕ)
    → begun ≡ kept line
    → length begun < LONGEST_LINE + 1
    → begun ++ b ∷ [] ≡ kept (line ++ b ∷ [])
kept_more begun line b e h =
    let len : length begun ≡ min (LONGEST_LINE + 1) (length line) =
    ap length e ∙ length-take (LONGEST_LINE + 1) line in
    let whole : begun ≡ line =
    e ∙ take_all (LONGEST_LINE + 1) line (omega (arith, len, h)) in
    let more : length (line ++ b ∷ []) ≤ LONGEST_LINE + 1 =
    grind (arith, length-append line (b ∷ []), len, h) in
    ap (λ x. x ++ b ∷ []) whole ∙ sym (take_all (LONGEST_LINE + 1) (line ++ b ∷ []) more)

-- The kept part of a longer line, after no further byte fits.
pub kept_full :
    (begun line : List ℕ) (b : ℕ)
    → begun ≡ kept line
    → LONGEST_LINE + 1 ≤ length begun
    → begun ≡ kept (line ++ b ∷ [])
kept_full begun line b e h =
    let len : length begun ≡ min (LONGEST_LINE + 1) (length line) =
    ap length e ∙ length-take (LONGEST_LINE + 1) line in
    e ∙ sym (take-append-le (LONGEST_LINE + 1) line (b ∷ []) (omega (arith, len, h)))
