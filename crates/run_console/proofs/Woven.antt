-- What is left of an input, byte by byte, is the input that its timed lines make.
use Rattle.std.specs.Prelude.{◌≡◌, ◌==◌, ◌+◌, max, nat_lt, drop, if◌then◌else◌, Bool, true, false}
use Rattle.std.specs.Prelude.{ℕ, List, [], ◌∷◌, ◌++◌, length}
use Rattle.std.proofs.Common.{arith, refl, sym, ap, ◌∙◌, append_assoc, inl, inr}
use Rattle.std.proofs.lemmas.Bool.{cases_lt}
use Rattle.std.proofs.lemmas.List.{length-take, take_all}
use Rattle.console_lines.specs.declared.lines.TheConstants.{LONGEST_LINE}
use Rattle.console_lines.proofs.Splits.{kept_full, kept_more}
use Rattle.console_lines.specs.Lines.{whole_lines, open_line, lines_of}
use Rattle.console_lines.specs.Progress.{kept}
use Rattle.console_lines.proofs.Cuts.{asked_of_kept}
use Rattle.run_console.specs.Timed.{advance_line, advance_to, further, input_of, latest_asked}
use Rattle.run_console.specs.Timed.{latest_after, timed, timed_lines}
use Rattle.run_console.specs.Weaving.{advance_text, left_of, moved, woven}

-- The timed lines after the advance that stands before the first.
abbrev first_timed : ℕ → List ℕ → List (List ℕ) → List (List ℕ)
first_timed latest moments [] = []
first_timed latest moments (line ∷ lines) =
    line ∷ timed_lines (latest_after latest line) moments lines

-- ---- lines of which one is the last

further_all : (xs : List (List ℕ)) (y : List ℕ)
    → further (xs ++ y ∷ []) ≡ 10 ∷ input_of (xs ++ y ∷ [])
further_all [] y = refl
further_all (x ∷ xs) y = refl

further_first : (latest : ℕ) (moments : List ℕ) (xs : List (List ℕ)) (y : List ℕ)
    → further (first_timed latest moments (xs ++ y ∷ []))
    ≡ 10 ∷ input_of (first_timed latest moments (xs ++ y ∷ []))
further_first latest moments [] y = refl
further_first latest moments (x ∷ xs) y = refl

none_reported : (latest : ℕ) (xs : List (List ℕ)) (y : List ℕ)
    → first_timed latest [] (xs ++ y ∷ []) ≡ xs ++ y ∷ []
none_reported latest [] y = refl
none_reported latest (x ∷ xs) y = refl

one_reported : (latest moment : ℕ) (moments : List ℕ) (xs : List (List ℕ)) (y : List ℕ)
    → timed_lines latest (moment ∷ moments) (xs ++ y ∷ [])
    ≡ advance_to latest moment ++ first_timed (max latest moment) moments (xs ++ y ∷ [])
one_reported latest moment moments [] y = refl
one_reported latest moment moments (x ∷ xs) y = refl

no_lines : (latest : ℕ) (moments : List ℕ) → timed_lines latest moments [] ≡ []
no_lines latest [] = refl
no_lines latest (moment ∷ moments) = refl

-- ---- an advance before lines

before_further : (b : Bool) (moment : ℕ) (lines : List (List ℕ)) (text : List ℕ)
    → further lines ≡ 10 ∷ text
    → further ((if b then advance_line moment ∷ [] else []) ++ lines)
    ≡ 10 ∷ ((if b then advance_line moment ++ 10 ∷ [] else []) ++ text)
before_further true moment lines text h =
    ap (λ t. 10 ∷ (advance_line moment ++ t)) h
    ∙ ap (λ t. 10 ∷ t) (sym (append_assoc (advance_line moment) (10 ∷ []) text))
before_further false moment lines text h = h

before_input : (b : Bool) (moment : ℕ) (lines : List (List ℕ)) (text : List ℕ)
    → further lines ≡ 10 ∷ input_of lines
    → input_of lines ≡ text
    → input_of ((if b then advance_line moment ∷ [] else []) ++ lines)
    ≡ (if b then advance_line moment ++ 10 ∷ [] else []) ++ text
before_input true moment lines text h e =
    ap (λ t. advance_line moment ++ t) (h ∙ ap (λ t. 10 ∷ t) e)
    ∙ sym (append_assoc (advance_line moment) (10 ∷ []) text)
before_input false moment lines text h e = e

-- The lines after an LF, where those after it without their advance are known.
behind : (latest : ℕ) (moments bytes : List ℕ)
    → ((l : ℕ) (reported : List ℕ)
    → input_of (first_timed l reported (lines_of bytes)) ≡ woven l reported [] bytes)
    → further (timed_lines latest moments (lines_of bytes))
    ≡ 10 ∷ (advance_text latest moments
    ++ woven (moved latest moments) (drop 1 moments) [] bytes)
behind latest [] bytes h =
    let xs = whole_lines [] bytes in
    let y = open_line [] bytes in
    further_all xs y
    ∙ ap (λ t. 10 ∷ t) (ap input_of (sym (none_reported latest xs y)) ∙ h latest [])
behind latest (moment ∷ moments) bytes h =
    let xs = whole_lines [] bytes in
    let y = open_line [] bytes in
    let l = max latest moment in
    ap further (one_reported latest moment moments xs y)
    ∙ before_further (nat_lt latest moment) moment (first_timed l moments (xs ++ y ∷ []))
    (woven l moments [] bytes)
    (further_first l moments xs y ∙ ap (λ t. 10 ∷ t) (h l moments))

-- ---- byte by byte

kept_twice : (line : List ℕ) → kept (kept line) ≡ kept line
kept_twice line =
    take_all (LONGEST_LINE + 1) (kept line)
    (omega (arith, length-take (LONGEST_LINE + 1) line))

-- What is kept of a line and a byte more is what is kept of both.
kept_on : (begun line : List ℕ) (b : ℕ)
    → begun ≡ kept line → kept (begun ++ b ∷ []) ≡ kept (line ++ b ∷ [])
kept_on begun line b e = elim (cases_lt (length begun) (LONGEST_LINE + 1)) [
  | inl short ↦ ap kept (kept_more begun line b e short) ∙ kept_twice (line ++ b ∷ [])
  | inr full ↦
      sym (kept_full begun begun b (e ∙ sym (ap kept e ∙ kept_twice line)) full)
      ∙ kept_full begun line b e full
]

-- An LF ends the line that was begun.
line_ends : (latest : ℕ) (moments begun line bytes : List ℕ)
    → begun ≡ kept line
    → ((l : ℕ) (reported : List ℕ)
    → input_of (first_timed l reported (lines_of bytes)) ≡ woven l reported [] bytes)
    → line ++ further (timed_lines (latest_after latest line) moments (lines_of bytes))
    ≡ line ++ 10 ∷ (advance_text (latest_after latest begun) moments
    ++ woven (moved (latest_after latest begun) moments) (drop 1 moments) [] bytes)
line_ends latest moments begun line bytes e h =
    let same : latest_after latest line ≡ latest_after latest begun =
    ap (latest_asked latest) (sym (asked_of_kept line)) ∙ ap (latest_after latest) (sym e) in
    ap (λ l. line ++ further (timed_lines l moments (lines_of bytes))) same
    ∙ ap (λ t. line ++ t) (behind (latest_after latest begun) moments bytes h)

-- A byte ends the line that was begun, or makes it longer.
by_byte : (ends : Bool) (latest : ℕ) (moments begun line bytes : List ℕ) (b : ℕ)
    → line ++ further (timed_lines (latest_after latest line) moments (lines_of bytes))
    ≡ line ++ 10 ∷ (advance_text (latest_after latest begun) moments
    ++ woven (moved (latest_after latest begun) moments) (drop 1 moments) [] bytes)
    → input_of (first_timed latest moments
    (whole_lines (line ++ b ∷ []) bytes ++ open_line (line ++ b ∷ []) bytes ∷ []))
    ≡ (line ++ b ∷ []) ++ woven latest moments (kept (begun ++ b ∷ [])) bytes
    → input_of (first_timed latest moments
    ((if ends then line ∷ whole_lines [] bytes else whole_lines (line ++ b ∷ []) bytes)
    ++ (if ends then open_line [] bytes else open_line (line ++ b ∷ []) bytes) ∷ []))
    ≡ line ++ (if ends then
    10 ∷ advance_text (latest_after latest begun) moments
    ++ woven (moved (latest_after latest begun) moments) (drop 1 moments) [] bytes
    else b ∷ woven latest moments (kept (begun ++ b ∷ [])) bytes)
by_byte true latest moments begun line bytes b ended longer = ended
by_byte false latest moments begun line bytes b ended longer =
    longer
    ∙ append_assoc line (b ∷ []) (woven latest moments (kept (begun ++ b ∷ [])) bytes)

-- From a line that was begun on.
woven_from : (latest : ℕ) (moments begun line bytes : List ℕ)
    → begun ≡ kept line
    → input_of (first_timed latest moments (whole_lines line bytes ++ open_line line bytes ∷ []))
    ≡ line ++ woven latest moments begun bytes
woven_from latest moments begun line [] e =
    ap (λ t. line ++ further t) (no_lines (latest_after latest line) moments)
woven_from latest moments begun line (b ∷ bytes) e =
    by_byte (b == 10) latest moments begun line bytes b
    (line_ends latest moments begun line bytes e
    (λ l reported. woven_from l reported [] [] bytes refl))
    (woven_from latest moments (kept (begun ++ b ∷ [])) (line ++ b ∷ []) bytes
    (kept_on begun line b e))

-- The input that the timed lines make is what is left of it before its first byte.
pub timed_is : (latest : ℕ) (moments bytes : List ℕ)
    → timed latest moments bytes ≡ left_of false latest moments [] bytes
timed_is latest [] bytes =
    let xs = whole_lines [] bytes in
    let y = open_line [] bytes in
    ap input_of (sym (none_reported latest xs y)) ∙ woven_from latest [] [] [] bytes refl
timed_is latest (moment ∷ moments) bytes =
    let xs = whole_lines [] bytes in
    let y = open_line [] bytes in
    let l = max latest moment in
    ap input_of (one_reported latest moment moments xs y)
    ∙ before_input (nat_lt latest moment) moment (first_timed l moments (xs ++ y ∷ []))
    (woven l moments [] bytes) (further_first l moments xs y)
    (woven_from l moments [] [] bytes refl)
