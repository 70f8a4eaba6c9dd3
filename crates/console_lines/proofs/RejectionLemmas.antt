-- The first rejected line in two lists of lines, one after the other.
use Rattle.std.specs.Prelude.{◌≡◌, ◌+◌, ℕ, Bool, true, false, List, [], ◌∷◌, ◌++◌, length}
use Rattle.std.specs.Prelude.{map, Option, Some, None, is_some, if◌then◌else◌}
use Rattle.std.specs.Option.{option_map_or}
use Rattle.std.proofs.Common.{arith, refl, sym, ap, ◌∙◌, append_assoc, append-nil}
use Rattle.run_model.specs.Session.{Session}
use Rattle.console_lines.specs.declared.rejections.Rejection.{Rejection}
use Rattle.console_lines.specs.declared.rejections.RejectedLine.{RejectedLine}
use Rattle.console_lines.specs.declared.tallies.JobTally.{JobTally}
use Rattle.console_lines.specs.declared.line_replies.LineReply.TheVariants as printed
use Rattle.console_lines.specs.Lines.{whole_lines, open_line, lines_of}
use Rattle.console_lines.specs.Script.{after_line, after_lines, closing, replies}
use Rattle.console_lines.specs.Strict.{rejection_among, rejection_at, rejection_from, rejection_in}
use Rattle.console_lines.specs.Strict.{strict_lines}
use Rattle.console_lines.specs.Strict.{strict_lines_of}
use Rattle.console_lines.proofs.Splits.{whole_lines-append, open_line-append}

-- ---- lines of which none is rejected, and what comes after them

none_first : (n : ℕ) (first : Option Rejection) (rest : Option RejectedLine)
    → option_map_or (λ why. Some (record { number = n; why = why })) first rest ≡ None
    → (first ≡ None) × (rest ≡ None)
none_first n None rest h = (refl, h)
none_first n (Some why) rest h = absurd (grind (arith, h))

-- If no line of the first list is rejected, the search goes on in the second.
pub none_then : (n : ℕ) (s : Session) (xs ys : List (List ℕ))
    → rejection_from n s xs ≡ None
    → rejection_from n s (xs ++ ys) ≡ rejection_from (n + length xs) (after_lines s xs) ys
none_then n s [] ys h = ap (λ m. rejection_from m s ys) (omega arith)
none_then n s (x ∷ xs) ys h =
    let both = none_first n (rejection_at s x) (rejection_from (n + 1) (after_line s x) xs) h in
    ap (λ first. option_map_or (λ why. Some (record { number = n; why = why })) first
    (rejection_from (n + 1) (after_line s x) (xs ++ ys))) both.0
    ∙ none_then (n + 1) (after_line s x) xs ys both.1
    ∙ ap (λ m. rejection_from m (after_lines (after_line s x) xs) ys) (omega arith)

-- If no line of the first list is rejected, all of them are run.
pub lines_then : (n : ℕ) (s : Session) (xs ys : List (List ℕ))
    → rejection_from n s xs ≡ None
    → strict_lines s (xs ++ ys) ≡ xs ++ strict_lines (after_lines s xs) ys
lines_then n s [] ys h = refl
lines_then n s (x ∷ xs) ys h =
    let both = none_first n (rejection_at s x) (rejection_from (n + 1) (after_line s x) xs) h in
    ap (λ first. x ∷ (if is_some first then [] else strict_lines (after_line s x) (xs ++ ys)))
    both.0
    ∙ ap (λ t. x ∷ t) (lines_then (n + 1) (after_line s x) xs ys both.1)

-- ---- lines of which one is rejected

some_first : (n : ℕ) (x : List ℕ) (first : Option Rejection) (rejection : RejectedLine)
    (rest more : Option RejectedLine) (lines all : List (List ℕ))
    → option_map_or (λ why. Some (record { number = n; why = why })) first rest ≡ Some rejection
    → (rest ≡ Some rejection → (more ≡ Some rejection) × (all ≡ lines))
    → (option_map_or (λ why. Some (record { number = n; why = why })) first more ≡ Some rejection)
    × (x ∷ (if is_some first then [] else all) ≡ x ∷ (if is_some first then [] else lines))
some_first n x None rejection rest more lines all h behind =
    ((behind h).0, ap (λ t. x ∷ t) (behind h).1)
some_first n x (Some why) rejection rest more lines all h behind = (h, refl)

-- If a line of the first list is rejected, the second list doesn't matter.
pub some_more : (n : ℕ) (s : Session) (xs ys : List (List ℕ)) (rejection : RejectedLine)
    → rejection_from n s xs ≡ Some rejection
    → (rejection_from n s (xs ++ ys) ≡ Some rejection)
    × (strict_lines s (xs ++ ys) ≡ strict_lines s xs)
some_more n s [] ys rejection h = absurd (grind (arith, h))
some_more n s (x ∷ xs) ys rejection h =
    let t = after_line s x in
    some_first n x (rejection_at s x) rejection (rejection_from (n + 1) t xs)
    (rejection_from (n + 1) t (xs ++ ys))
    (strict_lines t xs) (strict_lines t (xs ++ ys)) h (some_more (n + 1) t xs ys rejection)

-- ---- one line

no_choice : (b : Bool) (xs : List (List ℕ)) → (if b then xs else xs) ≡ xs
no_choice true xs = refl
no_choice false xs = refl

-- One line is run, whether it is rejected or not.
pub strict_one : (s : Session) (line : List ℕ) → strict_lines s (line ∷ []) ≡ line ∷ []
strict_one s line = ap (λ t. line ∷ t) (no_choice (is_some (rejection_at s line)) [])

pub rejection_one : (n : ℕ) (s : Session) (line : List ℕ) (why : Rejection)
    → rejection_at s line ≡ Some why
    → rejection_from n s (line ∷ []) ≡ Some (record { number = n; why = why })
rejection_one n s line why h =
    ap (λ first. option_map_or (λ x. Some (record { number = n; why = x })) first None) h

pub none_one : (n : ℕ) (s : Session) (line : List ℕ)
    → rejection_at s line ≡ None
    → rejection_from n s (line ∷ []) ≡ None
none_one n s line h =
    ap (λ first. option_map_or (λ x. Some (record { number = n; why = x })) first None) h

-- ---- tallies

-- A tally never rejects its line.
pub tallies_stay : (tallies : List JobTally) → rejection_among (map printed.Tally tallies) ≡ None
tallies_stay [] = refl
tallies_stay (tally ∷ tallies) = tallies_stay tallies

-- ---- an input

-- Every LF ends a line.
pub lines_around : (prefix behind : List ℕ)
    → lines_of (prefix ++ 10 ∷ behind) ≡ lines_of prefix ++ lines_of behind
lines_around prefix behind =
    let first = whole_lines [] prefix in
    let line = open_line [] prefix in
    ap (λ l. l ++ open_line [] (prefix ++ 10 ∷ behind) ∷ [])
    (whole_lines-append [] prefix (10 ∷ behind))
    ∙ ap (λ l. (first ++ line ∷ whole_lines [] behind) ++ l ∷ [])
    (open_line-append [] prefix (10 ∷ behind))
    ∙ append_assoc first (line ∷ whole_lines [] behind) (open_line [] behind ∷ [])
    ∙ sym (append_assoc first (line ∷ []) (lines_of behind))

-- What comes after the rejected line doesn't matter.
pub rejected_before : (s : Session) (prefix behind : List ℕ) (rejection : RejectedLine)
    → rejection_in s prefix ≡ Some rejection
    → (rejection_in s (prefix ++ 10 ∷ behind) ≡ Some rejection)
    × (strict_lines_of s (prefix ++ 10 ∷ behind) ≡ strict_lines_of s prefix)
rejected_before s prefix behind rejection h =
    let lines = lines_around prefix behind in
    let more = some_more 1 s (lines_of prefix) (lines_of behind) rejection h in
    (ap (rejection_from 1 s) lines ∙ more.0, ap (strict_lines s) lines ∙ more.1)

-- If no line is rejected, all lines are run.
pub all_lines : (s : Session) (bytes : List ℕ) → rejection_in s bytes ≡ None
    → strict_lines_of s bytes ≡ lines_of bytes
all_lines s bytes h =
    ap (strict_lines s) (sym (append-nil (lines_of bytes)))
    ∙ lines_then 1 s (lines_of bytes) [] h
    ∙ append-nil (lines_of bytes)

-- The same lines print the same output.
pub printed_alike : (s : Session) (xs ys : List (List ℕ)) → xs ≡ ys
    → replies s xs ++ closing (after_lines s xs) ≡ replies s ys ++ closing (after_lines s ys)
printed_alike s xs ys h = ap (λ l. replies s l ++ closing (after_lines s l)) h
