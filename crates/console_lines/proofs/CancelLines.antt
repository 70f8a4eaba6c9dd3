-- A line that cancels a scope.
use Rattle.std.specs.Prelude.{◌≡◌, ◌≢◌, ◌≤◌, ◌==◌, nat_lt, ℕ, Bool, true, false, List, [], ◌∷◌}
use Rattle.std.specs.Prelude.{◌++◌, length, codes, Option, Some, None, MatchOption, IfSome}
use Rattle.std.specs.Borrow.{Bor}
use Rattle.std.specs.Option.{option_map}
use Rattle.std.specs.List.{join_with_byte}
use Rattle.std.specs.Str.{bytes_eq}
use Rattle.std.proofs.Common.{arith, ap, refl, sym, ◌∙◌}
use Rattle.std.proofs.lemmas.Bool.Decides.{nat_tests}
use Rattle.std.proofs.lemmas.Grind.{common_steps}
use Rattle.std.proofs.lemmas.List.Splits.{slice_split_first}
use Rattle.std.proofs.lemmas.Slice.Eq.{bytes_eq-Decides}
use Rattle.console_lines.specs.declared.line_requests.LineRequest.{LineRequest}
use Rattle.console_lines.specs.declared.lines.TheConstants.{LONGEST_LINE}
use Rattle.console_lines.specs.LineRequests.{asked_by, request_of, asks_cancel, cancel_line}
use Rattle.console_lines.specs.CancelLines.{cancel_words, cancelled_by}
use Rattle.console_lines.specs.Words.{lent, rest_of, words_in, words_of}
use Rattle.console_lines.proofs.WordLemmas.{rest_is}

some : (line : List ℕ) (words : List (List ℕ)) → words_of line ≡ codes "cancel" ∷ words
    → nat_lt 0 (length line) ≡ true
some [] words h = absurd (grind (arith, common_steps, h))
some (b ∷ line) words h = grind (arith, nat_tests, common_steps)

asked_is : (line : List ℕ) (a : LineRequest) → nat_lt LONGEST_LINE (length line) ≡ false
    → nat_lt 0 (length line) ≡ true → asked_by (words_of line) ≡ Some a → request_of line ≡ a
asked_is line a short more is = rw (short, more, is) refl

-- The words of a line that isn't too long.
pub words_are : (line : List ℕ) (words : List (List ℕ)) → length line ≤ LONGEST_LINE
    → words_of line ≡ words → cancel_words line ≡ cancelled_by words
words_are line words short is =
    let fits : nat_lt LONGEST_LINE (length line) ≡ false = grind (arith, nat_tests, short) in
    rw (fits, is) refl

-- A line that begins with this word and a space has the words of the rest after it.
pub words_after : (left : List ℕ)
    → words_of (codes "cancel " ++ left) ≡ codes "cancel" ∷ words_of left
words_after left = slice_split_first (λ b. b == 32) (codes "cancel " ++ left) 0 (omega arith)

no_cancel_by : (line : List ℕ) → ((left : List ℕ) → line ≢ codes "cancel " ++ left)
    → (words : List (List ℕ)) → words_of line ≡ words → cancelled_by words ≡ None
no_cancel_by line other [] is = refl
no_cancel_by line other (word ∷ []) is = refl
no_cancel_by line other (word ∷ scope ∷ cause) is = by (bytes_eq word (codes "cancel")) refl
  where
    by : (same : Bool) → bytes_eq word (codes "cancel") ≡ same
        → cancelled_by (word ∷ scope ∷ cause) ≡ None
    by true e =
        let rest = join_with_byte 32 (scope ∷ cause) in
        let whole : Some (word ++ 32 ∷ rest) ≡ Some line =
        ap rest_of (sym is) ∙ rest_is (Some line) in
        let line_is : line ≡ word ++ 32 ∷ rest = cc in
        absurd (other rest (line_is
        ∙ ap (λ w. w ++ 32 ∷ rest) ((bytes_eq-Decides word (codes "cancel")).0 e)))
    by false e = rw e refl

-- A line that begins differently isn't a cancel.
pub no_cancel : (line : List ℕ) → ((left : List ℕ) → line ≢ codes "cancel " ++ left)
    → cancel_words line ≡ None
no_cancel line other = by (nat_lt LONGEST_LINE (length line)) refl
  where
    by : (long : Bool) → nat_lt LONGEST_LINE (length line) ≡ long → cancel_words line ≡ None
    by true e = rw e refl
    by false e = rw e (no_cancel_by line other (words_of line) refl)

-- A cancel has these words.
pub words_of_cancel : (word scope : List ℕ) (cause : Option (List ℕ))
    → bytes_eq word (codes "cancel") ≡ true
    → cancelled_by (word ∷ scope ∷ words_in cause) ≡ Some (scope, cause)
words_of_cancel word scope cause spelled =
    rw spelled (ap (λ (rest : Option (List ℕ)). Some (scope, rest)) (rest_is cause))

-- A line with these words cancels a scope.
pub asks_to_cancel : (line word scope : List ℕ) (left cause : Option (List ℕ))
    → length line ≤ LONGEST_LINE
    → words_of line ≡ word ∷ words_in left
    → bytes_eq word (codes "cancel") ≡ true
    → words_in left ≡ scope ∷ words_in cause
    → request_of line ≡ asks_cancel scope cause
asks_to_cancel line word scope left cause short words spelled next =
    let same = (bytes_eq-Decides word (codes "cancel")).0 spelled in
    let fits : nat_lt LONGEST_LINE (length line) ≡ false = grind (arith, nat_tests, short) in
    let first : words_of line ≡ codes "cancel" ∷ words_in left =
    words ∙ ap (λ w. w ∷ words_in left) same in
    asked_is line (asks_cancel scope cause) fits (some line (words_in left) first)
    (ap asked_by first ∙ ap cancel_line next
    ∙ ap (λ r. Some (asks_cancel scope r)) (rest_is cause))

-- The words that are read after `cancel ` are the words of the line.
pub next_words : (line left : List ℕ) (r : Option (Bor (List ℕ) × Option (Bor (List ℕ))))
    → length line ≤ LONGEST_LINE
    → line ≡ codes "cancel " ++ left
    → MatchOption r (words_of left ≡ [])
    (λ next. words_of left ≡ next.0.now ∷ words_in (lent next.1))
    → option_map (λ words. (words.0.now, lent words.1)) r ≡ cancel_words line
next_words line left None short is none =
    sym (words_are line (codes "cancel" ∷ []) short
    (ap words_of is ∙ words_after left ∙ ap (λ w. codes "cancel" ∷ w) none))
next_words line left (Some next) short is more =
    sym (words_are line _ short
    (ap words_of is ∙ words_after left ∙ ap (λ w. codes "cancel" ∷ w) more)
    ∙ words_of_cancel (codes "cancel") next.0.now (lent next.1) refl)

-- The request in these words is a cancel.
pub next_asks : (line left : List ℕ) (r : Option (Bor (List ℕ) × Option (Bor (List ℕ))))
    → length line ≤ LONGEST_LINE
    → line ≡ codes "cancel " ++ left
    → MatchOption r (words_of left ≡ [])
    (λ next. words_of left ≡ next.0.now ∷ words_in (lent next.1))
    → IfSome r (λ words. request_of line ≡ asks_cancel words.0.now (lent words.1))
next_asks line left None short is none = tt
next_asks line left (Some next) short is more =
    asks_to_cancel line (codes "cancel") next.0.now (Some left) (lent next.1) short
    (ap words_of is ∙ words_after left) refl more
