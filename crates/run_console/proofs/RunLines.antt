-- Where a run ends, among lines that are one after the other.
use Rattle.std.specs.Prelude.{◌≡◌, ◌+◌, ℕ, List, [], ◌∷◌, ◌++◌, length, Option, Some, None}
use Rattle.std.specs.Prelude.{is_some, if◌then◌else◌}
use Rattle.std.proofs.Common.{arith, inl, inr, refl, sym, ap, ◌∙◌, append_assoc, length-append}
use Rattle.std.specs.Io.KnownBytes.{IsAtEnd}
use Rattle.run_model.specs.Session.{Session}
use Rattle.console_lines.specs.declared.rejections.Rejection.{Rejection}
use Rattle.console_lines.specs.declared.rejections.RejectedLine.{RejectedLine}
use Rattle.console_lines.specs.Lines.{whole_lines, open_line, lines_of}
use Rattle.console_lines.specs.Script.{after_line, after_lines}
use Rattle.console_lines.specs.Strict.{rejection_at, strict_lines}
use Rattle.console_lines.proofs.RejectionLemmas.{lines_around, lines_then, none_one, none_then}
use Rattle.console_lines.proofs.RejectionLemmas.{some_more, rejection_one, strict_one}
use Rattle.run_console.specs.declared.untils.Until.{Until}
use Rattle.run_console.specs.declared.untils.Until.TheVariants.{End, FirstRejection}
use Rattle.run_console.specs.RunProgress.{Clean, Found}
use Rattle.run_console.specs.Until.{IsReadFor, StandsFirst, ends_at, lines_until, numbered}
use Rattle.run_console.specs.Until.{rejection_until}

-- A line after these is left.
pub left_over : (xs : List (List ℕ)) (y : List ℕ) (X : Type 0) → xs ++ y ∷ [] ≡ [] → X
left_over [] y X e = absurd (omega (arith, ap length e))
left_over (x ∷ xs) y X e = absurd (omega (arith, ap length e))

-- ---- by how long the run goes on

-- A run ends after no line where there is none.
no_line : (until : Until) (n : ℕ) (s : Session) → rejection_until until n s [] ≡ None
no_line End n s = refl
no_line FirstRejection n s = refl

-- The search goes on after lines that don't end it.
search_then : (until : Until) (n : ℕ) (s : Session) (xs ys : List (List ℕ))
    → rejection_until until n s xs ≡ None
    → rejection_until until n s (xs ++ ys)
    ≡ rejection_until until (n + length xs) (after_lines s xs) ys
search_then End n s xs ys h = refl
search_then FirstRejection n s xs ys h = none_then n s xs ys h

-- All of them are run.
run_then : (until : Until) (n : ℕ) (s : Session) (xs ys : List (List ℕ))
    → rejection_until until n s xs ≡ None
    → lines_until until s (xs ++ ys) ≡ xs ++ lines_until until (after_lines s xs) ys
run_then End n s xs ys h = refl
run_then FirstRejection n s xs ys h = lines_then n s xs ys h

-- What comes after the line that ends it doesn't matter.
ended_more : (until : Until) (n : ℕ) (s : Session) (xs ys : List (List ℕ))
    (rejection : RejectedLine)
    → rejection_until until n s xs ≡ Some rejection
    → (rejection_until until n s (xs ++ ys) ≡ Some rejection)
    × (lines_until until s (xs ++ ys) ≡ lines_until until s xs)
ended_more End n s xs ys rejection h = absurd (grind (arith, h))
ended_more FirstRejection n s xs ys rejection h = some_more n s xs ys rejection h

-- One line is run, whether the run ends after it or not.
run_one : (until : Until) (s : Session) (line : List ℕ)
    → lines_until until s (line ∷ []) ≡ line ∷ []
run_one End s line = refl
run_one FirstRejection s line = strict_one s line

-- It goes on after it.
goes_on : (until : Until) (n : ℕ) (s : Session) (line : List ℕ)
    → ends_at until (rejection_at s line) ≡ None
    → rejection_until until n s (line ∷ []) ≡ None
goes_on End n s line h = refl
goes_on FirstRejection n s line h = none_one n s line h

-- Or it ends after it.
ends_so : (until : Until) (n : ℕ) (s : Session) (line : List ℕ) (why : Rejection)
    → ends_at until (rejection_at s line) ≡ Some why
    → rejection_until until n s (line ∷ []) ≡ Some (record { number = n; why = why })
ends_so End n s line why h = absurd (grind (arith, h))
ends_so FirstRejection n s line why h = rejection_one n s line why h

-- Lines are run after one that an LF ends, or it may be the last for which anything was read.
after_lf : (until : Until) (s : Session) (line behind : List ℕ)
    → (more : List (List ℕ))
    × (lines_until until s (line ∷ lines_of behind) ≡ line ∷ more)
    × ((lines : List (List ℕ)) → (bytes : List ℕ) → (r : Option (List ℕ))
    → more ≡ [] → StandsFirst lines bytes 4096 → IsReadFor until lines bytes r)
after_lf End s line behind = (
  lines_of behind,
  refl,
  λ lines bytes r e first. left_over (whole_lines [] behind) (open_line [] behind) _ e,
)
after_lf FirstRejection s line behind = (
  if is_some (rejection_at s line) then [] else strict_lines (after_line s line) (lines_of behind),
  refl,
  λ lines bytes r e first. inr first,
)

-- The whole input was read.
pub at_end : (until : Until) (lines : List (List ℕ)) (bytes : List ℕ) (r : Option (List ℕ))
    → IsAtEnd r → IsReadFor until lines bytes r
at_end End lines bytes r h = h
at_end FirstRejection lines bytes r h = inl h

-- Or no more than what was read for the line after which the run ends.
pub read_first : (until : Until) (n : ℕ) (s : Session) (xs : List (List ℕ))
    (rejection : RejectedLine)
    → rejection_until until n s xs ≡ Some rejection
    → (lines : List (List ℕ)) → (bytes : List ℕ) → (r : Option (List ℕ))
    → StandsFirst lines bytes 4096 → IsReadFor until lines bytes r
read_first End n s xs rejection h lines bytes r first = absurd (grind (arith, h))
read_first FirstRejection n s xs rejection h lines bytes r first = inr first

-- ---- lines after lines

module _ (until : Until) where
  -- The search goes on from there.
  pub search_on : {n m : ℕ} {b : Session} {xs : List (List ℕ)} (c : Session) (ys : List (List ℕ))
      → c ≡ after_lines b xs
      → Clean until n m b xs
      → rejection_until until n b (xs ++ ys) ≡ rejection_until until m c ys
  search_on {n} {m} {b} {xs} c ys session clean =
      search_then until n b xs ys clean.none
      ∙ ap (λ i. rejection_until until i (after_lines b xs) ys) (sym clean.next)
      ∙ ap (λ t. rejection_until until m t ys) (sym session)

  -- And so do the lines that are run.
  run_on : {n m : ℕ} {b : Session} {xs : List (List ℕ)} (c : Session) (ys : List (List ℕ))
      → c ≡ after_lines b xs
      → Clean until n m b xs
      → lines_until until b (xs ++ ys) ≡ xs ++ lines_until until c ys
  run_on {n} {b} {xs} c ys session clean =
      run_then until n b xs ys clean.none
      ∙ ap (λ t. xs ++ lines_until until t ys) (sym session)

  pub clean_none : {n m : ℕ} {s : Session} → m ≡ n → Clean until n m s []
  clean_none {n} {s} e = record { none = no_line until n s; next = omega (arith, e) }

  -- The run ends after none of these, and after none of those.
  pub clean_then : {n m k : ℕ} {b c : Session} {xs ys : List (List ℕ)}
      → c ≡ after_lines b xs
      → Clean until n m b xs
      → Clean until m k c ys
      → Clean until n k b (xs ++ ys)
  clean_then {c} {xs} {ys} session one two = record {
    none = search_on c ys session one ∙ two.none;
    next = omega (arith, one.next, two.next, length-append xs ys);
  }

  -- It ends after none of these, and after the last of those.
  pub found_then : {n m : ℕ} {b c : Session} {xs ys : List (List ℕ)} {rejection : RejectedLine}
      → c ≡ after_lines b xs
      → Clean until n m b xs
      → Found until m c ys rejection
      → Found until n b (xs ++ ys) rejection
  found_then {c} {xs} {ys} session one two = record {
    found = search_on c ys session one ∙ two.found;
    all = run_on c ys session one ∙ ap (λ l. xs ++ l) two.all;
  }

  pub clean_line : {n : ℕ} {s : Session} {line : List ℕ}
      → ends_at until (rejection_at s line) ≡ None
      → Clean until n (n + 1) s (line ∷ [])
  clean_line {n} {s} {line} h = record { none = goes_on until n s line h; next = omega arith }

  pub found_line : {n : ℕ} {s : Session} {line : List ℕ} (why : Rejection)
      → ends_at until (rejection_at s line) ≡ Some why
      → Found until n s (line ∷ []) (record { number = n; why = why })
  found_line {n} {s} {line} why h =
      record { found = ends_so until n s line why h; all = run_one until s line }

  -- ---- a whole input

  -- The run ends after the last of the first lines, whatever comes after its LF.
  pub ends_first : {s : Session} {rejection : RejectedLine} (bytes prefix behind : List ℕ)
      → bytes ≡ prefix ++ 10 ∷ behind
      → Found until 1 s (lines_of prefix) rejection
      → (rejection_until until 1 s (lines_of bytes) ≡ Some rejection)
      × (lines_until until s (lines_of bytes) ≡ lines_of prefix)
  ends_first {s} {rejection} bytes prefix behind e found =
      let lines : lines_of bytes ≡ lines_of prefix ++ lines_of behind =
      ap lines_of e ∙ lines_around prefix behind in
      let more = ended_more until 1 s (lines_of prefix) (lines_of behind) rejection found.found in (
        ap (rejection_until until 1 s) lines ∙ more.0,
        ap (lines_until until s) lines ∙ more.1 ∙ found.all,
      )

  -- All lines but the last are clean, and so the last one is run, too.
  pub last_lines : {m : ℕ} {b : Session} (c : Session) (bytes : List ℕ)
      → c ≡ after_lines b (whole_lines [] bytes)
      → Clean until 1 m b (whole_lines [] bytes)
      → lines_until until b (lines_of bytes) ≡ lines_of bytes
  last_lines c bytes session clean =
      run_on c (open_line [] bytes ∷ []) session clean
      ∙ ap (λ l. whole_lines [] bytes ++ l) (run_one until c (open_line [] bytes))

  -- The run may end after it.
  pub last_rejection : (m : ℕ) (c : Session) (line : List ℕ) (why : Option Rejection)
      → why ≡ ends_at until (rejection_at c line)
      → (rejection : Option RejectedLine)
      → rejection ≡ numbered m why
      → rejection ≡ rejection_until until m c (line ∷ [])
  last_rejection m c line None h rejection e = e ∙ sym (goes_on until m c line (sym h))
  last_rejection m c line (Some x) h rejection e = e ∙ sym (ends_so until m c line x (sym h))

  -- The lines of a run begin with those up to some LF, where it ends after none before the last.
  pub lines_after : (s : Session) (first : List (List ℕ)) (line prefix behind : List ℕ)
      → rejection_until until 1 s first ≡ None
      → lines_of prefix ≡ first ++ line ∷ []
      → (more : List (List ℕ))
      × (lines_until until s (lines_of (prefix ++ 10 ∷ behind)) ≡ (first ++ line ∷ []) ++ more)
      × ((lines : List (List ℕ)) → (bytes : List ℕ) → (r : Option (List ℕ))
      → more ≡ [] → StandsFirst lines bytes 4096 → IsReadFor until lines bytes r)
  lines_after s first line prefix behind none lines =
      let next = after_lf until (after_lines s first) line behind in (
        next.0,
        ap (lines_until until s)
            (lines_around prefix behind ∙ ap (λ l. l ++ lines_of behind) lines
            ∙ append_assoc first (line ∷ []) (lines_of behind))
            ∙ run_then until 1 s first (line ∷ lines_of behind) none
            ∙ ap (λ l. first ++ l) next.1
            ∙ sym (append_assoc first (line ∷ []) next.0),
        next.2,
      )
