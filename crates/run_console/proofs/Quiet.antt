-- Bytes without an LF: they end no line, and go on with the one that was begun.
use Rattle.std.specs.Prelude.{◌≡◌, ◌==◌, ◌<◌, ◌+◌, ◌-◌, ℕ, zero, suc, Bool, true, false, List, []}
use Rattle.std.specs.Prelude.{◌∷◌, ◌++◌, length, take, drop, min, Option, slice_index, Some, None}
use Rattle.std.proofs.Common.{arith, inl, inr, refl, sym, ap, subst, ◌∙◌, append-nil, append_assoc}
use Rattle.std.proofs.lemmas.Bool.{cases_lt, eqb-true}
use Rattle.std.proofs.lemmas.List.{length-drop, length-take-le, take_all, take_min, take-append-le}
use Rattle.std.proofs.Math.Seq.{split_at, take-append-add}
use Rattle.memchr.specs.Find.{Nowhere, Passes, is_byte}
use Rattle.run_disk.specs.Disk.{DiskState}
use Rattle.book_model.specs.Books.{BookView}
use Rattle.console_lines.specs.declared.faults.RunFault.{RunFault}
use Rattle.console_lines.specs.declared.rejections.Rejection.{Rejection}
use Rattle.console_lines.specs.Lines.{whole_lines, open_line}
use Rattle.console_lines.specs.Progress.{kept}
use Rattle.console_lines.specs.Strict.{rejection_at}
use Rattle.console_lines.proofs.Splits.{whole_lines-append, open_line-append}
use Rattle.run_console.specs.declared.untils.Until.{Until}
use Rattle.run_console.specs.RunProgress.{Clean, Cut, PartCut, PartRan, PartRejected, Ran}
use Rattle.run_console.specs.Until.{ends_at}
use Rattle.run_console.proofs.Parts.{part_ends, part_stops, part_rejected}

-- These bytes end no line, and go on with the one that was begun.
abbrev pub IsQuiet : List ℕ → Type 0
IsQuiet xs =
    (begun : List ℕ) → (whole_lines begun xs ≡ []) × (open_line begun xs ≡ begun ++ xs)

not_true : (b : Bool) → (b ≡ true → ⊥) → b ≡ false
not_true true h = absurd (h refl)
not_true false h = refl

-- So do the bytes before the first LF.
pub quiet_take : (xs : List ℕ) (n : ℕ) → Nowhere (Passes (is_byte 10) xs) 0 n → IsQuiet (take n xs)
quiet_take [] zero h begun = (refl, sym (append-nil begun))
quiet_take [] (suc n) h begun = (refl, sym (append-nil begun))
quiet_take (x ∷ xs) zero h begun = (refl, sym (append-nil begun))
quiet_take (x ∷ xs) (suc n) h begun =
    let other : (x == 10) ≡ false = not_true (x == 10) (h 0 (omega arith) (omega arith)) in
    let both = quiet_take xs n (λ k a d. h (suc k) (omega arith) (omega (arith, d)))
    (begun ++ x ∷ []) in
    rw other (both.0, both.1 ∙ append_assoc begun (x ∷ []) (take n xs))

-- And all bytes, where there is no LF.
pub quiet_all : (xs : List ℕ) → Nowhere (Passes (is_byte 10) xs) 0 (length xs) → IsQuiet xs
quiet_all xs h =
    subst IsQuiet (take_all (length xs) xs (omega arith)) (quiet_take xs (length xs) h)

-- ---- what is kept

-- What is kept of a longer line is seen by what was kept.
kept_on : (line xs : List ℕ) → kept (kept line ++ xs) ≡ kept (line ++ xs)
kept_on line xs = elim (cases_lt 257 (length line)) [
  | inl long ↦
      let len : length (kept line) ≡ 257 = length-take-le 257 line (omega (arith, long)) in
      take-append-le 257 (kept line) xs (omega (arith, len))
      ∙ take_all 257 (kept line) (omega (arith, len))
      ∙ sym (take-append-le 257 line xs (omega (arith, long)))
  | inr short ↦ ap (λ l. kept (l ++ xs)) (take_all 257 line (omega (arith, short)))
]

-- So the kept bytes of a line go on to those of a longer one.
pub kept_longer : (line xs tail more : List ℕ)
    → tail ≡ kept line
    → more ≡ kept (tail ++ xs)
    → more ≡ kept (line ++ xs)
kept_longer line xs tail more e more_is =
    more_is ∙ ap (λ t. kept (t ++ xs)) e ∙ kept_on line xs

-- As many bytes as there is room for are what is kept.
pub kept_room : (tail xs : List ℕ) (room most : ℕ)
    → room + length tail ≡ 257
    → most ≡ min room (length xs)
    → tail ++ take most xs ≡ kept (tail ++ xs)
kept_room tail xs room most e most_is =
    let whole : length tail + room ≡ 257 = omega (arith, e) in
    ap (λ n. tail ++ take n xs) most_is
    ∙ ap (λ l. tail ++ l) (take_min room xs)
    ∙ sym (take-append-add tail xs room)
    ∙ ap (λ n. take n (tail ++ xs)) whole

-- ---- a part of an input

-- The line that bytes without an LF go on with.
open_quiet : (begun prefix xs : List ℕ) → IsQuiet xs
    → open_line begun prefix ++ xs ≡ open_line begun (prefix ++ xs)
open_quiet begun prefix xs quiet =
    sym (open_line-append begun prefix xs ∙ (quiet (open_line begun prefix)).1)

module _ {D : Type 0} {state : D → DiskState} {until : Until} where
  -- They run nothing.
  pub part_quiet : {n m : ℕ} {begun prefix tail more f g : List ℕ} {b c : BookView D}
      {w0 w1 : Option (List ℕ)} (xs : List ℕ)
      → PartRan state until n m begun prefix b c tail f g w0 w1
      → IsQuiet xs
      → more ≡ kept (tail ++ xs)
      → PartRan state until n m begun (prefix ++ xs) b c more f g w0 w1
  part_quiet {n} {m} {begun} {prefix} {tail} {more} {f} {g} {b} {c} {w0} {w1} xs so_far quiet e =
      let line = open_line begun prefix in
      let P : List (List ℕ) → Type 0 = λ lines. Ran state lines b c f g w0 w1 in
      let Q : List (List ℕ) → Type 0 = λ lines. Clean until n m b.session lines in
      let whole : whole_lines begun (prefix ++ xs) ≡ whole_lines begun prefix =
      whole_lines-append begun prefix xs
      ∙ ap (λ l. whole_lines begun prefix ++ l) (quiet line).0
      ∙ append-nil (whole_lines begun prefix) in
      record {
        ran = subst P (sym whole) so_far.ran;
        tail_is =
            kept_longer line xs tail more so_far.tail_is e
            ∙ ap kept (open_quiet begun prefix xs quiet);
        clean = subst Q (sym whole) so_far.clean;
      }

  -- The next line was run, which an LF ends, and the run goes on.
  pub line_ran : {n m : ℕ} {begun prefix tail more f g h : List ℕ} {b c d : BookView D}
      {w0 w1 w2 : Option (List ℕ)} (xs : List ℕ)
      → PartRan state until n m begun prefix b c tail f g w0 w1
      → IsQuiet xs
      → Ran state ((open_line begun prefix ++ xs) ∷ []) c d g h w1 w2
      → ends_at until (rejection_at c.session (open_line begun prefix ++ xs)) ≡ None
      → more ≡ []
      → PartRan state until n (m + 1) begun ((prefix ++ xs) ++ 10 ∷ []) b d more f h w0 w2
  line_ran {begun} {prefix} {g} {h} {c} {d} {w1} {w2} xs so_far quiet ran stays none =
      let P : List ℕ → Type 0 = λ line. Ran state (line ∷ []) c d g h w1 w2 in
      let Q : List ℕ → Type 0 = λ line. ends_at until (rejection_at c.session line) ≡ None in
      let line = open_quiet begun prefix xs quiet in
      part_ends (part_quiet xs so_far quiet refl) (subst P line ran) (subst Q line stays) none

  -- Or the run ends after it.
  pub line_rejected : {n m : ℕ} {begun all prefix tail f g h : List ℕ} {b c d : BookView D}
      {w0 w1 w2 : Option (List ℕ)} (xs behind : List ℕ) (why : Rejection)
      → all ≡ ((prefix ++ xs) ++ 10 ∷ []) ++ behind
      → PartRan state until n m begun prefix b c tail f g w0 w1
      → IsQuiet xs
      → Ran state ((open_line begun prefix ++ xs) ∷ []) c d g h w1 w2
      → ends_at until (rejection_at c.session (open_line begun prefix ++ xs)) ≡ Some why
      → PartRejected state until (record { number = m; why = why }) n begun all b d f h w0 w2
  line_rejected {begun} {prefix} {g} {h} {c} {d} {w1} {w2} xs behind why e so_far quiet ran
      rejected =
      let P : List ℕ → Type 0 = λ line. Ran state (line ∷ []) c d g h w1 w2 in
      let Q : List ℕ → Type 0 = λ line. ends_at until (rejection_at c.session line) ≡ Some why in
      let line = open_quiet begun prefix xs quiet in
      part_rejected behind why (e ∙ append_assoc (prefix ++ xs) (10 ∷ []) behind)
      (part_quiet xs so_far quiet refl) (subst P line ran) (subst Q line rejected)

  -- Or it was cut, whatever bytes come after its LF.
  pub line_cut : {why : RunFault} {n m : ℕ} {begun all prefix tail f g : List ℕ}
      {b c d : BookView D}
      {w0 w1 w2 : Option (List ℕ)} (xs behind : List ℕ)
      → all ≡ ((prefix ++ xs) ++ 10 ∷ []) ++ behind
      → PartRan state until n m begun prefix b c tail f g w0 w1
      → IsQuiet xs
      → Cut state why ((open_line begun prefix ++ xs) ∷ []) c d g w1 w2
      → PartCut state until why n begun all b d f w0 w2
  line_cut {why} {begun} {prefix} {g} {c} {d} {w1} {w2} xs behind e so_far quiet cut =
      let P : List ℕ → Type 0 = λ line. Cut state why (line ∷ []) c d g w1 w2 in
      part_stops behind (e ∙ append_assoc (prefix ++ xs) (10 ∷ []) behind)
      (part_quiet xs so_far quiet refl) (subst P (open_quiet begun prefix xs quiet) cut)

-- Where that line stands in the part.
pub line_stands : (all prefix rest : List ℕ) (n : ℕ)
    → all ≡ prefix ++ rest
    → n < length rest
    → (slice_index rest n == 10) ≡ true
    → all ≡ ((prefix ++ take n rest) ++ 10 ∷ [])
    ++ take (length rest - (n + 1)) (drop (n + 1) rest)
line_stands all prefix rest n e below lf =
    let xs = take n rest in
    let behind = drop (suc n) rest in
    let next : n + 1 ≡ suc n = omega arith in
    let len : length behind ≡ length rest - suc n = length-drop (suc n) rest in
    let left : take (length rest - (n + 1)) (drop (n + 1) rest) ≡ behind =
    ap (λ m. take (length rest - m) (drop m rest)) next
    ∙ take_all (length rest - suc n) behind (omega (arith, len)) in
    e ∙ ap (λ l. prefix ++ l) (split_at rest n 0 below)
    ∙ ap (λ x. prefix ++ (xs ++ x ∷ behind)) (eqb-true (slice_index rest n) 10 lf)
    ∙ sym (append_assoc prefix xs (10 ∷ behind))
    ∙ sym (append_assoc (prefix ++ xs) (10 ∷ []) behind)
    ∙ ap (λ l. ((prefix ++ xs) ++ 10 ∷ []) ++ l) (sym left)
