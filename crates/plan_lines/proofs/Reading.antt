-- How an input is read: part by part, and line by line.
use Rattle.std.specs.Prelude.{◌≡◌, ◌==◌, ◌<◌, ◌≤◌, ◌+◌, ◌-◌, ◌++◌, ◌∷◌, ℕ, zero, suc}
use Rattle.std.specs.Prelude.{Bool, true, false, List, [], Option, length, take, drop, min}
use Rattle.std.specs.Prelude.{Ok, slice_index, slice_range}
use Rattle.std.specs.Io.KnownBytes.{Consumes, IsAtEnd}
use Rattle.std.proofs.Common.{arith, inl, inr, refl, sym, ap, ◌∙◌, append_assoc}
use Rattle.std.proofs.Common.{append-nil, subst}
use Rattle.std.proofs.lemmas.Bool.{cases_lt, eqb-true, false≢true, true≢false}
use Rattle.std.proofs.lemmas.Bool.Decides.{nat_tests}
use Rattle.std.proofs.lemmas.List.{drop-drop, drop-take, length-append, length-drop}
use Rattle.std.proofs.lemmas.List.{length-take-le, take_all, take_min}
use Rattle.std.proofs.Math.Seq.{split_at, take-append-add}
use Rattle.memchr.specs.Find.{Nowhere, Passes, is_byte}
use Rattle.console_lines.specs.Lines.{whole_lines, open_line}
use Rattle.console_lines.proofs.Splits.{whole_lines-append}
use Rattle.console_lines.proofs.Written.{consumes_nothing, consumes_then}
use Rattle.plan_lines.specs.declared.readers.LineReader.{LineReader}
use Rattle.plan_lines.specs.Reading.{Fills, HoldsMore, Reads, ReadsLine, ReadsNoLine}
use Rattle.plan_lines.specs.Reading.{TakesPart, held}

-- ---- bytes without an LF

not_true : (b : Bool) → (b ≡ true → ⊥) → b ≡ false
not_true true h = absurd (h refl)
not_true false h = refl

-- It makes no difference what was begun before them.
no_line_after : (begun other xs : List ℕ) → whole_lines begun xs ≡ [] → whole_lines other xs ≡ []
no_line_after begun other [] h = refl
no_line_after begun other (x ∷ xs) h =
    grind (arith, nat_tests, no_line_after (begun ++ x ∷ []) (other ++ x ∷ []) xs)

pub open_of_none : (begun xs : List ℕ) → whole_lines begun xs ≡ []
    → open_line begun xs ≡ begun ++ xs
open_of_none begun [] h = sym (append-nil begun)
open_of_none begun (x ∷ xs) h =
    grind (arith, nat_tests, open_of_none (begun ++ x ∷ []) xs, append_assoc begun (x ∷ []) xs)

-- Two texts without an LF are one.
pub none_then : (xs ys : List ℕ) → whole_lines [] xs ≡ [] → whole_lines [] ys ≡ []
    → whole_lines [] (xs ++ ys) ≡ []
none_then xs ys h k =
    whole_lines-append [] xs ys
    ∙ ap (λ (l : List (List ℕ)). l ++ whole_lines (open_line [] xs) ys) h
    ∙ no_line_after [] (open_line [] xs) ys k

-- The bytes before the first LF have none.
pub none_before : (begun xs : List ℕ) (n : ℕ) → Nowhere (Passes (is_byte 10) xs) 0 n
    → whole_lines begun (take n xs) ≡ []
none_before begun xs zero h = refl
none_before begun [] (suc n) h = refl
none_before begun (x ∷ xs) (suc n) h =
    let other : (x == 10) ≡ false = not_true (x == 10) (h 0 (omega arith) (omega arith)) in
    let more =
    none_before (begun ++ x ∷ []) xs n (λ k a d. h (suc k) (omega arith) (omega (arith, d)))
    in
    rw other more

pub none_in_all : (xs : List ℕ) → Nowhere (Passes (is_byte 10) xs) 0 (length xs)
    → whole_lines [] xs ≡ []
none_in_all xs h =
    ap (whole_lines []) (sym (take_all (length xs) xs (omega arith)))
    ∙ none_before [] xs (length xs) h

-- ---- the bytes that are held

pub held_size : (buffer : List ℕ) (start end : ℕ) → start ≤ end → end ≤ length buffer
    → length (slice_range buffer start end) ≡ end - start
held_size buffer start end h k =
    length-take-le (end - start) (drop start buffer)
    (omega (arith, h, k, length-drop start buffer))

pub none_held : (buffer : List ℕ) (start end : ℕ) → end ≤ start → slice_range buffer start end ≡ []
none_held buffer start end h =
    let none : end - start ≡ 0 = omega (arith, h) in
    ap (λ n. take n (drop start buffer)) none

-- Those after an LF.
pub held_after : (buffer : List ℕ) (start end at : ℕ) → at < end - start
    → drop (at + 1) (slice_range buffer start end) ≡ slice_range buffer (start + at + 1) end
held_after buffer start end at h =
    let size : (at + 1) + (end - (start + at + 1)) ≡ end - start = omega (arith, h) in
    let place : start + (at + 1) ≡ start + at + 1 = omega arith in
    ap (λ n. drop (at + 1) (take n (drop start buffer))) (sym size)
    ∙ drop-take (at + 1) (end - (start + at + 1)) (drop start buffer)
    ∙ ap (take (end - (start + at + 1))) (drop-drop (at + 1) start buffer)
    ∙ ap (λ n. take (end - (start + at + 1)) (drop n buffer)) place

pub cut_at : (xs : List ℕ) (n : ℕ) → n < length xs → (slice_index xs n == 10) ≡ true
    → xs ≡ take n xs ++ 10 ∷ drop (n + 1) xs
cut_at xs n below lf =
    let next : suc n ≡ n + 1 = omega arith in
    split_at xs n 0 below
    ∙ ap (λ (x : ℕ). take n xs ++ x ∷ drop (suc n) xs) (eqb-true (slice_index xs n) 10 lf)
    ∙ ap (λ (m : ℕ). take n xs ++ 10 ∷ drop m xs) next

-- ---- what is returned of a line

take_on : (n : ℕ) (xs ys : List ℕ) → take n (take n xs ++ ys) ≡ take n (xs ++ ys)
take_on zero xs ys = refl
take_on (suc n) [] ys = refl
take_on (suc n) (x ∷ xs) ys = ap (λ (l : List ℕ). x ∷ l) (take_on n xs ys)

pub returned_on : (text more line new : List ℕ) → line ≡ take 256 text
    → new ≡ take 256 (line ++ more) → new ≡ take 256 (text ++ more)
returned_on text more line new is new_is =
    new_is ∙ ap (λ (l : List ℕ). take 256 (l ++ more)) is ∙ take_on 256 text more

-- As many bytes as fit are returned.
pub as_fits : (line xs : List ℕ) (free most : ℕ) → free + length line ≡ 256
    → most ≡ min free (length xs) → line ++ take most xs ≡ take 256 (line ++ xs)
as_fits line xs free most e most_is =
    let whole : length line + free ≡ 256 = omega (arith, e) in
    ap (λ n. line ++ take n xs) most_is
    ∙ ap (λ (l : List ℕ). line ++ l) (take_min free xs)
    ∙ sym (take-append-add line xs free)
    ∙ ap (λ n. take n (line ++ xs)) whole

-- ---- a line, part by part

-- So far no LF came. After the first turn nothing is held, and each later turn has read a byte.
pub record IsOpen (old now : List ℕ) (r0 r1 : Option (List ℕ)) (line : List ℕ) (turns : ℕ)
    : Type 0 where
  pub bytes : List ℕ
  pub read : Consumes r0 r1 bytes
  pub text : List ℕ
  pub parts : old ++ bytes ≡ text ++ now
  pub whole : whole_lines [] text ≡ []
  pub returned : line ≡ take 256 text
  pub count : turns ≤ length bytes + 1
  pub none : 0 < turns → now ≡ []

pub opens : (old : List ℕ) (r : Option (List ℕ)) (line : List ℕ) → line ≡ []
    → IsOpen old old r r line 0
opens old r line is = record {
  bytes = [];
  read = consumes_nothing r;
  text = [];
  parts = append-nil old;
  whole = refl;
  returned = is;
  count = omega arith;
  none = λ some. absurd (omega (arith, some));
}

one_turn_more : (turns : ℕ) (bytes more now new : List ℕ) → turns ≤ length bytes + 1
    → (0 < turns → now ≡ []) → new ≡ now ++ more → 0 < length new
    → turns + 1 ≤ length (bytes ++ more) + 1
one_turn_more turns bytes more now new count none is some = elim (cases_lt 0 turns) [
  | inl later ↦
      let size : length new ≡ length more =
      ap length (is ∙ ap (λ (l : List ℕ). l ++ more) (none later)) in
      omega (arith, count, some, size, length-append bytes more)
  | inr at_first ↦ omega (arith, at_first)
]

-- Bytes were read, and no LF is among them.
pub goes_on : (old now new after : List ℕ) (r0 r1 r2 : Option (List ℕ)) (line more : List ℕ)
    (turns : ℕ) → IsOpen old now r0 r1 line turns → HoldsMore now new r1 r2 → 0 < length new
    → whole_lines [] new ≡ [] → more ≡ take 256 (line ++ new) → after ≡ []
    → IsOpen old after r0 r2 more (turns + 1)
goes_on old now new after r0 r1 r2 line more turns so_far holds some none is end = record {
  bytes = so_far.bytes ++ holds.bytes;
  read = consumes_then r0 r1 r2 so_far.bytes holds.bytes so_far.read holds.read;
  text = so_far.text ++ new;
  parts =
      sym (append_assoc old so_far.bytes holds.bytes)
      ∙ ap (λ (l : List ℕ). l ++ holds.bytes) so_far.parts
      ∙ append_assoc so_far.text now holds.bytes
      ∙ ap (λ (l : List ℕ). so_far.text ++ l) (sym holds.holds)
      ∙ sym (append-nil (so_far.text ++ new))
      ∙ ap (λ (l : List ℕ). (so_far.text ++ new) ++ l) (sym end);
  whole = none_then so_far.text new so_far.whole none;
  returned = returned_on so_far.text new line more so_far.returned is;
  count =
      one_turn_more turns so_far.bytes holds.bytes now new so_far.count so_far.none holds.holds
      some;
  none = λ h. end;
}

-- An LF is among them.
pub line_read : (old now held new : List ℕ) (r0 r1 r2 : Option (List ℕ)) (line more text : List ℕ)
    (turns : ℕ) → IsOpen old now r0 r1 line turns → HoldsMore now held r1 r2
    → held ≡ text ++ 10 ∷ new → whole_lines [] text ≡ [] → more ≡ take 256 (line ++ text)
    → ReadsLine old new r0 r2 more
line_read old now held new r0 r1 r2 line more text turns so_far holds parts none is = record {
  bytes = so_far.bytes ++ holds.bytes;
  read = consumes_then r0 r1 r2 so_far.bytes holds.bytes so_far.read holds.read;
  text = so_far.text ++ text;
  parts =
      sym (append_assoc old so_far.bytes holds.bytes)
      ∙ ap (λ (l : List ℕ). l ++ holds.bytes) so_far.parts
      ∙ append_assoc so_far.text now holds.bytes
      ∙ ap (λ (l : List ℕ). so_far.text ++ l) (sym holds.holds ∙ parts)
      ∙ sym (append_assoc so_far.text text (10 ∷ new));
  whole = none_then so_far.text text so_far.whole none;
  returned = returned_on so_far.text text line more so_far.returned is;
}

-- ---- the part of a line that is held

-- Up to the LF at this place.
pub part_taken : (buffer line more : List ℕ) (start end at : ℕ) → start ≤ end
    → end ≤ length buffer → at < length (slice_range buffer start end)
    → Nowhere (Passes (is_byte 10) (slice_range buffer start end)) 0 at
    → (slice_index (slice_range buffer start end) at == 10) ≡ true
    → more ≡ take 256 (line ++ take at (slice_range buffer start end))
    → (text : List ℕ)
    × (slice_range buffer start end ≡ text ++ 10 ∷ slice_range buffer (start + at + 1) end)
    × (whole_lines [] text ≡ []) × (more ≡ take 256 (line ++ text))
part_taken buffer line more start end at ordered within below before lf is =
    let all = slice_range buffer start end in
    let size = held_size buffer start end ordered within in (
      take at all,
      cut_at all at below lf
          ∙ ap (λ (l : List ℕ). take at all ++ 10 ∷ l)
          (held_after buffer start end at (omega (arith, size, below))),
      none_before [] all at before,
      is,
    )

-- ---- the steps of a turn

pub fill_read : (some : Bool) (r s : LineReader) (r0 r1 : Option (List ℕ)) → some ≡ true
    → Fills (Ok some) r s r0 r1 → HoldsMore (held r) (held s) r0 r1 × (0 < length (held s))
fill_read true r s r0 r1 is fills = fills
fill_read false r s r0 r1 is fills = absurd (false≢true is)

pub part_ended : (ended : Bool) (r s : LineReader) (line more : List ℕ) → ended ≡ true
    → TakesPart ended r s line more → TakesPart true r s line more
part_ended true r s line more is takes = takes
part_ended false r s line more is takes = absurd (false≢true is)

pub part_open : (ended : Bool) (r s : LineReader) (line more : List ℕ) → ended ≡ false
    → TakesPart ended r s line more → TakesPart false r s line more
part_open false r s line more is takes = takes
part_open true r s line more is takes = absurd (true≢false is)

-- ---- a line

pub reads_ended : (found : Bool) (r s : LineReader) (r0 r1 : Option (List ℕ)) (line : List ℕ)
    → found ≡ false → Reads (Ok found) r s r0 r1 line
    → (bytes : List ℕ) × ReadsNoLine (held r) r0 r1 bytes × IsAtEnd r1
reads_ended false r s r0 r1 line is reads = reads
reads_ended true r s r0 r1 line is reads = absurd (true≢false is)

-- A slice holds it.
pub reads_slice : (found : Bool) (r s : LineReader) (r0 r1 : Option (List ℕ))
    (line slice : List ℕ) → found ≡ true → slice ≡ line → Reads (Ok found) r s r0 r1 line
    → ReadsLine (held r) (held s) r0 r1 slice
reads_slice true r s r0 r1 line slice is same reads =
    subst (λ (l : List ℕ). ReadsLine (held r) (held s) r0 r1 l) (sym same) reads
reads_slice false r s r0 r1 line slice is same reads = absurd (false≢true is)
