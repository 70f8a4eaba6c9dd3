-- Lines of any kind are written one after the other.
use Rattle.std.specs.Prelude.{◌≡◌, ◌<◌, ◌+◌, ◌++◌, ◌∷◌, ℕ, List, [], length}
use Rattle.std.specs.Prelude.{take, Option, Some, None, drop, Result, Ok, Err, OnErr}
use Rattle.std.specs.Io.KnownBytes.{Appends, Keeps}
use Rattle.std.specs.List.{flat_map}
use Rattle.std.proofs.Common.{sym, ap, ◌∙◌, get_or, append_assoc, append-nil}
use Rattle.std.proofs.lemmas.List.{take-append-drop, take_all, take_more}
use Rattle.std.proofs.lemmas.List.Concat.{flat_map-append}
use Rattle.console_lines.specs.Buffered.{Buffered}
use Rattle.console_lines.specs.Progress.{WritesPart}
use Rattle.console_lines.proofs.Written.{appends_then}
use Rattle.plan_lines.specs.Writing.{IsWritten, WritesPrefix}

-- One line more.
one_line : {X : Type 0} (text : X → List ℕ) (k : ℕ) (lines : List X) (d : X) → k < length lines
    → flat_map text (take (k + 1) lines)
    ≡ flat_map text (take k lines) ++ text (get_or lines k d)
one_line text k lines d h =
    ap (flat_map text) (take_more lines k d h)
    ∙ flat_map-append text (take k lines) (get_or lines k d ∷ [])
    ∙ ap (λ (t : List ℕ). flat_map text (take k lines) ++ t)
    (append-nil (text (get_or lines k d)))

-- Room was made in the buffer, and then a text was appended to it.
pub appended_after : (w0 w1 : Option (List ℕ)) (b0 b1 b2 text : List ℕ)
    → Buffered [] b0 b1 w0 w1 → b2 ≡ b1 ++ text → Buffered text b0 b2 w0 w1
appended_after w0 w1 b0 b1 b2 text room is = record {
  out = room.out;
  written = room.written;
  parts =
      ap (λ (t : List ℕ). t ++ text) (sym (append-nil b0) ∙ room.parts)
      ∙ append_assoc room.out b1 text
      ∙ ap (λ (t : List ℕ). room.out ++ t) (sym is);
}

-- A line was appended to what is buffered.
pub one_written : {X : Type 0} (text : X → List ℕ) (w0 w1 w2 : Option (List ℕ)) (b0 b1 : List ℕ)
    (k : ℕ) (lines : List X) (d : X) → k < length lines
    → IsWritten w0 w1 (flat_map text (take k lines)) b0
    → Buffered (text (get_or lines k d)) b0 b1 w1 w2
    → IsWritten w0 w2 (flat_map text (take (k + 1) lines)) b1
one_written text w0 w1 w2 b0 b1 k lines d h before room = record {
  out = before.out ++ room.out;
  written = appends_then w0 w1 w2 before.out room.out before.written room.written;
  parts =
      let line = text (get_or lines k d) in
      one_line text k lines d h
      ∙ ap (λ (t : List ℕ). t ++ line) before.parts
      ∙ append_assoc before.out b0 line
      ∙ ap (λ (t : List ℕ). before.out ++ t) room.parts
      ∙ sym (append_assoc before.out room.out b1);
}

-- ---- what was written if the output failed

-- It is what was written, whatever the error is.
pub at_error : {T E P : Type 0} (r : Result T E) → P → OnErr r P
at_error (Ok x) is = tt
at_error (Err why) is = is

-- A part of a text is a prefix of it.
pub part_is_prefix : (w0 w1 : Option (List ℕ)) (text : List ℕ) → WritesPart w0 w1 text
    → WritesPrefix w0 w1 text
part_is_prefix w0 w1 text part = (part.0, (part.1.0, part.1.1), part.2)

kept_after : (w0 w1 w2 : Option (List ℕ)) (text : List ℕ) → Appends w0 w1 text → Keeps w1 w2
    → Appends w0 w2 text
kept_after None w1 w2 text h k = tt
kept_after (Some x) None w2 text h k = absurd h
kept_after (Some x) (Some y) None text h k = absurd k
kept_after (Some x) (Some y) (Some z) text h k = k ∙ h

-- All of a text was written, and then the flush failed.
pub whole_is_prefix : (w0 w1 w2 : Option (List ℕ)) (text : List ℕ) → Appends w0 w1 text
    → Keeps w1 w2 → WritesPrefix w0 w2 text
whole_is_prefix w0 w1 w2 text whole kept =
    (text, ([], sym (append-nil text)), kept_after w0 w1 w2 text whole kept)

-- A prefix of what was buffered was written, so it is one of all lines.
pub prefix_written : {X T E : Type 0} (text : X → List ℕ) (w0 w1 w2 : Option (List ℕ))
    (buffer : List ℕ) (k : ℕ) (lines : List X) (r : Result T E)
    → IsWritten w0 w1 (flat_map text (take k lines)) buffer → WritesPrefix w1 w2 buffer
    → OnErr r (WritesPrefix w0 w2 (flat_map text lines))
prefix_written text w0 w1 w2 buffer k lines r before part =
    let prefix = part.0 in
    let rest = part.1.0 in
    let more = flat_map text (drop k lines) in
    let all : flat_map text lines ≡ flat_map text (take k lines) ++ more =
    ap (flat_map text) (sym (take-append-drop k lines))
    ∙ flat_map-append text (take k lines) (drop k lines) in
    let begins : flat_map text lines ≡ (before.out ++ prefix) ++ (rest ++ more) =
    all ∙ ap (λ (l : List ℕ). l ++ more)
    (before.parts ∙ ap (λ (l : List ℕ). before.out ++ l) part.1.1
    ∙ sym (append_assoc before.out prefix rest))
    ∙ append_assoc (before.out ++ prefix) rest more in
    at_error r (
      before.out ++ prefix,
      (rest ++ more, begins),
      appends_then w0 w1 w2 before.out prefix before.written part.2,
    )
