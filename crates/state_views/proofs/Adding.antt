-- Texts that are added to a sheet, one after another.
use Rattle.std.specs.Prelude.{◌≡◌, ◌+◌, ℕ, List, [], ◌++◌, Option, Result, true, false, is_err}
use Rattle.std.specs.Prelude.{OnErr, OnOk, Ok, Err, ⊤}
use Rattle.std.specs.Io.KnownBytes.{Appends}
use Rattle.std.proofs.Common.{refl, sym, ◌∙◌, subst, add-one, append_assoc, append-nil}
use Rattle.std.proofs.lemmas.Result.{on_err_weaker, on_ok_weaker}
use Rattle.state_views.specs.Inspected.{lines_below}
use Rattle.console_lines.specs.Progress.{WritesPart}
use Rattle.state_views.specs.Sheets.{Adds, Holds}
use Rattle.console_lines.specs.Buffered.{Buffered}
use Rattle.state_views.specs.declared.sheets.Sheet.{Sheet}
use Rattle.console_lines.proofs.Buffered.{part_more, buffered_first, buffered_part, buffered_then}

-- This text is buffered, and nothing was written.
pub holds_first : (text : List ℕ) (s : Sheet) (w : Option (List ℕ))
    → s.failed ≡ false → s.buffer.items ≡ text → Holds text s w w
holds_first text s w sound e = record {
  sound = λ _. buffered_first text [] s.buffer.items w e;
  cut = λ failed. absurd (cc);
}

-- A text was buffered.
pub adds_appended : (text : List ℕ) (s0 s1 : Sheet) (w : Option (List ℕ))
    → s1.failed ≡ s0.failed → s1.buffer.items ≡ s0.buffer.items ++ text
    → Adds text s0 s1 w w
adds_appended text s0 s1 w same e = record {
  after = λ before v h. record {
    sound = λ ok. buffered_then before text [] s0.buffer.items s1.buffer.items v w w
        (h.sound (sym same ∙ ok)) (buffered_first text s0.buffer.items s1.buffer.items w e);
    cut = λ failed. part_more before text v w (h.cut (sym same ∙ failed));
  };
}

pub adds_nothing : (s : Sheet) (w : Option (List ℕ)) → Adds [] s s w w
adds_nothing s w = adds_appended [] s s w refl (sym (append-nil s.buffer.items))

-- No write had failed before, and one was tried or none was needed.
pub adds_tried : {E : Type 0} (r : Result ⊤ E) (text : List ℕ) (s0 s1 : Sheet)
    (w0 w1 : Option (List ℕ)) → s0.failed ≡ false → s1.failed ≡ is_err r
    → OnOk r (Buffered text s0.buffer.items s1.buffer.items w0 w1)
    → OnErr r (WritesPart w0 w1 (s0.buffer.items ++ text)) → Adds text s0 s1 w0 w1
adds_tried (Ok x) text s0 s1 w0 w1 sound is reported cut = record {
  after = λ before v h. record {
    sound = λ _. buffered_then before text [] s0.buffer.items s1.buffer.items v w0 w1
        (h.sound sound) reported;
    cut = λ failed. absurd (cc);
  };
}
adds_tried (Err x) text s0 s1 w0 w1 sound is reported cut = record {
  after = λ before v h. record {
    sound = λ none. absurd (cc);
    cut = λ _. buffered_part before text s0.buffer.items v w0 w1 (h.sound sound) cut;
  };
}

-- A write had failed before.
pub adds_none : (text : List ℕ) (s0 s1 : Sheet) (w : Option (List ℕ))
    → s0.failed ≡ true → s1.failed ≡ true → Adds text s0 s1 w w
adds_none text s0 s1 w before after = record {
  after = λ reported v h. record {
    sound = λ ok. absurd (cc);
    cut = λ _. part_more reported text v w (h.cut before);
  };
}

-- ---- one after the other

pub adds_then : {x y : List ℕ} {s0 s1 s2 : Sheet} {w0 w1 w2 : Option (List ℕ)}
    → Adds x s0 s1 w0 w1 → Adds y s1 s2 w1 w2 → Adds (x ++ y) s0 s2 w0 w2
adds_then {x = x} {y = y} {s2 = s2} {w2 = w2} one two = record {
  after = λ before v h. subst (λ t. Holds t s2 v w2) (append_assoc before x y)
      (two.after (before ++ x) v (one.after before v h));
}

-- The buffer was made to fit a text, and then the text was buffered.
pub adds_line : {text : List ℕ} {s0 s1 s2 : Sheet} {w0 w1 : Option (List ℕ)}
    → Adds [] s0 s1 w0 w1 → s2.failed ≡ s1.failed
    → s2.buffer.items ≡ s1.buffer.items ++ text → Adds text s0 s2 w0 w1
adds_line {text = text} {s1 = s1} {s2 = s2} {w1 = w1} room same e =
    adds_then room (adds_appended text s1 s2 w1 same e)

-- One more line was added.
pub adds_next : {s0 s1 s2 : Sheet} {w0 w1 w2 : Option (List ℕ)} (line : ℕ → List ℕ) (i : ℕ)
    → Adds (lines_below line i) s0 s1 w0 w1 → Adds (line i) s1 s2 w1 w2
    → Adds (lines_below line (i + 1)) s0 s2 w0 w2
adds_next {s0 = s0} {s2 = s2} {w0 = w0} {w2 = w2} line i one two =
    subst (λ m. Adds (lines_below line m) s0 s2 w0 w2) (sym (add-one i)) (adds_then one two)

-- All lines were added.
pub adds_all : {s0 s1 : Sheet} {w0 w1 : Option (List ℕ)} (line : ℕ → List ℕ) (i n : ℕ) → i ≡ n
    → Adds (lines_below line i) s0 s1 w0 w1 → Adds (lines_below line n) s0 s1 w0 w1
adds_all {s0 = s0} {s1 = s1} {w0 = w0} {w1 = w1} line i n e all =
    subst (λ m. Adds (lines_below line m) s0 s1 w0 w1) e all

-- ---- the end

-- How much of the text is written at the end: all of it, or a prefix.
pub ends_whole : {x y : List ℕ} {s0 s1 : Sheet} {w0 w1 : Option (List ℕ)} {T E : Type 0}
    (r : Result T E) (w2 : Option (List ℕ))
    → ((w : Option (List ℕ)) → Holds x s0 w w) → Adds y s0 s1 w0 w1
    → OnOk r ((text : List ℕ) (w : Option (List ℕ)) → Holds text s1 w w1 → Appends w w2 text)
    → OnOk r (Appends w0 w2 (x ++ y))
ends_whole {x = x} {y = y} {w0 = w0} r w2 first rest =
    on_ok_weaker r (λ end. end (x ++ y) w0 (rest.after x w0 (first w0)))

pub ends_cut : {x y : List ℕ} {s0 s1 : Sheet} {w0 w1 : Option (List ℕ)} {T E : Type 0}
    (r : Result T E) (w2 : Option (List ℕ))
    → ((w : Option (List ℕ)) → Holds x s0 w w) → Adds y s0 s1 w0 w1
    → OnErr r ((text : List ℕ) (w : Option (List ℕ)) → Holds text s1 w w1 → WritesPart w w2 text)
    → OnErr r (WritesPart w0 w2 (x ++ y))
ends_cut {x = x} {y = y} {w0 = w0} r w2 first rest =
    on_err_weaker r (λ end. end (x ++ y) w0 (rest.after x w0 (first w0)))
