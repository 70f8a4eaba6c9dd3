-- Texts of which a prefix is written, and texts that are buffered and then written.
use Rattle.std.specs.Prelude.{◌≡◌, ℕ, List, [], ◌++◌, Option}
use Rattle.std.specs.Io.KnownBytes.{Appends}
use Rattle.std.proofs.Common.{sym, ap, ◌∙◌, subst, append_assoc, append-nil}
use Rattle.console_lines.specs.Progress.{WritesPart}
use Rattle.console_lines.proofs.Written.{appends_nothing, appends_then, prefix_after, prefix_more}
use Rattle.console_lines.specs.Buffered.{Buffered}

-- ---- a part

-- A proper prefix of some text after the bytes from before was written.
pub part_after :
    (x g : List ℕ) (w0 w1 w2 : Option (List ℕ))
    → Appends w0 w1 x
    → WritesPart w1 w2 g
    → WritesPart w0 w2 (x ++ g)
part_after x g w0 w1 w2 h k =
    (x ++ k.0, prefix_after k.0 x g k.1, appends_then w0 w1 w2 x k.0 h k.2)

-- A prefix of the first of two texts is a prefix of both joined.
pub part_more : (x y : List ℕ) (w0 w1 : Option (List ℕ))
    → WritesPart w0 w1 x → WritesPart w0 w1 (x ++ y)
part_more x y w0 w1 k = (k.0, prefix_more k.0 x y k.1, k.2)

-- ---- texts

-- A text is buffered after the buffer was made to fit it.
pub buffered_more : (text g m h : List ℕ) (w0 w1 : Option (List ℕ))
    → Buffered [] g m w0 w1
    → h ≡ m ++ text
    → Buffered text g h w0 w1
buffered_more text g m h w0 w1 room e = record {
  out = room.out;
  written = room.written;
  parts =
      ap (λ t. t ++ text) (sym (append-nil g) ∙ room.parts)
      ∙ append_assoc room.out m text
      ∙ ap (λ t. room.out ++ t) (sym e);
}

-- Then the text is written.
pub buffered_written : (text g h : List ℕ) (w0 w1 w2 : Option (List ℕ))
    → Buffered text g h w0 w1
    → Appends w1 w2 h
    → Buffered text g [] w0 w2
buffered_written text g h w0 w1 w2 buffered all = record {
  out = buffered.out ++ h;
  written = appends_then w0 w1 w2 buffered.out h buffered.written all;
  parts = buffered.parts ∙ sym (append-nil (buffered.out ++ h));
}

-- Or only a prefix of the text is written.
pub buffered_cut : (text g h : List ℕ) (w0 w1 w2 : Option (List ℕ))
    → Buffered text g h w0 w1
    → WritesPart w1 w2 h
    → WritesPart w0 w2 (g ++ text)
buffered_cut text g h w0 w1 w2 buffered cut =
    let P : List ℕ → Type 0 = λ t. WritesPart w0 w2 t in
    subst P (sym buffered.parts) (part_after buffered.out h w0 w1 w2 buffered.written cut)

-- Everything was written, including the text.
pub buffered_whole : (text g h : List ℕ) (w0 w1 w2 : Option (List ℕ))
    → Appends w0 w1 g → Appends w1 w2 text → h ≡ [] → Buffered text g h w0 w2
buffered_whole text g h w0 w1 w2 first next none = record {
  out = g ++ text;
  written = appends_then w0 w1 w2 g text first next;
  parts = sym (append-nil (g ++ text)) ∙ ap (λ t. (g ++ text) ++ t) (sym none);
}

-- ---- two texts

-- A text was buffered, and nothing is written yet.
pub buffered_first : (text g h : List ℕ) (w : Option (List ℕ)) → h ≡ g ++ text
    → Buffered text g h w w
buffered_first text g h w e = record { out = []; written = appends_nothing w; parts = sym e }

-- A text was buffered, and then another one.
pub buffered_then : (x y g h k : List ℕ) (w0 w1 w2 : Option (List ℕ))
    → Buffered x g h w0 w1
    → Buffered y h k w1 w2
    → Buffered (x ++ y) g k w0 w2
buffered_then x y g h k w0 w1 w2 one two = record {
  out = one.out ++ two.out;
  written = appends_then w0 w1 w2 one.out two.out one.written two.written;
  parts =
      sym (append_assoc g x y)
      ∙ ap (λ t. t ++ y) one.parts
      ∙ append_assoc one.out h y
      ∙ ap (λ t. one.out ++ t) two.parts
      ∙ sym (append_assoc one.out two.out k);
}

-- A text was buffered, and a prefix of the next one was written.
pub buffered_part : (x y h : List ℕ) (w0 w1 w2 : Option (List ℕ))
    → Buffered x [] h w0 w1 → WritesPart w1 w2 (h ++ y) → WritesPart w0 w2 (x ++ y)
buffered_part x y h w0 w1 w2 buffered cut =
    let same : buffered.out ++ (h ++ y) ≡ x ++ y =
    sym (append_assoc buffered.out h y) ∙ ap (λ t. t ++ y) (sym buffered.parts) in
    subst (λ t. WritesPart w0 w2 t) same
    (part_after buffered.out (h ++ y) w0 w1 w2 buffered.written cut)
