-- A run that stopped wrote a front of what it was to write.
use Rattle.std.specs.Prelude.{◌≡◌, ℕ, List, [], ◌∷◌, ◌++◌, ◌⊎◌, Option, length}
use Rattle.std.specs.Io.KnownBytes.{Appends, IsAtEnd}
use Rattle.std.proofs.Common.{arith, inl, inr, refl, sym, ap, subst, ◌∙◌, append_assoc, append-nil}
use Rattle.std.proofs.Common.{length-append}
use Rattle.run_model.specs.Session.{Session}
use Rattle.run_disk.specs.Disk.{DiskState}
use Rattle.book_model.specs.Books.{BookView}
use Rattle.console_lines.specs.declared.faults.RunFault.{RunFault}
use Rattle.console_lines.specs.declared.faults.RunFault.TheVariants as fault
use Rattle.console_lines.specs.Lines.{whole_lines, open_line, lines_of}
use Rattle.console_lines.specs.Progress.{IsPrefix}
use Rattle.console_lines.specs.Script.{after_lines, closing, replies, script}
use Rattle.console_lines.proofs.Steps.{replies-append}
use Rattle.run_console.specs.declared.untils.Until.TheVariants.{End}
use Rattle.run_console.specs.RunProgress.{BeginsScript, IsReported, IsWritten, RunStops, untried}

-- What is replied to the lines that were run; where no line is left, the closing line comes after.
abbrev printed_of : Session → (ran left : List (List ℕ)) → List ℕ
printed_of s ran [] = replies s ran ++ closing (after_lines s ran)
printed_of s ran (line ∷ left) = replies s ran

-- The first of these lines, where the last one is left, are first ones without it.
first_lines :
    (xs ran left : List (List ℕ)) (y x : List ℕ)
    → xs ++ y ∷ [] ≡ ran ++ x ∷ left
    → (rest : List (List ℕ)) × (xs ≡ ran ++ rest)
first_lines xs [] left y x e = (xs, refl)
first_lines [] (r ∷ ran) left y x e =
    let sum = length-append ran (x ∷ left) in
    absurd (omega (arith, sum, ap length e))
first_lines (z ∷ xs) (r ∷ ran) left y x e =
    let more = first_lines xs ran left y x (ap tail e) in
    (more.0, ap (λ h. h ∷ xs) (ap (head_or z) e) ∙ ap (λ t. r ∷ t) more.1)
  where
    tail : List (List ℕ) → List (List ℕ)
    tail [] = []
    tail (a ∷ more) = more

    head_or : List ℕ → List (List ℕ) → List ℕ
    head_or d [] = d
    head_or d (a ∷ more) = a

prefix_then : (s : Session) (xs ys : List (List ℕ)) (prefix : List ℕ)
    → IsPrefix prefix (replies s xs)
    → IsPrefix prefix (replies s (xs ++ ys))
prefix_then s xs ys prefix (rest, e) = (
  rest ++ replies (after_lines s xs) ys,
  replies-append s xs ys
      ∙ ap (λ t. t ++ replies (after_lines s xs) ys) e
      ∙ append_assoc prefix rest (replies (after_lines s xs) ys),
)

-- What was said of the first lines is a front.
printed_begins :
    (s : Session) (bytes : List ℕ) (ran left : List (List ℕ)) (r1 : Option (List ℕ))
    (prefix : List ℕ)
    → lines_of bytes ≡ ran ++ left
    → (left ≡ [] → IsAtEnd r1)
    → IsPrefix prefix (printed_of s ran left)
    → IsPrefix prefix (replies s (whole_lines [] bytes))
    ⊎ (IsAtEnd r1 × IsPrefix prefix (script s bytes))
printed_begins s bytes ran [] r1 prefix e ended (rest, cut) =
    let all : script s bytes ≡ printed_of s ran [] =
    ap (λ l. replies s l ++ closing (after_lines s l)) (e ∙ append-nil ran) in
    inr (ended refl, (rest, all ∙ cut))
printed_begins s bytes ran (x ∷ left) r1 prefix e ended cut =
    let first = first_lines (whole_lines [] bytes) ran left (open_line [] bytes) x e in
    let more = prefix_then s ran first.0 prefix cut in
    inl (more.0, ap (replies s) first.1 ∙ more.1)

-- The replies to the first lines are a front of what was said of them.
replies_printed : (s : Session) (ran left : List (List ℕ))
    → IsPrefix (replies s ran) (printed_of s ran left)
replies_printed s ran [] = (closing (after_lines s ran), refl)
replies_printed s ran (x ∷ left) = ([], sym (append-nil (replies s ran)))

-- A prefix of the replies is one of what was said.
prefix_printed : (s : Session) (ran left : List (List ℕ)) (prefix : List ℕ)
    → IsPrefix prefix (replies s ran) → IsPrefix prefix (printed_of s ran left)
prefix_printed s ran [] prefix (rest, e) =
    let end = closing (after_lines s ran) in
    (rest ++ end, ap (λ t. t ++ end) e ∙ append_assoc prefix rest end)
prefix_printed s ran (x ∷ left) prefix h = h

-- What was written: a front of what was said, and after it what was told of a trouble.
record Prefixes (why : RunFault) (s : Session) (ran left : List (List ℕ))
    (w0 w1 : Option (List ℕ)) : Type 0 where
  prefix : List ℕ
  begins : IsPrefix prefix (printed_of s ran left)
  reported : List ℕ
  trouble : IsReported why reported
  written : Appends w0 w1 (prefix ++ reported)

no_more : (prefix : List ℕ) (w0 w1 : Option (List ℕ))
    → Appends w0 w1 prefix → Appends w0 w1 (prefix ++ [])
no_more prefix w0 w1 h = subst (λ t. Appends w0 w1 t) (sym (append-nil prefix)) h

-- The replies were written whole, and nothing after them.
printed_whole : (why : RunFault) (s : Session) (ran left : List (List ℕ)) (w0 w1 : Option (List ℕ))
    → IsReported why [] → Appends w0 w1 (replies s ran) → Prefixes why s ran left w0 w1
printed_whole why s ran left w0 w1 none h = record {
  prefix = replies s ran;
  begins = replies_printed s ran left;
  reported = [];
  trouble = none;
  written = no_more (replies s ran) w0 w1 h;
}

prefixes_of : {D : Type 0}
    (why : RunFault) (s : Session) (ran left : List (List ℕ)) (c : BookView D)
    (w0 w1 : Option (List ℕ))
    → IsWritten why s ran left c w0 w1
    → Prefixes why s ran left w0 w1
prefixes_of fault.Output s ran left c w0 w1 (inl h) = record {
  prefix = h.0;
  begins = prefix_printed s ran left h.0 (h.1.0, h.1.1);
  reported = [];
  trouble = refl;
  written = no_more h.0 w0 w1 h.2;
}
prefixes_of fault.Output s ran left c w0 w1 (inr (none, saved, h)) =
    let Begins : List (List ℕ) → Type 0 = λ l. IsPrefix h.0 (printed_of s ran l) in
    record {
      prefix = h.0;
      begins = subst Begins (sym none) (h.1.0, h.1.1);
      reported = [];
      trouble = refl;
      written = no_more h.0 w0 w1 h.2;
    }
prefixes_of (fault.Store why) s ran left c w0 w1 h = record {
  prefix = replies s ran;
  begins = replies_printed s ran left;
  reported = h.0;
  trouble = h.1;
  written = h.2;
}
prefixes_of fault.Input s ran left c w0 w1 h = printed_whole fault.Input s ran left w0 w1 refl h
prefixes_of fault.InputTooLong s ran left c w0 w1 h =
    printed_whole fault.InputTooLong s ran left w0 w1 refl h
prefixes_of fault.Memory s ran left c w0 w1 h = printed_whole fault.Memory s ran left w0 w1 refl h

-- Where no line is left, none was left untried.
none_untried : (why : RunFault) → untried why [] ≡ []
none_untried fault.Output = refl
none_untried (fault.Store why) = refl
none_untried fault.Input = refl
none_untried fault.InputTooLong = refl
none_untried fault.Memory = refl

pub stops_begin : {D : Type 0} {state : D → DiskState} {why : RunFault} {b c : BookView D}
    {r0 r1 w0 w1 : Option (List ℕ)}
    → RunStops state End why b c r0 r1 w0 w1
    → BeginsScript why b.session r0 r1 w0 w1
stops_begin {why} {b} {c} {r1} {w0} {w1} h =
    let w = prefixes_of why b.session h.ran h.left c w0 w1 h.written in
    record {
      bytes = h.bytes;
      read = h.read;
      prefix = w.prefix;
      begins =
          printed_begins b.session h.bytes h.ran h.left r1 w.prefix h.lines_are
          (λ e. h.read_for (ap (untried why) e ∙ none_untried why)) w.begins;
      reported = w.reported;
      trouble = w.trouble;
      written = w.written;
    }
