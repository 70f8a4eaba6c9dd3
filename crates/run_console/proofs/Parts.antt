-- A part of an input: one line after another, and one part after another.
use Rattle.std.specs.Prelude.{◌≡◌, ◌+◌, ℕ, List, [], ◌∷◌, ◌++◌, Option, Some, None}
use Rattle.std.specs.Io.KnownBytes.{Appends}
use Rattle.std.proofs.Common.{sym, ap, ◌∙◌, subst}
use Rattle.run_disk.specs.Disk.{DiskState}
use Rattle.book_model.specs.Books.{BookView}
use Rattle.console_lines.specs.declared.faults.RunFault.{RunFault}
use Rattle.console_lines.specs.declared.rejections.Rejection.{Rejection}
use Rattle.console_lines.specs.Lines.{whole_lines, open_line}
use Rattle.console_lines.specs.Progress.{kept}
use Rattle.console_lines.specs.Strict.{rejection_at}
use Rattle.console_lines.proofs.Splits.{line_ends, whole_lines-append, open_line-append}
use Rattle.run_console.specs.declared.untils.Until.{Until}
use Rattle.run_console.specs.RunProgress.{Clean, Cut, PartCut, PartRan, PartRejected, Ran}
use Rattle.run_console.specs.Until.{ends_at}
use Rattle.run_console.proofs.Lines.{cut_then, ran_nothing, ran_then, ran_written}
use Rattle.run_console.proofs.RunLines.{clean_line, clean_none, clean_then, found_line, found_then}

module _ {D : Type 0} {state : D → DiskState} {until : Until} where
  -- Nothing was read yet.
  pub part_begins : {n m : ℕ} {begun tail g : List ℕ} {b : BookView D} {w : Option (List ℕ)}
      → m ≡ n
      → tail ≡ kept begun
      → PartRan state until n m begun [] b b tail g g w w
  part_begins same e = record {
    ran = ran_nothing;
    tail_is = e;
    clean = clean_none until same;
  }

  -- ---- one line after another

  -- An LF runs the line that was begun, and the run goes on.
  pub part_ends : {n m : ℕ} {begun part more : List ℕ} {b c d : BookView D} {tail f g h : List ℕ}
      {w0 w1 w2 : Option (List ℕ)}
      → PartRan state until n m begun part b c tail f g w0 w1
      → Ran state (open_line begun part ∷ []) c d g h w1 w2
      → ends_at until (rejection_at c.session (open_line begun part)) ≡ None
      → more ≡ []
      → PartRan state until n (m + 1) begun (part ++ 10 ∷ []) b d more f h w0 w2
  part_ends {n} {m} {begun} {part} {b} {d} {f} {h} {w0} {w2} so_far ran stays none =
      let P : List (List ℕ) → Type 0 = λ lines. Ran state lines b d f h w0 w2 in
      let Q : List (List ℕ) → Type 0 = λ lines. Clean until n (m + 1) b.session lines in
      let line = open_line begun part in
      let both = line_ends begun part in
      record {
        ran =
            subst P (sym both.0)
            (ran_then so_far.ran ran);
        tail_is = none ∙ sym (ap kept both.1);
        clean =
            subst Q (sym both.0)
            (clean_then until so_far.ran.session so_far.clean (clean_line until stays));
      }

  -- Or the run ends after it.
  pub part_rejected : {n m : ℕ} {begun all part : List ℕ} {b c d : BookView D} {tail f g h : List ℕ}
      {w0 w1 w2 : Option (List ℕ)} (behind : List ℕ) (why : Rejection)
      → all ≡ part ++ 10 ∷ behind
      → PartRan state until n m begun part b c tail f g w0 w1
      → Ran state (open_line begun part ∷ []) c d g h w1 w2
      → ends_at until (rejection_at c.session (open_line begun part)) ≡ Some why
      → PartRejected state until (record { number = m; why = why }) n begun all b d f h w0 w2
  part_rejected {begun} {part} behind why e so_far ran rejected =
      let line = open_line begun part in
      let lines = whole_lines begun part in
      record {
        prefix = part;
        behind = behind;
        part_is = e;
        ran = ran_then so_far.ran ran;
        found = found_then until so_far.ran.session so_far.clean (found_line until why rejected);
      }

  -- Or it stops.
  pub part_stops : {why : RunFault} {n m : ℕ} {begun all part : List ℕ} {b c d : BookView D}
      {tail f g : List ℕ} {w0 w1 w2 : Option (List ℕ)} (behind : List ℕ)
      → all ≡ part ++ 10 ∷ behind
      → PartRan state until n m begun part b c tail f g w0 w1
      → Cut state why (open_line begun part ∷ []) c d g w1 w2
      → PartCut state until why n begun all b d f w0 w2
  part_stops {part} behind e so_far cut = record {
    prefix = part;
    behind = behind;
    part_is = e;
    none = so_far.clean.none;
    cut = cut_then so_far.ran cut;
  }

  -- ---- one part after another

  -- Two parts were run.
  pub part_then : {n m k : ℕ} {begun xs ys tail more f g h : List ℕ} {b c d : BookView D}
      {w0 w1 w2 : Option (List ℕ)}
      → PartRan state until n m begun xs b c tail f g w0 w1
      → PartRan state until m k (open_line begun xs) ys c d more g h w1 w2
      → PartRan state until n k begun (xs ++ ys) b d more f h w0 w2
  part_then {n} {k} {begun} {xs} {ys} {f} {h} {b} {d} {w0} {w2} one two =
      let P : List (List ℕ) → Type 0 = λ lines. Ran state lines b d f h w0 w2 in
      let Q : List (List ℕ) → Type 0 = λ lines. Clean until n k b.session lines in
      let first = whole_lines begun xs in
      let next = whole_lines (open_line begun xs) ys in
      let lines = whole_lines-append begun xs ys in
      record {
        ran =
            subst P (sym lines)
            (ran_then one.ran two.ran);
        tail_is = two.tail_is ∙ sym (ap kept (open_line-append begun xs ys));
        clean =
            subst Q (sym lines)
            (clean_then until one.ran.session one.clean two.clean);
      }

  -- All that was buffered is written.
  pub part_written : {n m : ℕ} {begun xs tail f g : List ℕ} {b c : BookView D}
      {w0 w1 w2 : Option (List ℕ)}
      → PartRan state until n m begun xs b c tail f g w0 w1
      → Appends w1 w2 g
      → PartRan state until n m begun xs b c tail f [] w0 w2
  part_written so_far all = record {
    ran = ran_written so_far.ran all;
    tail_is = so_far.tail_is;
    clean = so_far.clean;
  }
