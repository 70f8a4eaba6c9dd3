-- A whole input: what was read of it, and how its run ended.
use Rattle.std.specs.Prelude.{◌≡◌, ◌≤◌, ◌<◌, ◌+◌, ◌-◌, min, ℕ, List, [], ◌∷◌, ◌++◌, length}
use Rattle.std.specs.Prelude.{Option, Some, None, is_some, true, false, take}
use Rattle.std.specs.Io.KnownBytes.{Appends, Consumes, IsAtEnd}
use Rattle.std.proofs.Common.{arith, inl, inr, refl, sym, ap, ◌∙◌, subst, append_assoc, append-nil}
use Rattle.std.proofs.Common.{length-append}
use Rattle.std.proofs.lemmas.List.{length-take, length-take-le}
use Rattle.run_model.specs.Session.{Session}
use Rattle.run_disk.specs.Disk.{DiskState}
use Rattle.book_model.specs.Books.{BookView}
use Rattle.console_lines.specs.declared.lines.TheConstants.{LONGEST_INPUT}
use Rattle.console_lines.specs.declared.faults.RunFault.{RunFault}
use Rattle.console_lines.specs.declared.faults.RunFault.TheVariants as fault
use Rattle.console_lines.specs.declared.rejections.Rejection.{Rejection}
use Rattle.console_lines.specs.declared.rejections.RejectedLine.{RejectedLine}
use Rattle.console_lines.specs.Lines.{whole_lines, open_line, lines_of}
use Rattle.console_lines.specs.Script.{after_lines, closing, replies}
use Rattle.console_lines.specs.Strict.{rejection_at}
use Rattle.console_lines.specs.Progress.{WritesPart}
use Rattle.console_lines.proofs.Splits.{whole_lines-append, open_line-append}
use Rattle.console_lines.proofs.Written.{appends_then, consumes_then}
use Rattle.run_model.specs.declared.commands.Step.{Step}
use Rattle.run_model.specs.declared.commands.Step.TheVariants as step
use Rattle.run_console.specs.declared.untils.Until.{Until}
use Rattle.run_console.specs.TakenSteps.{Tries, next_steps}
use Rattle.run_console.specs.RunProgress.{Closes, Cut, EndStops, Found, Halts, IsOfLine, IsReached}
use Rattle.run_console.specs.RunProgress.{IsRunStopped, Lasts, IsStopped, IsWritten, PartCut}
use Rattle.run_console.specs.RunProgress.{PartRan}
use Rattle.run_console.specs.RunProgress.{PartRuns, PartRejected, Ran, RanLines, ReadsAll, RunEnds}
use Rattle.console_lines.specs.Buffered.{Buffered}
use Rattle.run_console.specs.RunProgress.{WritesTrouble, Wrote, lines_to, untried}
use Rattle.run_console.specs.Until.{IsReadFor, ends_at, lines_until, numbered}
use Rattle.run_console.proofs.TakenSteps.{takes_join, tries_more, tries_next}
use Rattle.run_console.proofs.Lines.{cut_then, cut_written, ran_then, stopped_more}
use Rattle.console_lines.proofs.Buffered.{part_after}
use Rattle.run_console.proofs.Lines.{trouble_after}
use Rattle.run_console.proofs.Parts.{part_then}
use Rattle.run_console.proofs.RunLines.{at_end, ends_first, found_then, last_lines, last_rejection}
use Rattle.run_console.proofs.RunLines.{left_over, lines_after, read_first, search_on}

-- ---- what is read

-- A part that was read at once: the input stays within what may be read, and the part within the
-- room that there was for it.
pub record PartRead (bytes room : List ℕ) (n part : ℕ) : Type 0 where
  pub len : length (bytes ++ take n room) ≡ length bytes + n
  pub within : length (bytes ++ take n room) ≤ LONGEST_INPUT + 1
  pub few : length (take n room) ≤ part

-- There was room for no more than may be read yet.
pub part_read : (bytes room old : List ℕ) (n most total part : ℕ)
    → length bytes ≡ total
    → n ≤ length room
    → length room ≡ length (take most old)
    → most ≡ min (LONGEST_INPUT + 1 - total) part
    → total ≤ LONGEST_INPUT
    → PartRead bytes room n part
part_read bytes room old n most total part h few long is within =
    let sum = length-append bytes (take n room) in
    let size : length (take n room) ≡ n = length-take-le n room few in
    let cut = length-take most old in
    record { len = omega arith; within = omega arith; few = omega arith }

-- Every line but the last of an input is ended by a byte of it.
few_lines : (begun bytes : List ℕ) → length (whole_lines begun bytes) ≤ length bytes
few_lines begun [] = omega arith
few_lines begun (x ∷ bytes) =
    grind (arith, few_lines [] bytes, few_lines (begun ++ x ∷ []) bytes)

-- The lines up to some LF of a part, after those before it.
lines_up_to : (xs prefix : List ℕ)
    → lines_of (xs ++ prefix) ≡ whole_lines [] xs ++ lines_to (open_line [] xs) prefix
lines_up_to xs prefix =
    ap (λ l. l ++ open_line [] (xs ++ prefix) ∷ []) (whole_lines-append [] xs prefix)
    ∙ ap (λ l. (whole_lines [] xs ++ whole_lines (open_line [] xs) prefix) ++ l ∷ [])
    (open_line-append [] xs prefix)
    ∙ append_assoc (whole_lines [] xs) (whole_lines (open_line [] xs) prefix)
    (open_line (open_line [] xs) prefix ∷ [])

-- An input up to some LF, and what comes after it.
around : (xs part prefix behind : List ℕ)
    → part ≡ prefix ++ 10 ∷ behind
    → xs ++ part ≡ (xs ++ prefix) ++ 10 ∷ behind
around xs part prefix behind e =
    ap (λ t. xs ++ t) e ∙ sym (append_assoc xs prefix (10 ∷ behind))

-- Of a part that was read at once little comes after an LF.
few_after : (part prefix behind : List ℕ)
    → part ≡ prefix ++ 10 ∷ behind → length part ≤ 4096 → length behind < 4096
few_after part prefix behind e h =
    omega (arith, ap length e, length-append prefix (10 ∷ behind), h)

-- ---- a run that stops

-- What was written up to a line that stopped.
written_so : {D : Type 0} (why : RunFault) (s : Session) (ran left : List (List ℕ))
    (c : BookView D) (w0 w1 : Option (List ℕ))
    → Wrote why (replies s ran) w0 w1 → IsWritten why s ran left c w0 w1
written_so fault.Output s ran left c w0 w1 h = inl h
written_so (fault.Store why) s ran left c w0 w1 h = h
written_so fault.Memory s ran left c w0 w1 h = h
written_so fault.Input s ran left c w0 w1 h = h
written_so fault.InputTooLong s ran left c w0 w1 h = h

reached_in : (why : RunFault) (bytes : List ℕ) (ran : List (List ℕ))
    → IsOfLine why
    → length bytes ≤ LONGEST_INPUT + 1
    → IsReached why bytes ran
reached_in fault.Output bytes ran f h = h
reached_in (fault.Store why) bytes ran f h = h
reached_in fault.Memory bytes ran f h = h
reached_in fault.Input bytes ran f h = absurd f
reached_in fault.InputTooLong bytes ran f h = absurd f

-- What ends with nothing has nothing at its end.
no_end : (xs ys : List (List ℕ)) → xs ++ ys ≡ [] → ys ≡ []
no_end [] ys e = e
no_end (x ∷ xs) ys e = absurd (omega (arith, ap length e))

-- Where no line is left after one that stopped, none follows.
none_after : (why : RunFault) (left more : List (List ℕ))
    → IsStopped why left → untried why (left ++ more) ≡ [] → more ≡ []
none_after (fault.Store why) [] more h e = absurd h
none_after (fault.Store why) (line ∷ left) more h e = no_end left more e
none_after fault.Memory [] more h e = absurd h
none_after fault.Memory (line ∷ left) more h e = no_end left more e
none_after fault.Input left more h e = no_end left more e
none_after fault.InputTooLong left more h e = no_end left more e
none_after fault.Output left more h e = no_end left more e

-- A line that stopped stops a run.
stopped_so : (why : RunFault) (left : List (List ℕ)) → IsStopped why left
    → IsRunStopped why left
stopped_so (fault.Store why) [] h = tt
stopped_so (fault.Store why) (line ∷ left) h = h
stopped_so fault.Memory [] h = h
stopped_so fault.Memory (line ∷ left) h = h
stopped_so fault.Input left h = tt
stopped_so fault.InputTooLong left h = tt
stopped_so fault.Output left h = tt

-- The closing line was told after these lines.
end_reported : {D : Type 0} {state : D → DiskState} {b d : BookView D} {lines : List (List ℕ)}
    {g : List ℕ} {w0 w2 w3 : Option (List ℕ)}
    → Ran state lines b d [] g w0 w2
    → Buffered (closing d.session) g [] w2 w3
    → Appends w0 w3 (replies b.session lines ++ closing (after_lines b.session lines))
end_reported {b} {d} {lines} {g} {w0} {w2} {w3} ran reported =
    let P : List ℕ → Type 0 = λ x. Appends w0 w3 x in
    let end = closing d.session in
    let text : replies b.session lines ++ closing (after_lines b.session lines)
    ≡ ran.out ++ reported.out =
    ap (λ t. replies b.session lines ++ closing t) (sym ran.session)
    ∙ ap (λ x. x ++ end) ran.replied
    ∙ append_assoc ran.out g end
    ∙ ap (λ x. ran.out ++ x) (reported.parts ∙ append-nil reported.out) in
    subst P (sym text) (appends_then w0 w2 w3 ran.out reported.out ran.written reported.written)

-- What stopped in the end.
end_stops : {D : Type 0} (why : RunFault) (e : BookView D) (end g : List ℕ)
    (w2 w3 : Option (List ℕ))
    → EndStops why e end g w2 w3 → IsRunStopped why []
end_stops (fault.Store why) e end g w2 w3 h = tt
end_stops fault.Output e end g w2 w3 h = tt
end_stops fault.Memory e end g w2 w3 h = absurd h
end_stops fault.Input e end g w2 w3 h = tt
end_stops fault.InputTooLong e end g w2 w3 h = tt

reached_end : {D : Type 0} (why : RunFault) (e : BookView D) (end g : List ℕ)
    (w2 w3 : Option (List ℕ)) (bytes : List ℕ) (lines : List (List ℕ))
    → EndStops why e end g w2 w3
    → length bytes ≤ LONGEST_INPUT + 1 → IsReached why bytes lines
reached_end (fault.Store why) e end g w2 w3 bytes lines h few = few
reached_end fault.Output e end g w2 w3 bytes lines h few = few
reached_end fault.Memory e end g w2 w3 bytes lines h few = few
reached_end fault.Input e end g w2 w3 bytes lines h few = absurd h
reached_end fault.InputTooLong e end g w2 w3 bytes lines h few = absurd h

-- What was written up to there.
end_wrote : {D : Type 0} {state : D → DiskState} {b d : BookView D} {lines : List (List ℕ)}
    {g : List ℕ} {w0 w2 : Option (List ℕ)} (why : RunFault) (e : BookView D) (w3 : Option (List ℕ))
    → Ran state lines b d [] g w0 w2
    → EndStops why e (closing d.session) g w2 w3
    → IsWritten why b.session lines [] e w0 w3
end_wrote {g} {w0} {w2} fault.Output e w3 ran (inl h) =
    let P : List ℕ → Type 0 = λ x. WritesPart w0 w3 x in
    inl (subst P (sym ran.replied) (part_after ran.out g w0 w2 w3 ran.written h))
end_wrote {b} {d} {lines} {g} {w0} {w2} fault.Output e w3 ran (inr (saved, h)) =
    let P : List ℕ → Type 0 = λ x. WritesPart w0 w3 x in
    let s = b.session in
    let end = closing d.session in
    let text : replies s lines ++ closing (after_lines s lines) ≡ ran.out ++ (g ++ end) =
    ap (λ t. replies s lines ++ closing t) (sym ran.session)
    ∙ ap (λ x. x ++ end) ran.replied
    ∙ append_assoc ran.out g end in
    inr (refl, saved, subst P (sym text) (part_after ran.out (g ++ end) w0 w2 w3 ran.written h))
end_wrote {g} {w0} {w2} (fault.Store why) e w3 ran h =
    let P : List ℕ → Type 0 = λ x. WritesTrouble why x w0 w3 in
    subst P (sym ran.replied) (trouble_after why ran.out g w0 w2 w3 ran.written h)
end_wrote fault.Memory e w3 ran h = absurd h
end_wrote fault.Input e w3 ran h = absurd h
end_wrote fault.InputTooLong e w3 ran h = absurd h

-- ---- a whole run

module _ {D : Type 0} {state : D → DiskState} {until : Until} where
  -- The input was read to its end.
  pub reads_all : {m : ℕ} {bytes tail : List ℕ} {b c : BookView D} {r0 r2 w0 w1 : Option (List ℕ)}
      (r1 : Option (List ℕ))
      → Consumes r0 r1 bytes
      → Consumes r1 r2 []
      → IsAtEnd r2
      → length bytes ≤ LONGEST_INPUT
      → PartRan state until 1 m [] bytes b c tail [] [] w0 w1
      → ReadsAll state until m b c tail r0 r2 w0 w1
  reads_all {bytes} {r0} {r2} r1 read none ended within part =
      let P : List ℕ → Type 0 = λ x. Consumes r0 r2 x in
      record {
        bytes = bytes;
        read = subst P (append-nil bytes) (consumes_then r0 r1 r2 bytes [] read none);
        ended = ended;
        within = within;
        part = part;
      }

  -- The number of the line that was begun.
  pub few_before : {m : ℕ} {bytes tail : List ℕ} {b c : BookView D} {w0 w1 : Option (List ℕ)}
      → PartRan state until 1 m [] bytes b c tail [] [] w0 w1
      → m ≤ 1 + length bytes
  few_before {bytes} so_far = omega (arith, so_far.clean.next, few_lines [] bytes)

  -- A fault of reading, after all lines that an LF ended.
  pub stops_reading : {why : RunFault} {m : ℕ} {bytes tail : List ℕ} {b c : BookView D}
      {r0 r1 w0 w1 : Option (List ℕ)}
      → Consumes r0 r1 bytes
      → PartRan state until 1 m [] bytes b c tail [] [] w0 w1
      → IsReached why bytes (whole_lines [] bytes)
      → ((left : List (List ℕ)) → untried why left ≡ left)
      → ((left : List (List ℕ)) → IsRunStopped why left)
      → (Appends w0 w1 (replies b.session (whole_lines [] bytes))
      → IsWritten why b.session (whole_lines [] bytes) (open_line [] bytes ∷ []) c w0 w1)
      → ((steps : List Step) → Tries state c why steps c)
      → Halts state until why b c r0 r1 w0 w1
  stops_reading {bytes} {c} {w0} {w1} read part reached all_left stopped written not_tried =
      let P : List ℕ → Type 0 = λ x. Appends w0 w1 x in
      let ran = part.ran in
      let left = open_line [] bytes ∷ [] in
      record {
        lasts = ran.lasts;
        stops = record {
          bytes = bytes;
          read = read;
          ran = whole_lines [] bytes;
          left = left;
          lines_are = last_lines until c.session bytes ran.session part.clean;
          read_for = λ e. left_over [] (open_line [] bytes) _ (sym (all_left left) ∙ e);
          stopped = stopped left;
          reached = reached;
          session = ran.session;
          tried = record {
            middle = c;
            taken = ran.taken;
            tried = not_tried (next_steps left);
          };
          written = written (subst P (sym (ran.replied ∙ append-nil ran.out)) ran.written);
        };
      }

  -- Lines of which the first were run stopped, and more come after them.
  stops_of : {why : RunFault} {lines : List (List ℕ)} {b d : BookView D}
      {r0 r1 w0 w1 : Option (List ℕ)} (bytes : List ℕ) (more : List (List ℕ))
      → Consumes r0 r1 bytes
      → length bytes ≤ LONGEST_INPUT + 1
      → lines_until until b.session (lines_of bytes) ≡ lines ++ more
      → Cut state why lines b d [] w0 w1
      → (more ≡ [] → IsReadFor until lines bytes r1)
      → Halts state until why b d r0 r1 w0 w1
  stops_of {why} {b} {d} {r1} {w0} {w1} bytes more read few is cut reads =
      let P : List (List ℕ) → Type 0 = λ l. IsReadFor until l bytes r1 in
      let left = cut.left ++ more in
      record {
        lasts = cut.lasts;
        stops = record {
          bytes = bytes;
          read = read;
          ran = cut.ran;
          left = left;
          lines_are =
              is ∙ ap (λ l. l ++ more) cut.lines_are ∙ append_assoc cut.ran cut.left more;
          read_for = λ e.
              let none = none_after why cut.left more cut.stopped e in
              subst P
              (cut.lines_are
              ∙ ap (λ l. cut.ran ++ l)
              (sym (append-nil cut.left) ∙ ap (λ m. cut.left ++ m) (sym none)))
              (reads none);
          stopped = stopped_so why left (stopped_more why cut.left more cut.stopped);
          reached = reached_in why bytes cut.ran cut.of_line few;
          session = cut.session;
          tried = record {
            middle = cut.tried.middle;
            taken = cut.tried.taken;
            tried =
                tries_next state cut.tried.middle d why left
                (tries_more state cut.tried.middle d why cut.left more cut.tried.tried);
          };
          written = written_so why b.session cut.ran left d w0 w1 cut.written;
        };
      }

  -- A line of a part stopped.
  pub stops_in_a_part : {why : RunFault} {n : ℕ} {bytes part tail : List ℕ} {b c d : BookView D}
      {r0 r2 w0 w1 w2 : Option (List ℕ)} (r1 : Option (List ℕ))
      → Consumes r0 r1 bytes
      → Consumes r1 r2 part
      → length (bytes ++ part) ≤ LONGEST_INPUT + 1
      → length part ≤ 4096
      → PartRan state until 1 n [] bytes b c tail [] [] w0 w1
      → PartCut state until why n (open_line [] bytes) part c d [] w1 w2
      → Halts state until why b d r0 r2 w0 w2
  stops_in_a_part {bytes} {part} {b} {c} {r0} {r2} r1 read more within few so_far cut =
      let s = b.session in
      let all = bytes ++ part in
      let prefix = bytes ++ cut.prefix in
      let before = whole_lines [] bytes in
      let here = whole_lines (open_line [] bytes) cut.prefix in
      let line = open_line (open_line [] bytes) cut.prefix in
      let up_to = lines_up_to bytes cut.prefix in
      let rest = lines_after until s (before ++ here) line prefix cut.behind
      (search_on until c.session here so_far.ran.session so_far.clean ∙ cut.none)
      (up_to ∙ sym (append_assoc before here (line ∷ []))) in
      let tried = cut_then so_far.ran cut.cut in
      let is_first = around bytes part cut.prefix cut.behind cut.part_is in
      stops_of all rest.0 (consumes_then r0 r1 r2 bytes part read more) within
      (ap (λ l. lines_until until s (lines_of l)) is_first ∙ rest.1
      ∙ ap (λ l. l ++ rest.0) (append_assoc before here (line ∷ []))) tried
      (λ none. rest.2 (before ++ (here ++ line ∷ [])) all r2 none (record {
        prefix = prefix;
        behind = cut.behind;
        bytes_are = is_first;
        lines_are = up_to;
        few_after = few_after part cut.prefix cut.behind cut.part_is few;
      }))

  -- The lines of a part were run, and what was buffered for them is cut.
  pub stops_after_part : {m k : ℕ} {bytes part tail more g : List ℕ} {b c d : BookView D}
      {r0 r2 w0 w1 w2 w3 : Option (List ℕ)} (r1 : Option (List ℕ))
      → Consumes r0 r1 bytes
      → Consumes r1 r2 part
      → length (bytes ++ part) ≤ LONGEST_INPUT + 1
      → PartRan state until 1 m [] bytes b c tail [] [] w0 w1
      → PartRan state until m k (open_line [] bytes) part c d more [] g w1 w2
      → WritesPart w2 w3 g
      → Halts state until fault.Output b d r0 r2 w0 w3
  stops_after_part {bytes} {part} {d} {r0} {r2} r1 read next within so_far here cut =
      let all = bytes ++ part in
      let lines = whole_lines [] all in
      let last = open_line [] all in
      let both = part_then so_far here in
      stops_of all (last ∷ []) (consumes_then r0 r1 r2 bytes part read next) within
      (last_lines until d.session all both.ran.session both.clean)
      (cut_written both.ran cut) (λ e. left_over [] last _ e)

  -- The last line stopped.
  pub stops_at_last : {why : RunFault} {m : ℕ} {b c d : BookView D} {tail g : List ℕ}
      {r0 r1 w0 w1 w2 : Option (List ℕ)}
      → (reads : ReadsAll state until m b c tail r0 r1 w0 w1)
      → g ≡ []
      → Cut state why (open_line [] reads.bytes ∷ []) c d g w1 w2
      → Halts state until why b d r0 r1 w0 w2
  stops_at_last {why} {c} {d} {r1} {w1} {w2} reads none cut =
      let bytes = reads.bytes in
      let line = open_line [] bytes in
      let ran = reads.part.ran in
      let P : List ℕ → Type 0 = λ before. Cut state why (line ∷ []) c d before w1 w2 in
      stops_of bytes [] reads.read (omega (arith, reads.within))
      (last_lines until c.session bytes ran.session reads.part.clean
      ∙ sym (append-nil (lines_of bytes)))
      (cut_then ran (subst P none cut)) (λ _. at_end until (lines_of bytes) bytes r1 reads.ended)

  -- ---- all lines were run

  -- The run ends after a line of a part.
  ran_to_rejection : {n : ℕ} {bytes part tail g : List ℕ} {b c d : BookView D}
      {rejection : RejectedLine}
      {r0 r2 w0 w1 w2 : Option (List ℕ)} (r1 : Option (List ℕ))
      → Consumes r0 r1 bytes
      → Consumes r1 r2 part
      → length (bytes ++ part) ≤ LONGEST_INPUT + 1
      → length part ≤ 4096
      → PartRan state until 1 n [] bytes b c tail [] [] w0 w1
      → PartRejected state until rejection n (open_line [] bytes) part c d [] g w1 w2
      → RanLines state until (Some rejection) b d g r0 r2 w0 w2
  ran_to_rejection {bytes} {part} {g} {b} {d} {rejection} {r0} {r2} {w0} {w2} r1 read more within
      few so_far
      rejected =
      let s = b.session in
      let all = bytes ++ part in
      let prefix = bytes ++ rejected.prefix in
      let first = whole_lines [] bytes in
      let next = lines_to (open_line [] bytes) rejected.prefix in
      let is_first = around bytes part rejected.prefix rejected.behind rejected.part_is in
      let P : List (List ℕ) → Type 0 = λ lines. Found until 1 s lines rejection in
      let Q : List (List ℕ) → Type 0 = λ lines. Ran state lines b d [] g w0 w2 in
      let lines = lines_up_to bytes rejected.prefix in
      let both = ends_first until all prefix rejected.behind is_first (subst P (sym lines)
      (found_then until so_far.ran.session so_far.clean rejected.found)) in
      record {
        bytes = all;
        read = consumes_then r0 r1 r2 bytes part read more;
        rejection_is = sym both.0;
        read_for =
            read_first until 1 s (lines_of all) rejection both.0 _ all r2 (record {
              prefix = prefix;
              behind = rejected.behind;
              bytes_are = is_first;
              lines_are = sym both.1;
              few_after = few_after part rejected.prefix rejected.behind rejected.part_is few;
            });
        ended = λ e. absurd (grind (arith, e));
        within = within;
        ran =
            subst Q (sym (both.1 ∙ lines))
            (ran_then so_far.ran rejected.ran);
      }

  -- The last line was run, whether the run ends after it or not.
  pub ran_to_end : {m : ℕ} {b c d : BookView D} {tail f g : List ℕ}
      {rejection : Option RejectedLine}
      {r0 r1 w0 w1 w2 : Option (List ℕ)} (why : Option Rejection)
      → (reads : ReadsAll state until m b c tail r0 r1 w0 w1)
      → f ≡ []
      → Ran state (open_line [] reads.bytes ∷ []) c d f g w1 w2
      → why ≡ ends_at until (rejection_at c.session (open_line [] reads.bytes))
      → rejection ≡ numbered m why
      → RanLines state until rejection b d g r0 r1 w0 w2
  ran_to_end {m} {b} {c} {d} {g} {rejection} {r1} {w0} {w1} {w2} why reads none last is e =
      let bytes = reads.bytes in
      let first = whole_lines [] bytes in
      let line = open_line [] bytes in
      let ran = reads.part.ran in
      let clean = reads.part.clean in
      let P : List ℕ → Type 0 = λ before. Ran state (line ∷ []) c d before g w1 w2 in
      let Q : List (List ℕ) → Type 0 = λ lines. Ran state lines b d [] g w0 w2 in
      record {
        bytes = bytes;
        read = reads.read;
        rejection_is =
            last_rejection until m c.session line why is rejection e
            ∙ sym (search_on until c.session (line ∷ []) ran.session clean);
        read_for = at_end until _ bytes r1 reads.ended;
        ended = λ _. (reads.ended, reads.within);
        within = omega (arith, reads.within);
        ran =
            subst Q (sym (last_lines until c.session bytes ran.session clean))
            (ran_then ran (subst P none last));
      }

  -- ---- the end

  -- The last flush stopped, or the writer failed after it.
  pub stops_closing : {why : RunFault} {b d e : BookView D} {g : List ℕ}
      {rejection : Option RejectedLine}
      {r0 r1 w0 w2 w3 : Option (List ℕ)}
      → RanLines state until rejection b d g r0 r1 w0 w2
      → e.session ≡ d.session
      → EndStops why e (closing d.session) g w2 w3
      → Tries state d why (step.Flush ∷ []) e
      → Halts state until why b e r0 r1 w0 w3
  stops_closing {why} {b} {d} {e} {g} {r1} {w2} {w3} ran same end flushed =
      let lines = lines_until until b.session (lines_of ran.bytes) in
      let P : List (List ℕ) → Type 0 = λ l. IsReadFor until l ran.bytes r1 in
      let Q : Session → Type 0 = λ s. Lasts b.session s in
      record {
        lasts = subst Q (sym same) ran.ran.lasts;
        stops = record {
          bytes = ran.bytes;
          read = ran.read;
          ran = lines;
          left = [];
          lines_are = sym (append-nil lines);
          read_for = λ _. subst P (sym (append-nil lines)) ran.read_for;
          stopped = end_stops why e (closing d.session) g w2 w3 end;
          reached = reached_end why e (closing d.session) g w2 w3 ran.bytes lines end ran.within;
          session = same ∙ ran.ran.session;
          tried = record { middle = d; taken = ran.ran.taken; tried = flushed };
          written = end_wrote why e w3 ran.ran end;
        };
      }

  -- The closing line was written.
  pub run_ends : {rejection : Option RejectedLine} {b d e : BookView D} {g : List ℕ}
      {r0 r1 w0 w2 w3 : Option (List ℕ)}
      → RanLines state until rejection b d g r0 r1 w0 w2
      → e.session ≡ d.session
      → Closes state d e g w2 w3
      → RunEnds state until rejection b e r0 r1 w0 w3
  run_ends {b} ran same closes =
      let lines = lines_until until b.session (lines_of ran.bytes) in
      record {
        bytes = ran.bytes;
        read = ran.read;
        lines = lines;
        lines_are = refl;
        rejection_is = ran.rejection_is;
        read_for = ran.read_for;
        ended = ran.ended;
        within = ran.within;
        session = same ∙ ran.ran.session;
        taken = takes_join state ran.ran.taken closes.taken;
        written = end_reported ran.ran closes.reported;
        saved = closes.saved;
      }

-- ---- what the lines that an LF ends came to

-- A line of it is rejected.
pub reads_to_rejected : {D : Type 0} {state : D → DiskState} {until : Until} {n : ℕ}
    {bytes tail : List ℕ}
    {b c : BookView D} {w0 w1 : Option (List ℕ)} (found : Option RejectedLine) (m : ℕ)
    (part more g : List ℕ) (d : BookView D) (r0 r1 r2 w2 : Option (List ℕ))
    → is_some found ≡ true
    → Consumes r0 r1 bytes
    → Consumes r1 r2 part
    → length (bytes ++ part) ≤ LONGEST_INPUT + 1
    → length part ≤ 4096
    → PartRan state until 1 n [] bytes b c tail [] [] w0 w1
    → PartRuns state until found n m (open_line [] bytes) part c d more [] g w1 w2
    → RanLines state until found b d g r0 r2 w0 w2
reads_to_rejected None m part more g d r0 r1 r2 w2 some read next within few so_far runs =
    absurd (grind (arith, some))
reads_to_rejected (Some rejection) m part more g d r0 r1 r2 w2 some read next within few so_far
    runs =
    ran_to_rejection r1 read next within few so_far runs

-- No line of it does.
pub is_clean : {D : Type 0} {state : D → DiskState} {until : Until} {n m : ℕ} {begun part : List ℕ}
    {b c : BookView D} {tail before buffer : List ℕ} {w0 w1 : Option (List ℕ)}
    (found : Option RejectedLine)
    → is_some found ≡ false
    → PartRuns state until found n m begun part b c tail before buffer w0 w1
    → PartRan state until n m begun part b c tail before buffer w0 w1
is_clean None none runs = runs
is_clean (Some rejection) none runs = absurd (grind (arith, none))
