-- Texts that are printed after what was buffered, and how one line and a whole run end.
use Rattle.std.specs.Prelude.{◌≡◌, ◌≢◌, ◌⊎◌, ℕ, List, [], ◌∷◌, ◌++◌, Option, length}
use Rattle.std.specs.Prelude.{Result, Ok, Err, OnOk, OnErr}
use Rattle.std.specs.Io.KnownBytes.{Appends}
use Rattle.std.proofs.Common.{inl, inr, arith, refl, sym, ap, ◌∙◌, subst, append-nil, length-append}
use Rattle.run_model.specs.declared.faults.Trouble.{Trouble}
use Rattle.run_session.proofs.Staying.{stays_same}
use Rattle.run_disk.specs.Disk.{DiskState}
use Rattle.book_model.specs.Books.{BookView}
use Rattle.console_lines.specs.declared.faults.RunFault.{RunFault}
use Rattle.console_lines.specs.declared.faults.RunFault.TheVariants as fault
use Rattle.console_lines.specs.LineRequests.{request_of}
use Rattle.console_lines.specs.Progress.{WritesPart}
use Rattle.console_lines.specs.declared.line_replies.LineReply.TheVariants as printed
use Rattle.console_lines.specs.Replies.{reply_line}
use Rattle.console_lines.specs.Script.{replies, reply, steps_of, after_line, after_lines}
use Rattle.console_lines.proofs.Written.{appends_then}
use Rattle.book_model.specs.Steps.{StepsOn, reply_of_save}
use Rattle.run_console.specs.TakenSteps.{TakesAll, TriesLine, first_steps}
use Rattle.run_console.proofs.TakenSteps.{takes_none, took_nothing, tried_nothing}
use Rattle.run_console.specs.SavingLines.{IsSaving}
use Rattle.run_console.specs.RunProgress.{Cut, EndStops, IsOfLine, IsStopped, LineRuns, LineStops}
use Rattle.run_console.specs.RunProgress.{Ran, Troubled, WritesTrouble, Wrote}
use Rattle.console_lines.specs.Buffered.{Buffered}
use Rattle.run_console.proofs.Lines.{cut_then, cut_troubled, trouble_after}
use Rattle.console_lines.proofs.Buffered.{part_after}

-- Making room is no line.
ran_reported : {D : Type 0} {state : D → DiskState} {b : BookView D} {g m : List ℕ}
    {w0 w1 : Option (List ℕ)}
    → Buffered [] g m w0 w1
    → Ran state [] b b g m w0 w1
ran_reported {state} {b} room = record {
  out = room.out;
  written = room.written;
  replied = room.parts;
  session = refl;
  taken = takes_none state;
  lasts = stays_same b.session.state;
}

-- A trouble after the room that was made.
pub cut_stopped : {D : Type 0} {state : D → DiskState} {why : RunFault} {line : List ℕ}
    {b c : BookView D} {g m : List ℕ} {w0 w1 w2 : Option (List ℕ)} (trouble : Trouble)
    → IsSaving (request_of line)
    → c.session ≡ b.session
    → StepsOn state b (steps_of (line ∷ [])) (reply_of_save (Err trouble) ∷ [])
    c
    → Buffered [] g m w0 w1
    → Troubled why trouble m w1 w2
    → Cut state why (line ∷ []) b c g w0 w2
cut_stopped {why} trouble saving same row room stop =
    cut_then (ran_reported room) (cut_troubled why trouble saving same row stop)

-- ---- the end

room_is : (g m : List ℕ) (w0 w1 : Option (List ℕ)) (room : Buffered [] g m w0 w1)
    → room.out ++ m ≡ g
room_is g m w0 w1 room = sym room.parts ∙ append-nil g

pub end_stopped : {D : Type 0} {g m : List ℕ} {w0 w1 : Option (List ℕ)} (why : RunFault)
    (trouble : Trouble) (c : BookView D) (end : List ℕ) (w2 : Option (List ℕ))
    → Buffered [] g m w0 w1
    → Troubled why trouble m w1 w2
    → EndStops why c end g w0 w2
end_stopped {g} {m} {w0} {w1} fault.Output trouble c end w2 room stop =
    let P : List ℕ → Type 0 = λ t. WritesPart w0 w2 t in
    inl (subst P (room_is g m w0 w1 room) (part_after room.out m w0 w1 w2 room.written stop))
end_stopped {g} {m} {w0} {w1} (fault.Store why) trouble c end w2 room stop =
    let P : List ℕ → Type 0 = λ t. WritesTrouble why t w0 w2 in
    let Q : Trouble → Type 0 = λ t. WritesTrouble t m w1 w2 in
    subst P (room_is g m w0 w1 room)
    (trouble_after why room.out m w0 w1 w2 room.written (subst Q (sym stop.0) stop.1))
end_stopped fault.Input trouble c end w2 room stop = absurd stop
end_stopped fault.InputTooLong trouble c end w2 room stop = absurd stop
end_stopped fault.Memory trouble c end w2 room stop = absurd stop

-- ---- one line

-- One line was run and its reply written.
pub line_runs : {D : Type 0} {state : D → DiskState} {line : List ℕ} {b c : BookView D} {h : List ℕ}
    {w0 w1 w2 : Option (List ℕ)}
    → Ran state (line ∷ []) b c [] h w0 w1
    → Appends w1 w2 h
    → (IsSaving (request_of line) → c.durable ≡ c.session.state.count)
    → LineRuns state line b c w0 w2
line_runs {line} {b} {h} {w0} {w1} {w2} ran all saved =
    let P : List ℕ → Type 0 = λ t. Appends w0 w2 t in
    record {
      session = ran.session;
      taken = ran.taken;
      written =
          subst P (sym ran.replied ∙ append-nil (reply b.session line))
          (appends_then w0 w1 w2 ran.out h ran.written all);
      saved = saved;
    }

-- One line falls into none and one, or into one and none.
split_one : (line : List ℕ) (ran left : List (List ℕ))
    → line ∷ [] ≡ ran ++ left
    → ((ran ≡ []) × (left ≡ line ∷ [])) ⊎ ((ran ≡ line ∷ []) × (left ≡ []))
split_one line [] left e = inl (refl, sym e)
split_one line (x ∷ []) [] e = inr (sym e, refl)
split_one line (x ∷ []) (y ∷ left) e = absurd (omega (arith, ap length e))
split_one line (x ∷ y ∷ ran) left e =
    absurd (omega (arith, ap length e, length-append ran left))

-- None of nothing is no part.
no_part : (w0 w1 : Option (List ℕ)) (X : Type 0) → WritesPart w0 w1 [] → X
no_part w0 w1 X (prefix, cut, written) = none prefix cut.0 cut.1 cut.2
  where
    none : (prefix rest : List ℕ) → [] ≡ prefix ++ rest → rest ≢ [] → X
    none [] rest e some = absurd (some (sym e))
    none (x ∷ prefix) rest e some = absurd (omega (arith, ap length e))

module _ {D : Type 0} (state : D → DiskState) (line : List ℕ) (b c : BookView D)
    (w0 w1 : Option (List ℕ)) where
  -- The line was not run.
  not_run : (why : RunFault)
      → IsOfLine why
      → IsStopped why (line ∷ [])
      → Wrote why [] w0 w1
      → c.session ≡ b.session
      → TriesLine state b why [] (steps_of (line ∷ [])) c
      → LineStops state why line b c w0 w1
  not_run fault.Output f stopped wrote same next = no_part w0 w1 _ wrote
  not_run (fault.Store why) f stopped wrote same next = (
    stopped,
    same,
    wrote,
    subst
        (λ (h : BookView D).
        StepsOn state h (steps_of (line ∷ [])) (reply_of_save (Err why) ∷ []) c)
        (took_nothing state next.taken) next.tried,
  )
  not_run fault.Memory f stopped wrote same next =
      (stopped, same, wrote, next.tried ∙ took_nothing state next.taken)
  not_run fault.Input f stopped wrote same next = absurd f
  not_run fault.InputTooLong f stopped wrote same next = absurd f

  -- It was run.
  was_run : (why : RunFault)
      → IsOfLine why
      → IsStopped why []
      → Wrote why (reply b.session line) w0 w1
      → c.session ≡ after_line b.session line
      → TriesLine state b why (line ∷ []) [] c
      → LineStops state why line b c w0 w1
  was_run fault.Output f stopped wrote session next = (
    session,
    wrote,
    subst (λ h. TakesAll state b (steps_of (line ∷ [])) h)
        (sym (tried_nothing state next.middle c next.tried)) next.taken,
  )
  was_run (fault.Store why) f stopped wrote session next = absurd stopped
  was_run fault.Memory f stopped wrote session next = absurd stopped
  was_run fault.Input f stopped wrote session next = absurd f
  was_run fault.InputTooLong f stopped wrote session next = absurd f

  either_run : (why : RunFault) (ran left : List (List ℕ))
      → IsOfLine why
      → IsStopped why left
      → Wrote why (replies b.session ran) w0 w1
      → c.session ≡ after_lines b.session ran
      → TriesLine state b why ran (first_steps left) c
      → ((ran ≡ []) × (left ≡ line ∷ [])) ⊎ ((ran ≡ line ∷ []) × (left ≡ []))
      → LineStops state why line b c w0 w1
  either_run why ran left f stopped wrote session next (inl none) =
      let P : List (List ℕ) → Type 0 = λ l. Wrote why (replies b.session l) w0 w1 in
      let Q : List (List ℕ) → Type 0 = λ l. c.session ≡ after_lines b.session l in
      not_run why f (subst (IsStopped why) none.1 stopped) (subst P none.0 wrote)
      (subst Q none.0 session)
      (subst (λ l. TriesLine state b why [] (first_steps l) c) none.1
      (subst (λ l. TriesLine state b why l (first_steps left) c) none.0 next))
  either_run why ran left f stopped wrote session next (inr all) =
      let P : List (List ℕ) → Type 0 = λ l. Wrote why (replies b.session l) w0 w1 in
      let Q : List (List ℕ) → Type 0 = λ l. c.session ≡ after_lines b.session l in
      let R : List ℕ → Type 0 = λ t. Wrote why t w0 w1 in
      was_run why f (subst (IsStopped why) all.1 stopped)
      (subst R (append-nil (reply b.session line)) (subst P all.0 wrote))
      (subst Q all.0 session)
      (subst (λ l. TriesLine state b why (line ∷ []) (first_steps l) c) all.1
      (subst (λ l. TriesLine state b why l (first_steps left) c) all.0 next))

  -- One line that was cut stopped.
  pub line_stops : (why : RunFault)
      → Cut state why (line ∷ []) b c [] w0 w1
      → LineStops state why line b c w0 w1
  line_stops why cut =
      either_run why cut.ran cut.left cut.of_line cut.stopped cut.written cut.session cut.tried
      (split_one line cut.ran cut.left cut.lines_are)

-- ---- the line of a trouble

-- What was written of it is a front, whether the writer failed in it or not.
pub trouble_reported :
    (r : Result (Unit {0}) RunFault) (why : Trouble) (g t : List ℕ) (w0 w1 w2 : Option (List ℕ))
    → Appends w0 w1 g
    → t ≡ reply_line (printed.Failed why)
    → OnOk r (Appends w1 w2 t)
    → OnErr r (WritesPart w1 w2 t)
    → WritesTrouble why g w0 w2
trouble_reported (Ok x) why g t w0 w1 w2 h e whole cut =
    (t, ([], sym e ∙ sym (append-nil t)), appends_then w0 w1 w2 g t h whole)
trouble_reported (Err x) why g t w0 w1 w2 h e whole cut =
    (cut.0, (cut.1.0, sym e ∙ cut.1.1), appends_then w0 w1 w2 g cut.0 h cut.2)
