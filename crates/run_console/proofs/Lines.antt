-- Lines that were run one after another: the session, and what was written and buffered for them.
use Rattle.std.specs.Prelude.{◌≡◌, ℕ, List, [], ◌∷◌, ◌++◌, Option, Err}
use Rattle.std.specs.Io.KnownBytes.{Appends}
use Rattle.std.proofs.Common.{inl, inr, refl, sym, ap, ◌∙◌, subst, append_assoc, append-nil}
use Rattle.run_model.specs.declared.faults.Trouble.{Trouble}
use Rattle.run_session.proofs.Staying.{stays_join, stays_same}
use Rattle.run_model.specs.Session.{Session}
use Rattle.run_disk.specs.Disk.{DiskState}
use Rattle.book_model.specs.Steps.{StepsOn, reply_of_save}
use Rattle.book_model.specs.Books.{BookView}
use Rattle.console_lines.specs.declared.line_requests.LineRequest.TheVariants as asked
use Rattle.console_lines.specs.declared.faults.RunFault.{RunFault}
use Rattle.console_lines.specs.declared.faults.RunFault.TheVariants as fault
use Rattle.console_lines.specs.LineRequests.{request_of}
use Rattle.console_lines.specs.Script.{after_lines, replies, reply, steps_of, after_line}
use Rattle.console_lines.specs.Progress.{WritesPart}
use Rattle.console_lines.proofs.Steps.{replies-append}
use Rattle.console_lines.proofs.Written.{appends_nothing, appends_then}
use Rattle.console_lines.proofs.Buffered.{part_after}
use Rattle.run_console.specs.SavingLines.{IsSaving}
use Rattle.run_console.specs.RunProgress.{Cut, IsStopped, Lasts, Ran, Troubled, NotAppended, Wrote}
use Rattle.console_lines.specs.Buffered.{Buffered}
use Rattle.run_console.specs.RunProgress.{WritesTrouble}
use Rattle.run_console.specs.TakenSteps.{TakesAll, TriesLine}
use Rattle.run_console.proofs.TakenSteps.{takes_lines, takes_none, takes_tally}

-- ---- the session

after_lines-append : (b : Session) (xs ys : List (List ℕ))
    → after_lines b (xs ++ ys) ≡ after_lines (after_lines b xs) ys
after_lines-append b [] ys = refl
after_lines-append b (x ∷ xs) ys = after_lines-append (after_line b x) xs ys

-- The session after these lines, and then those.
session_then : (xs ys : List (List ℕ)) (b c d : Session)
    → c ≡ after_lines b xs
    → d ≡ after_lines c ys
    → d ≡ after_lines b (xs ++ ys)
session_then xs ys b c d h k =
    k ∙ ap (λ x. after_lines x ys) h ∙ sym (after_lines-append b xs ys)

-- The replies to these lines, and then to those.
replies_then : (xs ys : List (List ℕ)) (b c : Session)
    → c ≡ after_lines b xs
    → replies b (xs ++ ys) ≡ replies b xs ++ replies c ys
replies_then xs ys b c h =
    replies-append b xs ys
    ∙ ap (λ s. replies b xs ++ replies s ys) (sym h)

pub lasts_then : (b c d : Session) → Lasts b c → Lasts c d → Lasts b d
lasts_then b c d = stays_join b.state c.state d.state

lasts_same : (b c : Session) → c ≡ b → Lasts b c
lasts_same b c same = subst (λ (s : Session). Lasts b s) (sym same) (stays_same b.state)

-- ---- what is written after what was written

pub trouble_after :
    (why : Trouble) (x g : List ℕ) (w0 w1 w2 : Option (List ℕ))
    → Appends w0 w1 x
    → WritesTrouble why g w1 w2
    → WritesTrouble why (x ++ g) w0 w2
trouble_after why x g w0 w1 w2 h k =
    let P : List ℕ → Type 0 = λ t. Appends w0 w2 t in
    (k.0, k.1, subst P (sym (append_assoc x g k.0)) (appends_then w0 w1 w2 x (g ++ k.0) h k.2))

wrote_after :
    (why : RunFault) (x g : List ℕ) (w0 w1 w2 : Option (List ℕ))
    → Appends w0 w1 x
    → Wrote why g w1 w2
    → Wrote why (x ++ g) w0 w2
wrote_after fault.Output x g w0 w1 w2 h k = part_after x g w0 w1 w2 h k
wrote_after (fault.Store why) x g w0 w1 w2 h k = trouble_after why x g w0 w1 w2 h k
wrote_after fault.Input x g w0 w1 w2 h k = appends_then w0 w1 w2 x g h k
wrote_after fault.InputTooLong x g w0 w1 w2 h k = appends_then w0 w1 w2 x g h k
wrote_after fault.Memory x g w0 w1 w2 h k = appends_then w0 w1 w2 x g h k

-- ---- lines that were run

-- No line was run yet.
pub ran_nothing : {D : Type 0} {state : D → DiskState} {b : BookView D} {g : List ℕ}
    {w : Option (List ℕ)}
    → Ran state [] b b g g w w
ran_nothing {state} {b} {g} {w} = record {
  out = [];
  written = appends_nothing w;
  replied = append-nil g;
  session = refl;
  taken = takes_none state;
  lasts = stays_same b.session.state;
}

-- One line was run, and its reply told.
pub ran_line : {D : Type 0} {state : D → DiskState} {line : List ℕ} {b c : BookView D}
    {g h : List ℕ} {w0 w1 : Option (List ℕ)}
    → c.session ≡ after_line b.session line
    → TakesAll state b (steps_of (line ∷ [])) c
    → Lasts b.session c.session
    → Buffered (reply b.session line) g h w0 w1
    → Ran state (line ∷ []) b c g h w0 w1
ran_line {line} {b} {g} session taken lasts reported = record {
  out = reported.out;
  written = reported.written;
  replied = ap (λ t. g ++ t) (append-nil (reply b.session line)) ∙ reported.parts;
  session = session;
  taken = taken;
  lasts = lasts;
}

-- These lines were run, and then those.
pub ran_then : {D : Type 0} {state : D → DiskState} {xs ys : List (List ℕ)} {b c d : BookView D}
    {f g h : List ℕ} {w0 w1 w2 : Option (List ℕ)}
    → Ran state xs b c f g w0 w1
    → Ran state ys c d g h w1 w2
    → Ran state (xs ++ ys) b d f h w0 w2
ran_then {state} {xs} {ys} {b} {c} {d} {f} {g} {h} {w0} {w1} {w2} one two =
    let s = replies b.session xs in
    let t = replies c.session ys in
    record {
      out = one.out ++ two.out;
      written = appends_then w0 w1 w2 one.out two.out one.written two.written;
      replied =
          ap (λ x. f ++ x) (replies_then xs ys b.session c.session one.session)
          ∙ sym (append_assoc f s t)
          ∙ ap (λ x. x ++ t) one.replied
          ∙ append_assoc one.out g t
          ∙ ap (λ x. one.out ++ x) two.replied
          ∙ sym (append_assoc one.out two.out h);
      session = session_then xs ys b.session c.session d.session one.session two.session;
      taken = takes_lines state xs ys one.taken two.taken;
      lasts = lasts_then b.session c.session d.session one.lasts two.lasts;
    }

-- All that was buffered is written.
pub ran_written : {D : Type 0} {state : D → DiskState} {lines : List (List ℕ)} {b c : BookView D}
    {f g : List ℕ} {w0 w1 w2 : Option (List ℕ)}
    → Ran state lines b c f g w0 w1
    → Appends w1 w2 g
    → Ran state lines b c f [] w0 w2
ran_written {g} {w0} {w1} {w2} ran all = record {
  out = ran.out ++ g;
  written = appends_then w0 w1 w2 ran.out g ran.written all;
  replied = ran.replied ∙ sym (append-nil (ran.out ++ g));
  session = ran.session;
  taken = ran.taken;
  lasts = ran.lasts;
}

-- ---- a line that stopped

-- The writer failed in what was buffered before.
pub cut_before : {D : Type 0} {state : D → DiskState} {line : List ℕ} {b c : BookView D}
    {g : List ℕ} {w0 w1 : Option (List ℕ)}
    → c.session ≡ b.session
    → TriesLine state b fault.Output [] (steps_of (line ∷ [])) c
    → WritesPart w0 w1 g
    → Cut state fault.Output (line ∷ []) b c g w0 w1
cut_before {line} {b} {c} {g} {w0} {w1} same tried cut =
    let P : List ℕ → Type 0 = λ t. WritesPart w0 w1 t in
    record {
      ran = [];
      left = line ∷ [];
      lines_are = refl;
      of_line = tt;
      stopped = tt;
      written = subst P (sym (append-nil g)) cut;
      session = same;
      tried = tried;
      lasts = lasts_same b.session c.session same;
    }

-- What a fault of a text leaves of a line that asks for it.
pub cut_not_appended : {D : Type 0} {state : D → DiskState} {line : List ℕ} {b : BookView D}
    {g : List ℕ}
    {w0 w1 : Option (List ℕ)} (why : RunFault)
    → request_of line ≡ asked.Tally
    → b.session ≡ after_line b.session line
    → NotAppended why (reply b.session line) g w0 w1
    → Cut state why (line ∷ []) b b g w0 w1
cut_not_appended {state} {line} {b} {g} {w0} {w1} fault.Output tally session cut =
    let P : List ℕ → Type 0 = λ t. WritesPart w0 w1 (g ++ t) in
    record {
      ran = line ∷ [];
      left = [];
      lines_are = refl;
      of_line = tt;
      stopped = tt;
      written = subst P (sym (append-nil (reply b.session line))) cut;
      session = session;
      tried = record {
        middle = b;
        taken = takes_tally state line tally;
        tried = inl refl;
      };
      lasts = stays_same b.session.state;
    }
cut_not_appended {state} {line} {b} {g} {w0} {w1} fault.Memory tally session cut =
    let P : List ℕ → Type 0 = λ t. Appends w0 w1 t in
    record {
      ran = [];
      left = line ∷ [];
      lines_are = refl;
      of_line = tt;
      stopped = tally;
      written = subst P (sym (append-nil g)) cut;
      session = refl;
      tried = record {
        middle = b;
        taken = takes_none state;
        tried = refl;
      };
      lasts = stays_same b.session.state;
    }
cut_not_appended fault.Input tally session cut = absurd cut
cut_not_appended fault.InputTooLong tally session cut = absurd cut
cut_not_appended (fault.Store why) tally session cut = absurd cut

-- What a trouble leaves of a line that asks for a flush or a checkpoint.
pub cut_troubled : {D : Type 0} {state : D → DiskState} {line : List ℕ} {b c : BookView D}
    {g : List ℕ} {w0 w1 : Option (List ℕ)} (why : RunFault) (trouble : Trouble)
    → IsSaving (request_of line)
    → c.session ≡ b.session
    → StepsOn state b (steps_of (line ∷ [])) (reply_of_save (Err trouble) ∷ [])
    c
    → Troubled why trouble g w0 w1
    → Cut state why (line ∷ []) b c g w0 w1
cut_troubled {state} {b} fault.Output trouble saving same row cut =
    cut_before same (record {
      middle = b;
      taken = takes_none state;
      tried = inr (reply_of_save (Err trouble) ∷ [], row);
    }) cut
cut_troubled {state} {line} {b} {c} {g} {w0} {w1} (fault.Store why) trouble saving same row cut =
    let P : List ℕ → Type 0 = λ t. WritesTrouble why t w0 w1 in
    let Q : Trouble → Type 0 = λ t. WritesTrouble t g w0 w1 in
    let R : Trouble → Type 0 = λ t.
    StepsOn state b (steps_of (line ∷ [])) (reply_of_save (Err t) ∷ []) c in
    record {
      ran = [];
      left = line ∷ [];
      lines_are = refl;
      of_line = tt;
      stopped = saving;
      written = subst P (sym (append-nil g)) (subst Q (sym cut.0) cut.1);
      session = same;
      tried = record {
        middle = b;
        taken = takes_none state;
        tried = subst R (sym cut.0) row;
      };
      lasts = lasts_same b.session c.session same;
    }
cut_troubled fault.Input trouble saving same row cut = absurd cut
cut_troubled fault.InputTooLong trouble saving same row cut = absurd cut
cut_troubled fault.Memory trouble saving same row cut = absurd cut

-- ---- lines that were cut

-- What was buffered for all lines was cut.
pub cut_written : {D : Type 0} {state : D → DiskState} {lines : List (List ℕ)} {b c : BookView D}
    {f g : List ℕ} {w0 w1 w2 : Option (List ℕ)}
    → Ran state lines b c f g w0 w1
    → WritesPart w1 w2 g
    → Cut state fault.Output lines b c f w0 w2
cut_written {lines} {c} {g} {w0} {w1} {w2} ran cut =
    let P : List ℕ → Type 0 = λ t. WritesPart w0 w2 t in
    record {
      ran = lines;
      left = [];
      lines_are = sym (append-nil lines);
      of_line = tt;
      stopped = tt;
      written = subst P (sym ran.replied) (part_after ran.out g w0 w1 w2 ran.written cut);
      session = ran.session;
      tried = record { middle = c; taken = ran.taken; tried = inl refl };
      lasts = ran.lasts;
    }

-- These lines were run, and those were cut.
pub cut_then : {D : Type 0} {state : D → DiskState} {why : RunFault} {xs ys : List (List ℕ)}
    {b c d : BookView D} {f g : List ℕ} {w0 w1 w2 : Option (List ℕ)}
    → Ran state xs b c f g w0 w1
    → Cut state why ys c d g w1 w2
    → Cut state why (xs ++ ys) b d f w0 w2
cut_then {state} {why} {xs} {b} {c} {d} {f} {g} {w0} {w1} {w2} one two =
    let P : List ℕ → Type 0 = λ t. Wrote why t w0 w2 in
    let s = replies b.session xs in
    let t = replies c.session two.ran in
    record {
      ran = xs ++ two.ran;
      left = two.left;
      lines_are = ap (λ z. xs ++ z) two.lines_are ∙ sym (append_assoc xs two.ran two.left);
      of_line = two.of_line;
      stopped = two.stopped;
      written =
          subst P
          (sym (ap (λ x. f ++ x) (replies_then xs two.ran b.session c.session one.session)
          ∙ sym (append_assoc f s t)
          ∙ ap (λ x. x ++ t) one.replied
          ∙ append_assoc one.out g t))
          (wrote_after why one.out (g ++ t) w0 w1 w2 one.written two.written);
      session = session_then xs two.ran b.session c.session d.session one.session two.session;
      tried = record {
        middle = two.tried.middle;
        taken = takes_lines state xs two.ran one.taken two.tried.taken;
        tried = two.tried.tried;
      };
      lasts = lasts_then b.session c.session d.session one.lasts two.lasts;
    }

-- Lines after one that stopped change nothing of that.
pub stopped_more : (why : RunFault) (left ys : List (List ℕ))
    → IsStopped why left → IsStopped why (left ++ ys)
stopped_more (fault.Store why) [] ys h = absurd h
stopped_more (fault.Store why) (line ∷ left) ys h = h
stopped_more fault.Memory [] ys h = absurd h
stopped_more fault.Memory (line ∷ left) ys h = h
stopped_more fault.Input left ys h = tt
stopped_more fault.InputTooLong left ys h = tt
stopped_more fault.Output left ys h = tt
