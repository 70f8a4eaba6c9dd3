-- How far a run has come after each line of its input, and after each opening of the store.
use Rattle.std.specs.Prelude.{◌≡◌, ◌⊎◌, ◌+◌, ◌++◌, ◌∷◌, ℕ, zero, suc, List, [], Option, Result}
use Rattle.std.specs.Prelude.{Err, Ok, take}
use Rattle.std.specs.Io.KnownBytes.{Appends, Consumes}
use Rattle.std.specs.Result.{IsErr}
use Rattle.std.proofs.Common.{inl, inr, refl, sym, ap, subst, ◌∙◌, append_assoc, append-nil}
use Rattle.run_model.specs.declared.commands.Step.TheVariants as step
use Rattle.run_model.specs.declared.faults.Fault.{Fault}
use Rattle.run_model.specs.declared.faults.Trouble.{Trouble}
use Rattle.run_disk.specs.Disk.{DiskState, IsAtRest, IsDisk}
use Rattle.book_model.specs.Books.{BookView, CarriesOn, Flushes, IsSafe, Saves}
use Rattle.book_model.specs.Openings.{Opens}
use Rattle.book_model.specs.Steps.{reply_of_save}
use Rattle.book_model.specs.Stores.{Stores}
use Rattle.book_model.proofs.Stepping.{answers_flush}
use Rattle.console_lines.proofs.Written.{appends_nothing, appends_then, consumes_nothing}
use Rattle.console_lines.proofs.Written.{consumes_then}
use Rattle.console_lines.specs.declared.faults.RunFault.{RunFault}
use Rattle.plan_lines.specs.declared.readers.LineReader.{LineReader}
use Rattle.plan_lines.specs.Reading.{ReadsLine, ReadsNoLine, held}
use Rattle.plan_lines.specs.Writing.{WritesPrefix}
use Rattle.drive_lines.specs.declared.inputs.NextLine.{NextLine}
use Rattle.drive_lines.specs.declared.inputs.NextLine.TheVariants as found
use Rattle.drive_lines.specs.declared.orders.Order.TheVariants as order
use Rattle.drive_lines.specs.declared.reports.Report.{Report}
use Rattle.drive_lines.specs.Inputs.{NextRead}
use Rattle.drive_lines.specs.Orders.{order_lines}
use Rattle.drive_lines.specs.Reports.{SaysReport}
use Rattle.drive_parts.specs.declared.plans.PlanDraft.{PlanDraft}
use Rattle.drive_parts.specs.Plans.{IsPlanned}
use Rattle.drive_runs.specs.declared.answers.Answer.{Answer}
use Rattle.drive_runs.specs.declared.drive_ends.DriveEnd.{DriveEnd}
use Rattle.drive_runs.specs.declared.parts.Next.{Next}
use Rattle.drive_runs.specs.declared.parts.Next.TheVariants as next
use Rattle.drive_runs.specs.declared.parts.Part.{Part}
use Rattle.drive_runs.specs.declared.parts.Part.TheVariants as part
use Rattle.drive_runs.specs.declared.round_parts.Rest.{Rest}
use Rattle.drive_runs.specs.declared.runs.Sat.{Sat}
use Rattle.drive_runs.specs.declared.runs.Start.{Start}
use Rattle.drive_runs.specs.declared.runs.Start.TheVariants as start
use Rattle.drive_runs.specs.declared.sittings.Sitting.{Sitting}
use Rattle.drive_runs.specs.Answers.{Resumes, end_line}
use Rattle.drive_runs.specs.Moving.{Moves}
use Rattle.drive_runs.specs.Parts.{AnswersLine, LeavesAlone, TakesLine}
use Rattle.drive_runs.specs.Runs.{Answers, AnswersFirst, AreHeld, Doing, Fails, Goes, IsAnswered}
use Rattle.drive_runs.specs.Runs.{IsAt, IsEnded, IsNextLine, IsTurn, LeavesDriven, Place}
use Rattle.drive_runs.specs.Runs.{Sits, Sittings, StoresAll, Unsettles, beginning, doing_at}
use Rattle.drive_runs.specs.Runs.{lines_once}
use Rattle.drive_runs.proofs.Moving.{moves_none}

-- ---- what was written

-- A text was written, and then a prefix of another one.
pub prefix_then : (w0 w1 w2 : Option (List ℕ)) (xs ys : List ℕ) → Appends w0 w1 xs
    → WritesPrefix w1 w2 ys → WritesPrefix w0 w2 (xs ++ ys)
prefix_then w0 w1 w2 xs ys whole part = (
  xs ++ part.0,
  (part.1.0, ap (λ (t : List ℕ). xs ++ t) part.1.1 ∙ sym (append_assoc xs part.0 part.1.0)),
  appends_then w0 w1 w2 xs part.0 whole part.2,
)

-- All of a text was written, so a prefix of it was.
pub whole_prefix : (w0 w1 : Option (List ℕ)) (text : List ℕ) → Appends w0 w1 text
    → WritesPrefix w0 w1 text
whole_prefix w0 w1 text whole = (text, ([], sym (append-nil text)), whole)

-- Nothing more was written.
pub appends_same : (w0 w1 w2 : Option (List ℕ)) (text : List ℕ) → Appends w0 w1 text → w2 ≡ w1
    → Appends w0 w2 text
appends_same w0 w1 w2 text whole same =
    subst (λ (w : Option (List ℕ)). Appends w0 w text) (sym same) whole

-- All of a text was written, and no other lines.
pub written_only : (w0 w1 : Option (List ℕ)) (text : List ℕ) → Appends w0 w1 text
    → WritesPrefix w0 w1 (text ++ order_lines [])
written_only w0 w1 text whole =
    subst (λ (t : List ℕ). WritesPrefix w0 w1 t) (sym (append-nil text))
    (whole_prefix w0 w1 text whole)

-- ---- what was read

-- What is left of the bytes that were read, once this has come next. At the end of the input nobody
-- needs to know it.
abbrev AreLeft : NextLine → (kept left : List ℕ) → Type 0
AreLeft found.InputEnded kept left = Unit {0}
AreLeft _ kept left = left ≡ kept

-- This has come next in an input of which these bytes were taken before.
pub record Reading (input : Option (List ℕ)) (taken : List ℕ) (it : NextLine) (kept : List ℕ)
    (r : Option (List ℕ)) : Type 0 where
  pub bytes : List ℕ
  pub is : IsNextLine input taken it bytes
  pub left : List ℕ
  pub keeps : AreLeft it kept left
  pub read : Consumes input r ((taken ++ bytes) ++ left)

-- A line was read.
record ReadOne (input : Option (List ℕ)) (taken line kept : List ℕ) (r : Option (List ℕ))
    : Type 0 where
  text : List ℕ
  ended : IsEnded (text ++ 10 ∷ []) text
  begins : line ≡ take 256 text
  read : Consumes input r ((taken ++ (text ++ 10 ∷ [])) ++ kept)

read_one : (input r1 r2 : Option (List ℕ)) (taken old new line : List ℕ)
    → Consumes input r1 (taken ++ old) → ReadsLine old new r1 r2 line
    → ReadOne input taken line new r2
read_one input r1 r2 taken old new line seen reads =
    let text = reads.text in record {
      text = text;
      ended = record { parts = refl; whole = reads.whole };
      begins = reads.returned;
      read =
          subst (λ (t : List ℕ). Consumes input r2 t)
          (append_assoc taken old reads.bytes ∙ ap (λ (t : List ℕ). taken ++ t) reads.parts
          ∙ sym (ap (λ (t : List ℕ). taken ++ t) (append_assoc text (10 ∷ []) new))
          ∙ sym (append_assoc taken (text ++ 10 ∷ []) new))
          (consumes_then input r1 r2 (taken ++ old) reads.bytes seen reads.read);
    }

-- A line that begins with no byte is empty.
is_empty : (text : List ℕ) → [] ≡ take 256 text → text ≡ []
is_empty [] same = refl
is_empty (b ∷ text) same = absurd (cc same)

pub reading : (input r1 r2 : Option (List ℕ)) (taken : List ℕ) (a b : LineReader) (it : NextLine)
    → Consumes input r1 (taken ++ held a) → NextRead (Ok it) a b r1 r2
    → Reading input taken it (held b) r2
reading input r1 r2 taken a b found.InputEnded seen (bytes, none, over) =
    let rest = held a ++ bytes in
    let all : Consumes input r2 (taken ++ rest) =
    subst (λ (t : List ℕ). Consumes input r2 t) (append_assoc taken (held a) bytes)
    (consumes_then input r1 r2 (taken ++ held a) bytes seen none.read) in record {
      bytes = [];
      is = (
        refl,
        record { rest = rest; none = none.none; left = r2; read = all; over = over },
      );
      left = rest;
      keeps = tt;
      read =
          subst (λ (t : List ℕ). Consumes input r2 (t ++ rest)) (sym (append-nil taken)) all;
    }
reading input r1 r2 taken a b found.PartEnded seen reads =
    let one = read_one input r1 r2 taken (held a) (held b) [] seen reads in
    let none = is_empty one.text one.begins in record {
      bytes = one.text ++ 10 ∷ [];
      is = record { parts = ap (λ (t : List ℕ). t ++ 10 ∷ []) none; whole = refl };
      left = held b;
      keeps = refl;
      read = one.read;
    }
reading input r1 r2 taken a b (found.Report r) seen (line, reads, says) =
    let one = read_one input r1 r2 taken (held a) (held b) line seen reads in record {
      bytes = one.text ++ 10 ∷ [];
      is = (one.text, one.ended, subst (λ (t : List ℕ). SaysReport r t) one.begins says);
      left = held b;
      keeps = refl;
      read = one.read;
    }
reading input r1 r2 taken a b found.Bad seen (line, reads, some, says) =
    let one = read_one input r1 r2 taken (held a) (held b) line seen reads in record {
      bytes = one.text ++ 10 ∷ [];
      is = (
        one.text,
        one.ended,
        (λ (none : one.text ≡ []). some (one.begins ∙ ap (λ (t : List ℕ). take 256 t) none)),
        (λ (r : Report) (of : SaysReport r (take 256 one.text)).
            says r (subst (λ (t : List ℕ). SaysReport r t) (sym one.begins) of)),
      );
      left = held b;
      keeps = refl;
      read = one.read;
    }

-- Something was read, and no line was found in it.
pub reading_failed : (input r1 r2 : Option (List ℕ)) (taken kept bytes : List ℕ)
    → Consumes input r1 (taken ++ kept) → ReadsNoLine kept r1 r2 bytes
    → (more : List ℕ) × Consumes input r2 (taken ++ more)
reading_failed input r1 r2 taken kept bytes seen none = (
  kept ++ bytes,
  subst (λ (t : List ℕ). Consumes input r2 t) (append_assoc taken kept bytes)
      (consumes_then input r1 r2 (taken ++ kept) bytes seen none.read),
)

held_so : (to : Next) (kept bytes : List ℕ) → bytes ≡ kept → AreHeld to kept bytes
held_so (next.Part it) kept bytes same = same
held_so (next.Opening sitting rest) kept bytes same = same
held_so (next.End how) kept bytes same = tt
held_so (next.Fault why) kept bytes same = same

module _ {D : Type 0} (state : D → DiskState) where
  -- A flush has acknowledged all.
  pub stored_all : (old new : BookView D) (n : ℕ) → IsDisk (state new.journal.disk)
      → Saves state old (Ok n) new
      → (IsSafe state old → (x : List ℕ) → (state new.journal.disk).images x
      → Stores x new.session.state)
      → StoresAll state new
  stored_all old new n disk saves stores safe =
      let before : IsSafe state old = record {
        honest = saves.passed.honest_before safe.honest;
        rest = subst (λ (d : D). IsAtRest (state d)) saves.origin safe.rest;
      } in record {
        honest = safe.honest;
        rest = saves.answer.rest before;
        stores = stores before (state new.journal.disk).now (disk.now_is_image safe.honest);
      }

  -- The book has answered a flush.
  pub flushed : (old new : BookView D) (result : Result ℕ Trouble) → Flushes state old result new
      → new.journal.layout ≡ old.journal.layout → CarriesOn state old new → Moves state old new
  flushed old new result flushes layout on = (
    step.Flush ∷ [],
    reply_of_save result ∷ [],
    (new, answers_flush state old new result flushes layout, on, refl),
  )

  -- ---- one answer after another

  -- The place to which an answer leads.
  abbrev pub after_turn : Place → (bytes : List ℕ) → Answer → Place
  after_turn at bytes it = record {
    lines = lines_once at.doing at.lines;
    taken = at.taken ++ bytes;
    said = at.said ++ order_lines it.lines.items;
    doing = inr it.next;
  }

  -- Nothing was answered yet.
  pub goes_none : (at : Place) (b : BookView D) (to : Next) (number : ℕ) (kept : List ℕ)
      (r0 r w0 w : Option (List ℕ)) → IsAt at (inr to) number kept r0 r w0 w
      → Goes state at b to number kept r0 r w0 w b
  goes_none at b to number kept r0 r w0 w here = record {
    count = zero;
    place = at;
    answers = (refl, refl);
    bytes = kept;
    held = held_so to kept kept refl;
    here = here;
  }

  -- The same, by what is equal to what the run does next, to the number of its lines, and to what
  -- was written.
  pub goes_as : (at : Place) (old new : BookView D) (a b : Next) (m n : ℕ) (kept : List ℕ)
      (r0 r w0 w1 w2 : Option (List ℕ)) → a ≡ b → m ≡ n → w2 ≡ w1
      → Goes state at old a m kept r0 r w0 w1 new → Goes state at old b n kept r0 r w0 w2 new
  goes_as at old new a b m n kept r0 r w0 w1 w2 next_same number_same written_same so_far = record {
    count = so_far.count;
    place = so_far.place;
    answers = so_far.answers;
    bytes = so_far.bytes;
    held = subst (λ (to : Next). AreHeld to kept so_far.bytes) next_same so_far.held;
    here = record {
      does = so_far.here.does ∙ ap (λ (to : Next). inr to) next_same;
      lines = so_far.here.lines ∙ number_same;
      read = so_far.here.read;
      written = appends_same w0 w1 w2 so_far.place.said so_far.here.written written_same;
    };
  }

  -- The first answer over an opening, by what is equal to where the run begins.
  pub first_from : (a b : Start) (old new : BookView D) (w0 w1 : Option (List ℕ))
      (result : Result Next RunFault) → a ≡ b → AnswersFirst state b old new w0 w1 result
      → AnswersFirst state a old new w0 w1 result
  first_from a b old new w0 w1 result same given =
      subst (λ (it : Start). AnswersFirst state it old new w0 w1 result) (sym same) given

  -- An answer to a line of a part.
  part_turn : (at : Place) (old new : BookView D) (part : Part) (it : NextLine) (number : ℕ)
      (kept : List ℕ) (r0 r : Option (List ℕ)) (answer : Answer)
      → at.doing ≡ inr (next.Part part) → at.lines + 1 ≡ number
      → (read : Reading r0 at.taken it kept r)
      → AnswersLine state part it number old answer new → LeavesAlone it old new
      → Moves state old new
      → IsTurn state r0 at old (after_turn at read.bytes answer) new
  part_turn at old new part it number kept r0 r answer does lines read answers alone moves =
      record {
        bytes = read.bytes;
        answer = answer;
        answered =
            subst (λ (doing : Doing). IsAnswered state r0 doing (at.lines + 1) at.taken read.bytes
            old answer new) (sym does) (
              it,
              read.is,
              subst (λ (n : ℕ). AnswersLine state part it n old answer new) (sym lines) answers,
              alone,
            );
        moves = moves;
        goes = refl;
      }

  -- What is held after the answer to a line.
  held_after : (part : Part) (it : NextLine) (number : ℕ) (old new : BookView D)
      (kept left : List ℕ) (answer : Answer) → AreLeft it kept left
      → AnswersLine state part it number old answer new → AreHeld answer.next kept left
  held_after part found.InputEnded number old new kept left answer keeps answers =
      subst (λ (to : Next). AreHeld to kept left) (sym answers.goes_on) tt
  held_after part found.PartEnded number old new kept left answer keeps answers =
      held_so answer.next kept left keeps
  held_after part (found.Report r) number old new kept left answer keeps answers =
      held_so answer.next kept left keeps
  held_after part found.Bad number old new kept left answer keeps answers =
      held_so answer.next kept left keeps

  -- A line was taken, or the run failed.
  abbrev pub Takes : (at : Place) → (old : BookView D) → (number : ℕ) → (kept : List ℕ)
      → (r0 r w0 w : Option (List ℕ)) → (new : BookView D) → Result Next RunFault → Type 0
  Takes at old number kept r0 r w0 w new (Ok to) =
      Goes state at old to number kept r0 r w0 w new
  Takes at old number kept r0 r w0 w new (Err why) = Fails state at old r0 r w0 w new

  pub takes : (at : Place) (old mid new : BookView D) (part : Part) (it : NextLine) (number : ℕ)
      (a b : LineReader) (r0 r1 r2 w0 w1 w2 : Option (List ℕ)) (result : Result Next RunFault)
      → Goes state at old (next.Part part) number (held a) r0 r1 w0 w1 mid
      → NextRead (Ok it) a b r1 r2
      → TakesLine state part it (number + 1) mid new w1 w2 result
      → LeavesAlone it mid new → Moves state mid new
      → Takes at old (number + 1) (held b) r0 r2 w0 w2 new result
  takes at old mid new part it number a b r0 r1 r2 w0 w1 w2 result so_far reads took alone moves =
      by_result result took
    where
      place : Place
      place = so_far.place

      read : Reading r0 place.taken it (held b) r2
      read =
          reading r0 r1 r2 place.taken a b it
          (subst (λ (t : List ℕ). Consumes r0 r1 (place.taken ++ t)) so_far.held so_far.here.read)
          reads

      turned : (answer : Answer) → AnswersLine state part it (number + 1) mid answer new
          → Answers state r0 (suc so_far.count) at old (after_turn place read.bytes answer) new
      turned answer answers = (
        place,
        mid,
        so_far.answers,
        part_turn place mid new part it (number + 1) (held b) r0 r2 answer so_far.here.does
            (ap (λ (n : ℕ). n + 1) so_far.here.lines) read answers alone moves,
      )

      lines : (answer : Answer)
          → (after_turn place read.bytes answer).lines ≡ number + 1
      lines answer =
          subst (λ (doing : Doing). lines_once doing place.lines ≡ number + 1)
          (sym so_far.here.does) (ap (λ (n : ℕ). n + 1) so_far.here.lines)

      by_result : (result : Result Next RunFault)
          → TakesLine state part it (number + 1) mid new w1 w2 result
          → Takes at old (number + 1) (held b) r0 r2 w0 w2 new result
      by_result (Ok to) (inl (answer, answers, (written, goes_on))) =
          subst (λ (n : Next). Goes state at old n (number + 1) (held b) r0 r2 w0 w2 new)
          (sym goes_on) (record {
            count = suc so_far.count;
            place = after_turn place read.bytes answer;
            answers = turned answer answers;
            bytes = read.left;
            held =
                held_after part it (number + 1) mid new (held b) read.left answer read.keeps
                answers;
            here = record {
              does = refl;
              lines = lines answer;
              read = read.read;
              written =
                  appends_then w0 w1 w2 place.said (order_lines answer.lines.items)
                  so_far.here.written written;
            };
          })
      by_result (Ok to) (inr (failed, same)) = absurd (cc failed)
      by_result (Err why) (inl (answer, answers, (written, fault))) = record {
        count = suc so_far.count;
        place = after_turn place read.bytes answer;
        answered = new;
        answers = turned answer answers;
        moves = moves_none state new;
        lines = [];
        unsettled = inl refl;
        more = read.left;
        read = read.read;
        written =
            subst (λ (t : List ℕ). WritesPrefix w0 w2 t)
            (sym (append-nil (place.said ++ order_lines answer.lines.items)))
            (prefix_then w0 w1 w2 place.said (order_lines answer.lines.items)
            so_far.here.written written);
      }
      by_result (Err why) (inr (failed, same)) = record {
        count = so_far.count;
        place = place;
        answered = mid;
        answers = so_far.answers;
        moves = moves;
        lines = [];
        unsettled = inl refl;
        more = read.bytes ++ read.left;
        read =
            subst (λ (t : List ℕ). Consumes r0 r2 t)
            (append_assoc place.taken read.bytes read.left) read.read;
        written =
            written_only w0 w2 place.said
            (appends_same w0 w1 w2 place.said so_far.here.written same);
      }

  -- The run has come here, and fails without another answer.
  pub fails_here : (at : Place) (old new : BookView D) (to : Next) (number : ℕ) (kept : List ℕ)
      (r0 r1 r2 w0 w : Option (List ℕ)) → (so_far : Goes state at old to number kept r0 r1 w0 w new)
      → ((more : List ℕ) × Consumes r0 r2 (so_far.place.taken ++ more))
      → Fails state at old r0 r2 w0 w new
  fails_here at old new to number kept r0 r1 r2 w0 w so_far read = record {
    count = so_far.count;
    place = so_far.place;
    answered = new;
    answers = so_far.answers;
    moves = moves_none state new;
    lines = [];
    unsettled = inl refl;
    more = read.0;
    read = read.1;
    written = written_only w0 w so_far.place.said so_far.here.written;
  }

  -- No line could be read.
  pub fails_to_read : (at : Place) (old new : BookView D) (to : Next) (part : Part) (number : ℕ)
      (kept bytes : List ℕ) (r0 r1 r2 w0 w : Option (List ℕ)) → to ≡ next.Part part
      → Goes state at old to number kept r0 r1 w0 w new → ReadsNoLine kept r1 r2 bytes
      → Fails state at old r0 r2 w0 w new
  fails_to_read at old new to part number kept bytes r0 r1 r2 w0 w is so_far none =
      let same : so_far.bytes ≡ kept =
      subst (λ (n : Next). AreHeld n kept so_far.bytes) is so_far.held in
      fails_here at old new to number kept r0 r1 r2 w0 w so_far
      (reading_failed r0 r1 r2 so_far.place.taken kept bytes
      (subst (λ (t : List ℕ). Consumes r0 r1 (so_far.place.taken ++ t)) same
      so_far.here.read) none)

  -- The first answer over an opening.
  pub first : (at : Place) (it : Start) (old new : BookView D) (number : ℕ) (kept : List ℕ)
      (r0 r w0 w1 w2 : Option (List ℕ)) (result : Result Next RunFault)
      → IsAt at (doing_at it) number kept r0 r w0 w1
      → AnswersFirst state it old new w1 w2 result → Moves state old new
      → Takes at old number kept r0 r w0 w2 new result
  first at (start.Part part) old new number kept r0 r w0 w1 w2 result here (is, same, silent) moves
      =
      subst (λ (it : Result Next RunFault). Takes at old number kept r0 r w0 w2 new it) (sym is)
      (subst (λ (b : BookView D). Goes state at old (next.Part part) number kept r0 r w0 w2 b)
      (sym same) (goes_none at old (next.Part part) number kept r0 r w0 w2 (record {
        does = here.does;
        lines = here.lines;
        read = here.read;
        written = appends_same w0 w1 w2 at.said here.written silent;
      })))
  first at (start.Recorded sitting rest) old new number kept r0 r w0 w1 w2 result here given moves =
      by_result result given
    where
      turned : (answer : Answer) → Resumes state sitting rest old answer new
          → Answers state r0 (suc zero) at old (after_turn at [] answer) new
      turned answer may = (
        at,
        old,
        (refl, refl),
        record {
          bytes = [];
          answer = answer;
          answered =
              subst (λ (doing : Doing). IsAnswered state r0 doing (at.lines + 1) at.taken [] old
              answer new) (sym here.does) (refl, may);
          moves = moves;
          goes = refl;
        },
      )

      lines : (answer : Answer) → (after_turn at [] answer).lines ≡ number
      lines answer =
          subst (λ (doing : Doing). lines_once doing at.lines ≡ number) (sym here.does) here.lines

      read : Consumes r0 r ((at.taken ++ []) ++ kept)
      read =
          subst (λ (t : List ℕ). Consumes r0 r (t ++ kept)) (sym (append-nil at.taken)) here.read

      by_result : (result : Result Next RunFault)
          → AnswersFirst state (start.Recorded sitting rest) old new w1 w2 result
          → Takes at old number kept r0 r w0 w2 new result
      by_result (Ok to) (inl (answer, may, (written, goes_on))) =
          subst (λ (n : Next). Goes state at old n number kept r0 r w0 w2 new) (sym goes_on)
          (record {
            count = suc zero;
            place = after_turn at [] answer;
            answers = turned answer may;
            bytes = kept;
            held = held_so answer.next kept kept refl;
            here = record {
              does = refl;
              lines = lines answer;
              read = read;
              written =
                  appends_then w0 w1 w2 at.said (order_lines answer.lines.items) here.written
                  written;
            };
          })
      by_result (Ok to) (inr (failed, same)) = absurd (cc failed)
      by_result (Err why) (inl (answer, may, (written, fault))) = record {
        count = suc zero;
        place = after_turn at [] answer;
        answered = new;
        answers = turned answer may;
        moves = moves_none state new;
        lines = [];
        unsettled = inl refl;
        more = kept;
        read = read;
        written =
            subst (λ (t : List ℕ). WritesPrefix w0 w2 t)
            (sym (append-nil (at.said ++ order_lines answer.lines.items)))
            (prefix_then w0 w1 w2 at.said (order_lines answer.lines.items) here.written written);
      }
      by_result (Err why) (inr (failed, same)) = record {
        count = zero;
        place = at;
        answered = old;
        answers = (refl, refl);
        moves = moves;
        lines = [];
        unsettled = inl refl;
        more = kept;
        read = here.read;
        written =
            written_only w0 w2 at.said (appends_same w0 w1 w2 at.said here.written same);
      }

  -- The flush before the store is opened again has failed.
  pub fails_to_settle : (at : Place) (old mid new : BookView D) (to : Next) (sitting : Sitting)
      (rest : Rest) (number : ℕ) (kept : List ℕ) (r0 r w0 w1 w2 : Option (List ℕ))
      → to ≡ next.Opening sitting rest → Goes state at old to number kept r0 r w0 w1 mid
      → Unsettles state mid new w1 w2 → Moves state mid new
      → Fails state at old r0 r w0 w2 new
  fails_to_settle at old mid new to sitting rest number kept r0 r w0 w1 w2 is so_far (inl same)
      moves = record {
        count = so_far.count;
        place = so_far.place;
        answered = mid;
        answers = so_far.answers;
        moves = moves;
        lines = [];
        unsettled = inl refl;
        more = so_far.bytes;
        read = so_far.here.read;
        written =
            written_only w0 w2 so_far.place.said
            (appends_same w0 w1 w2 so_far.place.said so_far.here.written same);
      }
  fails_to_settle at old mid new to sitting rest number kept r0 r w0 w1 w2 is so_far
      (inr (fault, flushes, written)) moves = record {
        count = so_far.count;
        place = so_far.place;
        answered = mid;
        answers = so_far.answers;
        moves = moves;
        lines = order.Fault fault ∷ end_line ∷ [];
        unsettled = inr (
          sitting,
          rest,
          so_far.here.does ∙ ap (λ (n : Next). inr n) is,
          fault,
          flushes,
          refl,
        );
        more = so_far.bytes;
        read = so_far.here.read;
        written =
            prefix_then w0 w1 w2 so_far.place.said
            (order_lines (order.Fault fault ∷ end_line ∷ [])) so_far.here.written written;
      }

  -- What a run has done over an opening, if it failed.
  pub sits_failed : (at : Place) (old new : BookView D) (number : ℕ) (kept : List ℕ)
      (r0 r w0 w : Option (List ℕ)) (result : Result Sat RunFault) → IsErr result
      → Fails state at old r0 r w0 w new → Sits state at old new number kept r0 r w0 w result
  sits_failed at old new number kept r0 r w0 w (Ok it) failed fails = absurd (cc failed)
  sits_failed at old new number kept r0 r w0 w (Err why) failed fails = fails

  -- The same, by what is equal to how a run is done with an opening.
  pub sits_as : (at : Place) (old new : BookView D) (number : ℕ) (kept : List ℕ)
      (r0 r w0 w : Option (List ℕ)) (a b : Sat) → a ≡ b
      → Sits state at old new number kept r0 r w0 w (Ok a)
      → Sits state at old new number kept r0 r w0 w (Ok b)
  sits_as at old new number kept r0 r w0 w a b same sits =
      subst (λ (it : Sat). Sits state at old new number kept r0 r w0 w (Ok it)) same sits

  -- ---- one opening after another

  -- How far a run has come when it opens the store, and how often it was opened before.
  pub record Comes (input : Option (List ℕ)) (given : D) (left : D) (it : Start) (number : ℕ)
      (kept : List ℕ) (r w0 w : Option (List ℕ)) : Type 0 where
    pub draft : PlanDraft
    pub none : IsPlanned [] draft
    pub count : ℕ
    pub at : Place
    pub sittings : Sittings state input count given (beginning draft) left at
    pub here : IsAt at (doing_at it) number kept input r w0 w

  pub begins : (given : D) (draft : PlanDraft) (kept : List ℕ) (r w : Option (List ℕ))
      → IsPlanned [] draft → kept ≡ []
      → Comes r given given (start.Part (part.Plan draft)) zero kept r w w
  begins given draft kept r w none empty = record {
    draft = draft;
    none = none;
    count = zero;
    at = beginning draft;
    sittings = (refl, refl);
    here = record {
      does = refl;
      lines = refl;
      read = subst (λ (t : List ℕ). Consumes r r t) (sym empty) (consumes_nothing r);
      written = appends_nothing w;
    };
  }

  -- A round was put off, and the store is opened for it.
  pub comes_again : (given middle left : D) (it : Start) (before last settled : BookView D)
      (sitting : Sitting) (rest : Rest) (n m : ℕ) (kept more : List ℕ)
      (input r1 r2 w0 w1 w2 : Option (List ℕ))
      → (so_far : Comes input given middle it n kept r1 w0 w1) → Opens state middle (Ok before)
      → Goes state so_far.at before (next.Opening sitting rest) m more input r2 w0 w2 last
      → Moves state last settled × StoresAll state settled → left ≡ settled.journal.disk
      → Comes input given left (start.Recorded sitting rest) m more r2 w0 w2
  comes_again given middle left it before last settled sitting rest n m kept more input r1 r2 w0 w1
      w2 so_far opened goes settles disk =
      let place = goes.place in record {
        draft = so_far.draft;
        none = so_far.none;
        count = suc so_far.count;
        at = record {
          lines = place.lines;
          taken = place.taken;
          said = place.said;
          doing = inl (sitting, rest);
        };
        sittings = (
          middle,
          so_far.at,
          so_far.sittings,
          record {
            place = place;
            last = last;
            sitting = record {
              before = before;
              opened = opened;
              count = goes.count;
              answers = goes.answers;
            };
            settled = settled;
            moves = settles.0;
            stores = settles.1;
            disk = disk;
            again = (sitting, rest);
            waits = goes.here.does;
            goes = refl;
          },
        );
        here = record {
          does = refl;
          lines = goes.here.lines;
          read =
              subst (λ (t : List ℕ). Consumes input r2 (place.taken ++ t)) goes.held
              goes.here.read;
          written = goes.here.written;
        };
      }

  -- The run has ended as its last answer says.
  pub ends_well : (given middle left : D) (it : Start) (before last after : BookView D)
      (how : DriveEnd) (n m : ℕ) (kept more : List ℕ) (input r1 r2 w0 w1 w2 : Option (List ℕ))
      → (so_far : Comes input given middle it n kept r1 w0 w1) → Opens state middle (Ok before)
      → Goes state so_far.at before (next.End how) m more input r2 w0 w2 last → after ≡ last
      → left ≡ after.journal.disk → LeavesDriven state given left input r2 w0 w2 (Ok how)
  ends_well given middle left it before last after how n m kept more input r1 r2 w0 w1 w2 so_far
      opened goes same disk =
      let place = goes.place in record {
        draft = so_far.draft;
        none = so_far.none;
        count = so_far.count;
        middle = middle;
        at = so_far.at;
        sittings = so_far.sittings;
        to = place;
        last = [];
        ends = inl record {
          answered = last;
          sitting = record {
            before = before;
            opened = opened;
            count = goes.count;
            answers = goes.answers;
          };
          ends = goes.here.does;
          after = last;
          moves = moves_none state last;
          unsettled = inl refl;
          disk = disk ∙ ap (λ (b : BookView D). b.journal.disk) same;
        };
        more = goes.bytes;
        read = goes.here.read;
        writes =
            subst (λ (t : List ℕ). Appends w0 w2 t) (sym (append-nil place.said))
            goes.here.written;
      }

  -- The run has failed over an opening.
  pub ends_failed : (given middle left : D) (it : Start) (before after : BookView D)
      (why : RunFault) (n : ℕ) (kept : List ℕ) (input r1 r2 w0 w1 w2 : Option (List ℕ))
      → (so_far : Comes input given middle it n kept r1 w0 w1) → Opens state middle (Ok before)
      → Fails state so_far.at before input r2 w0 w2 after → left ≡ after.journal.disk
      → LeavesDriven state given left input r2 w0 w2 (Err why)
  ends_failed given middle left it before after why n kept input r1 r2 w0 w1 w2 so_far opened fails
      disk = record {
        draft = so_far.draft;
        none = so_far.none;
        count = so_far.count;
        middle = middle;
        at = so_far.at;
        sittings = so_far.sittings;
        to = fails.place;
        last = fails.lines;
        ends = inl record {
          answered = fails.answered;
          sitting = record {
            before = before;
            opened = opened;
            count = fails.count;
            answers = fails.answers;
          };
          ends = tt;
          after = after;
          moves = fails.moves;
          unsettled = fails.unsettled;
          disk = disk;
        };
        more = fails.more;
        read = fails.read;
        writes = fails.written;
      }

  -- The run has ended without another opening.
  pub ends_closed : (given middle left : D) (it : Start) (why : RunFault) (n : ℕ) (kept : List ℕ)
      (input r w0 w : Option (List ℕ)) → (so_far : Comes input given middle it n kept r w0 w)
      → (left ≡ middle) ⊎ ((fault : Fault) × Opens state middle (Err (fault, left)))
      → LeavesDriven state given left input r w0 w (Err why)
  ends_closed given middle left it why n kept input r w0 w so_far disk = record {
    draft = so_far.draft;
    none = so_far.none;
    count = so_far.count;
    middle = middle;
    at = so_far.at;
    sittings = so_far.sittings;
    to = so_far.at;
    last = [];
    ends = inr record {
      why = why;
      fails = refl;
      disk = disk;
      stays = refl;
      silent = refl;
    };
    more = kept;
    read = so_far.here.read;
    writes = written_only w0 w so_far.at.said so_far.here.written;
  }
