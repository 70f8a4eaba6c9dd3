-- How far a run came: what was read, which lines were run, and what was written.
use Rattle.std.specs.Prelude.{◌≡◌, ◌≤◌, ◌⊎◌, ◌+◌, ℕ, List, [], ◌∷◌, ◌++◌, Option, length, Result}
use Rattle.std.specs.Prelude.{Bool, Some, None, Ok, Err, IfErr, IfOk, OnOk, true, false}
use Rattle.std.specs.Io.KnownBytes.{Appends, Consumes, IsAtEnd}
use Rattle.std.specs.Option.{option_to_list}
use Rattle.run_model.specs.declared.faults.Trouble.{Trouble}
use Rattle.run_model.specs.declared.faults.Trouble.TheVariants.{Refused}
use Rattle.run_model.specs.declared.answers.Answer.{Answer}
use Rattle.run_model.specs.declared.answers.Reply.TheVariants as answered
use Rattle.run_model.specs.declared.refusals.Refusal.{Refusal}
use Rattle.run_model.specs.declared.refusals.Refusal.TheVariants.{Broken}
use Rattle.run_model.specs.Session.{Session, replied}
use Rattle.run_session.specs.Lasting.{Stays}
use Rattle.run_disk.specs.Disk.{DiskState}
use Rattle.run_model.specs.declared.commands.Step.TheVariants as step
use Rattle.book_model.specs.Steps.{StepsOn, reply_of_save}
use Rattle.book_model.specs.Books.{BookView, CarriesOn}
use Rattle.console_lines.specs.declared.line_requests.LineRequest.{LineRequest}
use Rattle.console_lines.specs.declared.line_requests.LineRequest.TheVariants as asked
use Rattle.console_lines.specs.declared.lines.TheConstants.{LONGEST_INPUT}
use Rattle.console_lines.specs.declared.faults.RunFault.{RunFault}
use Rattle.console_lines.specs.declared.faults.RunFault.TheVariants as fault
use Rattle.console_lines.specs.declared.line_replies.LineReply.{LineReply}
use Rattle.console_lines.specs.declared.line_replies.LineReply.TheVariants as printed
use Rattle.console_lines.specs.declared.rejections.RejectedLine.{RejectedLine}
use Rattle.console_lines.specs.declared.rejections.Rejection.{Rejection}
use Rattle.console_lines.specs.LineRequests.{request_of}
use Rattle.console_lines.specs.Lines.{whole_lines, open_line, lines_of}
use Rattle.console_lines.specs.Progress.{IsPrefix, WritesPart, kept}
use Rattle.console_lines.specs.Replies.{reply_line, reply_text, step_text}
use Rattle.console_lines.specs.Strict.{ends_in_return, rejection_at, rejection_of}
use Rattle.console_lines.specs.Script.{after_asked, after_line, after_lines, closing, replies}
use Rattle.console_lines.specs.Script.{replies_to, reply, script, steps_of}
use Rattle.console_lines.specs.Buffered.{Buffered}
use Rattle.run_console.specs.TakenSteps.{TakesAll, TriesLine, first_steps, next_steps, steps_asked}
use Rattle.run_console.specs.SavingLines.{IsSaving}
use Rattle.run_console.specs.Until.{IsReadFor, lines_until, rejection_until}
use Rattle.run_console.specs.declared.untils.Until.{Until}

-- What is done or has ended stays so: each scope that was done is still done, for the same reason
-- and with the same cause; each task that had ended is as it ended; and each group keeps its first
-- error.
abbrev pub Lasts : Session → Session → Type 0
Lasts b c = Stays b.state c.state

-- After a text that was written, a prefix of the line of a trouble was written.
abbrev pub WritesTrouble : Trouble → List ℕ → Option (List ℕ) → Option (List ℕ) → Type 0
WritesTrouble why text old new =
    (prefix : List ℕ) × IsPrefix prefix (reply_line (printed.Failed why))
    × Appends old new (text ++ prefix)

-- ---- a whole input, by what the reader had left and what the writer had taken

-- A run came to its end. These lines of what was read were run, up to the line that ends the run,
-- and their replies and the closing line were written. Their steps were taken, and then the closing
-- flush, so all events are durable. If no line is rejected, the input was read to its end.
pub record RunEnds {D : Type 0} (state : D → DiskState) (until : Until)
    (rejection : Option RejectedLine) (b c : BookView D) (r0 r1 w0 w1 : Option (List ℕ))
    : Type 0 where
  pub bytes : List ℕ
  pub read : Consumes r0 r1 bytes
  pub lines : List (List ℕ)
  pub lines_are : lines ≡ lines_until until b.session (lines_of bytes)
  pub rejection_is : rejection ≡ rejection_until until 1 b.session (lines_of bytes)
  pub read_for : IsReadFor until lines bytes r1
  pub ended : rejection ≡ None → IsAtEnd r1 × (length bytes ≤ LONGEST_INPUT)
  pub within : length bytes ≤ LONGEST_INPUT + 1
  pub session : c.session ≡ after_lines b.session lines
  pub taken : TakesAll state b (steps_of lines ++ step.Flush ∷ []) c
  pub written : Appends w0 w1 (replies b.session lines ++ closing (after_lines b.session lines))
  pub saved : c.durable ≡ c.session.state.count

-- All events of a book are durable.
abbrev pub IsSaved : {D : Type 0} → BookView D → Type 0
IsSaved book = book.durable ≡ book.session.state.count

-- The writer failed. A prefix of the replies to the lines that were run was written, and not all of
-- them. If no line is left and all events are durable, it may instead be a prefix of these replies
-- and the closing line.
abbrev pub IsPartWritten : {D : Type 0} → Session → (ran left : List (List ℕ)) → BookView D
    → (old new : Option (List ℕ)) → Type 0
IsPartWritten s ran left c old new =
    WritesPart old new (replies s ran)
    ⊎ ((left ≡ []) × IsSaved c
    × WritesPart old new (replies s ran ++ closing (after_lines s ran)))

-- What was written, for each cause that stopped the run, which left this book: the replies to all
-- lines that were run, and after them a part of the line of a trouble of the store. If the writer
-- failed, it is only a part of the replies. So no byte of a closing line is written before its
-- events are durable.
abbrev pub IsWritten : {D : Type 0} → RunFault → Session → (ran left : List (List ℕ))
    → BookView D → (old new : Option (List ℕ)) → Type 0
IsWritten fault.Output s ran left c old new = IsPartWritten s ran left c old new
IsWritten (fault.Store why) s ran left c old new = WritesTrouble why (replies s ran) old new
IsWritten _ s ran left c old new = Appends old new (replies s ran)

-- How much was read and run, for each cause that stopped the run. A failed read, and an input that
-- is a byte longer than allowed, come after all lines that an LF ended.
abbrev pub IsReached : RunFault → List ℕ → List (List ℕ) → Type 0
IsReached fault.Input bytes ran =
    (length bytes ≤ LONGEST_INPUT) × (ran ≡ whole_lines [] bytes)
IsReached fault.InputTooLong bytes ran =
    (length bytes ≡ LONGEST_INPUT + 1) × (ran ≡ whole_lines [] bytes)
IsReached _ bytes ran = length bytes ≤ LONGEST_INPUT + 1

-- The line at which it stopped: a fault of the store stops a flush or a checkpoint, and a lack of
-- memory stops a tally.
abbrev pub IsStopped : RunFault → List (List ℕ) → Type 0
IsStopped (fault.Store why) [] = ⊥
IsStopped (fault.Store why) (line ∷ left) = IsSaving (request_of line)
IsStopped fault.Memory [] = ⊥
IsStopped fault.Memory (line ∷ left) = request_of line ≡ asked.Tally
IsStopped _ left = Unit {0}

-- The same for a run, which a fault of the store can also stop in its last flush, if no line is
-- left.
abbrev pub IsRunStopped : RunFault → List (List ℕ) → Type 0
IsRunStopped (fault.Store why) [] = Unit {0}
IsRunStopped why left = IsStopped why left

-- The lines that weren't even tried. The line that a fault of the store or a lack of memory stopped
-- was tried.
abbrev pub untried : RunFault → List (List ℕ) → List (List ℕ)
untried (fault.Store why) (line ∷ left) = left
untried fault.Memory (line ∷ left) = left
untried _ left = left

-- A run stopped. The first of its lines were run, their steps were taken, and this became of the
-- next step. No line was tried after the one that ends the run. The last line, which no LF ends,
-- was tried only if the end of the input was read.
pub record RunStops {D : Type 0} (state : D → DiskState) (until : Until)
    (why : RunFault) (b c : BookView D) (r0 r1 w0 w1 : Option (List ℕ))
    : Type 0 where
  pub bytes : List ℕ
  pub read : Consumes r0 r1 bytes
  pub ran : List (List ℕ)
  pub left : List (List ℕ)
  pub lines_are : lines_until until b.session (lines_of bytes) ≡ ran ++ left
  pub read_for : untried why left ≡ [] → IsReadFor until (ran ++ left) bytes r1
  pub stopped : IsRunStopped why left
  pub reached : IsReached why bytes ran
  pub session : c.session ≡ after_lines b.session ran
  pub tried : TriesLine state b why ran (next_steps left) c
  pub written : IsWritten why b.session ran left c w0 w1

-- What a run does, by its result: what became of the book, the input and the output. Over a book
-- that isn't broken, the run comes to its end, or a fault stops it. A broken book is refused: it
-- stays as it was, and nothing is read or written. What is done stays so, and the book carries on.
pub record DoesRun {D R W : Type 0} (state : D → DiskState) (remaining : R → Option (List ℕ))
    (contents : W → Option (List ℕ)) (until : Until)
    (result : Result (Option RejectedLine) RunFault)
    (b c : BookView D) (in0 in1 : R) (out0 out1 : W)
    : Type 0 where
  pub runs : IfOk result
      (λ rejection. RunEnds state until rejection b c (remaining in0) (remaining in1)
      (contents out0) (contents out1))
  pub stops : b.journal.broken ≡ false
      → IfErr result (λ why. RunStops state until why b c (remaining in0) (remaining in1)
      (contents out0) (contents out1))
  pub refused : b.journal.broken ≡ true
      → (result ≡ Err (fault.Store (Refused Broken))) × (c ≡ b) × (in1 ≡ in0) × (out1 ≡ out0)
  pub lasts : Lasts b.session c.session
  pub carries_on : CarriesOn state b c

-- The result of a run to the end of its input, which no line ended.
abbrev pub no_rejection : {T : Type 0} → Result T RunFault → Result (Option RejectedLine) RunFault
no_rejection (Ok done) = Ok None
no_rejection (Err why) = Err why

-- What was written of the line of a trouble: a prefix of it if the store stopped the run, and
-- otherwise nothing.
abbrev pub IsReported : RunFault → List ℕ → Type 0
IsReported (fault.Store why) reported = IsPrefix reported (reply_line (printed.Failed why))
IsReported _ reported = reported ≡ []

-- What was written for an input that should have been run as a whole is a prefix of its script. It
-- is a prefix of the replies to the lines that an LF ended, or, if the input was read to its end,
-- of the whole script. If the store stopped the run, a prefix of the line of its trouble follows.
pub record BeginsScript
    (why : RunFault) (b : Session) (r0 r1 w0 w1 : Option (List ℕ))
    : Type 0 where
  pub bytes : List ℕ
  pub read : Consumes r0 r1 bytes
  pub prefix : List ℕ
  pub begins : IsPrefix prefix (replies b (whole_lines [] bytes))
      ⊎ (IsAtEnd r1 × IsPrefix prefix (script b bytes))
  pub reported : List ℕ
  pub trouble : IsReported why reported
  pub written : Appends w0 w1 (prefix ++ reported)

-- ---- one line

-- A line was run, its step was taken if it asks for one, and its reply was written. After a flush
-- and a checkpoint, all events are durable.
pub record LineRuns {D : Type 0} (state : D → DiskState) (line : List ℕ) (b c : BookView D)
    (w0 w1 : Option (List ℕ)) : Type 0 where
  pub session : c.session ≡ after_line b.session line
  pub taken : TakesAll state b (steps_of (line ∷ [])) c
  pub written : Appends w0 w1 (reply b.session line)
  pub saved : IsSaving (request_of line) → c.durable ≡ c.session.state.count

-- A line stopped. If the writer failed, the line was run, and a part of its reply was written, from
-- its beginning. If the store failed in a flush or a checkpoint, this is the answer to the step,
-- and a prefix of the line of the trouble was written. If memory for a tally was refused, nothing
-- was written, and the book is as it was. Neither of these two changes the session.
abbrev pub LineStops :
    {D : Type 0} → (D → DiskState) → RunFault → List ℕ → BookView D → BookView D
    → Option (List ℕ) → Option (List ℕ) → Type 0
LineStops state fault.Output line b c w0 w1 =
    (c.session ≡ after_line b.session line) × WritesPart w0 w1 (reply b.session line)
    × TakesAll state b (steps_of (line ∷ [])) c
LineStops state (fault.Store why) line b c w0 w1 =
    IsSaving (request_of line) × (c.session ≡ b.session) × WritesTrouble why [] w0 w1
    × StepsOn state b (steps_of (line ∷ [])) (reply_of_save (Err why) ∷ []) c
LineStops state fault.Memory line b c w0 w1 =
    (request_of line ≡ asked.Tally) × (c.session ≡ b.session) × Appends w0 w1 []
    × (c ≡ b)
LineStops state _ line b c w0 w1 = ⊥

-- ---- for private functions: no public contract cites what follows

-- A fault that can come from a line, so not one of reading.
abbrev pub IsOfLine : RunFault → Type 0
IsOfLine fault.Input = ⊥
IsOfLine fault.InputTooLong = ⊥
IsOfLine _ = Unit {0}

-- ---- what a line asks for

-- It was done, and this is the reply. Its step was taken, if it asks for one. After a flush and a
-- checkpoint, all events are durable.
pub record Does {D : Type 0} (state : D → DiskState) (a : LineRequest) (b c : BookView D)
    (answers : List LineReply) : Type 0 where
  pub taken : TakesAll state b (steps_asked a) c
  pub replied : answers ≡ replies_to b.session a
  pub session : c.session ≡ after_asked b.session a
  pub saved : IsSaving a → IsSaved c
  pub sound : c.journal.broken ≡ false
  pub lasts : Lasts b.session c.session

-- A command was obeyed or refused, and the reply holds the answer.
pub record Obeys {D : Type 0} (state : D → DiskState) (a : LineRequest)
    (answer : Result Answer Refusal) (b c : BookView D) : Type 0 where
  pub reply : LineReply
  pub does : Does state a b c (reply ∷ [])
  pub text : reply_text reply ≡ step_text (replied answered.Answer answer)
  pub rejected : rejection_of reply ≡ rejection_of (printed.Step (replied answered.Answer answer))

-- It was a flush or a checkpoint, and the store failed in it.
pub record Fails {D : Type 0} (state : D → DiskState) (a : LineRequest) (why : Trouble)
    (b c : BookView D) : Type 0 where
  pub saving : IsSaving a
  pub tried : StepsOn state b (steps_asked a) (reply_of_save (Err why) ∷ []) c
  pub kept : c.session ≡ b.session

-- One of these two.
abbrev pub Answers :
    {D : Type 0} → (D → DiskState) → LineRequest → Result (Option LineReply) Trouble
    → (b c : BookView D)
    → Type 0
Answers state a (Ok reply) b c = Does state a b c (option_to_list reply)
Answers state a (Err why) b c = Fails state a why b c

-- The reply to a flush or a checkpoint, by its result. A trouble is no reply.
abbrev pub save_replied : Result ℕ Trouble → Result (Option LineReply) Trouble
save_replied (Ok count) = Ok (Some (printed.Step (answered.Acked count)))
save_replied (Err why) = Err why

-- ---- some lines

-- These lines were run, and `before` was buffered when they came. A prefix of `before` and their
-- replies was written, and the rest is buffered. What is done stays so.
pub record Ran {D : Type 0} (state : D → DiskState)
    (lines : List (List ℕ)) (b c : BookView D) (before buffer : List ℕ) (w0 w1 : Option (List ℕ))
    : Type 0 where
  pub out : List ℕ
  pub written : Appends w0 w1 out
  pub replied : before ++ replies b.session lines ≡ out ++ buffer
  pub session : c.session ≡ after_lines b.session lines
  pub taken : TakesAll state b (steps_of lines) c
  pub lasts : Lasts b.session c.session

-- What was written of a text, for each cause that stopped: all of it, and after it a prefix of the
-- line of a trouble; or, if the writer failed, a part of it, from its beginning.
abbrev pub Wrote : RunFault → List ℕ → Option (List ℕ) → Option (List ℕ) → Type 0
Wrote fault.Output text old new = WritesPart old new text
Wrote (fault.Store why) text old new = WritesTrouble why text old new
Wrote _ text old new = Appends old new text

-- The first of these lines were run. What was buffered before and their replies were written, as
-- far as the cause that stopped the next line allows; this is no fault of reading. What is done
-- stays so.
pub record Cut {D : Type 0} (state : D → DiskState)
    (why : RunFault) (lines : List (List ℕ)) (b c : BookView D) (before : List ℕ)
    (w0 w1 : Option (List ℕ))
    : Type 0 where
  pub ran : List (List ℕ)
  pub left : List (List ℕ)
  pub lines_are : lines ≡ ran ++ left
  pub of_line : IsOfLine why
  pub stopped : IsStopped why left
  pub written : Wrote why (before ++ replies b.session ran) w0 w1
  pub session : c.session ≡ after_lines b.session ran
  pub tried : TriesLine state b why ran (first_steps left) c
  pub lasts : Lasts b.session c.session

-- A line was run over a book that wasn't broken, or it stopped. Each fact holds for every line with
-- this request, and the third one for those that agree in whether they end with a carriage return,
-- because a line that is too long is passed without its end. A result says why the line is
-- rejected, if it is. Then the book isn't broken, and after a flush or a checkpoint all events are
-- durable.
pub record RunsRequest {D : Type 0} (state : D → DiskState) (request : LineRequest)
    (ends : Bool) (result : Result (Option Rejection) RunFault) (b c : BookView D)
    (before buffer : List ℕ) (w0 w1 : Option (List ℕ))
    : Type 0 where
  pub ran : (line : List ℕ) → request_of line ≡ request
      → OnOk result (Ran state (line ∷ []) b c before buffer w0 w1)
  pub cut : (line : List ℕ) → request_of line ≡ request
      → IfErr result (λ why. Cut state why (line ∷ []) b c before w0 w1)
  pub rejected : (line : List ℕ) → request_of line ≡ request → ends_in_return line ≡ ends
      → IfOk result (λ why. why ≡ rejection_at b.session line)
  pub sound : OnOk result (c.journal.broken ≡ false)
  pub saved : IsSaving request → OnOk result (IsSaved c)

-- The text wasn't appended. If memory for it was refused, everything that was buffered before was
-- written. If the writer failed, a prefix of both was written.
abbrev pub NotAppended : RunFault → List ℕ → List ℕ → Option (List ℕ) → Option (List ℕ) → Type 0
NotAppended fault.Output text before w0 w1 = WritesPart w0 w1 (before ++ text)
NotAppended fault.Memory text before w0 w1 = Appends w0 w1 before
NotAppended _ text before w0 w1 = ⊥

-- A trouble was reported after everything that was buffered before, unless the writer failed before
-- that.
abbrev pub Troubled :
    RunFault → Trouble → List ℕ → Option (List ℕ) → Option (List ℕ) → Type 0
Troubled fault.Output trouble before w0 w1 = WritesPart w0 w1 before
Troubled (fault.Store why) trouble before w0 w1 =
    (why ≡ trouble) × WritesTrouble trouble before w0 w1
Troubled _ trouble before w0 w1 = ⊥

-- The end came. The closing line was written after everything that was buffered before. The flush
-- for it was taken, so all events are durable.
pub record Closes {D : Type 0} (state : D → DiskState) (b c : BookView D) (before : List ℕ)
    (w0 w1 : Option (List ℕ))
    : Type 0 where
  pub reported : Buffered (closing b.session) before [] w0 w1
  pub taken : TakesAll state b (step.Flush ∷ []) c
  pub saved : IsSaved c

-- The end stopped, and left this book. What was buffered before was written, and after it a prefix
-- of the line of a trouble. If the writer failed, a part of what was buffered was written, or, once
-- all events are durable, a part of that and the closing line.
abbrev pub EndStops : {D : Type 0} → RunFault → BookView D → (end before : List ℕ)
    → (w0 w1 : Option (List ℕ)) → Type 0
EndStops fault.Output c end before w0 w1 =
    WritesPart w0 w1 before ⊎ (IsSaved c × WritesPart w0 w1 (before ++ end))
EndStops (fault.Store why) c end before w0 w1 = WritesTrouble why before w0 w1
EndStops _ c end before w0 w1 = ⊥

-- ---- a part of an input, when `begun` was begun and `before` buffered when it came, and the line
-- that was begun had the number n

-- None of these lines ends a run, and the line after them has the number m.
pub record Clean (until : Until) (n m : ℕ) (s : Session) (lines : List (List ℕ)) : Type 0 where
  pub none : rejection_until until n s lines ≡ None
  pub next : m ≡ n + length lines

-- The last of these lines ends the run.
pub record Found (until : Until) (n : ℕ) (s : Session) (lines : List (List ℕ))
    (rejection : RejectedLine)
    : Type 0 where
  pub found : rejection_until until n s lines ≡ Some rejection
  pub all : lines_until until s lines ≡ lines

-- The lines of a part up to some LF: those that end in this prefix of it, and the one that this LF
-- ends.
abbrev pub lines_to : (begun prefix : List ℕ) → List (List ℕ)
lines_to begun prefix = whole_lines begun prefix ++ open_line begun prefix ∷ []

-- The lines that an LF ends were run, none of them ends the run, and this is kept of the line that
-- is begun.
pub record PartRan {D : Type 0} (state : D → DiskState) (until : Until)
    (n m : ℕ) (begun part : List ℕ) (b c : BookView D) (tail before buffer : List ℕ)
    (w0 w1 : Option (List ℕ))
    : Type 0 where
  pub ran : Ran state (whole_lines begun part) b c before buffer w0 w1
  pub tail_is : tail ≡ kept (open_line begun part)
  pub clean : Clean until n m b.session (whole_lines begun part)

-- The lines up to some LF were run, and the last of them ends the run.
pub record PartRejected {D : Type 0} (state : D → DiskState) (until : Until)
    (rejection : RejectedLine) (n : ℕ) (begun part : List ℕ) (b c : BookView D)
    (before buffer : List ℕ) (w0 w1 : Option (List ℕ))
    : Type 0 where
  pub prefix : List ℕ
  pub behind : List ℕ
  pub part_is : part ≡ prefix ++ 10 ∷ behind
  pub ran : Ran state (lines_to begun prefix) b c before buffer w0 w1
  pub found : Found until n b.session (lines_to begun prefix) rejection

-- One of these two.
abbrev pub PartRuns :
    {D : Type 0} → (D → DiskState) → Until → Option RejectedLine → (n m : ℕ)
    → (begun part : List ℕ) → (b c : BookView D) → (tail before buffer : List ℕ)
    → (w0 w1 : Option (List ℕ)) → Type 0
PartRuns state until None n m begun part b c tail before buffer w0 w1 =
    PartRan state until n m begun part b c tail before buffer w0 w1
PartRuns state until (Some rejection) n m begun part b c tail before buffer w0 w1 =
    PartRejected state until rejection n begun part b c before buffer w0 w1

-- A line that an LF ends stopped, and no line before it ends the run.
pub record PartCut {D : Type 0} (state : D → DiskState) (until : Until)
    (why : RunFault) (n : ℕ) (begun part : List ℕ) (b c : BookView D) (before : List ℕ)
    (w0 w1 : Option (List ℕ))
    : Type 0 where
  pub prefix : List ℕ
  pub behind : List ℕ
  pub part_is : part ≡ prefix ++ 10 ∷ behind
  pub none : rejection_until until n b.session (whole_lines begun prefix) ≡ None
  pub cut : Cut state why (lines_to begun prefix) b c before w0 w1

-- ---- an input, of which no line has a number yet

-- The input was read to its end, and the lines that an LF ends were run and replied to.
pub record ReadsAll {D : Type 0} (state : D → DiskState) (until : Until)
    (m : ℕ) (b c : BookView D) (tail : List ℕ) (r0 r1 w0 w1 : Option (List ℕ))
    : Type 0 where
  pub bytes : List ℕ
  pub read : Consumes r0 r1 bytes
  pub ended : IsAtEnd r1
  pub within : length bytes ≤ LONGEST_INPUT
  pub part : PartRan state until 1 m [] bytes b c tail [] [] w0 w1

-- All lines of a run were run, and their replies written or buffered.
pub record RanLines {D : Type 0} (state : D → DiskState) (until : Until)
    (rejection : Option RejectedLine) (b c : BookView D) (buffer : List ℕ)
    (r0 r1 w0 w1 : Option (List ℕ))
    : Type 0 where
  pub bytes : List ℕ
  pub read : Consumes r0 r1 bytes
  pub rejection_is : rejection ≡ rejection_until until 1 b.session (lines_of bytes)
  pub read_for : IsReadFor until (lines_until until b.session (lines_of bytes)) bytes r1
  pub ended : rejection ≡ None → IsAtEnd r1 × (length bytes ≤ LONGEST_INPUT)
  pub within : length bytes ≤ LONGEST_INPUT + 1
  pub ran : Ran state (lines_until until b.session (lines_of bytes)) b c [] buffer w0 w1

-- A run stopped, and what is done stays so.
pub record Halts {D : Type 0} (state : D → DiskState) (until : Until)
    (why : RunFault) (b c : BookView D) (r0 r1 w0 w1 : Option (List ℕ))
    : Type 0 where
  pub stops : RunStops state until why b c r0 r1 w0 w1
  pub lasts : Lasts b.session c.session
