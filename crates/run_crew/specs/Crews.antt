-- A crew over a store: what it leaves on the disk, and what is printed.
use Rattle.std.specs.Prelude.{◌≡◌, ◌⊎◌, ◌≤◌, ◌+◌, ◌++◌, ℕ, List, length, Bool, Option, Result, Ok}
use Rattle.std.specs.Prelude.{Err, Some, true, ⊤, [], codes, is_ok, IfOk, MatchResult, OnOk}
use Rattle.std.specs.Fmt.{decimal}
use Rattle.std.specs.Io.KnownBytes.{Appends}
use Rattle.std.specs.List.{list_all}
use Rattle.std.specs.List.Sorted.{IsPermutation}
use Rattle.run_model.specs.declared.answers.Reply.TheVariants as answered
use Rattle.run_model.specs.declared.faults.Fault.{Fault}
use Rattle.run_model.specs.declared.faults.Fault.TheVariants.{DiskFailed}
use Rattle.run_model.specs.declared.faults.Trouble.{Trouble}
use Rattle.run_model.specs.declared.faults.Trouble.TheVariants.{Refused, Faulty}
use Rattle.run_model.specs.Allowed.{run}
use Rattle.run_model.specs.Event.{Event}
use Rattle.run_model.specs.State.{State}
use Rattle.run_disk.specs.Disk.{DiskState, IsAtRest}
use Rattle.run_disk.specs.Runs.{LeavesOnly}
use Rattle.run_model.specs.Session.{begun_at}
use Rattle.run_session.specs.Replays.{Replays}
use Rattle.book_model.specs.Books.{Flushes, BookView, IsDurable}
use Rattle.book_model.specs.Openings.{HasOpened, OpensNot}
use Rattle.book_model.specs.Stores.{Stores, StoresPrefix, StoresOpened, restarted}
use Rattle.run_crew.specs.declared.audits.Strayed.{Strayed}
use Rattle.run_crew.specs.declared.notes.Note.{Note}
use Rattle.run_crew.specs.Audits.{HasStrayed, IsComplete, made_at}
use Rattle.run_crew.specs.Desks.{DeskView, finishes_of, starts_of}
use Rattle.run_crew.specs.Notes.{all_notes, noted}
use Rattle.run_crew.specs.Openings.{Carries, From, Known, is_work, opened_of}
use Rattle.console_lines.specs.declared.faults.RunFault.{RunFault}
use Rattle.console_lines.specs.declared.faults.RunFault.TheVariants.{Memory, Output, Store}
use Rattle.console_lines.specs.declared.line_replies.LineReply.TheVariants as printed
use Rattle.console_lines.specs.Progress.{WritesPart}
use Rattle.console_lines.specs.Replies.{reply_line}
use Rattle.console_lines.specs.Faults.{stopped}

-- ---- what is printed

-- A line of two numbers, each after its words.
abbrev pub numbers_line : List ℕ → ℕ → List ℕ → ℕ → List ℕ
numbers_line before one between other =
    before ++ decimal one ++ (between ++ decimal other) ++ codes "\n"

-- The line of an audit: the numbers of starts and finishes, or the first difference.
abbrev pub audit_line : Result ⊤ Strayed → (starts finishes : ℕ) → List ℕ
audit_line (Ok done) starts finishes =
    numbers_line (codes "audit ok; starts ") starts (codes "; finishes ") finishes
audit_line (Err strayed) starts finishes =
    numbers_line (codes "audit strayed; worker ") strayed.worker (codes "; note ") strayed.note

-- The line after it: the number of durable events, if the last flush succeeded.
abbrev pub flush_line : Result ℕ Trouble → List ℕ
flush_line (Ok count) = reply_line (printed.Step (answered.Acked count))
flush_line (Err why) = []

-- The trouble of a flush for a caller who saw no earlier one: a book is broken only if a device
-- call failed.
abbrev pub of_device : Trouble → Trouble
of_device (Refused why) = Faulty DiskFailed
of_device (Faulty why) = Faulty why

-- The result if everything was printed: whether the audit found no difference, or the fault of the
-- last flush.
abbrev pub result_of : Result ⊤ Strayed → Result ℕ Trouble → Result Bool RunFault
result_of audited (Ok count) = Ok (is_ok audited)
result_of audited (Err why) = Err (Store (of_device why))

-- The audit and the last flush were printed in full, or the writer failed after a prefix.
abbrev pub IsReported : Result ⊤ Strayed → (starts finishes : ℕ) → Result ℕ Trouble
    → Result Bool RunFault → (w0 w1 : Option (List ℕ)) → Type 0
IsReported audited starts finishes flushed answer w0 w1 =
    let text = audit_line audited starts finishes ++ flush_line flushed in
    ((answer ≡ result_of audited flushed) × Appends w0 w1 text)
    ⊎ ((answer ≡ Err Output) × WritesPart w0 w1 text)

-- ---- what a run leaves

-- This disk is that of a book that carries on from what is known about it.
pub record WasLeft {D : Type 0} (state : D → DiskState) (known : Known) (left : D) : Type 0 where
  pub book : BookView D
  pub carries : Carries known state book
  pub disk : book.journal.disk ≡ left

-- This many workers left a desk and a list of notes each, and their shifts were like this: they
-- have started as many tasks as the history has starts. Then the desk's book was flushed. The book
-- carries on from what is known about it, and this is its disk.
pub record IsWorked {D : Type 0} (state : D → DiskState) (known : Known)
    (Shifts : List (List Note) → (starts : ℕ) → Type 0) (workers : ℕ)
    (audited : Result ⊤ Strayed) (starts finishes : ℕ) (flushed : Result ℕ Trouble)
    (left : D) : Type 0
  where
    -- the book as the threads left it, and the desk after its flush
    pub book : BookView D
    pub desk : DeskView D
    pub lists : List (List Note)
    pub flushes : Flushes state book flushed desk.book
    pub session : desk.book.session ≡ book.session
    pub carries : Carries known state desk.book
    pub disk : desk.book.journal.disk ≡ left
    pub acked : IfOk flushed (λ count. (count ≡ desk.book.session.state.count)
        × (desk.book.durable ≡ count))
    pub replays : Replays desk.book.session
    pub durable : IsDurable state desk.book
    pub audit : MatchResult audited (λ _. IsComplete desk lists)
        (λ strayed. HasStrayed desk lists strayed)
    pub exactly : OnOk audited (IsPermutation (made_at desk) (all_notes lists))
    pub started : starts ≡ starts_of desk.book.session.history
    pub finished : finishes ≡ finishes_of desk.book.session.history
    pub shifts : Shifts lists starts
    pub each_has_a_list : length lists ≡ workers
    pub each_is_noted : finishes ≡ noted lists
    pub each_was_started : finishes ≤ starts
    pub one_more_at_most : starts ≤ finishes + workers

-- A promise about a disk that is honest and at rest, and about the state that it stores.
abbrev pub Promises : DiskState → (State → Type 0) → Type 0
Promises s says = s.honest → IsAtRest s → (p : State) → Stores s.now p → says p

-- The bytes store this state, or the state after its restart and a prefix of these events.
abbrev pub StoresNight : State → List Event → List ℕ → Type 0
StoresNight p work bytes = Stores bytes p ⊎ StoresPrefix (restarted p) work 0 bytes

-- After a restart, only starts and finishes were made. A crash at any moment since `old` leaves the
-- state that was stored, or the state after the restart and a prefix of them.
pub record KeepsNight (p : State) (work : List Event) (old new : DiskState) : Type 0 where
  pub only : list_all is_work work ≡ true
  pub any_moment : LeavesOnly (StoresNight p work) old new

-- This many events are acknowledged, which are all of them. Every crash leaves the state to which
-- they lead.
pub record AcksNight (p : State) (work : List Event) (n : ℕ) (s : DiskState) : Type 0 where
  pub state : State
  pub reached : run (restarted p) work ≡ Some state
  pub counted : n ≡ state.count
  pub stores : (x : List ℕ) → s.images x → Stores x state

-- A run over a disk, which is returned: the result, what was printed, and what a crash leaves of
-- the disk at any moment since the call began, if the disk was honest and at rest. There are three
-- cases. No book was opened: the fault gives the reason, and nothing was printed. A book was
-- opened, but memory or a thread was refused: nothing was printed. Or the workers ran, their shifts
-- were like this, given the facts known about the opened book, and the report about what they left
-- was printed.
abbrev pub CrewEnds : {D : Type 0} → (D → DiskState)
    → (Shifts : Known → List (List Note) → (starts : ℕ) → Type 0)
    → (given : D) → (workers : ℕ) → Result Bool RunFault → (left : D)
    → (w0 w1 : Option (List ℕ)) → Type 0
CrewEnds {D = D} state Shifts given workers answer left w0 w1 =
    ((why : Fault) × (answer ≡ Err (stopped why)) × OpensNot state given why left × (w1 ≡ w0)
    × Promises (state given) (λ p. LeavesOnly (StoresOpened p) (state given) (state left)))
    ⊎ ((b : BookView D) × HasOpened state given b
    × (b.session ≡ begun_at b.session.start)
    × (((answer ≡ Err Memory) × (w1 ≡ w0)
    × Promises (state given) (λ p. (work : List Event)
    × KeepsNight p work (state given) (state left)))
    ⊎ ((audited : Result ⊤ Strayed) × (starts : ℕ) × (finishes : ℕ) × (flushed : Result ℕ Trouble)
    × (worked : IsWorked state (From (opened_of state b)) (Shifts (From (opened_of state b)))
    workers audited starts finishes flushed left)
    × IsReported audited starts finishes flushed answer w0 w1
    × Promises (state given) (λ p.
    KeepsNight p worked.desk.book.session.history (state given) (state left)
    × IfOk flushed (λ n. AcksNight p worked.desk.book.session.history n (state left))))))
