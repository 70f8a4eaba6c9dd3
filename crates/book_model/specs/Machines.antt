-- A book over a disk, as the machine that its user sees: the answers to its steps, what a crash
-- leaves of it, and what the next opening finds. The machine doesn't show why an opening fails, or
-- how many calls of the disk are made.
--
-- Three machines are excluded. One that forgets an acknowledged event: `CrashesAt` requires that at
-- least `acked` events are left. One that adds a command of its own, or takes one twice: only
-- `took` makes the history longer, by the event of the step that was taken. One that changes the
-- order of events: a crash leaves a prefix of the history.
use Rattle.std.specs.Prelude.{◌≡◌, ◌⊎◌, ◌∷◌, [], if◌then◌else◌, ℕ, List, length}
use Rattle.run_model.specs.declared.answers.Reply.{Reply}
use Rattle.run_model.specs.declared.commands.Step.{Step}
use Rattle.run_model.specs.Allowed.{IsPrefix}
use Rattle.run_model.specs.Session.{is_ack}
use Rattle.run_model.specs.State.{State}
use Rattle.book_model.specs.Nights.{opened_from}
use Rattle.book_model.specs.Plays.{IsReply, Playing, after_answer, sound}
use Rattle.book_model.specs.Stores.{restarted}

-- The machine runs. It answers as the session since its opening does, or it is broken. This number
-- of events of the session's history is acknowledged.
pub record Running : Type 0 where
  pub book : Playing
  pub acked : ℕ

-- The machine is stopped and a state is stored, or the machine runs.
pub data Machine : Type 0 where
  Stored : State → Machine
  Runs : Running → Machine

-- What the user of the machine does, or a crash.
pub data Move : Type 0 where
  -- it is opened
  Open : Move
  -- an opening fails, or a crash comes before its result is used
  OpenInVain : Move
  -- a step is taken, and this is the reply to it
  Take : Step → Reply → Move
  -- a crash comes during these steps, before anybody has seen the replies to them
  Crash : List Step → Move

-- The machine after an opening: in the restart of the stored state, with no event since then.
abbrev pub opened_at : State → Running
opened_at p = record { book = sound (opened_from p); acked = 0 }

-- The machine after a step and its reply. The event of the step is appended to the history. If the
-- reply is Acked, all events so far are acknowledged. If it reports that the device has failed, the
-- machine is broken.
abbrev pub took : Running → Step → Reply → Running
took m x r = record {
  book = after_answer m.book x r;
  acked = if is_ack r then length m.book.session.history else m.acked;
}

-- The machine may answer these steps, one after another, with these replies, and then it is `end`.
abbrev pub TakesAll : Running → List Step → List Reply → Running → Type 0
TakesAll m [] [] end = end ≡ m
TakesAll m (x ∷ steps) (r ∷ answers) end =
    IsReply m.book x r × TakesAll (took m x r) steps answers end
TakesAll m [] (r ∷ answers) end = ⊥
TakesAll m (x ∷ steps) [] end = ⊥

-- A crash in the middle of these steps, whose replies nobody has seen, leaves the state to which a
-- prefix of the events leads. The prefix contains every acknowledged event.
pub record CrashesAt (m : Running) (more : List Step) (q : State) : Type 0 where
  pub unreported : List Reply
  pub last : Running
  pub takes : TakesAll m more unreported last
  pub prefix : IsPrefix m.book.session.start last.book.session.history m.acked q

-- This move leads from the one machine to the other. An opening that fails leaves the state or its
-- restart.
abbrev pub Goes : Machine → Move → Machine → Type 0
Goes (Stored p) Open (Runs m) = m ≡ opened_at p
Goes (Stored p) OpenInVain (Stored q) = (q ≡ p) ⊎ (q ≡ restarted p)
Goes (Runs m) (Take x r) (Runs n) = IsReply m.book x r × (n ≡ took m x r)
Goes (Runs m) (Crash more) (Stored q) = CrashesAt m more q
Goes _ _ _ = ⊥

-- These moves, one after another, lead from the one machine to the other.
abbrev pub GoesOn : Machine → List Move → Machine → Type 0
GoesOn m [] n = n ≡ m
GoesOn m (move ∷ moves) n = (next : Machine) × Goes m move next × GoesOn next moves n
