-- What laws say of the books of a run: what one has played, and what the store holds after some.
use Rattle.std.specs.Prelude.{◌≡◌, ◌<◌, ℕ, zero, suc, false, List, [], Some, length}
use Rattle.run_model.specs.Allowed.{run}
use Rattle.run_model.specs.Event.{Event}
use Rattle.run_model.specs.State.{State}
use Rattle.run_model.specs.declared.answers.Reply.{Reply}
use Rattle.run_model.specs.declared.commands.Step.{Step}
use Rattle.run_model.specs.Session.{replies, session_after}
use Rattle.book_model.specs.Books.{BookView}
use Rattle.book_model.specs.Stores.{restarted}
use Rattle.night_plan.specs.Nights.{IsFinal, Night}
use Rattle.drive_runs.specs.declared.living.Living.{Living}

-- Each command of a night is final, and none of these tries lives.
pub record IsOver (n : Night) (living : List Living) : Type 0 where
  pub final : (c : ℕ) → c < length n.commands → IsFinal n c
  pub idle : living ≡ []

-- The book wasn't broken, and replied as its session does. All its events are acknowledged.
pub record IsPlayedWhole {D : Type 0} (old : BookView D) (steps : List Step) (answers : List Reply)
    (new : BookView D) : Type 0 where
  pub sound : old.journal.broken ≡ false
  pub replied : answers ≡ replies old.session steps
  pub session : new.session ≡ session_after old.session steps
  pub durable : new.durable ≡ new.session.state.count

-- A store that held state p holds state q after this many openings: in each of them its state was
-- restarted, and then changed by events.
abbrev pub LeadsThrough : ℕ → (p q : State) → Type 0
LeadsThrough zero p q = q ≡ p
LeadsThrough (suc n) p q =
    (between : State) × (events : List Event) × LeadsThrough n p between
    × (run (restarted between) events ≡ Some q)

-- P is true of the state after this many openings.
abbrev pub Reaches : ℕ → (p : State) → (State → Type 0) → Type 0
Reaches n p P = (q : State) × LeadsThrough n p q × P q
