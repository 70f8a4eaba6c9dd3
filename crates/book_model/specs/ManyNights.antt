-- Many sessions of the machine: the states to which they lead, depending on what their replies
-- acknowledged.
use Rattle.std.specs.Prelude.{◌≡◌, ◌⊎◌, ◌++◌, ◌∷◌, [], ℕ, List, map, Some}
use Rattle.run_model.specs.declared.answers.Reply.{Reply}
use Rattle.run_model.specs.declared.commands.Step.{Step}
use Rattle.run_model.specs.Allowed.{run}
use Rattle.run_model.specs.Event.{Event}
use Rattle.run_model.specs.Event as event
use Rattle.run_model.specs.Session.{accepted, acknowledged}
use Rattle.run_model.specs.State.{State}
use Rattle.book_model.specs.Machines.{Move, Open, OpenInVain, Crash, Take}
use Rattle.book_model.specs.Nights.{opened_from}
use Rattle.book_model.specs.Plays.{taken}
use Rattle.book_model.specs.Stores.{Stores, restarted}

-- What can be seen of a session: an opening that failed, or the steps that were answered, each with
-- its reply, and the steps during which a crash came.
pub data Night : Type 0 where
  InVain : Night
  Spent : List (Step × Reply) → List Step → Night

-- The moves of a session.
abbrev pub moves_of : Night → List Move
moves_of InVain = OpenInVain ∷ []
moves_of (Spent calls more) =
    Open ∷ (map (λ call. Take call.0 call.1) calls ++ Crash more ∷ [])

-- The steps that were answered, and the replies.
abbrev pub steps_of : List (Step × Reply) → List Step
steps_of calls = map (λ call. call.0) calls

abbrev pub answers_of : List (Step × Reply) → List Reply
answers_of calls = map (λ call. call.1) calls

-- The session leads from state p to state q: by a restart, by the events that its replies
-- acknowledged, and perhaps by some more of the accepted events, in order and without a gap.
pub record LeadsOver (p : State) (calls : List (Step × Reply)) (more : List Step) (q : State)
    : Type 0 where
  pub unreported : List Reply
  pub further : List Event
  pub lost : List Event
  pub in_order : accepted (opened_from p)
      (taken (steps_of calls ++ more) (answers_of calls ++ unreported))
      ≡ acknowledged (opened_from p) (steps_of calls) (answers_of calls) ++ (further ++ lost)
  pub reached : run p (event.Restart
      ∷ (acknowledged (opened_from p) (steps_of calls) (answers_of calls) ++ further)) ≡ Some q

-- An opening that fails leads to the state itself or to its restart.
abbrev pub Leads : State → Night → State → Type 0
Leads p InVain q = (q ≡ p) ⊎ (q ≡ restarted p)
Leads p (Spent calls more) q = LeadsOver p calls more q

-- These sessions, one after another, lead from state p to state q.
abbrev pub LeadOver : State → List Night → State → Type 0
LeadOver p [] q = q ≡ p
LeadOver p (night ∷ nights) q = (next : State) × Leads p night next × LeadOver next nights q

-- The disk stores a state to which these sessions lead.
pub record StoresAfterNights (p : State) (nights : List Night) (bytes : List ℕ) : Type 0 where
  pub state : State
  pub stores : Stores bytes state
  pub leads : LeadOver p nights state
