-- The steps that end what is left of other nights leave a night as it is.
use Rattle.std.specs.Prelude.{◌≡◌, ℕ, false, List, Option, Some, slice_get}
use Rattle.run_model.specs.declared.groups.Group.{Group}
use Rattle.run_model.specs.Rules.{IsConsistent}
use Rattle.run_model.specs.Scopes.{line}
use Rattle.run_model.specs.Session.{Session, session_after}
use Rattle.run_model.specs.State.{State}
use Rattle.night_drive.specs.PlanTurns.{AreBare}
use Rattle.night_drive.specs.Seen.{is_over, known_of}
use Rattle.drive_nights.specs.Endings.{endings_of, is_elsewhere}
use Rattle.drive_nights.specs.Nights.{base_of, is_ended, night_text}
use Rattle.drive_nights.specs.Rooms.{last_room}

-- Night n is the same in both states. Each scope of the night has the same row, and so has each
-- scope above it, up to root: so it is done as before, for the same reason, and has the same
-- deadline. Each group of the store that stands in the night has the same row, and so has each
-- task. The night has the same base, and has ended if it had. Each group of the plan is done if it
-- was, and has the same group of the store. What is known of a command is the same.
pub record IsUntouched (p q : State) (n : ℕ) : Type 0 where
  pub lines : (s : ℕ) → is_elsewhere p n s ≡ false → line q.tree.scopes s ≡ line p.tree.scopes s
  pub groups : (g : ℕ) (row : Group) → slice_get p.work.groups g ≡ Some row
      → is_elsewhere p n row.scope ≡ false → slice_get q.work.groups g ≡ Some row
  pub tasks : q.work.tasks ≡ p.work.tasks
  pub clock : q.tree.clock ≡ p.tree.clock
  pub base : base_of q n ≡ base_of p n
  pub ended : is_ended q n ≡ is_ended p n
  pub over : (group : List ℕ) → is_over q (night_text n) group ≡ is_over p (night_text n) group
  pub room : (group : List ℕ) → last_room q n group ≡ last_room p n group
  pub known : (ended : ℕ → ℕ) (night : Option (List ℕ)) (group key : List ℕ)
      → known_of q ended night group key ≡ known_of p ended night group key

-- The endings of all nights but night n leave that night untouched, whether or not some of them are
-- refused.
abbrev pub EndingsLeaveNights : Type 0
EndingsLeaveNights =
    (s : Session) (n : ℕ) → IsConsistent s.state → AreBare s.state.work
    → IsUntouched s.state (session_after s (endings_of s.state n)).state n
