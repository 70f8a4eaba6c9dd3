-- A night whose plan may grow, step by step, and its laws.
use Rattle.std.specs.Prelude.{◌≡◌, ◌≤◌, ◌+◌, ◌⊎◌, ℕ, true, List, [], ◌∷◌, Some, All, Contains}
use Rattle.std.specs.Prelude.{length, slice_get}
use Rattle.night_plan.specs.declared.commands.Command.{Command}
use Rattle.night_plan.specs.declared.commands.Group.{Group as GroupLine}
use Rattle.night_plan.specs.declared.commands.Need.{Need}
use Rattle.night_plan.specs.declared.commands.When.TheVariants as when
use Rattle.night_plan.specs.declared.facts.Known.{Known}
use Rattle.night_plan.specs.Plans.{HasNeed}
use Rattle.night_plan.specs.Nights.{Night, has_ended_ok, cleans_up, Names, IsFinal}
use Rattle.night_plan.specs.Nights.{HasFailed, IsNever}
use Rattle.night_plan.specs.Choices.{in_use}
use Rattle.night_plan.specs.Growth.{with_group, with_one}
use Rattle.night_plan.specs.Turns.{Turn, Begin, EndOk, Fail, Cancel, Cut, after, May}
use Rattle.night_plan.specs.Turns.{IsFresh, begins}
use Rattle.night_plan.specs.Turns.{interruptions, IsWithin}

-- A turn, or one more command or group.
pub data Step : Type 0 where
  Turns : Turn → Step
  Adds : Command → Step
  Opens : GroupLine → Step

-- The night after a step.
abbrev pub stepped : Night → Step → Night
stepped n (Turns t) = after n t
stepped n (Adds command) = with_one n command
stepped n (Opens group) = with_group n group

-- A step that may come. The plan may grow at any time.
abbrev pub MayStep : Night → Step → Type 0
MayStep n (Turns t) = May n t
MayStep n (Adds command) = Unit {0}
MayStep n (Opens group) = Unit {0}

-- These steps lead from one night to the other.
abbrev pub StepsLead : Night → List Step → Night → Type 0
StepsLead n [] m = n ≡ m
StepsLead n (s ∷ steps) m = MayStep n s × StepsLead (stepped n s) steps m

-- The turns among steps.
abbrev pub turns_in : List Step → List Turn
turns_in [] = []
turns_in (Turns t ∷ steps) = t ∷ turns_in steps
turns_in (Adds command ∷ steps) = turns_in steps
turns_in (Opens group ∷ steps) = turns_in steps

-- Nothing was begun yet, and there is a row for each command.
pub record IsNew (n : Night) : Type 0 where
  pub fresh : IsFresh n
  pub alike : length n.known ≡ length n.commands

-- The steps lead from a new night to another one, in which these commands may begin, and command c
-- is one of them.
pub record Begins (n m : Night) (steps : List Step) (now c : ℕ) (sizes chosen : List ℕ)
    : Type 0 where
  pub new : IsNew n
  pub lead : StepsLead n steps m
  pub may : May m (Begin now sizes chosen)
  pub listed : Contains chosen c

-- ---- the laws

-- A command begins only after all commands that it needs to have ended well have ended well.
abbrev pub WellInOrder : Type 0
WellInOrder =
    (n m : Night) (steps : List Step) (now c d : ℕ) (sizes chosen : List ℕ) (need : Need)
    → Begins n m steps now c sizes chosen → HasNeed m.commands c need → need.when ≡ when.Well
    → Names m c need d → Contains (turns_in steps) (EndOk d)

-- A command that needs a failure begins only after a command that the need names has failed, and
-- that one has no other try.
abbrev pub FailedInOrder : Type 0
FailedInOrder =
    (n m : Night) (steps : List Step) (now c : ℕ) (sizes chosen : List ℕ) (need : Need)
    → Begins n m steps now c sizes chosen → HasNeed m.commands c need → need.when ≡ when.Failed
    → (d : ℕ) × Names m c need d × HasFailed m d
    × (moment : ℕ) × Contains (turns_in steps) (Fail d moment)

-- A command that needs an end begins only once each command that the need names has ended well, or
-- never begins again.
abbrev pub EndedInOrder : Type 0
EndedInOrder =
    (n m : Night) (steps : List Step) (now c d : ℕ) (sizes chosen : List ℕ) (need : Need)
    → Begins n m steps now c sizes chosen → HasNeed m.commands c need → need.when ≡ when.Ended
    → Names m c need d → Contains (turns_in steps) (EndOk d) ⊎ IsNever m d

-- What has ended well is not begun again.
abbrev pub EndsOnce : Type 0
EndsOnce =
    (n m : Night) (steps : List Step) (c : ℕ) → length n.known ≡ length n.commands
    → has_ended_ok n c ≡ true → StepsLead n steps m → begins c (turns_in steps) ≡ 0

-- What was canceled itself is not begun any more.
abbrev pub IsCanceledForGood : Type 0
IsCanceledForGood =
    (n m : Night) (steps : List Step) (c : ℕ) (fact : Known) → length n.known ≡ length n.commands
    → slice_get n.known c ≡ Some fact → fact.canceled ≡ true → StepsLead n steps m
    → begins c (turns_in steps) ≡ 0

-- A command is begun once, once more for each retry, and once more for each interruption, at most.
abbrev pub StepsAreBounded : Type 0
StepsAreBounded =
    (n m : Night) (steps : List Step) (c : ℕ) (command : Command) → IsNew n
    → StepsLead n steps m → slice_get m.commands c ≡ Some command
    → begins c (turns_in steps) ≤ 1 + command.retries + interruptions c (turns_in steps)

-- No more of a pool is in use than the greatest size that it had.
abbrev pub StepsKeepPools : Type 0
StepsKeepPools =
    (n m : Night) (steps : List Step) (p size : ℕ) → IsNew n → StepsLead n steps m
    → All (IsWithin p size) (turns_in steps) → in_use m p ≤ size

-- A cleanup that is final was begun, unless it was canceled itself, before a try of it or in one.
abbrev pub StepsBeginCleanups : Type 0
StepsBeginCleanups =
    (n m : Night) (steps : List Step) (c : ℕ) → IsNew n → StepsLead n steps m → IsFinal m c
    → cleans_up m c ≡ true → (Contains (turns_in steps) (Cancel c) → ⊥)
    → (Contains (turns_in steps) (Cut c) → ⊥) → 1 ≤ begins c (turns_in steps)
