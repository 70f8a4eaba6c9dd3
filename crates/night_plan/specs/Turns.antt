-- A night turn by turn: what is chosen begins, commands end, and commands and groups are canceled.
use Rattle.std.specs.Prelude.{◌≡◌, ◌≤◌, ◌+◌, ◌==◌, ℕ, Bool, true, false, cond, List, [], ◌∷◌, Some}
use Rattle.std.specs.Prelude.{All, Contains, length, slice_get, slice_index, slice_set, count_by}
use Rattle.std.specs.List.{list_any}
use Rattle.night_plan.specs.declared.commands.Command.{Command}
use Rattle.night_plan.specs.declared.commands.Need.{Need}
use Rattle.night_plan.specs.declared.commands.When.TheVariants.{Well}
use Rattle.night_plan.specs.declared.facts.Phase.TheVariants.{Fresh, Busy, EndedOk, Failed}
use Rattle.night_plan.specs.declared.facts.Phase.TheVariants.{Interrupted, Canceled}
use Rattle.night_plan.specs.declared.facts.Known.{Known}
use Rattle.night_plan.specs.Plans.{HasNeed}
use Rattle.night_plan.specs.Nights.{Night, runs, has_ended_ok, cleans_up, Names}
use Rattle.night_plan.specs.Nights.{IsFinal}
use Rattle.night_plan.specs.Choices.{IsChosen, in_use}

pub data Turn : Type 0 where
  -- the moment, the sizes of the pools, the commands
  Begin : ℕ → List ℕ → List ℕ → Turn
  EndOk : ℕ → Turn
  -- command, moment
  Fail : ℕ → ℕ → Turn
  Interrupt : ℕ → Turn
  -- a try that ran ended by a cancellation
  Cut : ℕ → Turn
  -- the command itself is canceled
  Cancel : ℕ → Turn
  -- a group: it is canceled, or its deadline passes
  Stop : ℕ → Turn

abbrev pub is_among : ℕ → List ℕ → Bool
is_among c chosen = list_any (λ d. d == c) chosen

-- What a turn makes of what is known of command c.
abbrev pub turned : Turn → ℕ → Known → Known
turned (Begin now sizes chosen) c k = cond (is_among c chosen) (record k { phase = Busy }) k
turned (EndOk d) c k = cond (d == c) (record k { phase = EndedOk }) k
turned (Fail d moment) c k =
    cond (d == c) (record k { phase = Failed moment; failures = k.failures + 1 }) k
turned (Interrupt d) c k = cond (d == c) (record k { phase = Interrupted }) k
turned (Cut d) c k = cond (d == c) (record k { phase = Canceled }) k
turned (Cancel d) c k = cond (d == c) (record k { canceled = true }) k
turned (Stop g) c k = k

-- And of each, from command i on.
abbrev pub all_turned : Turn → ℕ → List Known → List Known
all_turned t i [] = []
all_turned t i (k ∷ known) = turned t i k ∷ all_turned t (i + 1) known

abbrev pub done_after : Turn → List Bool → List Bool
done_after (Begin now sizes chosen) done = done
done_after (EndOk c) done = done
done_after (Fail c moment) done = done
done_after (Interrupt c) done = done
done_after (Cut c) done = done
done_after (Cancel c) done = done
done_after (Stop g) done = slice_set done g true

-- The night after a turn.
abbrev pub after : Night → Turn → Night
after n t = record n { known = all_turned t 0 n.known; done = done_after t n.done }

-- A turn that may come: what is begun was chosen, and what ends or is interrupted runs.
abbrev pub May : Night → Turn → Type 0
May n (Begin now sizes chosen) = IsChosen n now sizes chosen
May n (EndOk c) = runs n c ≡ true
May n (Fail c moment) = runs n c ≡ true
May n (Interrupt c) = runs n c ≡ true
May n (Cut c) = runs n c ≡ true
May n (Cancel c) = Unit {0}
May n (Stop g) = Unit {0}

-- These turns lead from one night to the other.
abbrev pub Lead : Night → List Turn → Night → Type 0
Lead n [] m = n ≡ m
Lead n (t ∷ turns) m = May n t × Lead (after n t) turns m

-- Nothing was begun yet.
abbrev pub IsFresh : Night → Type 0
IsFresh n =
    (c : ℕ) (fact : Known) → slice_get n.known c ≡ Some fact
    → fact ≡ record { phase = Fresh; failures = 0; canceled = false }

abbrev pub begins_in : ℕ → Turn → Bool
begins_in c (Begin now sizes chosen) = is_among c chosen
begins_in c (EndOk d) = false
begins_in c (Fail d moment) = false
begins_in c (Interrupt d) = false
begins_in c (Cut d) = false
begins_in c (Cancel d) = false
begins_in c (Stop g) = false

abbrev pub interrupts_in : ℕ → Turn → Bool
interrupts_in c (Begin now sizes chosen) = false
interrupts_in c (EndOk d) = false
interrupts_in c (Fail d moment) = false
interrupts_in c (Interrupt d) = d == c
interrupts_in c (Cut d) = false
interrupts_in c (Cancel d) = false
interrupts_in c (Stop g) = false

-- How often a command is begun, and interrupted.
abbrev pub begins : ℕ → List Turn → ℕ
begins c turns = count_by (begins_in c) turns

abbrev pub interruptions : ℕ → List Turn → ℕ
interruptions c turns = count_by (interrupts_in c) turns

-- ---- the laws

-- A command begins only after all commands that it needs to have ended well have ended well.
abbrev pub BeginsInOrder : Type 0
BeginsInOrder =
    (n m : Night) (turns : List Turn) (now c d : ℕ) (sizes chosen : List ℕ) (need : Need)
    → IsFresh n → Lead n turns m → May m (Begin now sizes chosen) → Contains chosen c
    → HasNeed m.commands c need → need.when ≡ Well → Names m c need d → Contains turns (EndOk d)

-- What has ended well is not begun again.
abbrev pub IsBegunNoMore : Type 0
IsBegunNoMore =
    (n m : Night) (turns : List Turn) (c : ℕ) → has_ended_ok n c ≡ true → Lead n turns m
    → begins c turns ≡ 0

-- A command is begun once, once more for each retry, and once more for each interruption, at most.
abbrev pub BeginsAreBounded : Type 0
BeginsAreBounded =
    (n m : Night) (turns : List Turn) (c : ℕ) (command : Command) → IsFresh n → Lead n turns m
    → slice_get n.commands c ≡ Some command → length n.known ≡ length n.commands
    → begins c turns ≤ 1 + command.retries + interruptions c turns

-- A turn that begins commands finds at most this size of pool p.
abbrev pub IsWithin : ℕ → ℕ → Turn → Type 0
IsWithin p size (Begin now sizes chosen) = slice_index sizes p ≤ size
IsWithin p size _ = Unit {0}

-- No more of a pool is in use than the greatest size that it had.
abbrev pub KeepsPools : Type 0
KeepsPools =
    (n m : Night) (turns : List Turn) (p size : ℕ) → IsFresh n → Lead n turns m
    → All (IsWithin p size) turns → in_use m p ≤ size

-- A cleanup that is final was begun, unless it was canceled itself, before a try of it or in one.
abbrev pub CleanupsBegin : Type 0
CleanupsBegin =
    (n m : Night) (turns : List Turn) (c : ℕ) → IsFresh n → Lead n turns m → IsFinal m c
    → cleans_up m c ≡ true → (Contains turns (Cancel c) → ⊥) → (Contains turns (Cut c) → ⊥)
    → 1 ≤ begins c turns
