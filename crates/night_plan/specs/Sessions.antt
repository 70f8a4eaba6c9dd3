-- Nights over crashes: which begins are reported to the executor, and what a crash leaves.
use Rattle.std.specs.Prelude.{◌≡◌, ◌<◌, ◌≤◌, ◌+◌, ◌++◌, ◌⊎◌, true, ℕ, List, [], ◌∷◌, Some}
use Rattle.std.specs.Prelude.{Contains, length, map, slice_get, take}
use Rattle.night_plan.specs.declared.commands.Command.{Command}
use Rattle.night_plan.specs.declared.facts.Phase.{Phase}
use Rattle.night_plan.specs.declared.facts.Phase.TheVariants.{Fresh, Busy, EndedOk, Failed}
use Rattle.night_plan.specs.declared.facts.Phase.TheVariants.{Interrupted, Canceled}
use Rattle.night_plan.specs.declared.facts.Known.{Known}
use Rattle.night_plan.specs.declared.commands.Need.{Need}
use Rattle.night_plan.specs.declared.commands.When.TheVariants.{Well}
use Rattle.night_plan.specs.Plans.{HasNeed}
use Rattle.night_plan.specs.Nights.{Night, has_ended_ok, Names}
use Rattle.night_plan.specs.Turns.{Turn, Begin, EndOk, after, Lead, IsFresh, begins, interruptions}

-- From an opening to a crash: its turns, how many of them were acknowledged, and how many the
-- crash leaves.
pub record Session : Type 0 where
  pub turns : List Turn
  pub acked : ℕ
  pub kept : ℕ

-- What an opening makes of a phase: what ran is interrupted.
abbrev pub reopened : Phase → Phase
reopened Fresh = Fresh
reopened Busy = Interrupted
reopened EndedOk = EndedOk
reopened (Failed last) = Failed last
reopened Interrupted = Interrupted
reopened Canceled = Canceled

abbrev pub restarted : Night → Night
restarted n =
    record n { known = map (λ (k : Known). record k { phase = reopened k.phase }) n.known }

-- What turns make of a night.
abbrev pub after_all : Night → List Turn → Night
after_all n [] = n
after_all n (t ∷ turns) = after_all (after n t) turns

-- The session may come: its turns may, and a crash leaves a prefix of them that has each
-- acknowledged one.
pub record IsSession (n : Night) (s : Session) : Type 0 where
  pub leads : Lead n s.turns (after_all n s.turns)
  pub acked : s.acked ≤ s.kept
  pub kept : s.kept ≤ length s.turns

-- What the next session begins with.
abbrev pub next : Night → Session → Night
next n s = restarted (after_all n (take s.kept s.turns))

-- These sessions come one after another.
abbrev pub AreSessions : Night → List Session → Type 0
AreSessions n [] = Unit {0}
AreSessions n (s ∷ sessions) = IsSession n s × AreSessions (next n s) sessions

-- How many begins of a command are reported to the executor: those that are acknowledged.
abbrev pub reported : ℕ → List Session → ℕ
reported c [] = 0
reported c (s ∷ sessions) = begins c (take s.acked s.turns) + reported c sessions

-- How often tries of it were interrupted in what was kept.
abbrev pub stopped : ℕ → List Session → ℕ
stopped c [] = 0
stopped c (s ∷ sessions) = interruptions c (take s.kept s.turns) + stopped c sessions

-- ---- the laws

-- A command that was acknowledged to have ended well is reported in no later session.
abbrev pub IsReportedNoMore : Type 0
IsReportedNoMore =
    (n : Night) (s : Session) (sessions : List Session) (c : ℕ) → AreSessions n (s ∷ sessions)
    → Contains (take s.acked s.turns) (EndOk c) → reported c sessions ≡ 0

-- A command is reported once, once more for each retry, for each interruption and for each crash,
-- at most.
abbrev pub ReportsAreBounded : Type 0
ReportsAreBounded =
    (n : Night) (sessions : List Session) (c : ℕ) (command : Command) → IsFresh n
    → AreSessions n sessions → slice_get n.commands c ≡ Some command
    → length n.known ≡ length n.commands
    → reported c sessions ≤ 1 + command.retries + (stopped c sessions + length sessions)

-- An acknowledged begin stands after the acknowledged ends of all commands that it needs to have
-- ended well, in its session; or they had ended so before.
abbrev pub ReportsAreInOrder : Type 0
ReportsAreInOrder =
    (n : Night) (s : Session) (prefix : List Turn) (now c d : ℕ) (sizes chosen : List ℕ)
    (rest : List Turn) (need : Need) → IsSession n s
    → s.turns ≡ prefix ++ Begin now sizes chosen ∷ rest → length prefix < s.acked
    → Contains chosen c → HasNeed n.commands c need → need.when ≡ Well → Names n c need d
    → (has_ended_ok n d ≡ true) ⊎ Contains (take s.acked s.turns) (EndOk d)
