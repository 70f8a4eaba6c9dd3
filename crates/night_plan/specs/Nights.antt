-- How far the commands of a night are, by the plan and the facts: which have ended, which never
-- begin again, and which may begin.
use Rattle.std.specs.Prelude.{◌≡◌, ◌+◌, ◌-◌, ◌*◌, ◌^◌, ◌&&◌, ◌||◌, ◌⊎◌, nat_lt, nat_le, not, min}
use Rattle.std.specs.Prelude.{ℕ, Bool, true, false, cond, List, Option, Some, None, length}
use Rattle.std.specs.Prelude.{slice_get, ◌==◌}
use Rattle.std.specs.List.{list_all}
use Rattle.std.specs.Option.{option_map_or, option_and_then}
use Rattle.night_plan.specs.declared.commands.Way.{Way}
use Rattle.night_plan.specs.declared.commands.Way.TheVariants as way
use Rattle.night_plan.specs.declared.commands.When.{When}
use Rattle.night_plan.specs.declared.commands.When.TheVariants as when
use Rattle.night_plan.specs.declared.commands.Need.{Need}
use Rattle.night_plan.specs.declared.commands.Group.{Group as GroupLine}
use Rattle.night_plan.specs.declared.commands.Command.{Command}
use Rattle.night_plan.specs.declared.commands.Plan.{Plan}
use Rattle.night_plan.specs.declared.facts.Phase.{Phase}
use Rattle.night_plan.specs.declared.facts.Phase.TheVariants as phase
use Rattle.night_plan.specs.declared.facts.Known.{Known}
use Rattle.night_plan.specs.declared.facts.Facts.{Facts}
use Rattle.night_plan.specs.Plans.{is_of, horizon, names, HasNeed}

-- A night so far: the lines of its plan, what is known of each command, and which groups are done.
pub record Night : Type 0 where
  pub first : ℕ
  pub groups : List GroupLine
  pub commands : List Command
  pub known : List Known
  pub done : List Bool

abbrev pub night : Plan → Facts → Night
night plan facts = record {
  first = plan.first;
  groups = plan.groups.items;
  commands = plan.commands.items;
  known = facts.known.items;
  done = facts.done.items;
}

-- The facts have a row for each command, each group and each pool of the plan.
pub record AreFacts (plan : Plan) (facts : Facts) : Type 0 where
  pub known : length facts.known.items ≡ length plan.commands.items
  pub done : length facts.done.items ≡ length plan.groups.items
  pub sizes : length facts.sizes.items ≡ length plan.pools.items

-- ---- one command

abbrev pub is_busy : Phase → Bool
is_busy phase.Busy = true
is_busy _ = false

abbrev pub is_ok : Phase → Bool
is_ok phase.EndedOk = true
is_ok _ = false

abbrev pub is_failed : Phase → Bool
is_failed (phase.Failed last) = true
is_failed _ = false

abbrev pub is_cut : Phase → Bool
is_cut phase.Canceled = true
is_cut _ = false

-- A command is a cleanup: it has needs, and comes after the end of each, however that was.
abbrev pub is_ended : When → Bool
is_ended when.Ended = true
is_ended _ = false

abbrev pub is_cleanup : Command → Bool
is_cleanup command =
    not (length command.needs.items == 0)
    && list_all (λ need. is_ended need.when) command.needs.items

-- Group g is done: canceled, or past its deadline.
abbrev pub is_done : List Bool → ℕ → Bool
is_done done g = option_map_or (λ b. b) (slice_get done g) false

-- A command is canceled: by itself, or with its group, unless it is a cleanup.
abbrev pub is_canceled : List Bool → Command → Known → Bool
is_canceled done command fact =
    fact.canceled
    || (is_cut fact.phase || (not (is_cleanup command) && is_done done command.group))

-- It has failed for good: its last try failed, and no retry is left or it is canceled.
abbrev pub is_spent : List Bool → Command → Known → Bool
is_spent done command fact =
    is_failed fact.phase
    && (nat_lt command.retries fact.failures || is_canceled done command fact)

-- How many seconds the retry after this many failures waits.
abbrev pub delay : Command → ℕ → ℕ
delay command failures = min (command.wait * command.factor ^ (failures - 1)) command.cap

-- Until when the next try waits. A failure in the future, by a clock that was set back, says
-- nothing.
abbrev pub until : Command → ℕ → ℕ → Phase → Option ℕ
until command now failures (phase.Failed last) =
    cond (nat_le last now && nat_lt now (last + delay command failures))
    (Some (last + delay command failures)) None
until command now failures _ = None

-- ---- in the night

-- What a test says of command c.
abbrev pub at : Night → ℕ → (Command → Known → Bool) → Bool
at n c test =
    option_map_or (λ command. option_map_or (test command) (slice_get n.known c) false)
    (slice_get n.commands c) false

abbrev pub has_ended_ok : Night → ℕ → Bool
has_ended_ok n c = at n c (λ command fact. is_ok fact.phase)

abbrev pub runs : Night → ℕ → Bool
runs n c = at n c (λ command fact. is_busy fact.phase)

-- No try of it runs, and it has not ended well.
abbrev pub is_idle : Night → ℕ → Bool
is_idle n c = at n c (λ command fact. not (is_busy fact.phase) && not (is_ok fact.phase))

abbrev pub failed_last : Night → ℕ → Bool
failed_last n c = at n c (λ command fact. is_failed fact.phase)

abbrev pub has_spent : Night → ℕ → Bool
has_spent n c = at n c (is_spent n.done)

abbrev pub was_canceled : Night → ℕ → Bool
was_canceled n c = at n c (is_canceled n.done)

abbrev pub cleans_up : Night → ℕ → Bool
cleans_up n c = at n c (λ command fact. is_cleanup command)

abbrev pub waits : Night → ℕ → ℕ → Option ℕ
waits n now c =
    option_and_then (λ command. option_and_then
    (λ fact. until command now fact.failures fact.phase) (slice_get n.known c))
    (slice_get n.commands c)

abbrev pub stops : Way → Bool
stops way.GoOn = false
stops way.Stop = true
stops way.Cancel = true

abbrev pub cancels : Way → Bool
cancels way.GoOn = false
cancels way.Stop = false
cancels way.Cancel = true

-- What a test says of group g.
abbrev pub group_is : Night → ℕ → (GroupLine → Bool) → Bool
group_is n g test = option_map_or test (slice_get n.groups g) false

-- Group g has stopped: it doesn't go on after a failure, and a command of it failed for good.
pub record HasStopped (n : Night) (g : ℕ) : Type 0 where
  pub stops : group_is n g (λ group. stops group.way) ≡ true
  pub by : ℕ
  pub of : is_of n.commands g by ≡ true
  pub failed : has_spent n by ≡ true

-- The group of command c has stopped, which stops all its commands but cleanups.
pub record IsStopped (n : Night) (c : ℕ) : Type 0 where
  pub group : ℕ
  pub of : is_of n.commands group c ≡ true
  pub stopped : HasStopped n group
  pub plain : cleans_up n c ≡ false

-- Command c is lost by itself: it is idle, and failed for good, is canceled, or its group has
-- stopped.
pub record IsLost (n : Night) (c : ℕ) : Type 0 where
  pub idle : is_idle n c ≡ true
  pub why : (has_spent n c ≡ true) ⊎ ((was_canceled n c ≡ true) ⊎ IsStopped n c)

-- Command c failed: its last try failed, and it has no other.
abbrev pub HasFailed : Night → ℕ → Type 0
HasFailed n c = (failed_last n c ≡ true) × IsLost n c

-- A need of command c names command d.
abbrev pub Names : Night → ℕ → Need → ℕ → Type 0
Names n c need d = names n.commands (horizon n.first c) need.of d ≡ true

-- Command c never begins again: it is lost; or idle, and a need of it stays in vain. A need that
-- commands end well is in vain once one of them never begins again, and a need that one fails once
-- each has ended well or never begins again, and none has failed.
pub data IsNever (n : Night) : ℕ → Type 0 where
  Lost : (c : ℕ) → IsLost n c → IsNever n c
  NotWell : (c d : ℕ) (need : Need) → is_idle n c ≡ true → HasNeed n.commands c need
      → need.when ≡ when.Well → Names n c need d → IsNever n d → IsNever n c
  NotFailed : (c : ℕ) (need : Need) → is_idle n c ≡ true → HasNeed n.commands c need
      → need.when ≡ when.Failed
      → ((d : ℕ) → Names n c need d → has_ended_ok n d ≡ false → IsNever n d)
      → ((d : ℕ) → Names n c need d → HasFailed n d → ⊥) → IsNever n c

-- Command c is final: it has ended well, or never begins again.
abbrev pub IsFinal : Night → ℕ → Type 0
IsFinal n c = (has_ended_ok n c ≡ true) ⊎ IsNever n c

-- A need of command c is met.
abbrev pub IsMetBy : Night → ℕ → Need → When → Type 0
IsMetBy n c need when.Well = (d : ℕ) → Names n c need d → has_ended_ok n d ≡ true
IsMetBy n c need when.Failed = (d : ℕ) × Names n c need d × HasFailed n d
IsMetBy n c need when.Ended = (d : ℕ) → Names n c need d → IsFinal n d

abbrev pub IsMet : Night → ℕ → Need → Type 0
IsMet n c need = IsMetBy n c need need.when

-- Command c may begin, now or after a wait: it is idle and not lost, and each need of it is met.
pub record MayBegin (n : Night) (c : ℕ) : Type 0 where
  pub idle : is_idle n c ≡ true
  pub free : IsLost n c → ⊥
  pub met : (need : Need) → HasNeed n.commands c need → IsMet n c need

-- Command c is ready.
pub record IsReady (n : Night) (now c : ℕ) : Type 0 where
  pub may : MayBegin n c
  pub due : waits n now c ≡ None

-- Command c is ready at a moment to come, if nothing changes.
pub record IsWaiting (n : Night) (now c moment : ℕ) : Type 0 where
  pub may : MayBegin n c
  pub due : waits n now c ≡ Some moment
