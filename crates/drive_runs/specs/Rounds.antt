-- A round goes on once what was heard is recorded.
use Rattle.std.specs.Prelude.{◌≡◌, ◌⊎◌, ◌&&◌, ◌==◌, ◌++◌, ℕ, Bool, true, false, List, [], Option}
use Rattle.std.specs.Prelude.{Some, None, All, Contains, is_none, length, ltb, map, slice_get}
use Rattle.std.specs.List.{list_all, list_any}
use Rattle.std.specs.Option.{option_map}
use Rattle.run_model.specs.Event.{Event}
use Rattle.run_model.specs.Event as event
use Rattle.run_model.specs.State.{State}
use Rattle.run_model.specs.declared.faults.Fault.{Fault}
use Rattle.run_disk.specs.Disk.{DiskState}
use Rattle.book_model.specs.Books.{BookView}
use Rattle.night_plan.specs.Nights.{Night}
use Rattle.night_plan.specs.Standings.{Stands, is_final}
use Rattle.night_plan.specs.declared.standings.Standing.{Standing}
use Rattle.night_drive.specs.PlanTurns.{night_in}
use Rattle.plan_lines.specs.Rounds.{later_lines, standing_lines}
use Rattle.drive_lines.specs.declared.orders.Order.{Order}
use Rattle.drive_lines.specs.declared.orders.Order.TheVariants as order
use Rattle.drive_nights.specs.Deadlines.{IsNextMoment}
use Rattle.drive_steps.specs.declared.reported.Begun.{Begun}
use Rattle.drive_steps.specs.declared.stops.Stop.{Stop}
use Rattle.drive_runs.specs.declared.begins.Beginning.{Beginning}
use Rattle.drive_runs.specs.declared.bindings.Binding.{Binding}
use Rattle.drive_runs.specs.declared.living.Living.{Living}
use Rattle.drive_runs.specs.declared.rounds.Course.{Course}
use Rattle.drive_runs.specs.declared.rounds.Course.TheVariants as course
use Rattle.drive_runs.specs.declared.rounds.Orders.{Orders}
use Rattle.drive_runs.specs.declared.sittings.Sitting.{Sitting}
use Rattle.drive_runs.specs.Asks.{Questions, error_lines}
use Rattle.drive_runs.specs.Begins.{Begins}
use Rattle.drive_runs.specs.Living.{tries_of, with_begun}
use Rattle.drive_runs.specs.Moving.{IsSaved}
use Rattle.drive_runs.specs.Sittings.{DiffersInTries, IsSameNight}
use Rattle.drive_runs.specs.Stops.{AreDue, stop_line}
use Rattle.drive_runs.specs.Tries.{try_name}

-- ---- the lines of a round

-- The line with which a command begins names the command, its task and its try.
abbrev pub begin_line : State → Begun → Option Order
begin_line p begin =
    option_map (λ named. order.Begin begin.command begin.task named) (try_name p begin.task)

-- These are the lines with which these commands begin, in this order.
abbrev pub AreBegins : State → List Begun → List Order → Type 0
AreBegins p begun lines = map (begin_line p) begun ≡ map Some lines

-- The lines that say how the commands stand, if the executor asked for them.
abbrev pub asked_lines : (asked : Bool) → List Standing → List Order
asked_lines true all = map order.Answer (standing_lines 0 all)
asked_lines false all = []

-- ---- the end of a night

-- This is how each command of a night stands.
pub record AreStandings (n : Night) (now : ℕ) (all : List Standing) : Type 0 where
  pub sized : length all ≡ length n.commands
  pub each : (c : ℕ) (standing : Standing) → slice_get all c ≡ Some standing
      → Stands n now c standing

-- Each command stands so that it is final, and no try lives.
abbrev pub is_over : List Standing → List Living → Bool
is_over all living = list_all is_final all && length living == 0

-- ---- what a round leaves

-- The start of each of these tasks is one of the events that the book got, and all events of the
-- book are acknowledged.
pub record AreStarted {D : Type 0} (old : BookView D) (begun : List Begun) (new : BookView D)
    : Type 0 where
  pub events : List Event
  pub history : new.session.history ≡ old.session.history ++ events
  pub started : All (λ (begin : Begun). Contains events (event.Start begin.task)) begun
  pub saved : IsSaved new

-- These tries live now, too. Nothing else has changed but which tries have to stop.
pub record LivesOn (before : Sitting) (begun : List Begun) (after : Sitting) : Type 0 where
  pub same : IsSameNight before after
  pub sizes : after.kept.sizes ≡ before.kept.sizes
  pub ends : after.kept.ends ≡ before.kept.ends
  pub living : tries_of after.kept.living.items ≡ tries_of before.kept.living.items ++ begun

-- This is the next moment at which something comes by itself: the next retry, or a deadline. There
-- is none if the night is over.
abbrev pub IsNext : (over : Bool) → State → Sitting → (retry next : Option ℕ) → Type 0
IsNext true p s retry next = next ≡ None
IsNext false p s retry next = IsNextMoment p s.kept.night s.names.groups.items retry next

-- The orders of a round are these lines, and no others: those with which commands begin; a stop for
-- each living try for which one is due; the next moment, if there is one; if the executor asked for
-- it, how each command stands; and the errors for which it asked, by the same rows. The night is
-- over exactly if each command stands so that it is final, and no try lives. (While a try lives it
-- isn't over, however commands stand. So nobody needs to know that then, unless the executor asks.)
pub record AreOrders (begins : List Order) (p : State) (s : Sitting) (living : List Living)
    (retry : Option ℕ) (asked : Questions) (orders : Orders) (t : Sitting) : Type 0 where
  pub stops : List Stop
  pub due : AreDue p s.kept.ends s.plan s.names living stops t.kept.living.items
  pub standings : List Standing
  pub stand : (asked.standings ≡ true) ⊎ (living ≡ [])
      → AreStandings (night_in p s.kept.ends s.plan s.names) p.tree.clock standings
  pub next : Option ℕ
  pub comes : IsNext orders.is_over p t retry next
  pub lines : orders.lines.items ≡ begins ++ (map stop_line stops
      ++ (map order.Answer (later_lines next) ++ (asked_lines asked.standings standings
      ++ error_lines p s.plan s.names asked)))
  pub over : orders.is_over ≡ is_over standings t.kept.living.items

-- Commands were chosen and got tasks, whose starts are acknowledged. The orders report that these
-- commands begin, and no others. They are made from the rows that are acknowledged then.
pub record HasBegun {D : Type 0} (state : D → DiskState) (before : Sitting) (asked : Questions)
    (old : BookView D) (orders : Orders) (after : Sitting) (new : BookView D) : Type 0 where
  pub made : Beginning
  pub begins : Begins state before.kept.ends before.plan before.names before.kept.sizes.items old
      made new
  pub begun : List Begun
  pub reported : option_map (λ all. all.items) made.binding.begun ≡ Some begun
  pub started : AreStarted old begun new
  pub lines : List Order
  pub theirs : AreBegins new.session.state begun lines
  pub are : AreOrders lines new.session.state before
      (with_begun before.kept.living.items begun) made.choice.later asked orders after
  pub living : LivesOn before begun after

-- ---- how a round went on

-- These tries live now, too. Nothing else has changed.
pub record AddsTries (before : Sitting) (begun : List Begun) (after : Sitting) : Type 0 where
  pub others : DiffersInTries before after
  pub living : after.kept.living.items ≡ with_begun before.kept.living.items begun

-- No step met a fault, and one was refused: so the log or the store had no room for it.
pub record HadNoRoom (made : Binding) (before after : Sitting) : Type 0 where
  pub none : made.begun ≡ None
  pub sound : made.fault ≡ None
  pub left : AddsTries before [] after

-- These commands have begun. But a task that was started isn't there, or a living try isn't one of
-- a command of the plan.
pub record IsAstray (p : State) (made : Binding) (before after : Sitting) : Type 0 where
  pub begun : List Begun
  pub reported : option_map (λ all. all.items) made.begun ≡ Some begun
  pub left : AddsTries before begun after
  pub lost : (list_any (λ (begin : Begun). is_none (try_name p begin.task)) begun ≡ true)
      ⊎ (list_all (λ (one : Living). ltb one.command (length before.plan.commands.items))
      after.kept.living.items ≡ false)

-- Commands were chosen, but the round couldn't go on.
abbrev pub WasRefused : {D : Type 0} → (D → DiskState) → (before : Sitting) → (old : BookView D)
    → (after : Sitting) → (new : BookView D) → Type 0
WasRefused state before old after new =
    (made : Beginning) × Begins state before.kept.ends before.plan before.names
    before.kept.sizes.items old made new
    × (HadNoRoom made.binding before after
    ⊎ IsAstray new.session.state made.binding before after)

-- How it went on if no command could begin: a step met this fault, or one was refused.
abbrev pub unbegun : Option Fault → Course
unbegun None = course.Refused
unbegun (Some fault) = course.Faulty fault

-- If it went on, commands have begun, and these are its orders. It went on unless a step was
-- refused or met a fault.
abbrev pub GoesOn : {D : Type 0} → (D → DiskState) → (before : Sitting) → (asked : Questions)
    → (old : BookView D) → Course → (after : Sitting) → (new : BookView D) → Type 0
GoesOn state before asked old (course.On orders) after new =
    HasBegun state before asked old orders after new
GoesOn state before asked old course.Refused after new = WasRefused state before old after new
GoesOn state before asked old (course.Faulty fault) after new =
    (made : Beginning) × Begins state before.kept.ends before.plan before.names
    before.kept.sizes.items old made new
    × (made.binding.begun ≡ None) × (made.binding.fault ≡ Some fault)
