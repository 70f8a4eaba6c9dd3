-- What the lines of a round report, besides how the plan grows.
use Rattle.std.specs.Prelude.{◌≡◌, ◌<◌, ◌≤◌, ◌==◌, ◌||◌, ◌++◌, ◌∷◌, ℕ, Bool, true, false}
use Rattle.std.specs.Prelude.{List, [], Option, Some, None}
use Rattle.std.specs.List.{filter_map, list_any}
use Rattle.std.specs.Option.{option_or}
use Rattle.plan_lines.specs.declared.lines.PlanLine.TheVariants as line
use Rattle.run_model.specs.declared.bounds.TheConstants.{GREATEST_MOMENT}
use Rattle.drive_lines.specs.declared.reports.Report.{Report}
use Rattle.drive_lines.specs.declared.reports.Report.TheVariants as report
use Rattle.drive_steps.specs.declared.cancels.CommandCancel.{CommandCancel}
use Rattle.drive_steps.specs.declared.cancels.GroupCancel.{GroupCancel}
use Rattle.drive_steps.specs.declared.heard.Ended.{Ended}
use Rattle.drive_steps.specs.Heard.{has_ended}
use Rattle.drive_parts.specs.declared.heard.Counts.{Counts}
use Rattle.drive_parts.specs.declared.heard.Fact.{Fact}
use Rattle.drive_parts.specs.declared.heard.Fact.TheVariants as fact
use Rattle.drive_parts.specs.declared.heard.Heard.{Heard}
use Rattle.drive_parts.specs.declared.heard.PoolSize.{PoolSize}

-- ---- one line

-- The end of a try: the task that the line names, with the outcome that the line gives.
abbrev pub end_of : Report → Option Ended
end_of (report.Ended task outcome) = Some (record { task = task; outcome = outcome })
end_of _ = None

-- The task of a try that is over, and of which nobody knows how it ended.
abbrev pub gone_of : Report → Option ℕ
gone_of (report.Gone task) = Some task
gone_of _ = None

-- The cancel of a command, and that of a group, each with its reason.
abbrev pub cancel_of : Report → Option CommandCancel
cancel_of (report.Cancel command why) = Some (record { command = command; why = why })
cancel_of _ = None

abbrev pub done_of : Report → Option GroupCancel
done_of (report.Done group why) = Some (record { group = group; why = why })
done_of _ = None

-- The time of a line.
abbrev pub time_of : Report → Option ℕ
time_of (report.Plan (line.Now moment)) = Some moment
time_of _ = None

-- The size that a pool has from now on.
abbrev pub size_of : Report → Option PoolSize
size_of (report.Plan (line.Size pool size)) = Some (record { pool = pool; size = size })
size_of _ = None

-- No retry waits for its time any longer.
abbrev pub is_hurry : Report → Bool
is_hurry report.Hurry = true
is_hurry _ = false

-- The executor asks how each command stands.
abbrev pub is_question : Report → Bool
is_question (report.Plan line.Standings) = true
is_question _ = false

-- The command of which the executor asks for the last error, and the group of which it asks for the
-- first one.
abbrev pub ask_of : Report → Option ℕ
ask_of (report.Ask command) = Some command
ask_of _ = None

abbrev pub group_ask_of : Report → Option ℕ
group_ask_of (report.First group) = Some group
group_ask_of _ = None

-- The line says that the try of this task is over.
abbrev pub is_over : (task : ℕ) → Report → Bool
is_over task (report.Ended other outcome) = other == task
is_over task (report.Gone other) = other == task
is_over task _ = false

-- ---- some lines

-- The last value that lines have.
abbrev pub last_of : {A : Type 0} → (Report → Option A) → List Report → Option A
last_of f [] = None
last_of f (r ∷ rest) = option_or (last_of f rest) (f r)

-- This is exactly what some lines report, each kind in the order of its lines. The time is the one
-- that was reported last.
pub record AreHeard (reports : List Report) (h : Heard) : Type 0 where
  pub ends : h.ends.items ≡ filter_map end_of reports
  pub gone : h.gone.items ≡ filter_map gone_of reports
  pub cancels : h.cancels.items ≡ filter_map cancel_of reports
  pub done : h.done.items ≡ filter_map done_of reports
  pub time : h.time ≡ last_of time_of reports
  pub sizes : h.sizes.items ≡ filter_map size_of reports
  pub hurry : h.hurry ≡ list_any is_hurry reports
  pub asked : h.asked ≡ list_any is_question reports
  pub asks : h.asks.items ≡ filter_map ask_of reports
  pub firsts : h.firsts.items ≡ filter_map group_ask_of reports

-- The end of a try can be reported, if the try lives, and if no line before has reported it.
pub record MayEnd (living : List ℕ) (reports : List Report) (task : ℕ) : Type 0 where
  pub lives : list_any (λ other. other == task) living ≡ true
  pub first : list_any (is_over task) reports ≡ false

-- After some lines, a line can report this. It names only what exists, and the clock of a store can
-- come to its moment. No line by which a plan grows is one of these.
abbrev pub MayReport : Counts → (living : List ℕ) → List Report → Report → Type 0
MayReport counts living reports (report.Plan (line.Now moment)) = moment ≤ GREATEST_MOMENT
MayReport counts living reports (report.Plan (line.Size pool size)) = pool < counts.pools
MayReport counts living reports (report.Plan line.Standings) = Unit {0}
MayReport counts living reports (report.Ended task outcome) = MayEnd living reports task
MayReport counts living reports (report.Gone task) = MayEnd living reports task
MayReport counts living reports (report.Cancel command why) = command < counts.commands
MayReport counts living reports (report.Done group why) = group < counts.groups
MayReport counts living reports report.Hurry = Unit {0}
MayReport counts living reports (report.Ask command) = command < counts.commands
MayReport counts living reports (report.First group) = group < counts.groups
MayReport counts living reports _ = ⊥

-- ---- for private functions: no public contract cites what follows

-- The line that reports a fact.
abbrev pub line_of : Fact → Report
line_of (fact.End end) = report.Ended end.task end.outcome
line_of (fact.Gone task) = report.Gone task
line_of (fact.Cancel cancel) = report.Cancel cancel.command cancel.why
line_of (fact.Done cancel) = report.Done cancel.group cancel.why
line_of (fact.Now moment) = report.Plan (line.Now moment)
line_of (fact.Size size) = report.Plan (line.Size size.pool size.size)
line_of fact.Question = report.Plan line.Standings
line_of fact.Hurry = report.Hurry
line_of (fact.Ask command) = report.Ask command
line_of (fact.First group) = report.First group

-- What was heard names the task of a try that is over.
abbrev pub names_task : Heard → (task : ℕ) → Bool
names_task h task =
    has_ended h.ends.items task || list_any (λ gone. gone == task) h.gone.items

-- One more line was heard.
pub record HearsLine (r : Report) (h m : Heard) : Type 0 where
  pub ends : m.ends.items ≡ h.ends.items ++ filter_map end_of (r ∷ [])
  pub gone : m.gone.items ≡ h.gone.items ++ filter_map gone_of (r ∷ [])
  pub cancels : m.cancels.items ≡ h.cancels.items ++ filter_map cancel_of (r ∷ [])
  pub done : m.done.items ≡ h.done.items ++ filter_map done_of (r ∷ [])
  pub time : m.time ≡ option_or (time_of r) h.time
  pub sizes : m.sizes.items ≡ h.sizes.items ++ filter_map size_of (r ∷ [])
  pub hurry : m.hurry ≡ (h.hurry || is_hurry r)
  pub asked : m.asked ≡ (h.asked || is_question r)
  pub asks : m.asks.items ≡ h.asks.items ++ filter_map ask_of (r ∷ [])
  pub firsts : m.firsts.items ≡ h.firsts.items ++ filter_map group_ask_of (r ∷ [])

-- A line reports this fact, or it can't report anything.
abbrev pub Reads : Counts → (living : List ℕ) → List Report → Report → Option Fact → Type 0
Reads counts living reports r None = MayReport counts living reports r → ⊥
Reads counts living reports r (Some f) =
    MayReport counts living reports r × (r ≡ line_of f)

-- The same of the task of a try that is over.
abbrev pub ReadsTask : (living : List ℕ) → List Report → ℕ → Option ℕ → Type 0
ReadsTask living reports task None = MayEnd living reports task → ⊥
ReadsTask living reports task (Some t) = MayEnd living reports task × (task ≡ t)
