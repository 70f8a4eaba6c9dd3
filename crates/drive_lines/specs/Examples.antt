-- Examples: the lines of the sessions on the page about driven nights.
use Rattle.std.specs.Prelude.{◌++◌, ◌∷◌, ℕ, List, [], codes}
use Rattle.std.specs.List.{flat_map}
use Rattle.night_plan.specs.declared.commands.Way.TheVariants as way
use Rattle.plan_lines.specs.declared.answers.AnswerLine.TheVariants as answer
use Rattle.plan_lines.specs.declared.lines.PlanLine.TheVariants as line
use Rattle.run_model.specs.declared.tasks.Outcome.TheVariants as outcome
use Rattle.drive_lines.specs.declared.fields.TryName.{TryName}
use Rattle.drive_lines.specs.declared.orders.Order.{Order}
use Rattle.drive_lines.specs.declared.orders.Order.TheVariants as order
use Rattle.drive_lines.specs.declared.reports.Report.{Report}
use Rattle.drive_lines.specs.declared.reports.Report.TheVariants as report
use Rattle.drive_lines.specs.Phrases.{phrase_text}
use Rattle.drive_lines.specs.Reports.{report_phrase}

-- Lines of the executor, one after the other, each with its LF.
abbrev pub report_lines : List Report → List ℕ
report_lines reports = flat_map (λ r. phrase_text (report_phrase r) ++ 10 ∷ []) reports

-- A try of a command of the group `dumps`.
abbrev pub try_of : (key : List ℕ) (number : ℕ) → TryName
try_of key number = record { group = codes "dumps"; key = key; number = number }

-- Two commands, of which one runs at a time.
abbrev pub planned : List Report
planned =
    report.Plan (line.Pool 1)
    ∷ report.Group (record { priority = 0; way = way.Stop }) (codes "dumps")
    ∷ report.Command
    (record { group = 0; priority = 0; retries = 1; wait = 30; factor = 2; cap = 600 })
    (codes "users")
    ∷ report.Plan (line.Take (record { pool = 0; amount = 1 }))
    ∷ report.Command
    (record { group = 0; priority = 0; retries = 0; wait = 0; factor = 1; cap = 0 })
    (codes "orders")
    ∷ report.Plan (line.Take (record { pool = 0; amount = 1 }))
    ∷ []

-- The plan is accepted, and the first night begins.
abbrev pub accepted : List Order
accepted = order.Answer (answer.Plan 2) ∷ order.Night 1 ∷ order.Answer answer.End ∷ []

-- A command fails, and is tried again after 30 seconds. Meanwhile another one begins.
abbrev pub failed : List Report
failed =
    report.Ended 0 (outcome.Failure (codes "exit 1")) ∷ report.Plan (line.Now 1005) ∷ []

abbrev pub begun : List Order
begun =
    order.Begin 1 1 (try_of (codes "orders") 0)
    ∷ order.Answer (answer.Later 1035)
    ∷ order.Durable
    ∷ order.Answer answer.End
    ∷ []

-- That one is canceled, and has to stop.
abbrev pub canceled : List Report
canceled = report.Plan (line.Now 1040) ∷ report.Cancel 1 (codes "by hand") ∷ []

abbrev pub stopped : List Order
stopped =
    order.Stop 1 (codes "by hand") ∷ order.Durable ∷ order.Answer answer.End ∷ []

-- It is gone, and the first command begins again.
abbrev pub gone : List Report
gone = report.Gone 1 ∷ report.Plan (line.Now 1042) ∷ []

abbrev pub begun_again : List Order
begun_again =
    order.Begin 0 2 (try_of (codes "users") 1) ∷ order.Durable ∷ order.Answer answer.End ∷ []

-- The same failure in a round that asks for errors. Command 1 has none.
abbrev pub asked : List Report
asked = failed ++ (report.Ask 0 ∷ report.Ask 1 ∷ report.First 0 ∷ [])

abbrev pub answered : List Order
answered =
    order.Begin 1 1 (try_of (codes "orders") 0)
    ∷ order.Answer (answer.Later 1035)
    ∷ order.Error 0 (codes "exit 1")
    ∷ order.First 0 (codes "exit 1")
    ∷ order.Durable
    ∷ order.Answer answer.End
    ∷ []

-- The plan grows by a pool, and by a command that takes all of it.
abbrev pub grown : List Report
grown =
    report.Plan (line.Pool 2)
    ∷ report.Command
    (record { group = 0; priority = 0; retries = 0; wait = 0; factor = 1; cap = 0 })
    (codes "files")
    ∷ report.Plan (line.Take (record { pool = 1; amount = 2 }))
    ∷ report.Plan (line.Now 1006)
    ∷ []

abbrev pub begun_more : List Order
begun_more =
    order.Begin 2 2 (try_of (codes "files") 0)
    ∷ order.Answer (answer.Later 1035)
    ∷ order.Durable
    ∷ order.Answer answer.End
    ∷ []
