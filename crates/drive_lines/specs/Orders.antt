-- How each line of the program is spelled.
use Rattle.std.specs.Prelude.{◌++◌, ◌∷◌, ℕ, List, [], codes}
use Rattle.std.specs.Fmt.{decimal}
use Rattle.std.specs.List.{flat_map}
use Rattle.run_model.specs.Faults.{fault_text}
use Rattle.plan_lines.specs.Answers.{answer_text}
use Rattle.drive_lines.specs.declared.fields.TryName.{TryName}
use Rattle.drive_lines.specs.declared.orders.Order.{Order}
use Rattle.drive_lines.specs.declared.orders.Order.TheVariants as order
use Rattle.drive_lines.specs.Fields.{try_text}
use Rattle.drive_lines.specs.Spaces.{spaced}

-- A command, its task, and its try.
abbrev pub task_text : (command task : ℕ) → TryName → List ℕ
task_text command task t = spaced (decimal command) (spaced (decimal task) (try_text t))

-- A line of the program, without its LF.
abbrev pub order_text : Order → List ℕ
order_text (order.Answer a) = answer_text a
order_text (order.Night n) = codes "night " ++ decimal n
order_text (order.Name g) = codes "name " ++ decimal g
order_text (order.Twice c) = codes "twice " ++ decimal c
order_text (order.Other task) = codes "other " ++ decimal task
order_text (order.Begin c task t) = spaced (codes "begin") (task_text c task t)
order_text (order.Rebound c task t) = spaced (codes "rebound") (task_text c task t)
order_text (order.Stop task why) = spaced (codes "stop") (spaced (decimal task) why)
order_text (order.Error c text) = spaced (codes "error") (spaced (decimal c) text)
order_text (order.First g text) = spaced (codes "first") (spaced (decimal g) text)
order_text order.Durable = codes "durable"
order_text order.Over = codes "over"
order_text order.Full = codes "full"
order_text (order.Fault why) = fault_text why

-- A line of the program, with its LF.
abbrev pub order_line : Order → List ℕ
order_line o = order_text o ++ 10 ∷ []

-- Some lines, one after the other, each with its LF.
abbrev pub order_lines : List Order → List ℕ
order_lines lines = flat_map order_line lines
