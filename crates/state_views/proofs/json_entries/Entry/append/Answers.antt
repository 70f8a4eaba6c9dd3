use Rattle.std.proofs.Common.{arith}
use Rattle.console_lines.proofs.Appending.{appended_within}
use Rattle.state_views.proofs.json_entries.Entry.append.Goals as goal

pub returns-in-Store : goal.returns-in-Store
returns-in-Store g c = rw c.in-Store.is (appended_within 550 c.push_store.ensures (omega arith))

pub returns-in-Task : goal.returns-in-Task
returns-in-Task g c = rw c.in-Task.is (appended_within 550 c.push_task.ensures (omega arith))
