use Rattle.run_model.proofs.Common.{◌≡◌, ◌<◌, ℕ, Bool, List, length, get_or, ◌∙◌, list_any}
use Rattle.run_model.proofs.Common.{get_or_from_slice_get, is_retry_of}
use Rattle.run_model.specs.declared.tasks.Task.{Task}
use Rattle.task_group.specs.Flags.{AreFlagged}
use Rattle.task_group.proofs.groups.Groups.is_retried.Goals as goal

-- The flag of task m says whether it was retried.
flag_is : (tasks : List Task) (flags : List Bool) (m : ℕ) (flag : Bool) → AreFlagged tasks flags
    → m < length tasks → flag ≡ get_or flags m flag → flag ≡ list_any (is_retry_of m) tasks
flag_is tasks flags m flag flagged known read =
    read
    ∙ get_or_from_slice_get flags m (list_any (is_retry_of m) tasks) flag (flagged.right m known)

pub index-requires : goal.index-requires
index-requires g c =
    let known = rw (← c.self.view_is) at c.requires in
    rw (c.self.inside.retried.ok.0, c.self.invariant.0.flagged.same) known

pub returns : goal.returns
returns g c =
    let s = c.self.inside in
    let known = rw (← c.self.view_is) at c.requires in
    rw (← c.self.view_is)
    (flag_is s.tasks.items s.retried.items c.args.task c.index.result.now
    c.self.invariant.0.flagged known c.index.ensures)
