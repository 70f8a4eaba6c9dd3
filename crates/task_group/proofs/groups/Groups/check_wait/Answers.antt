use Rattle.task_group.proofs.Checks.{wait_busy, wait_missed, wait_cancels}
use Rattle.task_group.proofs.groups.Groups.check_wait.Goals as goal

pub returns-then-group_count-group : goal.returns-then-group_count-group
returns-then-group_count-group g c count tree =
    wait_missed c.args.self.now c.args.group
    (rw c.group_count.ensures.len at c.if-group_count-group.true)

pub unfinished-unfinished-requires : goal.unfinished-unfinished-requires
unfinished-unfinished-requires g c =
    rw (← c.group_count.ensures.len) c.if-group_count-group.false

pub returns-then-unfinished-ne0 : goal.returns-then-unfinished-ne0
returns-then-unfinished-ne0 g c count tree =
    wait_busy c.args.self.now c.args.group c.unfinished-unfinished.result
    (rw c.group_count.ensures.len at c.if-group_count-group.false)
    c.unfinished-unfinished.ensures c.if-unfinished-ne0.true

pub returns-then-was_waited : goal.returns-then-was_waited
returns-then-was_waited g c count tree =
    rw c.if-was_waited.true at (wait_cancels c.args.self.now c.args.group
    c.unfinished-unfinished.result c.was_waited.result
    (rw c.group_count.ensures.len at c.if-group_count-group.false)
    c.unfinished-unfinished.ensures c.if-unfinished-ne0.false c.was_waited.ensures)

pub returns : goal.returns
returns g c count tree =
    rw c.if-was_waited.false at (wait_cancels c.args.self.now c.args.group
    c.unfinished-unfinished.result c.was_waited.result
    (rw c.group_count.ensures.len at c.if-group_count-group.false)
    c.unfinished-unfinished.ensures c.if-unfinished-ne0.false c.was_waited.ensures)
