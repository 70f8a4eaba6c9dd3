use Rattle.std.specs.Prelude.{◌<◌, ◌≤◌, length, take}
use Rattle.std.proofs.Common.{ap, sym, ◌∙◌, arith}
use Rattle.std.proofs.lemmas.List.{take_all}
use Rattle.run_model.specs.Tasks.{is_admitted}
use Rattle.console_lines.specs.Tallies.{tallies_of}
use Rattle.run_console.proofs.Counting.{few_counted}
use Rattle.state_views.proofs.SeenRows.{seen_row}
use Rattle.run_console.proofs.tally_replies.count_tasks.Goals as goal

pub loop-task-preserved : goal.loop-task-preserved
loop-task-preserved g c =
    let p = c.args.state.now in
    let n = c.loop-task.task in
    let seen = seen_row p n c.unwrap-look.result _ c.task.ensures c.unwrap-look.ensures in
    let few : n < 8192 =
    omega (arith, c.loop-task-test.true, c.task_count-task-end.ensures.few) in
    c.in_ok-add.ensures.added (take n p.work.tasks) seen.row (is_admitted p.work n seen.row)
    c.loop-task.invariant (few_counted p.work.tasks n few) seen.job seen.phase
    ∙ ap tallies_of (sym seen.more)

pub returns-clause-counted : goal.returns-clause-counted
returns-clause-counted g c =
    let tasks = c.args.state.now.work.tasks in
    let all : length tasks ≤ c.loop-task.task =
    omega (arith, c.loop-task-test.false, c.task_count-task-end.ensures) in
    c.loop-task.invariant ∙ ap tallies_of (take_all c.loop-task.task tasks all)
