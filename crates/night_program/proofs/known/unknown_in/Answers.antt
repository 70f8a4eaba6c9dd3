use Rattle.std.proofs.Common.{ap, sym, take, ◌∙◌}
use Rattle.run_model.specs.Tasks.{is_admitted}
use Rattle.state_views.proofs.SeenRows.{seen_row}
use Rattle.night_program.specs.Known.{unknown_in}
use Rattle.night_program.proofs.KnownTasks.{is_seen}
use Rattle.night_program.proofs.known.unknown_in.Goals as goal

pub loop-task-preserved : goal.loop-task-preserved
loop-task-preserved g c =
    let p = c.args.state.now in
    let n = c.loop-task.task in
    let seen = seen_row p n c.unwrap.result _ c.task.ensures c.unwrap.ensures in (
      c.with_task-found.ensures.more (take n p.work.tasks) seen.row c.loop-task.invariant.0
          (is_seen seen.row c.unwrap.result (is_admitted p.work n seen.row) seen.job seen.phase)
          ∙ ap unknown_in (sym seen.more),
      c.with_task-found.ensures.most n c.loop-task.invariant.1,
    )
