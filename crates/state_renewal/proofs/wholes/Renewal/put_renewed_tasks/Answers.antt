use Rattle.run_model.proofs.Common.{◌+◌, ◌*◌, ◌≤◌, ◌<◌, length, slice_get, sym, ap, subst, ◌∙◌}
use Rattle.run_model.proofs.Common.{arith, flat_map, AllByRecursion, IfSome, IsTrue, WorkState}
use Rattle.run_model.specs.declared.tasks.Task.{Task}
use Rattle.row_view.specs.declared.heads.ImageVersion.TheVariants.{Two}
use Rattle.row_view.specs.Image.{is_kept_task, task_bytes}
use Rattle.row_view.specs.Writing.{put_at}
use Rattle.state_renewal.proofs.Renewing.{links_known, tasks_lent}
use Rattle.state_renewal.proofs.wholes.Renewal.put_renewed_tasks.Goals as goal

pub put_tasks-requires : goal.put_tasks-requires
put_tasks-requires g c =
    let rules = c.count-rules.ensures.rules in
    let each = c.requires.marks.each_task in
    let left = tasks_lent c.args.state.now c.args.self.now.scopes c.args.self.now.groups
    c.args.self.now.tasks c.requires.marks
    c.groups.result.now c.groups.ensures in
    record {
      each = each ∙ ap (λ (w : WorkState). length w.tasks) (sym c.groups.ensures);
      known = λ n row found.
          subst (λ many. row.group < many) (sym c.requires.marks.each_group)
          (rules.numbered.groups n row
          (ap (λ (w : WorkState). slice_get w.tasks n) (sym c.groups.ensures) ∙ found));
      links = λ n row found.
          subst (λ many. IfSome row.retry_of (λ m. m < many)) (sym each)
          (links_known c.args.state.now rules n row
          (ap (λ (w : WorkState). slice_get w.tasks n) (sym c.groups.ensures) ∙ found));
      few = omega (arith, each, c.task_count-few.ensures.len, c.task_count-few.ensures.few);
      room =
          subst (λ rows. c.args.at + 136 * length rows ≤ length c.args.out.now) (sym left)
          c.requires.room;
    }

pub returns : goal.returns
returns g c =
    let put = c.put_tasks.ensures in
    let left = tasks_lent c.args.state.now c.args.self.now.scopes c.args.self.now.groups
    c.args.self.now.tasks c.requires.marks
    c.groups.result.now c.groups.ensures in
    record {
      end = put.end ∙ ap (λ rows. c.args.at + length (flat_map (task_bytes Two) rows)) left;
      written =
          put.written
          ∙ ap (λ rows. put_at c.args.out.now c.args.at (flat_map (task_bytes Two) rows)) left;
      kept =
          subst (AllByRecursion (λ (row : Task). IsTrue (is_kept_task Two row))) left put.kept;
      most =
          subst (λ rows. c.put_tasks.result ≤ c.args.at + 136 * length rows) left put.most;
    }
