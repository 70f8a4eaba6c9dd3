use Rattle.run_model.proofs.Common.{◌≡◌, ◌+◌, ℕ, List, length, ap, sym, subst, ◌∙◌, arith, flat_map}
use Rattle.run_model.proofs.Common.{slice_get, IsTrue, AllByRecursion, WorkState}
use Rattle.run_model.specs.declared.groups.Group.{Group}
use Rattle.run_model.specs.declared.tasks.Task.{Task}
use Rattle.row_view.specs.declared.heads.ImageVersion.TheVariants.{Two}
use Rattle.row_view.specs.Image.{group_bytes, task_bytes, is_kept_group, is_kept_task}
use Rattle.task_group.proofs.PutLoops.{put_both, put_end}
use Rattle.task_group.proofs.Rooms.{links_kept}
use Rattle.task_group.proofs.groups.Groups.write_rows.Goals as goal

pub returns-clause-written : goal.returns-clause-written
returns-clause-written g c =
    let groups = c.self.inside.groups.items in
    let room = rw (← c.self.view_is) at c.requires.room in
    let lent : length c.deref.result.now ≡ length groups = ap length c.deref.ensures.value in
    rw (← c.self.view_is)
    (put_both group_bytes (task_bytes Two) groups c.deref.result.now c.self.inside.tasks.items
    c.deref-2.result.now c.args.out.now c.put_groups-end.new.out c.put_tasks.new.out c.args.at
    c.put_groups-end.result c.deref.ensures.value c.deref-2.ensures.value
    c.put_groups-end.ensures.written c.put_groups-end.ensures.end
    (omega (arith, room, lent, c.put_groups-end.ensures.most)) c.put_tasks.ensures.written)

pub put_tasks-requires-clause-links : goal.put_tasks-requires-clause-links
put_tasks-requires-clause-links g c n row found =
    let here = ap (λ (l : List Task). slice_get l n) (sym c.deref-2.ensures.value) ∙ found in
    links_kept c.self.invariant.0 n row here

pub returns-clause-end : goal.returns-clause-end
returns-clause-end g c =
    let groups = ap (flat_map group_bytes) c.deref.ensures.value in
    let tasks = ap (flat_map (task_bytes Two)) c.deref-2.ensures.value in
    rw (← c.self.view_is)
    (put_end (flat_map group_bytes c.self.inside.groups.items)
    (flat_map (task_bytes Two) c.self.inside.tasks.items) c.args.at c.put_groups-end.result
    c.put_tasks.result
    (c.put_groups-end.ensures.end ∙ ap (λ (b : List ℕ). c.args.at + length b) groups)
    (c.put_tasks.ensures.end ∙ ap (λ (b : List ℕ). c.put_groups-end.result + length b) tasks))

pub returns-clause-kept_groups : goal.returns-clause-kept_groups
returns-clause-kept_groups g c =
    subst (λ (l : List Group). AllByRecursion (λ row. IsTrue (is_kept_group row)) l)
    (c.deref.ensures.value ∙ ap (λ (w : WorkState). w.groups) c.self.view_is)
    c.put_groups-end.ensures.kept

pub returns-clause-kept_tasks : goal.returns-clause-kept_tasks
returns-clause-kept_tasks g c =
    subst (λ (l : List Task). AllByRecursion (λ row. IsTrue (is_kept_task Two row)) l)
    (c.deref-2.ensures.value ∙ ap (λ (w : WorkState). w.tasks) c.self.view_is)
    c.put_tasks.ensures.kept
