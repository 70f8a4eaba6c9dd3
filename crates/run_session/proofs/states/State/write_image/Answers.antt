use Rattle.run_model.proofs.Common.{◌≡◌, ◌++◌, ◌+◌, length, drop, ap, ◌∙◌, arith, flat_map, State}
use Rattle.row_view.specs.declared.heads.ImageHead.{ImageHead}
use Rattle.row_view.specs.declared.heads.ImageVersion.TheVariants.{Two}
use Rattle.row_view.specs.Image.{group_bytes, head_bytes, in_version, scope_bytes, task_bytes}
use Rattle.row_view.specs.Writing.{put_at}
use Rattle.run_session.specs.Shown.{shown}
use Rattle.run_session.proofs.Imaging.{ranged, written}
use Rattle.run_session.proofs.states.State.write_image.Goals as goal

pub returns-clause-written : goal.returns-clause-written
returns-clause-written g c =
    let s = c.self.inside in
    let p = c.args.self.now in
    let old = c.args.out.now in
    let first = c.put_head-end.new.out in
    let second = c.write_rows-end.new.out in
    let room = rw (← c.self.view_is) at c.requires.room in
    let few = c.self.invariant.numbered.few_scopes in
    let place : c.put_head-end.result ≡ 23 = omega (arith, c.put_head-end.ensures.end) in
    written p old first second c.write_rows.new.out c.write_rows-end.result
    (c.put_head-end.ensures.written
    ∙ ap (λ (h : ImageHead). put_at old 0 (head_bytes (in_version Two h))) c.head.ensures.head)
    (c.write_rows-end.ensures.written
    ∙ ap (λ n. put_at first n (flat_map scope_bytes (drop 1 s.tree.scopes))) place
    ∙ ap (λ (u : State). put_at first 23 (flat_map scope_bytes (drop 1 u.tree.scopes)))
    c.self.view_is)
    (c.write_rows-end.ensures.end
    ∙ ap (λ n. n + length (flat_map scope_bytes (drop 1 s.tree.scopes))) place
    ∙ ap (λ (u : State). 23 + length (flat_map scope_bytes (drop 1 u.tree.scopes)))
    c.self.view_is)
    (c.write_rows.ensures.written
    ∙ ap (λ (u : State).
    put_at second c.write_rows-end.result
    (flat_map group_bytes u.work.groups ++ flat_map (task_bytes Two) u.work.tasks))
    c.self.view_is)
    (omega (arith, room, few, place, c.write_rows-end.ensures.most))

pub returns-clause-image : goal.returns-clause-image
returns-clause-image g c =
    let s = c.self.inside in
    rw (← c.self.view_is)
    (ranged (shown s.count s.tree s.groups) c.self.invariant
    (rw (← c.self.view_is) at c.head.ensures.clock) (rw (← c.self.view_is) at c.requires.few)
    c.write_rows-end.ensures.kept c.write_rows.ensures.kept_groups
    c.write_rows.ensures.kept_tasks)
