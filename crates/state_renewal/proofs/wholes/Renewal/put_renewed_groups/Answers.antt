use Rattle.run_model.proofs.Common.{◌+◌, ◌*◌, ◌≤◌, ◌<◌, length, slice_get, sym, ap, subst, ◌∙◌}
use Rattle.run_model.proofs.Common.{flat_map, AllByRecursion, IsTrue, WorkState}
use Rattle.run_model.specs.declared.groups.Group.{Group}
use Rattle.row_view.specs.Image.{group_bytes, is_kept_group}
use Rattle.row_view.specs.Writing.{put_at}
use Rattle.state_renewal.proofs.Renewing.{groups_lent}
use Rattle.state_renewal.proofs.wholes.Renewal.put_renewed_groups.Goals as goal

pub put_groups-requires : goal.put_groups-requires
put_groups-requires g c =
    let rules = c.count-rules.ensures.rules in
    let left = groups_lent c.args.state.now c.args.self.now.scopes c.args.self.now.groups
    c.args.self.now.tasks c.requires.marks
    c.flags.result.now c.groups.result.now c.flags.ensures c.groups.ensures in
    record {
      each =
          ap (λ l. length l) c.flags.ensures ∙ c.requires.marks.each_group
          ∙ ap (λ (w : WorkState). length w.groups) (sym c.groups.ensures);
      known = λ n row found.
          subst (λ many. row.scope < many) (sym c.requires.marks.each_scope)
          (rules.numbered.scopes n row
          (ap (λ (w : WorkState). slice_get w.groups n) (sym c.groups.ensures) ∙ found));
      room =
          subst (λ rows. c.args.at + 103 * length rows ≤ length c.args.out.now) (sym left)
          c.requires.room;
    }

pub returns : goal.returns
returns g c =
    let put = c.put_groups.ensures in
    let left = groups_lent c.args.state.now c.args.self.now.scopes c.args.self.now.groups
    c.args.self.now.tasks c.requires.marks
    c.flags.result.now c.groups.result.now c.flags.ensures c.groups.ensures in
    record {
      end = put.end ∙ ap (λ rows. c.args.at + length (flat_map group_bytes rows)) left;
      written =
          put.written
          ∙ ap (λ rows. put_at c.args.out.now c.args.at (flat_map group_bytes rows)) left;
      kept =
          subst (AllByRecursion (λ (row : Group). IsTrue (is_kept_group row))) left put.kept;
      most =
          subst (λ rows. c.put_groups.result ≤ c.args.at + 103 * length rows) left put.most;
    }
