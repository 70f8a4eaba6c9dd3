use Rattle.run_model.proofs.Common.{arith, option_map, text_bytes, kind_bytes, to_be_bytes, w16}
use Rattle.row_view.specs.Image.{hit_bytes}
use Rattle.row_view.specs.RowViews.{hit_of}
use Rattle.row_view.specs.Views.{kind_of}
use Rattle.row_view.proofs.RowJoins.{put_four, length_four}
use Rattle.row_view.proofs.scope_rows.put_scope.Goals as goal

pub returns-clause-end : goal.returns-clause-end
returns-clause-end c =
    let row = c.args.row.now in
    omega (
      arith,
      length_four (text_bytes row.name.now) (to_be_bytes w16 row.parent)
          (kind_bytes (kind_of row.kind)) (hit_bytes (option_map hit_of row.hit)),
    )

pub returns-clause-written : goal.returns-clause-written
returns-clause-written c =
    let row = c.args.row.now in
    let name = text_bytes row.name.now in
    let parent = to_be_bytes w16 row.parent in
    let kind = kind_bytes (kind_of row.kind) in
    let hit = hit_bytes (option_map hit_of row.hit) in
    rw (
      c.put_hit.ensures.written,
      c.put_kind-end.ensures.written,
      c.put_u16-end.ensures.written,
      c.put_text-end.ensures.written,
    )
    (put_four c.args.out.now c.args.at _ _ _ name parent kind hit
    c.put_text-end.ensures.end c.put_u16-end.ensures.end c.put_kind-end.ensures.end
    (omega (arith, c.requires.room, length_four name parent kind hit)))
