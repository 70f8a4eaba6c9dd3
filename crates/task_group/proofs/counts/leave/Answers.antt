use Rattle.run_model.proofs.Common.{◌≡◌, ℕ, length, Option, Some, refl, arith, sym, ap, ◌∙◌}
use Rattle.run_model.proofs.Common.{slice_get, slice_get_read}
use Rattle.task_group.proofs.RowWrites.{at_row_set}
use Rattle.task_group.specs.declared.counts.GroupCounts.{GroupCounts}
use Rattle.task_group.specs.Kept.{left, left_by}
use Rattle.task_group.proofs.counts.leave.Goals as goal

pub left-requires : goal.left-requires
left-requires g c =
    let row = slice_get_read c.args.counts.now.items (length c.args.counts.now.items) c.args.g
    c.index-row.result.now refl (omega arith) c.index-row.ensures in
    let a = c.requires.active c.index-row.result.now row in
    a.0

pub returns-clause-first : goal.returns-clause-first
returns-clause-first g c s found =
    let row : slice_get c.args.counts.now.items c.args.g ≡ Some c.index-row.result.now =
    slice_get_read c.args.counts.now.items (length c.args.counts.now.items) c.args.g
    c.index-row.result.now refl (omega arith) c.index-row.ensures in
    let both : Some c.index-row.result.now ≡ Some s = sym row ∙ found in
    let is : c.index-row.result.now ≡ s = cc in
    ap (λ (x : GroupCounts). x.first) is

pub returns-clause-left : goal.returns-clause-left
returns-clause-left g c =
    at_row_set (left c.args.next.now.items) c.args.counts.now.items c.args.g c.index-row.result.now
    _ c.index-row.ensures (omega arith) (c.left.ensures
    ∙ ap (λ (r : Option ℕ). left_by c.index-row.result.now.first r c.index-row.result.now)
    c.next_of-link.ensures)

pub next_of-link-requires : goal.next_of-link-requires
next_of-link-requires g c =
    let row = slice_get_read c.args.counts.now.items (length c.args.counts.now.items) c.args.g
    c.index-row.result.now refl (omega arith) c.index-row.ensures in
    (c.requires.active c.index-row.result.now row).1
