use Rattle.run_model.proofs.Common.{arith, option_copied, optional_bytes, text_bytes, to_be_bytes}
use Rattle.run_model.proofs.Common.{w16}
use Rattle.run_model.specs.Spelling.{limit_bytes}
use Rattle.row_view.specs.Image.{flag_bytes}
use Rattle.row_view.proofs.RowJoins.{put_six, length_six}
use Rattle.row_view.proofs.group_rows.put_group.Goals as goal

pub returns-clause-end : goal.returns-clause-end
returns-clause-end c =
    let row = c.args.row.now in
    omega (
      arith,
      length_six (text_bytes row.name.now) (to_be_bytes w16 row.scope)
          (flag_bytes row.bare) (limit_bytes row.limit) (flag_bytes row.waited)
          (optional_bytes (option_copied row.error)),
    )

pub returns-clause-written : goal.returns-clause-written
returns-clause-written c =
    let row = c.args.row.now in
    let name = text_bytes row.name.now in
    let scope = to_be_bytes w16 row.scope in
    let bare = flag_bytes row.bare in
    let limit = limit_bytes row.limit in
    let waited = flag_bytes row.waited in
    let error = optional_bytes (option_copied row.error) in
    rw (
      c.put_optional.ensures.written,
      c.put_flag-end-2.ensures.written,
      c.put_limit-end.ensures.written,
      c.put_flag-end.ensures.written,
      c.put_u16-end.ensures.written,
      c.put_text-end.ensures.written,
    )
    (put_six c.args.out.now c.args.at _ _ _ _ _ name scope bare limit waited error
    c.put_text-end.ensures.end c.put_u16-end.ensures.end c.put_flag-end.ensures.end
    c.put_limit-end.ensures.end c.put_flag-end-2.ensures.end
    (omega (arith, c.requires.room, length_six name scope bare limit waited error)))
