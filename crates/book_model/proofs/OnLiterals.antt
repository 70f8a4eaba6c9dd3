-- The definitions that an example unfolds to read an image and records, byte by byte.
use Rattle.std.specs.Prelude.{⊤}
use Rattle.row_view.specs.Fields.{kind_at, kind_by}
use Rattle.record_view.specs.Reading.{body_at, cancel_at, derive_at, event_at}
use Rattle.row_view.specs.Fields.{limit_at, limit_by, moment_at, number_at}
use Rattle.record_view.specs.Reading.{numbered_at}
use Rattle.row_view.specs.Fields.{optional_at, optional_by, part_at, tested_at, text_at}
use Rattle.record_view.specs.Reading.{whole_body_at}
use Rattle.record_view.specs.Records.{events_in, rest_in}
use Rattle.row_view.specs.RowReading.{count_at, fewer_at, flag_at, flag_by, group_row_at}
use Rattle.row_view.specs.RowReading.{head_at, hit_at, hit_by, hit_fields_at, link_at, link_by}
use Rattle.row_view.specs.RowReading.{reason_at, reason_by, row_kind_at, scope_at, stage_at}
use Rattle.row_view.specs.RowReading.{stage_by, task_at, version_at}
use Rattle.row_view.specs.WorkRows.{work_at, work_rows_at}
use Rattle.scope_tree.specs.TreeRows.{tree_at}
use Rattle.scope_tree.specs.Whole.{image_at}

unfoldable pub stores_on_literals : ⊤
unfolding
    number_at moment_at part_at tested_at text_at optional_by optional_at kind_by kind_at derive_at
    cancel_at numbered_at body_at whole_body_at event_at events_in rest_in limit_by limit_at flag_by
    flag_at reason_by reason_at row_kind_at hit_fields_at hit_by hit_at stage_by stage_at link_by
    link_at scope_at group_row_at task_at version_at count_at fewer_at head_at tree_at work_rows_at
    work_at image_at
stores_on_literals = tt
