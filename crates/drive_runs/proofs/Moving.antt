-- A book answers steps, and then more steps.
use Rattle.std.specs.Prelude.{[], ◌++◌}
use Rattle.std.proofs.Common.{refl}
use Rattle.run_disk.specs.Disk.{DiskState}
use Rattle.book_model.specs.Books.{BookView}
use Rattle.book_model.proofs.Rows.{row_join}
use Rattle.drive_runs.specs.Moving.{Moves}

pub moves_none : {D : Type 0} (state : D → DiskState) (b : BookView D) → Moves state b b
moves_none state b = ([], [], refl)

pub moves_then : {D : Type 0} (state : D → DiskState) (a b c : BookView D) → Moves state a b
    → Moves state b c → Moves state a c
moves_then state a b c (first, answers, one) (second, others, two) = (
  first ++ second,
  answers ++ others,
  row_join state a b c first second answers others one two,
)
