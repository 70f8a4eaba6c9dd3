-- The definitions that readers with several forms unfold, under one name each.

use Rattle.std.specs.Prelude.{⊤}
use Rattle.row_view.specs.RowReading.{hit_at, hit_by, hit_fields_at}

--- Of the failure that ended a scope.
unfoldable pub hits : ⊤
unfolding hit_at hit_by hit_fields_at
hits = tt
