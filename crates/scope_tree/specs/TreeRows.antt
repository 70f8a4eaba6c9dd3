-- The rows of a tree in an image: which row can follow others, and the tree that the bytes spell.
use Rattle.std.specs.Prelude.{◌≡◌, ℕ, zero, suc, ◌==◌, nat_lt, nat_le, Bool, true, false, not}
use Rattle.std.specs.Prelude.{◌&&◌, if◌then◌else◌, List, [], ◌∷◌, ◌++◌, length, Option, Some, None}
use Rattle.std.specs.Prelude.{is_none, position, slice_get}
use Rattle.std.specs.Option.{option_map_or}
use Rattle.std.specs.Str.{bytes_eq}
use Rattle.run_model.specs.declared.layouts.Layout.{Layout}
use Rattle.run_model.specs.declared.scopes.Kind.{Kind}
use Rattle.run_model.specs.declared.scopes.Reason.{Reason}
use Rattle.run_model.specs.declared.scopes.Reason.TheVariants.{Canceled, DeadlineExceeded}
use Rattle.run_model.specs.declared.scopes.Hit.{Hit}
use Rattle.run_model.specs.declared.scopes.Scope.{Scope}
use Rattle.run_model.specs.Layouts.{most_scopes}
use Rattle.run_model.specs.Records.{is_moment}
use Rattle.run_model.specs.Rows.{root}
use Rattle.run_model.specs.Rules.{can_be_hit}
use Rattle.run_model.specs.Scopes.{is_root, own_deadline}
use Rattle.run_model.specs.State.{TreeState}
use Rattle.row_view.specs.Fields.{Reader, ◌>>=◌, one}
use Rattle.row_view.specs.declared.heads.ImageHead.{ImageHead}
use Rattle.row_view.specs.RowReading.{scope_at}

-- ---- rows that can be written

-- A row that isn't root's, and that has a hit only if its kind can be hit.
pub record IsWritable (row : Scope) : Type 0 where
  pub below_root : is_root row.kind ≡ false
  pub can : (hit : Hit) → row.hit ≡ Some hit → can_be_hit row.kind ≡ true

-- Each of these rows is such a row.
abbrev pub AreWritable : List Scope → Type 0
AreWritable rows = (s : ℕ) (row : Scope) → slice_get rows s ≡ Some row → IsWritable row

-- ---- rows that can be read

-- The reason DeadlineExceeded fits only a scope with a deadline, and only at the moment of that
-- deadline.
abbrev pub reason_fits : Reason → Option ℕ → ℕ → Bool
reason_fits Canceled deadline moment = true
reason_fits DeadlineExceeded deadline moment = option_map_or (λ d. d == moment) deadline false

-- A hit fits a row of this kind in a state with this count and clock. A row may have no hit only if
-- its deadline, if it has one, hasn't come.
abbrev pub hit_fits : ℕ → ℕ → Kind → Option Hit → Bool
hit_fits count clock kind None =
    not (option_map_or (λ moment. nat_le moment clock) (own_deadline kind) false)
hit_fits count clock kind (Some hit) =
    can_be_hit kind && nat_le 1 hit.event && nat_le hit.event count && nat_le hit.moment clock
    && reason_fits hit.reason (own_deadline kind) hit.moment

-- A row can follow these rows: its parent is one of them, its name is new, and its hit fits.
abbrev pub can_follow : ℕ → ℕ → List Scope → Scope → Bool
can_follow count clock rows row =
    nat_lt row.parent (length rows) && is_none (position (λ r. bytes_eq row.name r.name) rows)
    && hit_fits count clock row.kind row.hit

-- These rows, and this many more from the beginning of the bytes, each of which can follow those
-- before it in a state with this count and clock.
abbrev pub more_rows_at : ℕ → ℕ → ℕ → List Scope → Reader (List Scope)
more_rows_at e t zero rows bytes = Some (rows, bytes)
more_rows_at e t (suc n) rows bytes = do
  row ← scope_at bytes
  if can_follow e t rows row.0 then more_rows_at e t n (rows ++ row.0 ∷ []) row.1 else None

-- The tree with these rows.
abbrev pub tree_made : Layout → ImageHead → List Scope → TreeState
tree_made layout head rows = record { layout = layout; clock = head.clock; scopes = rows }

-- The clock is a moment, and the number of scopes, with root, is within the layout's limit.
abbrev pub has_tree_room : Layout → ImageHead → Bool
has_tree_room layout head = is_moment head.clock && nat_lt head.scopes (most_scopes layout)

-- The tree, in a store of this layout, with whose rows the bytes after a head begin.
unfoldable pub tree_at : Layout → ImageHead → Reader TreeState
tree_at layout head bytes =
    if has_tree_room layout head
    then one (more_rows_at head.count head.clock head.scopes (root ∷ []))
    (tree_made layout head) bytes
    else None
