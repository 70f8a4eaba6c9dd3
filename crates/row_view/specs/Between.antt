-- The rules between scopes and groups, as a test of both lists of rows.
use Rattle.std.specs.Prelude.{ℕ, ◌==◌, Bool, false, not, ◌&&◌, ◌||◌, List, is_some, slice_get}
use Rattle.std.specs.List.{list_any}
use Rattle.std.specs.Option.{option_map_or}
use Rattle.std.specs.Str.{bytes_eq}
use Rattle.run_model.specs.declared.scopes.Scope.{Scope}
use Rattle.run_model.specs.declared.groups.Group.{Group}
use Rattle.run_model.specs.Scopes.{is_group_kind}
use Rattle.row_view.specs.WorkRows.{each_passes}

-- The scope belongs to the group: it has the kind of a group's scope and the group's name, and it
-- is hit if the group has an error or was waited for.
abbrev pub belongs : Group → Scope → Bool
belongs group scope =
    is_group_kind scope.kind && bytes_eq group.name scope.name
    && (not (is_some group.error || group.waited) || is_some scope.hit)

-- The scope of the group exists, and belongs to it unless the group is bare.
abbrev pub fits_scope : List Scope → Group → Bool
fits_scope scopes group =
    option_map_or (λ scope. group.bare || belongs group scope) (slice_get scopes group.scope) false

-- The group isn't bare, and its scope is scope s.
abbrev pub lives_in : ℕ → Group → Bool
lives_in s group = not group.bare && group.scope == s

-- A scope of the kind Group is the scope of some group that isn't bare.
abbrev pub has_group : List Group → ℕ → Scope → Bool
has_group groups s scope = not (is_group_kind scope.kind) || list_any (lives_in s) groups

-- Each group fits its scope, and each scope of the kind Group has a group.
abbrev pub fits_between : List Scope → List Group → Bool
fits_between scopes groups =
    each_passes (λ g group. fits_scope scopes group) 0 groups
    && each_passes (has_group groups) 0 scopes
