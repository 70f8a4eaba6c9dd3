-- The group of a store in which a command of the plan gets its next task.
use Rattle.std.specs.Prelude.{ℕ, Bool, List, [], Option, is_some, length, slice_get}
use Rattle.std.specs.List.{list_all}
use Rattle.std.specs.Option.{option_map_or}
use Rattle.run_model.specs.State.{State}
use Rattle.night_drive.specs.declared.names.Names.{Names}
use Rattle.night_drive.specs.Searches.{last_below}
use Rattle.night_drive.specs.Seen.{is_owned}

-- The last group of the store that belongs to this night, and to the plan's group of this name.
abbrev pub last_group : State → (night : Option (List ℕ)) → (group : List ℕ) → Option ℕ
last_group p night group = last_below (is_owned p night group) (length p.work.groups)

-- The name of group g of the store.
abbrev pub name_of : State → ℕ → List ℕ
name_of p g = option_map_or (λ row. row.name) (slice_get p.work.groups g) []

-- Each group of the plan has a group of the store in this night.
abbrev pub are_housed : State → Names → Bool
are_housed p names = list_all (λ group. is_some (last_group p names.night group)) names.groups.items
