-- The names of the tries of a store.
use Rattle.std.specs.Prelude.{ℕ, ◌==◌, ◌&&◌, Bool, false, List, Option, slice_get}
use Rattle.std.specs.Option.{option_and_then, option_map, option_map_or}
use Rattle.std.specs.Str.{bytes_eq}
use Rattle.run_model.specs.declared.groups.Group.{Group}
use Rattle.run_model.specs.State.{State}
use Rattle.night_drive.specs.Searches.{count_below}
use Rattle.drive_lines.specs.declared.fields.TryName.{TryName}

-- Task n has this key, and is in group g of the store.
abbrev pub is_of : State → (g : ℕ) → (key : List ℕ) → ℕ → Bool
is_of p g key n =
    option_map_or (λ task. task.group == g && bytes_eq task.argument key)
    (slice_get p.work.tasks n) false

-- The name of task n as a try: its group, its key, and how many tasks of that key stand before it
-- in the group.
abbrev pub try_name : State → ℕ → Option TryName
try_name p n =
    option_and_then (λ task. option_map (λ (group : Group). record {
      group = group.name;
      key = task.argument;
      number = count_below (is_of p task.group task.argument) n;
    }) (slice_get p.work.groups task.group)) (slice_get p.work.tasks n)

-- Task n is the try with this name.
abbrev pub is_named : State → TryName → ℕ → Bool
is_named p named n =
    option_map_or (λ name. name.number == named.number
    && (bytes_eq name.group named.group && bytes_eq name.key named.key)) (try_name p n) false
