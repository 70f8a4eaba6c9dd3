-- The names in a folder, as contracts see them: what was done to them, oldest first. From this a
-- reader finds to which file each name leads, and to which one it may lead after a crash.
use Rattle.std.specs.Prelude.{◌≡◌, ◌∷◌, [], ◌++◌, ◌&&◌, ◌||◌, ℕ, Bool, true, false, not, List}
use Rattle.std.specs.Prelude.{Option, Some, None, fold, bytes_eq, nat_eq}
use Rattle.std.specs.Prelude.{if◌then◌else◌}
use Rattle.std.specs.List.{All}
use Rattle.file_calls.specs.declared.places.Place.{Place}
use Rattle.file_calls.specs.declared.places.Place.TheVariants.{Durable, Dirty, Lost}
use Rattle.file_calls.specs.OpenFiles.{settled}

-- A name leads to a file from now on, or to none.
pub record NameStep : Type 0 where
  pub name : List ℕ
  -- the file's number: its inode
  pub to : Option ℕ
  -- what is known of the step: whether a crash leaves it
  pub place : Place

-- Where a name leads after a step, if it has led there before.
abbrev pub led_by : List ℕ → Option ℕ → NameStep → Option ℕ
led_by name before step = if bytes_eq step.name name then step.to else before

-- Where a name leads after these steps: where its last step says.
abbrev pub leads : List NameStep → List ℕ → Option ℕ
leads steps name = fold (led_by name) None steps

-- Two names lead to the same file, or both to none.
abbrev pub is_to : Option ℕ → Option ℕ → Bool
is_to None None = true
is_to None (Some file) = false
is_to (Some file) None = false
is_to (Some file) (Some other) = nat_eq file other

-- The step is durable.
abbrev pub is_durable : Place → Bool
is_durable Durable = true
is_durable Dirty = false
is_durable Lost = false

-- Whether a crash after a step may leave a name leading to this file (or to none), if it may have
-- done so before. A durable step is left in any case. Any other one is left, or it isn't.
abbrev pub may_by : List ℕ → Option ℕ → Bool → NameStep → Bool
may_by name to before step =
    if bytes_eq step.name name
    then is_to step.to to || (before && not (is_durable step.place))
    else before

-- Whether a crash after these steps may leave a name leading to this file, or to none. Before the
-- first step no name leads anywhere.
abbrev pub may_lead : List NameStep → List ℕ → Option ℕ → Bool
may_lead steps name to = fold (may_by name to) (is_to None to) steps

-- The steps after a sync of the folder, which makes `to` of the dirty ones.
abbrev pub settled_step : Place → NameStep → NameStep
settled_step to step = record { name = step.name; to = step.to; place = settled to step.place }

-- A step that no sync has made durable yet.
abbrev pub new_step : List ℕ → Option ℕ → NameStep
new_step name to = record { name = name; to = to; place = Dirty }

-- No name has led to this file.
abbrev pub IsUnused : List NameStep → ℕ → Type 0
IsUnused steps file = All (λ step. is_to step.to (Some file) ≡ false) steps

-- A new file was made, and the name leads to it, which led nowhere before. Its number is one that
-- no file had.
pub record Creates (name : List ℕ) (file : ℕ) (old new : List NameStep) : Type 0 where
  pub lacked : leads old name ≡ None
  pub unused : IsUnused old file
  pub steps : new ≡ old ++ new_step name (Some file) ∷ []

-- The name `to` leads to the file to which `from` led, and `from` leads nowhere. There is no moment
-- in between at which `to` leads nowhere: its own step comes first.
pub record Renames (from to : List ℕ) (old new : List NameStep) : Type 0 where
  pub file : ℕ
  pub led : leads old from ≡ Some file
  pub steps : new ≡ (old ++ new_step to (Some file) ∷ []) ++ new_step from None ∷ []
