-- Names of a plan by which each task of a store belongs to one command.
use Rattle.std.specs.Prelude.{◌≡◌, ◌+◌, ℕ, List, Some, slice_get, slice_index}
use Rattle.night_plan.specs.declared.commands.Command.{Command}
use Rattle.night_plan.specs.declared.commands.Plan.{Plan}
use Rattle.night_drive.specs.declared.names.Names.{Names}

-- A name without two hyphens in a row. (45 is a hyphen, and after the end each byte is 0.)
abbrev pub IsPlain : List ℕ → Type 0
IsPlain name = (i : ℕ) → slice_index name i ≡ 45 → slice_index name (i + 1) ≡ 45 → ⊥

-- Each group of the plan has a plain name of its own, and each command has a key that no other
-- command of its group has.
pub record AreDistinct (plan : Plan) (names : Names) : Type 0 where
  pub plain : (g : ℕ) (name : List ℕ) → slice_get names.groups.items g ≡ Some name → IsPlain name
  pub groups : (g h : ℕ) (name : List ℕ) → slice_get names.groups.items g ≡ Some name
      → slice_get names.groups.items h ≡ Some name → g ≡ h
  pub keys : (c d : ℕ) (a b : Command) (key : List ℕ) → slice_get plan.commands.items c ≡ Some a
      → slice_get plan.commands.items d ≡ Some b → a.group ≡ b.group
      → slice_get names.keys.items c ≡ Some key → slice_get names.keys.items d ≡ Some key → c ≡ d
