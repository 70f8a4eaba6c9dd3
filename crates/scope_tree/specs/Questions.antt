-- The answers of a tree to questions about a scope, except those that search upwards.
use Rattle.std.specs.Prelude.{ℕ, List, Option, slice_get}
use Rattle.std.specs.Option.{option_map}
use Rattle.run_model.specs.declared.scopes.Kind.{Kind}
use Rattle.run_model.specs.State.{TreeState}

-- The name of scope s.
abbrev pub name_of : TreeState → ℕ → Option (List ℕ)
name_of t s = option_map (λ row. row.name) (slice_get t.scopes s)

-- The kind of scope s.
abbrev pub kind_at : TreeState → ℕ → Option Kind
kind_at t s = option_map (λ row. row.kind) (slice_get t.scopes s)
