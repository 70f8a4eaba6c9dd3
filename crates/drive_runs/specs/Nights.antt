-- What a store has from earlier sessions.
use Rattle.std.specs.Prelude.{ℕ, Bool, false, codes, not, slice_get}
use Rattle.std.specs.Option.{option_map_or}
use Rattle.std.specs.Str.{bytes_eq}
use Rattle.run_model.specs.declared.tasks.Task.{Task}
use Rattle.run_model.specs.State.{State}

-- Task n of the store isn't one of a driven night: its job isn't `sh`.
abbrev pub is_other : State → ℕ → Bool
is_other p n =
    option_map_or (λ (task : Task). not (bytes_eq task.job (codes "sh")))
    (slice_get p.work.tasks n) false
