-- What a worker has counted after one task. No public contract cites what follows.
use Rattle.std.specs.Prelude.{ℕ, ◌+◌, ◌≡◌, ◌⊎◌, Bool, true, false}
use Rattle.run_crew.specs.OwnCounts.{OwnCountsView, one_finish, one_start}

-- A task that was finished adds one start, one finish and one note. A task that wasn't adds at most
-- one start.
abbrev pub AfterTask : Bool → OwnCountsView → OwnCountsView → ℕ → ℕ → Type 0
AfterTask true own after notes more =
    (after ≡ one_finish (one_start own)) × (more ≡ notes + 1)
AfterTask false own after notes more =
    ((after ≡ own) ⊎ (after ≡ one_start own)) × (more ≡ notes)
