use Rattle.std.specs.Prelude.{◌≡◌, ◌+◌, ◌-◌}
use Rattle.drive_nights.specs.Names.{free_round, is_free, round_name}
use Rattle.drive_nights.specs.Searches.{first_from}
use Rattle.drive_nights.proofs.names.free_round.Given as goal

-- None of the first names is free.
abbrev pub invariant-loop-k : goal.invariant-loop-k
invariant-loop-k g l =
    free_round l.state l.group l.night
    ≡ first_from (λ k. is_free l.state (round_name l.group l.night k)) l.k (l.most + 1 - l.k)
