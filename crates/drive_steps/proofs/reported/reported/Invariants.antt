use Rattle.std.specs.Prelude.{◌≡◌, ◌++◌, drop}
use Rattle.std.specs.Option.{option_map}
use Rattle.drive_steps.specs.Reported.{begins_reported}
use Rattle.drive_steps.proofs.reported.reported.Given as goal

-- What is reported is this, and then what the other replies report of the other commands.
abbrev pub invariant-loop-c : goal.invariant-loop-c
invariant-loop-c l =
    begins_reported l.chosen l.replies
    ≡ option_map (λ more. l.all.items ++ more) (begins_reported (drop l.c-index l.chosen) l.rest)
