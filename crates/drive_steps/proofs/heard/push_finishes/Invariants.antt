use Rattle.std.specs.Prelude.{◌≡◌, ◌++◌, drop}
use Rattle.drive_steps.specs.Heard.{finishes_of}
use Rattle.drive_steps.proofs.heard.push_finishes.Given as goal

-- The steps so far, and then those of the other ends.
abbrev pub invariant-loop-end : goal.invariant-loop-end
invariant-loop-end l =
    l.initial.steps.items ++ finishes_of l.heard
    ≡ l.steps.items ++ finishes_of (drop l.end-index l.heard)
