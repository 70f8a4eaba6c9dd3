use Rattle.std.proofs.Common.{◌≡◌, ◌<◌, ℕ, Some, slice_get}
use Rattle.night_plan.specs.declared.commands.Command.{Command}
use Rattle.night_plan.specs.Ranks.{TakesWithin}
use Rattle.night_plan.proofs.plans.first_too_much.Given as goal

abbrev pub invariant-loop-c : goal.invariant-loop-c
invariant-loop-c l =
    (c : ℕ) (command : Command) → c < l.c → slice_get l.commands c ≡ Some command
    → TakesWithin l.pools command
