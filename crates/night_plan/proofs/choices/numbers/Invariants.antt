use Rattle.std.proofs.Common.{◌≡◌, map, take}
use Rattle.night_plan.proofs.choices.numbers.Given as goal

abbrev pub invariant-loop-it : goal.invariant-loop-it
invariant-loop-it l = l.all.items ≡ map (λ it. it.command) (take l.it-index l.queue)
