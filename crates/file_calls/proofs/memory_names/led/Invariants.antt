use Rattle.std.proofs.Common.{◌≡◌, None, fold, take}
use Rattle.file_calls.specs.Names.{led_by}
use Rattle.file_calls.proofs.memory_names.led.Given as goal

abbrev pub invariant-loop-step : goal.invariant-loop-step
invariant-loop-step l = l.file ≡ fold (led_by l.name) None (take l.step-index l.steps)
