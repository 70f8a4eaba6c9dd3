use Rattle.std.proofs.Common.{◌≡◌, None, fold, take}
use Rattle.file_calls.specs.Names.{is_to, may_by}
use Rattle.file_calls.proofs.memory_names.MemoryNames.may_lead.Given as goal

abbrev pub invariant-loop-step : goal.invariant-loop-step
invariant-loop-step l =
    l.may ≡ fold (may_by l.name l.to) (is_to None l.to) (take l.step-index l.step-items)
