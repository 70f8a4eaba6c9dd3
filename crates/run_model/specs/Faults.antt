-- The numbers, names and texts of faults, and of what a flush or a checkpoint fails with.
use Rattle.std.specs.Prelude.{ℕ, List, ◌++◌, codes}
use Rattle.std.specs.Fmt.{decimal}
use Rattle.run_model.specs.declared.faults.Fault.{Fault}
use Rattle.run_model.specs.declared.faults.Fault.TheVariants as fault
use Rattle.run_model.specs.declared.faults.Trouble.{Trouble}
use Rattle.run_model.specs.declared.faults.Trouble.TheVariants as trouble
use Rattle.run_model.specs.Refusals.{refusal_text}

-- The number that is printed.
abbrev pub fault_number : Fault → ℕ
fault_number fault.Memory = 1
fault_number fault.DiskFailed = 2
fault_number fault.NotAStore = 3
fault_number fault.WrongSize = 4
fault_number fault.BadSlot = 5
fault_number fault.BadImage = 6
fault_number fault.BadBatch = 7
fault_number fault.BadRecord = 8
fault_number fault.BadEvent = 9
fault_number fault.NumbersSpent = 10

-- The name that is printed.
abbrev pub fault_name : Fault → List ℕ
fault_name fault.Memory = codes "Memory"
fault_name fault.DiskFailed = codes "DiskFailed"
fault_name fault.NotAStore = codes "NotAStore"
fault_name fault.WrongSize = codes "WrongSize"
fault_name fault.BadSlot = codes "BadSlot"
fault_name fault.BadImage = codes "BadImage"
fault_name fault.BadBatch = codes "BadBatch"
fault_name fault.BadRecord = codes "BadRecord"
fault_name fault.BadEvent = codes "BadEvent"
fault_name fault.NumbersSpent = codes "NumbersSpent"

-- A fault, as in `fault 2 DiskFailed`.
abbrev pub fault_text : Fault → List ℕ
fault_text why = codes "fault " ++ decimal (fault_number why) ++ codes " " ++ fault_name why

-- Why a flush or a checkpoint failed: it was refused, or it met a fault.
abbrev pub trouble_text : Trouble → List ℕ
trouble_text (trouble.Refused why) = refusal_text why
trouble_text (trouble.Faulty why) = fault_text why
