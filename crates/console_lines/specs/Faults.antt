-- Why a run ended, and how that is printed.
use Rattle.std.specs.Prelude.{ℕ, List, codes}
use Rattle.console_lines.specs.declared.faults.RunFault.{RunFault}
use Rattle.console_lines.specs.declared.faults.RunFault.TheVariants.{Input, Output, InputTooLong}
use Rattle.console_lines.specs.declared.faults.RunFault.TheVariants.{Memory, Store}
use Rattle.run_model.specs.declared.faults.Fault.{Fault}
use Rattle.run_model.specs.declared.faults.Fault.TheVariants as of_store
use Rattle.run_model.specs.declared.faults.Trouble.TheVariants.{Faulty}
use Rattle.run_model.specs.Faults.{trouble_text}

-- The text of each reason.
abbrev pub stop_text : RunFault → List ℕ
stop_text Input = codes "input"
stop_text Output = codes "output"
stop_text InputTooLong = codes "input too long"
stop_text Memory = codes "fault 1 Memory"
stop_text (Store why) = trouble_text why

-- The fault of a run if its store has this fault. Refused memory is a fault of its own.
abbrev pub stopped : Fault → RunFault
stopped of_store.Memory = Memory
stopped why = Store (Faulty why)
