-- The faults that steps met, by the replies to them.
use Rattle.std.specs.Prelude.{List, [], ◌∷◌, Option, Some, None}
use Rattle.std.specs.Option.{option_or}
use Rattle.run_model.specs.declared.answers.Reply.{Reply}
use Rattle.run_model.specs.declared.answers.Reply.TheVariants as reply
use Rattle.run_model.specs.declared.faults.Fault.{Fault}

-- The fault of a reply.
abbrev pub fault_in : Reply → Option Fault
fault_in (reply.Faulty fault) = Some fault
fault_in _ = None

-- The first fault among these replies.
abbrev pub first_fault : List Reply → Option Fault
first_fault [] = None
first_fault (r ∷ replies) = option_or (fault_in r) (first_fault replies)
