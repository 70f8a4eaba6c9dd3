use Rattle.file_calls.proofs.LockLemmas.{always_apart}
use Rattle.file_calls.proofs.laws.no_two_programs_hold_a_file_alone.Goals as goal

pub returns : goal.returns
returns c = always_apart
