use Rattle.program_tests.proofs.locks.a_gate_is_reported_after_the_lock.Given as goal

abbrev pub ghosts-ended_when_reported-S-Ledger : goal.ghosts-ended_when_reported-S-Ledger
ghosts-ended_when_reported-S-Ledger g a = record { name = a.starts.name; parts = a.starts.parts }

abbrev pub ghosts-ended_when_reported-F-Ledger : goal.ghosts-ended_when_reported-F-Ledger
ghosts-ended_when_reported-F-Ledger g a = record
    { name = a.finishes.name; parts = a.finishes.parts }
