use Rattle.program_tests.proofs.locks.each_start_is_durable_before_its_first_turn.Given as goal

abbrev pub ghosts-durable_starts-S-Ledger : goal.ghosts-durable_starts-S-Ledger
ghosts-durable_starts-S-Ledger g a = record { name = a.starts.name; parts = a.starts.parts }

abbrev pub ghosts-durable_starts-F-Ledger : goal.ghosts-durable_starts-F-Ledger
ghosts-durable_starts-F-Ledger g a = record { name = a.finishes.name; parts = a.finishes.parts }
