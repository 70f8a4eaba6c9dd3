use Rattle.program_tests.proofs.locks.a_finish_is_flushed_while_another_task_runs.Given as goal

abbrev pub ghosts-flushed_night-S-Ledger : goal.ghosts-flushed_night-S-Ledger
ghosts-flushed_night-S-Ledger g a = record { name = a.starts.name; parts = a.starts.parts }

abbrev pub ghosts-flushed_night-F-Ledger : goal.ghosts-flushed_night-F-Ledger
ghosts-flushed_night-F-Ledger g a = record { name = a.finishes.name; parts = a.finishes.parts }
