use Rattle.program_tests.proofs.slow_syncs.a_finish_after_a_slow_sync_becomes_durable.Given as goal

abbrev pub ghosts-slow_night-S-Ledger : goal.ghosts-slow_night-S-Ledger
ghosts-slow_night-S-Ledger g a = record { name = a.starts.name; parts = a.starts.parts }

abbrev pub ghosts-slow_night-F-Ledger : goal.ghosts-slow_night-F-Ledger
ghosts-slow_night-F-Ledger g a = record { name = a.finishes.name; parts = a.finishes.parts }
