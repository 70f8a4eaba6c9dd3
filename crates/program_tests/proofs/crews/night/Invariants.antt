use Rattle.program_tests.proofs.crews.night.Given as goal

abbrev pub ghosts-night_in-S-Ledger : goal.ghosts-night_in-S-Ledger
ghosts-night_in-S-Ledger g a = record { name = a.starts.name; parts = a.starts.parts }

abbrev pub ghosts-night_in-F-Ledger : goal.ghosts-night_in-F-Ledger
ghosts-night_in-F-Ledger g a = record { name = a.finishes.name; parts = a.finishes.parts }
