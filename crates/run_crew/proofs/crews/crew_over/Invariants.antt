use Rattle.run_crew.specs.Openings.{From, opened_of}
use Rattle.run_crew.proofs.crews.crew_over.Given as goal

abbrev pub ghosts-work-S-Ledger : goal.ghosts-work-S-Ledger
ghosts-work-S-Ledger g a = record { name = a.starts.name; parts = a.starts.parts }

abbrev pub ghosts-work-F-Ledger : goal.ghosts-work-F-Ledger
ghosts-work-F-Ledger g a = record { name = a.finishes.name; parts = a.finishes.parts }

abbrev pub ghosts-work-O-Opening : goal.ghosts-work-O-Opening
ghosts-work-O-Opening g a = record { opening = From (opened_of g.D.RunDisk.state a.book) }
