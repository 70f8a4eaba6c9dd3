use Rattle.run_crew.proofs.crews.crew.Goals as goal

pub returns : goal.returns
returns g c = (c.crew_over-done.result.1, c.crew_over-done.ensures)
