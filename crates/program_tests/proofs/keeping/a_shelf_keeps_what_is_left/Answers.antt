use Rattle.program_tests.proofs.keeping.a_shelf_keeps_what_is_left.Goals as goal

pub returns-clause-found : goal.returns-clause-found
returns-clause-found c = c.honest_disks_are_kept.ensures.found _ (λ disk. tt)

pub returns-clause-readings : goal.returns-clause-readings
returns-clause-readings c = c.honest_disks_are_kept.ensures.readings _ (λ disk. tt)

pub returns-clause-scripts : goal.returns-clause-scripts
returns-clause-scripts c = c.honest_disks_are_kept.ensures.scripts _ (λ disk. tt)
