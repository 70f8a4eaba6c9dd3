use Rattle.night_plan.proofs.Working.{load_runs_on}
use Rattle.night_plan.proofs.examples.a_group_that_stops_lets_run_what_runs.Goals as goal

pub returns-clause-runs : goal.returns-clause-runs
returns-clause-runs c none well ends fails nothing one two =
    load_runs_on none well ends fails nothing one two
