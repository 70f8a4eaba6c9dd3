use Rattle.night_plan.proofs.Stepping.{ended_in_order, failed_in_order, well_in_order}
use Rattle.night_plan.proofs.steps.needs_are_met_in_order.Goals as goal

pub returns-clause-well : goal.returns-clause-well
returns-clause-well c n m steps now k d sizes chosen need it has well named =
    well_in_order n m steps now k sizes chosen need it has d well named

pub returns-clause-failed : goal.returns-clause-failed
returns-clause-failed c n m steps now k sizes chosen need it has fails =
    failed_in_order n m steps now k sizes chosen need it has fails

pub returns-clause-ended : goal.returns-clause-ended
returns-clause-ended c n m steps now k d sizes chosen need it has ends named =
    ended_in_order n m steps now k sizes chosen need it has d ends named
