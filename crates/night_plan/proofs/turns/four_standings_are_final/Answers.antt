use Rattle.night_plan.proofs.Final.{final_standings}
use Rattle.night_plan.proofs.turns.four_standings_are_final.Goals as goal

pub returns : goal.returns
returns c = final_standings
