use Rattle.model_laws.proofs.Reaches.{ends_below, ends_all_but_cut_off, reaches_down}
use Rattle.model_laws.proofs.hits.a_hit_reaches_down.Goals as goal

pub returns-clause-ends : goal.returns-clause-ends
returns-clause-ends c = ends_below

pub returns-clause-cut : goal.returns-clause-cut
returns-clause-cut c = ends_all_but_cut_off

pub returns-clause-consistent : goal.returns-clause-consistent
returns-clause-consistent c = reaches_down
