use Rattle.night_drive.proofs.Deriving.{derives_stand_last, groups_leave_groups}
use Rattle.night_drive.proofs.turns.a_new_scope_stands_last.Goals as goal

pub returns-clause-derived : goal.returns-clause-derived
returns-clause-derived c = derives_stand_last

pub returns-clause-group : goal.returns-clause-group
returns-clause-group c = groups_leave_groups
