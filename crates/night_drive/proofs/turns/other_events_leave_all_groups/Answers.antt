use Rattle.night_drive.proofs.Hitting.{bare_finishes, others_leave_groups}
use Rattle.night_drive.proofs.turns.other_events_leave_all_groups.Goals as goal

pub returns-clause-leave : goal.returns-clause-leave
returns-clause-leave c = others_leave_groups

pub returns-clause-bare : goal.returns-clause-bare
returns-clause-bare c = bare_finishes
