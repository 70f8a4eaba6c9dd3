use Rattle.drive_nights.proofs.Keeping.{canceled_groups_stay, same_deadlines_stay}
use Rattle.drive_nights.proofs.effects.what_is_done_stays_done.Goals as goal

pub returns : goal.returns
returns c = record { canceled = canceled_groups_stay; same = same_deadlines_stay }
