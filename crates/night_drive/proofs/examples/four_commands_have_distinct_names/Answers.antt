use Rattle.night_drive.proofs.Distinguishing.{a_round_is_not_plain, four_are_distinct}
use Rattle.night_drive.proofs.Distinguishing.{old_disks_is_plain}
use Rattle.night_drive.proofs.examples.four_commands_have_distinct_names.Goals as goal

pub returns-clause-plain : goal.returns-clause-plain
returns-clause-plain c = old_disks_is_plain

pub returns-clause-rounds : goal.returns-clause-rounds
returns-clause-rounds c = a_round_is_not_plain

pub returns-clause-distinct : goal.returns-clause-distinct
returns-clause-distinct c plan names four = four_are_distinct plan names four
