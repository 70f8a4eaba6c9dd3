use Rattle.drive_nights.proofs.Belonging.{names_belong}
use Rattle.drive_nights.proofs.effects.a_name_belongs_to_its_group.Goals as goal

pub returns : goal.returns
returns c = names_belong
