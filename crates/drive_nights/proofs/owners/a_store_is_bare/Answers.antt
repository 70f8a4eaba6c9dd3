use Rattle.drive_nights.proofs.Owning.{bare_if_none_owns}
use Rattle.drive_nights.proofs.owners.a_store_is_bare.Goals as goal

pub returns : goal.returns
returns c = bare_if_none_owns
