use Rattle.state_renewal.proofs.ImageKept.{has_image}
use Rattle.state_renewal.proofs.images.a_renewed_state_has_an_image.Goals as goal

pub returns : goal.returns
returns c = has_image
