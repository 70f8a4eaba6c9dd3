use Rattle.scope_tree.proofs.WholeReads.{image_again, image_takes}
use Rattle.scope_tree.proofs.images.images_are_what_is_read.Goals as goal

pub returns : goal.returns
returns c = record { again = image_again; takes = image_takes }
