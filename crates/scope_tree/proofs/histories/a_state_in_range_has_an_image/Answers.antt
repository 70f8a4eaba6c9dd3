use Rattle.scope_tree.proofs.HistoryImages.{image_of}
use Rattle.scope_tree.proofs.histories.a_state_in_range_has_an_image.Goals as goal

pub returns : goal.returns
returns c = image_of
