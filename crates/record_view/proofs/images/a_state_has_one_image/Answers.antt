use Rattle.std.proofs.Common.{sym, ◌∙◌}
use Rattle.row_view.proofs.ImageLengths.{image_most}
use Rattle.record_view.proofs.images.a_state_has_one_image.Goals as goal

pub returns : goal.returns
returns c = record {
  one = λ version layout bytes other p first second. first.is ∙ sym second.is;
  most = image_most;
}
