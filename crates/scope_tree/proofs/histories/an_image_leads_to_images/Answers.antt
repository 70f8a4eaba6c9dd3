use Rattle.scope_tree.proofs.HistoryImages.{run_image}
use Rattle.scope_tree.proofs.histories.an_image_leads_to_images.Goals as goal

pub returns : goal.returns
returns c =
    λ version layout bytes p q events image are led few.
    run_image version layout p q events image.has_layout image.consistent image.ranged are led few
