use Rattle.run_model.specs.declared.layouts.Layout.TheVariants.{Small, Large}
use Rattle.scope_tree.proofs.HistoryImages.{history_image, history_most}
use Rattle.scope_tree.proofs.histories.every_state_of_a_history_has_an_image.Goals as goal

pub returns : goal.returns
returns c =
    record { image = history_image; small = history_most Small; large = history_most Large }
