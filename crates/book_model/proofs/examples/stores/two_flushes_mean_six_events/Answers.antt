use Rattle.run_model.proofs.Common.{[], ◌∷◌, refl, formatted}
use Rattle.run_model.specs.declared.layouts.Layout.TheVariants.{Small}
use Rattle.row_view.specs.declared.heads.ImageVersion.TheVariants.{One, Two}
use Rattle.book_model.specs.Examples.Nights.{new_store}
use Rattle.book_model.specs.Examples.Stores.{empty_image, three_records, two_records}
use Rattle.book_model.proofs.Meaning.{printed}
use Rattle.book_model.proofs.OnLiterals.{stores_on_literals}
use Rattle.book_model.proofs.examples.stores.two_flushes_mean_six_events.Goals as goal

pub returns-clause-formatted : goal.returns-clause-formatted
unfolding stores_on_literals
returns-clause-formatted c = printed Small (empty_image 2 0) [] Two (formatted Small) refl

pub returns-clause-opened : goal.returns-clause-opened
unfolding stores_on_literals
returns-clause-opened c = printed Small (empty_image 2 1) [] Two new_store.state refl

pub returns-clause-one : goal.returns-clause-one
unfolding stores_on_literals
returns-clause-one c = printed Small (empty_image 2 1) (three_records ∷ []) Two new_store.state refl

pub returns-clause-two : goal.returns-clause-two
unfolding stores_on_literals
returns-clause-two c =
    printed Small (empty_image 2 1) (three_records ∷ two_records ∷ []) Two new_store.state refl

pub returns-clause-older : goal.returns-clause-older
unfolding stores_on_literals
returns-clause-older c = printed Small (empty_image 1 1)
    (three_records ∷ []) One new_store.state refl
