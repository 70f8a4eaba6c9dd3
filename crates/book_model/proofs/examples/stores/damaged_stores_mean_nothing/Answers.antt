use Rattle.run_model.proofs.Common.{[], ◌∷◌, refl}
use Rattle.run_model.specs.declared.layouts.Layout.TheVariants.{Small}
use Rattle.row_view.specs.declared.heads.ImageVersion.TheVariants.{Two}
use Rattle.book_model.specs.Examples.Nights.{new_store}
use Rattle.book_model.specs.Examples.Stores.{cut_record, empty_image, rest_of_records, with_len}
use Rattle.book_model.specs.Examples.Stores.{with_parent, with_tag}
use Rattle.book_model.proofs.Meaning.{printed}
use Rattle.book_model.proofs.OnLiterals.{stores_on_literals}
use Rattle.book_model.proofs.examples.stores.damaged_stores_mean_nothing.Goals as goal

pub returns-clause-cut : goal.returns-clause-cut
unfolding stores_on_literals
returns-clause-cut c =
    printed Small (empty_image 2 1) (cut_record ∷ rest_of_records ∷ []) Two new_store.state refl

pub returns-clause-tag : goal.returns-clause-tag
unfolding stores_on_literals
returns-clause-tag c = printed Small (empty_image 2 1) (with_tag 12 ∷ []) Two new_store.state refl

pub returns-clause-len : goal.returns-clause-len
unfolding stores_on_literals
returns-clause-len c = printed Small (empty_image 2 1) (with_len 6 ∷ []) Two new_store.state refl

pub returns-clause-parent : goal.returns-clause-parent
unfolding stores_on_literals
returns-clause-parent c = printed Small (empty_image 2 1)
    (with_parent 5 ∷ []) Two new_store.state refl
