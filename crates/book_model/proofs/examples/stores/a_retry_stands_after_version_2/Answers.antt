use Rattle.std.proofs.Common.{[], ◌∷◌, refl}
use Rattle.run_model.specs.declared.layouts.Layout.TheVariants.{Small}
use Rattle.row_view.specs.declared.heads.ImageVersion.TheVariants.{One, Two}
use Rattle.book_model.specs.Examples.Retries.{one_interrupted}
use Rattle.book_model.specs.Examples.Stores.{interrupted_image, retry_record}
use Rattle.book_model.proofs.Meaning.{printed}
use Rattle.book_model.proofs.OnLiterals.{stores_on_literals}
use Rattle.book_model.proofs.examples.stores.a_retry_stands_after_version_2.Goals as goal

pub returns-clause-two : goal.returns-clause-two
unfolding stores_on_literals
returns-clause-two c =
    printed Small (interrupted_image Two) (retry_record ∷ []) Two one_interrupted.state refl

pub returns-clause-one : goal.returns-clause-one
unfolding stores_on_literals
returns-clause-one c =
    printed Small (interrupted_image One) (retry_record ∷ []) One one_interrupted.state refl
