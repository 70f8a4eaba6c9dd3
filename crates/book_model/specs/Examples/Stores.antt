-- Images and batches, byte by byte. Only the image of a store with a task is computed from the
-- definition of an image.
use Rattle.std.specs.Prelude.{ℕ, List, [], ◌∷◌, ◌++◌, codes, replicate}
use Rattle.run_model.specs.declared.scopes.Kind.TheVariants as kind
use Rattle.run_model.specs.Event.{Event}
use Rattle.run_model.specs.Event as event
use Rattle.run_model.specs.State.{State}
use Rattle.run_model.specs.Step.{step}
use Rattle.row_view.specs.declared.heads.ImageVersion.{ImageVersion}
use Rattle.row_view.specs.Image.{image_in}
use Rattle.book_model.specs.Examples.Retries.{one_interrupted}
use Rattle.book_model.specs.Examples.Plays.{after_three}

-- An image with this version byte and this count below 256, at clock 0, without a row.
abbrev pub empty_image : (version count : ℕ) → List ℕ
empty_image version count =
    version ∷ replicate 8 0 ++ replicate 7 0 ++ count ∷ 0 ∷ 0 ∷ 0 ∷ 0 ∷ 0 ∷ 0 ∷ []

-- Three records: scope a, scope b below it, and the cancel of a with a cause.
abbrev pub three_records : List ℕ
three_records =
    1 ∷ 0 ∷ 5 ∷ 1 ∷ 97 ∷ 0 ∷ 0 ∷ 2
    ∷ 1 ∷ 0 ∷ 5 ∷ 1 ∷ 98 ∷ 0 ∷ 1 ∷ 1
    ∷ 2 ∷ 0 ∷ 7 ∷ 0 ∷ 1 ∷ 4 ∷ 100 ∷ 105 ∷ 115 ∷ 107 ∷ []

-- Two more records: scopes c and d.
abbrev pub two_records : List ℕ
two_records = 1 ∷ 0 ∷ 5 ∷ 1 ∷ 99 ∷ 0 ∷ 0 ∷ 1 ∷ 1 ∷ 0 ∷ 5 ∷ 1 ∷ 100 ∷ 0 ∷ 0 ∷ 1 ∷ []

-- The events of those two records.
abbrev pub two_events : List Event
two_events =
    event.Derive (codes "c") 0 kind.Cancel ∷ event.Derive (codes "d") 0 kind.Cancel ∷ []

-- The state after the first three records, and after all five.
abbrev pub at_four : State
at_four = after_three.state

abbrev pub at_six : State
at_six =
    step (step at_four (event.Derive (codes "c") 0 kind.Cancel))
    (event.Derive (codes "d") 0 kind.Cancel)

-- The first record and a prefix of the second one, and what is left of the records.
abbrev pub cut_record : List ℕ
cut_record = 1 ∷ 0 ∷ 5 ∷ 1 ∷ 97 ∷ 0 ∷ 0 ∷ 2 ∷ 1 ∷ 0 ∷ 5 ∷ []

abbrev pub rest_of_records : List ℕ
rest_of_records =
    1 ∷ 98 ∷ 0 ∷ 1 ∷ 1 ∷ 2 ∷ 0 ∷ 7 ∷ 0 ∷ 1 ∷ 4 ∷ 100 ∷ 105 ∷ 115 ∷ 107 ∷ []

-- The three records with another first byte, with another length in the first one, and with scope 5
-- as the parent in the first one.
abbrev pub with_tag : ℕ → List ℕ
with_tag tag =
    tag ∷ 0 ∷ 5 ∷ 1 ∷ 97 ∷ 0 ∷ 0 ∷ 2
    ∷ 1 ∷ 0 ∷ 5 ∷ 1 ∷ 98 ∷ 0 ∷ 1 ∷ 1
    ∷ 2 ∷ 0 ∷ 7 ∷ 0 ∷ 1 ∷ 4 ∷ 100 ∷ 105 ∷ 115 ∷ 107 ∷ []

abbrev pub with_len : ℕ → List ℕ
with_len len =
    1 ∷ 0 ∷ len ∷ 1 ∷ 97 ∷ 0 ∷ 0 ∷ 2
    ∷ 1 ∷ 0 ∷ 5 ∷ 1 ∷ 98 ∷ 0 ∷ 1 ∷ 1
    ∷ 2 ∷ 0 ∷ 7 ∷ 0 ∷ 1 ∷ 4 ∷ 100 ∷ 105 ∷ 115 ∷ 107 ∷ []

abbrev pub with_parent : ℕ → List ℕ
with_parent parent =
    1 ∷ 0 ∷ 5 ∷ 1 ∷ 97 ∷ 0 ∷ parent ∷ 2
    ∷ 1 ∷ 0 ∷ 5 ∷ 1 ∷ 98 ∷ 0 ∷ 1 ∷ 1
    ∷ 2 ∷ 0 ∷ 7 ∷ 0 ∷ 1 ∷ 4 ∷ 100 ∷ 105 ∷ 115 ∷ 107 ∷ []

-- The record of a retry of task 0.
abbrev pub retry_record : List ℕ
retry_record = 12 ∷ 0 ∷ 2 ∷ 0 ∷ 0 ∷ []

-- The image of a store whose first task was interrupted, in one of the versions, as the definition
-- computes it.
abbrev pub interrupted_image : ImageVersion → List ℕ
interrupted_image version = image_in version one_interrupted.state
