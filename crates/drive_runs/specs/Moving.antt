-- What a book answers.
use Rattle.std.specs.Prelude.{◌≡◌, List}
use Rattle.run_model.specs.declared.answers.Reply.{Reply}
use Rattle.run_model.specs.declared.commands.Step.{Step}
use Rattle.run_disk.specs.Disk.{DiskState}
use Rattle.book_model.specs.Books.{BookView}
use Rattle.book_model.specs.Steps.{StepsOn}

-- All events of a book are acknowledged.
abbrev pub IsSaved : {D : Type 0} → BookView D → Type 0
IsSaved b = b.durable ≡ b.session.state.count

-- The book has answered some steps.
abbrev pub Moves : {D : Type 0} → (D → DiskState) → (old new : BookView D) → Type 0
Moves state old new =
    (steps : List Step) × (replies : List Reply) × StepsOn state old steps replies new
