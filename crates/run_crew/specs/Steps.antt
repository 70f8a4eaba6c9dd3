-- The effect of a step of a desk on its book.
use Rattle.std.specs.Prelude.{◌≡◌}
use Rattle.run_model.specs.declared.answers.Reply.{Reply}
use Rattle.run_model.specs.declared.commands.Step.{Step}
use Rattle.run_disk.specs.Disk.{DiskState}
use Rattle.run_session.specs.Lasting.{Stays}
use Rattle.book_model.specs.Books.{CarriesOn}
use Rattle.book_model.specs.Steps.{AnswersStep}
use Rattle.run_crew.specs.Desks.{DeskView}

-- The book of a desk takes this step, answers with this reply, and carries on. Scopes that were
-- done and tasks that had ended stay as they were. The number of events when the desk was made
-- stays, too.
pub record TakesStep {D : Type 0} (state : D → DiskState) (old : DeskView D) (x : Step)
    (r : Reply) (new : DeskView D) : Type 0 where
  pub answers : AnswersStep state old.book x r new.book
  pub stays : Stays old.book.session.state new.book.session.state
  pub carries_on : CarriesOn state old.book new.book
  pub since : new.since ≡ old.since
