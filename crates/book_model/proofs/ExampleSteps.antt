-- The steps of the examples, one by one.
use Rattle.run_model.proofs.Common.{◌≡◌, ◌++◌, ℕ, List, length, Ok, Err, inl, inr, refl, arith}
use Rattle.run_model.proofs.Common.{rules, subst, take, Result, flat_map, session_after, spelling}
use Rattle.run_model.specs.declared.answers.Reply.{Reply}
use Rattle.run_model.specs.declared.commands.Step.{Step}
use Rattle.run_model.specs.declared.faults.Fault.TheVariants.{DiskFailed}
use Rattle.run_model.specs.declared.faults.Trouble.TheVariants.{Faulty, Refused}
use Rattle.run_model.specs.declared.faults.Trouble.{Trouble}
use Rattle.book_model.specs.Examples.Calls.{acked, faulty, flush}
use Rattle.book_model.specs.Examples.Nights.{new_store}
use Rattle.book_model.specs.Books.{BookView, MustCheckpoint}
use Rattle.book_model.specs.Steps.{AnswersStep, Steps, ReportsSave, reply_of_save}
use Rattle.book_model.specs.Examples.Plays.{first_events, first_three, three_replies}
use Rattle.book_model.specs.Examples.Steps.{Counts, book_after_three, failed, new_book, state_of}

pub fits : MustCheckpoint book_after_three → ⊥
fits must =
    let size : length (flat_map spelling first_events) ≡ 26 = refl in
    omega (arith, size, must)

pub flush_faulty : AnswersStep state_of book_after_three flush (faulty DiskFailed) failed
flush_faulty = record {
  result = Err (Faulty DiskFailed);
  reported = refl;
  saves = search (rules, fits, inl, inr);
  layout = refl;
}

acked_is : (n : ℕ) (result : Result ℕ Trouble) → acked n ≡ reply_of_save result → result ≡ Ok n
acked_is n (Ok m) reported = cc
acked_is n (Err (Refused why)) reported = cc
acked_is n (Err (Faulty why)) reported = cc

-- A save that acknowledges has succeeded.
pub done : (Saving : BookView Counts → Result ℕ Trouble → BookView Counts → Type 0)
    (old new : BookView Counts) (n : ℕ) → ReportsSave Saving old (acked n) new
    → Saving old (Ok n) new
done Saving old new n reports =
    subst (λ r. Saving old r new) (acked_is n reports.result reports.reported) reports.saves

-- The book after the first n commands.
abbrev book_at : ℕ → BookView Counts
book_at n = record new_book { session = session_after new_store (take n first_three) }

-- The three commands, and then these steps.
pub three_then : (steps : List Step) (answers : List Reply) (new : BookView Counts)
    → Steps state_of book_after_three steps answers new
    → Steps state_of new_book (first_three ++ steps) (three_replies ++ answers) new
three_then steps answers new rest = (
  book_at 1,
  record { reported = refl; taken = refl },
  (
    book_at 2,
    record { reported = refl; taken = refl },
    (book_after_three, record { reported = refl; taken = refl }, rest),
  ),
)
