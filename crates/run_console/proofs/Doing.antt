-- What a line asks for that asks for no step, and what it is replied.
use Rattle.std.specs.Prelude.{◌≡◌, false, List, [], ◌∷◌}
use Rattle.std.proofs.Common.{sym, subst, ap, ◌∙◌}
use Rattle.run_model.specs.declared.commands.Step.{Step}
use Rattle.run_model.specs.State.{State}
use Rattle.run_disk.specs.Disk.{DiskState}
use Rattle.run_session.proofs.Staying.{stays_same}
use Rattle.book_model.specs.Books.{BookView}
use Rattle.console_lines.specs.declared.line_requests.LineRequest.{LineRequest}
use Rattle.console_lines.specs.declared.line_replies.LineReply.{LineReply}
use Rattle.console_lines.specs.Script.{after_asked, replies_to}
use Rattle.run_console.specs.RunProgress.{Does}
use Rattle.run_console.specs.TakenSteps.{TakesAll, steps_asked}
use Rattle.run_console.specs.SavingLines.{IsSaving}
use Rattle.run_console.proofs.TakenSteps.{takes_none}

-- What is said of a state is the one reply.
pub printed_of : {p q : State} {r : LineReply} (say : State → LineReply)
    → p ≡ q
    → r ≡ say p
    → r ∷ [] ≡ say q ∷ []
printed_of say same is = ap (λ x. x ∷ []) (is ∙ ap say same)

-- A line that asks for no step leaves the book.
pub does_none : {D : Type 0} {state : D → DiskState} {a : LineRequest} {b : BookView D}
    {answers : List LineReply}
    → steps_asked a ≡ []
    → b.session ≡ after_asked b.session a
    → (IsSaving a → ⊥)
    → b.journal.broken ≡ false
    → answers ≡ replies_to b.session a
    → Does state a b b answers
does_none {state} {b} none same other sound replied = record {
  taken = subst (λ (l : List Step). TakesAll state b l b) (sym none) (takes_none state);
  replied = replied;
  session = same;
  saved = λ saving. absurd (other saving);
  sound = sound;
  lasts = stays_same b.session.state;
}
