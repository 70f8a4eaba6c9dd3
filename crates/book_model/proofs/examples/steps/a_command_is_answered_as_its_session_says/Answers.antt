use Rattle.std.proofs.Common.{◌≡◌, length, arith, ap}
use Rattle.book_model.specs.Books.{BookView}
use Rattle.book_model.specs.Examples.Calls.{scope_made}
use Rattle.book_model.specs.Examples.Steps.{Counts}
use Rattle.book_model.proofs.examples.steps.a_command_is_answered_as_its_session_says.Goals as goal

pub returns-clause-reported : goal.returns-clause-reported
returns-clause-reported c new takes = let made : scope_made 2 ≡ scope_made 1 = takes.reported in cc

pub returns-clause-taken : goal.returns-clause-taken
returns-clause-taken c takes =
    omega (arith, ap (λ (h : BookView Counts). length h.session.history) takes.taken)
