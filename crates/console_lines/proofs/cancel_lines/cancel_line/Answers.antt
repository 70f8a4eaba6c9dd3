use Rattle.std.specs.Prelude.{Some}
use Rattle.std.proofs.Common.{sym, ◌∙◌, ap}
use Rattle.console_lines.specs.LineRequests.{asks_cancel}
use Rattle.console_lines.specs.Words.{lent}
use Rattle.console_lines.proofs.WordLemmas.{rest_is}
use Rattle.console_lines.proofs.cancel_lines.cancel_line.Goals as goal

pub returns-in-Ok : goal.returns-in-Ok
returns-in-Ok c =
    rw c.in_ok-scope.ensures
    (ap Some (sym c.in-Ok.ensures.asked
    ∙ ap (asks_cancel c.in_ok-scope.scope.now) (sym (rest_is (lent c.in_ok-scope.cause)))))

pub returns-in-Err : goal.returns-in-Err
returns-in-Err c =
    rw c.in_ok-scope.ensures
    (ap Some (sym c.in-Err.ensures.refused
    ∙ ap (asks_cancel c.in_ok-scope.scope.now) (sym (rest_is (lent c.in_ok-scope.cause)))))
