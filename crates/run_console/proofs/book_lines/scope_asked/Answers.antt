use Rattle.std.proofs.Common.{sym}
use Rattle.run_console.proofs.ScopeQuestions.{looked}
use Rattle.run_console.proofs.book_lines.scope_asked.Goals as goal

pub returns : goal.returns
returns g c =
    looked c.args.state.now c.args.line.now c.in_ok-scope_word.field-0.now c.in_ok-scope.scope
    c.scope_status.result (sym c.in_ok-scope_word.ensures) c.in_ok-scope.ensures.name
    (sym c.in_ok-scope.ensures.scope) c.scope_status.ensures.look c.scope_status.ensures.text
