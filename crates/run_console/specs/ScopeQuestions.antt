-- A line that asks how a scope is, of a state that has it.
use Rattle.std.specs.Prelude.{◌≡◌, ℕ, List, Some, IfSome}
use Rattle.std.specs.Option.{option_and_then}
use Rattle.run_model.specs.declared.answers.Look.{Look}
use Rattle.run_model.specs.Questions.{look_of}
use Rattle.run_model.specs.State.{State, scope_named}
use Rattle.run_model.specs.Texts.{IsText}
use Rattle.run_session.specs.declared.questions.ScopeStatusRef.{ScopeStatusRef}
use Rattle.run_session.specs.Shown.{shown_by}
use Rattle.console_lines.specs.declared.line_requests.LineRequest.TheVariants as asked
use Rattle.console_lines.specs.LineRequests.{request_of}

-- A line asks for the state of the scope with some name, and this is the answer, without the name.
pub record IsAsked (p : State) (line : List ℕ) (view : ScopeStatusRef) : Type 0 where
  pub name : List ℕ
  pub asks : request_of line ≡ asked.Scope name
  pub look : Look
  pub there : option_and_then (λ s. look_of p s) (scope_named p.tree name) ≡ Some look
  pub shows : shown_by view ≡ (look.done, look.deadline)
  pub text : IfSome view.done (λ ending. IsText ending.1.now)
