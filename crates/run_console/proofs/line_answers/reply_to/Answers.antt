use Rattle.std.proofs.Common.{refl}
use Rattle.run_model.specs.State.{State}
use Rattle.console_lines.specs.Script.{group_reply, scope_reply, task_reply, value_reply}
use Rattle.run_console.proofs.Doing.{does_none, printed_of}
use Rattle.run_console.proofs.line_answers.reply_to.Goals as goal

-- ---- a line that asks for no step

pub returns-in-Nothing : goal.returns-in-Nothing
returns-in-Nothing g c = rw c.in-Nothing.is (does_none refl refl (λ h. h) c.requires.sound refl)

pub returns-in-BadLine : goal.returns-in-BadLine
returns-in-BadLine g c = rw c.in-BadLine.is (does_none refl refl (λ h. h) c.requires.sound refl)

pub returns-in-Refused : goal.returns-in-Refused
returns-in-Refused g c = rw c.in-Refused.is (does_none refl refl (λ h. h) c.requires.sound refl)

pub returns-in-Scope : goal.returns-in-Scope
returns-in-Scope g c =
    rw c.in-Scope.is
    (does_none refl refl (λ h. h) c.requires.sound
    (printed_of (λ (p : State). scope_reply p c.in-Scope.name)
    c.state.ensures.state c.scope_reply.ensures))

pub returns-in-Value : goal.returns-in-Value
returns-in-Value g c =
    rw c.in-Value.is
    (does_none refl refl (λ h. h) c.requires.sound
    (printed_of (λ (p : State). value_reply p c.in-Value.scope c.in-Value.key)
    c.state-in-Value.ensures.state c.value_reply.ensures))

pub returns-in-Task : goal.returns-in-Task
returns-in-Task g c =
    rw c.in-Task.is
    (does_none refl refl (λ h. h) c.requires.sound
    (printed_of (λ (p : State). task_reply p c.in-Task.task)
    c.state-in-Task.ensures.state c.task_reply.ensures))

pub returns-in-Result : goal.returns-in-Result
returns-in-Result g c =
    rw c.in-Result.is
    (does_none refl refl (λ h. h) c.requires.sound
    (printed_of (λ (p : State). group_reply p c.in-Result.group)
    c.state-in-Result.ensures.state c.group_reply.ensures))

-- ---- a step

pub returns-in-Step : goal.returns-in-Step
returns-in-Step g c = rw c.in-Step.is c.step_reply.ensures
