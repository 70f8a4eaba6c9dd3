-- The text of a reply.
use Rattle.std.specs.Prelude.{ℕ, Bool, if◌then◌else◌, List, [], ◌∷◌, ◌++◌, codes, Option, Some}
use Rattle.std.specs.Prelude.{None}
use Rattle.std.specs.Fmt.{decimal}
use Rattle.run_model.specs.declared.scopes.Reason.{Reason}
use Rattle.run_model.specs.declared.tasks.Phase.{Phase}
use Rattle.run_model.specs.declared.tasks.Phase.TheVariants as phase
use Rattle.run_model.specs.declared.answers.Answer.{Answer}
use Rattle.run_model.specs.declared.answers.Answer.TheVariants as answer
use Rattle.run_model.specs.declared.answers.GroupLook.{GroupLook}
use Rattle.run_model.specs.declared.answers.Reply.{Reply as Answered}
use Rattle.run_model.specs.declared.answers.Reply.TheVariants as answered
use Rattle.run_model.specs.declared.answers.TaskInfo.{TaskInfo}
use Rattle.run_model.specs.Faults.{fault_text, trouble_text}
use Rattle.run_model.specs.Refusals.{refusal_text}
use Rattle.run_model.specs.Reasons.{reason_text}
use Rattle.console_lines.specs.declared.line_replies.LineReply.{LineReply}
use Rattle.console_lines.specs.declared.line_replies.LineReply.TheVariants as reply
use Rattle.console_lines.specs.declared.tallies.JobTally.{JobTally}

-- The keyword of a phase. That of a task that has failed is `error`, whatever its error is.
abbrev pub phase_word : Phase → List ℕ
phase_word phase.Held = codes "held"
phase_word phase.Ready = codes "ready"
phase_word phase.Running = codes "running"
phase_word phase.Success = codes "success"
phase_word (phase.Failure error) = codes "error"
phase_word phase.Interrupted = codes "interrupted"

-- The text of a phase.
abbrev pub phase_text : Phase → List ℕ
phase_text phase.Held = codes "held"
phase_text phase.Ready = codes "ready"
phase_text phase.Running = codes "running"
phase_text phase.Success = codes "success"
phase_text (phase.Failure error) = codes "error " ++ error
phase_text phase.Interrupted = codes "interrupted"

-- The number of a task, and its phase.
abbrev pub task_text : ℕ → Phase → List ℕ
task_text n phase = codes "task " ++ decimal n ++ codes " " ++ phase_text phase

-- The text of the answer to an accepted command.
abbrev pub answer_text : Answer → List ℕ
answer_text (answer.Scope s) = codes "scope " ++ decimal s
answer_text (answer.Group g None) = codes "group " ++ decimal g
answer_text (answer.Group g (Some s)) =
    codes "group " ++ decimal g ++ (codes " scope " ++ decimal s)
answer_text answer.Done = codes "ok"
answer_text (answer.Task n phase) = task_text n phase
answer_text (answer.Waited None) = codes "wait ok"
answer_text (answer.Waited (Some error)) = codes "wait error " ++ error

-- A deadline in seconds, or `none`.
abbrev pub deadline_text : Option ℕ → List ℕ
deadline_text None = codes "none"
deadline_text (Some moment) = decimal moment

-- The reason and the cause of a scope that is done.
abbrev pub ending_text : Reason → List ℕ → List ℕ
ending_text reason cause = codes "; err " ++ reason_text reason ++ (codes "; cause " ++ cause)

-- Whether a scope is live or done, its deadline, and the reason and the cause if it is done.
abbrev pub scope_text : Option (Reason × List ℕ) → Option ℕ → List ℕ
scope_text None deadline = codes "live; deadline " ++ deadline_text deadline
scope_text (Some ending) deadline =
    codes "done; deadline " ++ deadline_text deadline ++ ending_text ending.0 ending.1

-- A task that was started: its number, its job and its argument.
abbrev pub started_text : TaskInfo → List ℕ
started_text info =
    codes "start " ++ decimal info.task ++ (codes " " ++ info.job) ++ (codes " " ++ info.argument)

-- A limit, or `none`.
abbrev pub limit_text : Option ℕ → List ℕ
limit_text None = codes "none"
limit_text (Some most) = decimal most

-- Whether something was done.
abbrev pub yes_or_no : Bool → List ℕ
yes_or_no done = if done then codes "yes" else codes "no"

-- An error, or `none`.
abbrev pub error_text : Option (List ℕ) → List ℕ
error_text None = codes "none"
error_text (Some error) = error

-- A group: its unfinished tasks, its limit, whether it was waited for, and its first error.
abbrev pub group_text : GroupLook → List ℕ
group_text look =
    codes "unfinished " ++ decimal look.unfinished
    ++ (codes "; limit " ++ limit_text look.limit)
    ++ (codes "; waited " ++ yes_or_no look.waited)
    ++ (codes "; error " ++ error_text look.error)

-- A job, how many tasks it has, and how many of them have ended in each way.
abbrev pub tally_text : JobTally → List ℕ
tally_text tally =
    codes "tally " ++ tally.job
    ++ (codes " total " ++ decimal tally.counts.total)
    ++ (codes "; success " ++ decimal tally.counts.success)
    ++ (codes "; failure " ++ decimal tally.counts.failure)
    ++ (codes "; interrupted " ++ decimal tally.counts.interrupted)

-- The text of the reply to a step.
abbrev pub step_text : Answered → List ℕ
step_text (answered.Answer answer) = answer_text answer
step_text (answered.Started started) = started_text started.info
step_text (answered.Finished event) = codes "ok"
step_text (answered.Acked count) = codes "acked " ++ decimal count
step_text (answered.Refused why) = refusal_text why
step_text (answered.Faulty why) = fault_text why

-- The text of a reply, without its LF.
abbrev pub reply_text : LineReply → List ℕ
reply_text reply.BadLine = codes "bad line"
reply_text (reply.Refused why) = refusal_text why
reply_text (reply.Step answer) = step_text answer
reply_text (reply.Scope look) = scope_text look.done look.deadline
reply_text (reply.Value text) = codes "value " ++ text
reply_text (reply.Task n phase) = task_text n phase
reply_text (reply.Group look) = group_text look
reply_text (reply.Tally tally) = tally_text tally
reply_text (reply.Failed why) = trouble_text why

-- A reply is written as one line: its text, and an LF.
abbrev pub reply_line : LineReply → List ℕ
reply_line reply = reply_text reply ++ 10 ∷ []

-- The lines of several replies, one after another.
abbrev pub reply_lines : List LineReply → List ℕ
reply_lines [] = []
reply_lines (reply ∷ replies) = reply_line reply ++ reply_lines replies
