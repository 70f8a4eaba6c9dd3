-- The replies to the lines of an input, beginning in a session.
use Rattle.std.specs.Prelude.{ℕ, List, [], ◌∷◌, ◌++◌, map, Option, Some, None}
use Rattle.std.specs.Option.{option_map_or, option_and_then}
use Rattle.std.specs.List.{cons_option}
use Rattle.run_model.specs.declared.commands.Step.{Step}
use Rattle.run_model.specs.declared.answers.Reply.TheVariants as answered
use Rattle.run_model.specs.declared.refusals.Refusal.TheVariants as refusal
use Rattle.run_model.specs.State.{State, scope_named, group_named}
use Rattle.run_model.specs.Questions.{look_of, group_look_of, task_look_of}
use Rattle.run_model.specs.Scopes.{value_of}
use Rattle.run_model.specs.Session.{Session, event_of_step, reply_of_step, with_event}
use Rattle.console_lines.specs.declared.line_requests.LineRequest.{LineRequest}
use Rattle.console_lines.specs.declared.line_requests.LineRequest.TheVariants as asked
use Rattle.console_lines.specs.declared.line_replies.LineReply.{LineReply}
use Rattle.console_lines.specs.declared.line_replies.LineReply.TheVariants as printed
use Rattle.console_lines.specs.Lines.{lines_of}
use Rattle.console_lines.specs.LineRequests.{request_of}
use Rattle.console_lines.specs.Replies.{reply_line, reply_lines}
use Rattle.console_lines.specs.Tallies.{tallies_of}

-- ---- one line

-- The reply about a scope: its state, or a refusal if there is no such scope.
abbrev pub scope_reply : State → List ℕ → LineReply
scope_reply p name =
    option_map_or (λ look. printed.Scope look)
    (option_and_then (λ s. look_of p s) (scope_named p.tree name))
    (printed.Refused refusal.NoSuchScope)

-- The reply about a value: what the scope holds under a key. The refusal for a missing scope comes
-- before that for a key under which nothing is held.
abbrev pub value_reply : State → List ℕ → List ℕ → LineReply
value_reply p name key =
    option_map_or
    (λ s. option_map_or (λ text. printed.Value text) (value_of p.tree.scopes s key)
    (printed.Refused refusal.NoValue))
    (scope_named p.tree name) (printed.Refused refusal.NoSuchScope)

-- The reply about a task: its phase, or a refusal if there is no such task.
abbrev pub task_reply : State → ℕ → LineReply
task_reply p n =
    option_map_or (λ look. printed.Task n look.phase) (task_look_of p n)
    (printed.Refused refusal.NoSuchTask)

-- The reply about a group: its state, or a refusal if there is no such group.
abbrev pub group_reply : State → List ℕ → LineReply
group_reply p name =
    option_map_or (λ look. printed.Group look)
    (option_and_then (λ g. group_look_of p g) (group_named p.work name))
    (printed.Refused refusal.NoSuchGroup)

-- The replies to a request. The reply to a step is the session's answer to it. An empty line has no
-- reply, and a tally has one for each job.
abbrev pub replies_to : Session → LineRequest → List LineReply
replies_to s asked.Nothing = []
replies_to s asked.BadLine = printed.BadLine ∷ []
replies_to s (asked.Refused why) = printed.Refused why ∷ []
replies_to s (asked.Step x) = printed.Step (reply_of_step s x) ∷ []
replies_to s (asked.Scope name) = scope_reply s.state name ∷ []
replies_to s (asked.Value scope key) = value_reply s.state scope key ∷ []
replies_to s (asked.Task n) = task_reply s.state n ∷ []
replies_to s (asked.Result group) = group_reply s.state group ∷ []
replies_to s asked.Tally = map printed.Tally (tallies_of s.state.work.tasks)

-- The step in a request, if there is one.
abbrev pub step_of : LineRequest → Option Step
step_of (asked.Step x) = Some x
step_of _ = None

-- The session after a request. Only an accepted step changes it.
abbrev pub after_asked : Session → LineRequest → Session
after_asked s asks = with_event s (option_and_then (event_of_step s) (step_of asks))

-- The session after a line.
unfoldable pub after_line : Session → List ℕ → Session
after_line s line = after_asked s (request_of line)

-- The reply to a line.
unfoldable pub reply : Session → List ℕ → List ℕ
reply s line = reply_lines (replies_to s (request_of line))

-- ---- the lines of an input

-- The session after these lines.
abbrev pub after_lines : Session → List (List ℕ) → Session
after_lines s [] = s
after_lines s (line ∷ lines) = after_lines (after_line s line) lines

-- The steps in these lines, in order.
abbrev pub steps_of : List (List ℕ) → List Step
steps_of [] = []
steps_of (line ∷ lines) = cons_option (step_of (request_of line)) (steps_of lines)

-- The replies to these lines, one after another.
abbrev pub replies : Session → List (List ℕ) → List ℕ
replies s [] = []
replies s (line ∷ lines) = reply s line ++ replies (after_line s line) lines

-- The last line that is written, which holds the number of all events.
unfoldable pub closing : Session → List ℕ
closing s = reply_line (printed.Step (answered.Acked s.state.count))

-- Everything that is written for a whole input: the replies to its lines, and the last line.
abbrev pub script : Session → List ℕ → List ℕ
script s bytes = replies s (lines_of bytes) ++ closing (after_lines s (lines_of bytes))
