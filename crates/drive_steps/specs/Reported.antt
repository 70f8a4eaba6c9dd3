-- Which begins may be reported of a row of steps, by the replies to the steps.
use Rattle.std.specs.Prelude.{ℕ, ◌&&◌, ◌==◌, Bool, true, false, List, [], ◌∷◌, length, Option, Some}
use Rattle.std.specs.Prelude.{None, slice_get, drop, if◌then◌else◌}
use Rattle.std.specs.Option.{option_map, option_and_then, option_map_or}
use Rattle.run_model.specs.declared.answers.Reply.{Reply}
use Rattle.run_model.specs.declared.answers.Reply.TheVariants as reply
use Rattle.run_model.specs.Session.{is_ack}
use Rattle.drive_steps.specs.declared.reported.Begun.{Begun}

-- The task of a reply to a start.
abbrev pub task_in : Reply → Option ℕ
task_in (reply.Started started) = Some started.info.task
task_in _ = None

-- The reply answers a command, and isn't a refusal.
abbrev pub is_answer : Reply → Bool
is_answer (reply.Answer answer) = true
is_answer _ = false

-- The task that was started, if the first two replies say that one was submitted and that one was
-- started.
abbrev pub first_started : List Reply → Option ℕ
first_started replies =
    option_and_then (λ first. if is_answer first
    then option_and_then task_in (slice_get replies 1) else None) (slice_get replies 0)

-- There is one reply, and it acknowledges what was flushed.
abbrev pub is_acked : List Reply → Bool
is_acked replies = length replies == 1 && option_map_or is_ack (slice_get replies 0) false

-- Each of these commands has begun, with the task that the reply to its start names. Nothing is
-- reported if one of the steps was refused or met a fault.
abbrev pub begins_reported : (chosen : List ℕ) → List Reply → Option (List Begun)
begins_reported [] replies = if is_acked replies then Some [] else None
begins_reported (c ∷ chosen) replies =
    option_and_then (λ task. option_map (λ begun. record { command = c; task = task } ∷ begun)
    (begins_reported chosen (drop 2 replies))) (first_started replies)
