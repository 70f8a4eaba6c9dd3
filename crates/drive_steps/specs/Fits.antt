-- Whether a store and its log have room for the commands that begin.
use Rattle.std.specs.Prelude.{◌≡◌, ◌≤◌, ◌+◌, ◌*◌, ◌&&◌, nat_le, ℕ, Bool, true, false, List, All}
use Rattle.std.specs.Prelude.{length}
use Rattle.std.specs.List.{list_any}
use Rattle.run_model.specs.declared.answers.Reply.{Reply}
use Rattle.run_model.specs.declared.answers.Reply.TheVariants as reply
use Rattle.run_model.specs.declared.bounds.TheConstants.{SESSION_LEN}
use Rattle.run_model.specs.declared.refusals.Refusal.{Refusal}
use Rattle.run_model.specs.declared.refusals.Refusal.TheVariants as refusal
use Rattle.run_model.specs.Layouts.{most_tasks}
use Rattle.run_model.specs.Replies.{reserve}
use Rattle.run_model.specs.Session.{Session, replies}
use Rattle.run_model.specs.State.{State}
use Rattle.night_plan.specs.declared.commands.Command.{Command}
use Rattle.night_drive.specs.declared.names.Names.{Names}
use Rattle.drive_steps.specs.Starts.{row_of}

-- The store has a row for this many more tasks. The log has 126 bytes for each: 41 for the record
-- of the task, 5 for that of its start, and 80 that stay free for its end.
abbrev pub fits : State → (log many : ℕ) → Bool
fits p log many =
    nat_le (length p.work.tasks + many) (most_tasks p.work.layout)
    && nat_le (log + 126 * many + reserve p) SESSION_LEN

-- The refusal is for want of room in the store or in the log.
abbrev pub is_for_room : Refusal → Bool
is_for_room refusal.SessionFull = true
is_for_room refusal.TooManyTasks = true
is_for_room _ = false

abbrev pub wants_room : Reply → Bool
wants_room (reply.Refused why) = is_for_room why
wants_room _ = false

-- If this many commands fit, no step of a row that begins them is refused for want of room. (A key
-- has at most 32 bytes, as every name.)
abbrev pub RowsThatFitHaveRoom : Type 0
RowsThatFitHaveRoom =
    (s : Session) (names : Names) (commands : List Command) (chosen : List ℕ)
    → All (λ (key : List ℕ). length key ≤ 32) names.keys.items
    → fits s.state s.log (length chosen) ≡ true
    → list_any wants_room (replies s (row_of s.state names commands chosen)) ≡ false
