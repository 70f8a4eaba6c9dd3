-- What a step is answered, and what is printed for a line that asks for it.
use Rattle.std.specs.Prelude.{◌≡◌, ℕ, List, false}
use Rattle.std.proofs.Common.{ap, subst, ◌∙◌, append-nil}
use Rattle.run_model.specs.declared.commands.Step.{Step}
use Rattle.run_model.specs.Session.{Session, reply_of_step}
use Rattle.run_model.specs.Session as model
use Rattle.run_disk.specs.Disk.{DiskState}
use Rattle.book_model.specs.Books.{BookView, IsReached}
use Rattle.book_model.specs.Plays.{Plays}
use Rattle.book_model.specs.Steps.{playing}
use Rattle.book_model.proofs.Playing.{plays_sound}
use Rattle.book_model.proofs.Rows.{row_steps}
use Rattle.book_model.proofs.Stepping.{steps_play}
use Rattle.console_lines.specs.declared.line_requests.LineRequest.TheVariants as asked
use Rattle.console_lines.specs.declared.line_replies.LineReply.TheVariants as printed
use Rattle.console_lines.specs.LineRequests.{request_of}
use Rattle.console_lines.specs.Replies.{reply_line, reply_lines}
use Rattle.console_lines.specs.Script.{replies_to, reply, steps_of}
use Rattle.run_console.specs.TakenSteps.{TakesAll}

pub line_printed : (s : Session) (line : List ℕ) (x : Step) → request_of line ≡ asked.Step x
    → reply s line ≡ reply_line (printed.Step (reply_of_step s x))
unfolding reply
line_printed s line x e =
    ap (λ a. reply_lines (replies_to s a)) e
    ∙ append-nil (reply_line (printed.Step (reply_of_step s x)))

-- Where none was answered by a fault, steps were answered as the session says.
pub row_answered : {D : Type 0} (state : D → DiskState) (old new : BookView D)
    (lines : List (List ℕ)) → old.journal.broken ≡ false → IsReached old
    → (taken : TakesAll state old (steps_of lines) new)
    → taken.answers ≡ model.replies old.session (steps_of lines)
row_answered state old new lines sound reached taken =
    let steps = steps_of lines in
    let from = steps_play state old new steps taken.answers reached
    (row_steps state old new steps taken.answers taken.row) in
    (plays_sound old.session (playing new) steps taken.answers
    (subst (λ k. Plays (record { session = old.session; broken = k }) steps taken.answers
    (playing new)) sound from.plays) taken.fine).0
