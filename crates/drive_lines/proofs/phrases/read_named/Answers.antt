use Rattle.drive_lines.proofs.PhraseTexts.{head_unread, name_unread}
use Rattle.drive_lines.proofs.phrases.read_named.Goals as goal

pub returns-in_err-parsed : goal.returns-in_err-parsed
returns-in_err-parsed c =
    rw c.from_residual-in_err-parsed.ensures (head_unread c.args.line.now c.in_ok-head.head.now
    c.in_ok-head.name.now c.in_ok-head.ensures c.in_err-parsed.ensures)

pub returns-in_err-read : goal.returns-in_err-read
returns-in_err-read c =
    rw c.from_residual-in_err-read.ensures (name_unread c.args.line.now c.in_ok-head.head.now
    c.in_ok-head.name.now c.in_ok-head.ensures c.in_err-read.ensures)
