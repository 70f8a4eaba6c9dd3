use Rattle.std.proofs.Common.{◌++◌, sym, ap, ◌∙◌, append-nil}
use Rattle.run_console.proofs.reply_writes.append_reply.Goals as goal

pub returns-in-Some : goal.returns-in-Some
returns-in-Some c = rw c.in-Some.is (
    c.append.ensures.items
    ∙ ap (λ t. c.args.buffer.now.items ++ t) (sym (append-nil _)))
