use Rattle.std.specs.Prelude.{◌≡◌, ◌+◌, take, vec_capacity, vec_len}
use Rattle.run_book.proofs.Playing.{HasPlayed}
use Rattle.run_book.proofs.books.Book.play.Given as goal

abbrev pub invariant-loop-step : goal.invariant-loop-step
invariant-loop-step g l =
    HasPlayed g.D.RunDisk.state l.fn.self l.self (take l.step-index l.steps) l.fn.replies.items
    l.replies.items
    × (vec_len l.replies ≡ vec_len l.fn.replies + l.step-index)
    × (vec_capacity l.replies ≡ vec_capacity l.fn.replies)
