use Rattle.std.proofs.Common.{◌∙◌, ap, get_or}
use Rattle.run_disk.proofs.PlaceLemmas.{part_byte, put_nothing, put_part}
use Rattle.run_disk.proofs.histories.put.Goals as goal

pub returns-then-skip-bytes : goal.returns-then-skip-bytes
returns-then-skip-bytes c =
    let skip = c.saturating_sub-skip.result in
    let count = c.min-count.result in
    put_part c.args.from c.args.at c.saturating_sub-start.result skip count c.args.bytes.now
    c.copy_from_slice.new.self c.args.window.now c.saturating_sub-start.ensures
    c.saturating_sub-skip.ensures c.if-start-window.true c.if-skip-bytes.true c.min-count.ensures
    c.copy_from_slice.ensures.len
    (λ j below. ap (λ xs. get_or xs j 0) c.copy_from_slice.ensures.after
    ∙ part_byte skip count c.args.bytes.now j below)

pub returns-else-start-window : goal.returns-else-start-window
returns-else-start-window c =
    put_nothing c.args.from c.args.at c.saturating_sub-start.result c.saturating_sub-skip.result
    c.args.bytes.now c.args.window.now c.saturating_sub-start.ensures c.saturating_sub-skip.ensures
    c.else-start-window.either
