use Rattle.std.proofs.Common.{◌+◌, ◌⊎◌, ◌<◌, ◌≤◌, ◌∙◌, ℕ, arith, length, refl, replicate, subst}
use Rattle.std.proofs.Common.{sym}
use Rattle.std.proofs.lemmas.List.{get_or-replicate, length-replicate}
use Rattle.run_disk.proofs.PlaceLemmas.{part_size, put_nothing, put_part}
use Rattle.run_disk.proofs.histories.put_value.Goals as goal

pub returns-then-skip-times : goal.returns-then-skip-times
returns-then-skip-times c =
    let start = c.saturating_sub-start.result in
    let skip = c.saturating_sub-skip.result in
    let count = c.min-count.result in
    let times = c.args.times in
    let counts = c.min-count.ensures in
    let reaches = c.if-start-window.true in
    let size = length-replicate {A = ℕ} times c.args.value in
    let room = part_size start count c.args.window.now (omega (arith, counts, reaches)) in
    put_part c.args.from c.args.at start skip count (replicate times c.args.value) c.fill.new.self
    c.args.window.now c.saturating_sub-start.ensures c.saturating_sub-skip.ensures reaches
    (omega (arith, size, c.if-skip-times.true)) (omega (arith, size, counts)) c.fill.ensures.len
    (λ j below. c.fill.ensures.clones j 0 (omega (arith, room, below)) refl
    ∙ sym (get_or-replicate times (skip + j) c.args.value 0 (omega (arith, counts, below))))

pub returns-else-start-window : goal.returns-else-start-window
returns-else-start-window c =
    let start = c.saturating_sub-start.result in
    let skip = c.saturating_sub-skip.result in
    let window = c.args.window.now in
    put_nothing c.args.from c.args.at start skip (replicate c.args.times c.args.value) window
    c.saturating_sub-start.ensures c.saturating_sub-skip.ensures
    (subst (λ (n : ℕ). ((start < length window) × (n ≤ skip)) ⊎ (length window ≤ start))
    (sym (length-replicate {A = ℕ} c.args.times c.args.value)) c.else-start-window.either)
