use Rattle.std.proofs.Common.{◌∙◌, ◌+◌, ap, sym, arith}
use Rattle.drive_nights.specs.Names.{free_round, is_free, round_name}
use Rattle.drive_nights.proofs.Searching.{first_more}
use Rattle.drive_nights.proofs.names.free_round.Goals as goal

pub loop-k-preserved : goal.loop-k-preserved
loop-k-preserved g c =
    let state = c.args.state.now in
    let group = c.args.group.now in
    let night = c.args.night in
    first_more (λ k. is_free state (round_name group night k)) c.loop-k.k
    (c.most_rounds-most.result + 1) (free_round state group night)
    (omega (arith, c.loop-k-test.true))
    (sym (ap (is_free state) c.round_name.ensures.value) ∙ sym c.is_free.ensures
    ∙ c.if-is_free.false)
    c.loop-k.invariant
