use Rattle.std.proofs.Common.{◌<◌, ◌-◌, arith, subst, sym}
use Rattle.std.specs.Prelude.{slice_index}
use Rattle.std.proofs.lemmas.List.{get_or_read}
use Rattle.night_plan.specs.Links.{IsRankedFrom}
use Rattle.night_plan.proofs.Linking.{ranked_down, ranked_within}
use Rattle.night_plan.proofs.links.last_unranked.Goals as goal

pub loop-next-smaller : goal.loop-next-smaller
loop-next-smaller c =
    let commands = c.args.commands.now in
    let ranks = c.args.ranks.now in
    let before = c.args.links.now.before.items in
    let next = c.loop-next.next in
    let within = ranked_within commands ranks c.args.g next c.loop-next.invariant
    c.loop-next-test.true in
    let has : 0 < slice_index ranks (next - 1) = omega arith in
    let down = ranked_down commands c.args.groups ranks before c.args.links.now.last.items
    c.args.g next c.requires.links c.loop-next.invariant c.loop-next-test.true has in
    let sized = c.requires.links.sized in
    let at = get_or_read before (next - 1) c.index-next.result.now (omega (arith, within, sized))
    c.index-next.ensures 0 in
    let less = down.1 in
    omega (arith, at, less)

pub loop-next-preserved : goal.loop-next-preserved
loop-next-preserved c =
    let commands = c.args.commands.now in
    let ranks = c.args.ranks.now in
    let before = c.args.links.now.before.items in
    let next = c.loop-next.next in
    let within = ranked_within commands ranks c.args.g next c.loop-next.invariant
    c.loop-next-test.true in
    let has : 0 < slice_index ranks (next - 1) = omega arith in
    let down = ranked_down commands c.args.groups ranks before c.args.links.now.last.items
    c.args.g next c.requires.links c.loop-next.invariant c.loop-next-test.true has in
    let sized = c.requires.links.sized in
    let at = get_or_read before (next - 1) c.index-next.result.now (omega (arith, within, sized))
    c.index-next.ensures 0 in
    subst (IsRankedFrom commands ranks c.args.g) (sym at) down.0
