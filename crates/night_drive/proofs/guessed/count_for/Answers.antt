use Rattle.std.proofs.Common.{arith, subst}
use Rattle.night_drive.specs.Guessed.{IsOwner}
use Rattle.night_drive.proofs.Guessing.{counted_try}
use Rattle.night_drive.proofs.guessed.count_for.Goals as goal

pub returns-in-Command-clause-counted : goal.returns-in-Command-clause-counted
returns-in-Command-clause-counted g c =
    let p = c.args.state.now in
    let names = c.args.names.now in
    let commands = c.args.plan.now.commands.items in
    counted_try p c.args.ends.now c.args.plan.now names c.args.n c.in-Command.c
    c.args.known.now.items c.count_try.new.known.items (omega (arith, c.ranges.n.fits))
    c.requires.distinct
    (subst (λ o. IsOwner p names commands c.args.n o) c.in-Command.is c.requires.owner)
    c.count_try.ensures.tries c.requires.counted
