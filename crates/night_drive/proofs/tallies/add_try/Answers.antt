use Rattle.std.proofs.Common.{◌≡◌, ◌∙◌, arith, get_or, length, refl, subst, false}
use Rattle.night_drive.specs.Tallies.{AddsTry}
use Rattle.night_drive.proofs.Tallying.{try_more}
use Rattle.night_drive.proofs.tallies.add_try.Goals as goal

pub loop-g-preserved : goal.loop-g-preserved
loop-g-preserved c = record {
  sized = c.add_to.ensures.sized ∙ c.loop-g.invariant.sized;
  adds = try_more c.args.index.now c.args.owners.now (get_or c.args.owners.now c.loop-g.g false)
      c.loop-g.g c.args.key.now c.args.n c.args.failed c.args.tallies.now.items
      c.loop-g.tallies.items c.add_to.new.tallies.items refl c.loop-g.invariant.adds
      c.add_to.ensures.adds;
}

pub returns-clause-adds : goal.returns-clause-adds
returns-clause-adds c =
    let all : c.loop-g.g ≡ length c.args.owners.now = omega arith in
    subst (λ m. AddsTry m c.args.index.now c.args.owners.now c.args.key.now c.args.n c.args.failed
    c.args.tallies.now.items c.loop-g.tallies.items) all c.loop-g.invariant.adds
