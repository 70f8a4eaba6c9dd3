use Rattle.std.proofs.Common.{◌≡◌, ◌∙◌, Some, set, slice_get, subst, sym}
use Rattle.night_plan.proofs.Rows.{read}
use Rattle.night_drive.specs.declared.tallies.Tally.{Tally}
use Rattle.night_drive.specs.Tallies.{AddsTo}
use Rattle.night_drive.proofs.Tallying.{adds_found}
use Rattle.night_drive.proofs.tallies.add_to.Goals as goal

pub returns-clause-adds : goal.returns-clause-adds
returns-clause-adds c =
    let index = c.args.index.now in
    let old = c.args.tallies.now.items in
    let found = sym c.find.ensures ∙ c.in-Some.is in
    let at_c : slice_get old c.in-Some.c ≡ Some c.index-tally.result.now =
    read old c.in-Some.c c.index-tally.result.now
    (c.requires.within c.args.g c.in-Some.c c.args.key.now found) c.index-tally.ensures in
    subst (λ (t : Tally). AddsTo index c.args.owns c.args.g c.args.key.now c.args.n c.args.failed
    old (set old c.in-Some.c t)) (sym c.with_try.ensures)
    (adds_found index c.args.owns c.args.g c.args.key.now c.args.n c.args.failed old c.in-Some.c
    c.index-tally.result.now c.requires.apart c.if-not-owns.false found at_c)
