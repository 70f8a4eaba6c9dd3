use Rattle.std.proofs.Common.{◌≡◌, ◌<◌, ◌∙◌, None, ap, length, slice_get, sym}
use Rattle.std.proofs.lemmas.Option.{same_Some, slice_get-get_or}
use Rattle.night_drive.proofs.tallies.tally_at.Goals as goal

pub returns : goal.returns
returns c = λ d found.
    let same : c.in-Some.c ≡ d =
    same_Some c.in-Some.c d (sym c.in-Some.is ∙ c.find.ensures ∙ found) in
    let within : c.in-Some.c < length c.args.tallies.now =
    c.requires.within c.args.group c.in-Some.c c.args.key.now
    (sym c.find.ensures ∙ c.in-Some.is) in
    ap (λ m. slice_get c.args.tallies.now m) (sym same)
    ∙ slice_get-get_or c.args.tallies.now c.in-Some.c (record { last = None; failures = 0 }) within
