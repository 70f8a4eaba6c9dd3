use Rattle.std.proofs.Common.{◌≡◌, ◌∙◌, Some, ap, map, slice_get, sym}
use Rattle.std.proofs.lemmas.Option.{slice_get-map}
use Rattle.std.specs.Option.{option_map}
use Rattle.run_model.specs.State.{WorkState}
use Rattle.night_plan.proofs.Rows.{read}
use Rattle.night_drive.specs.Tallies.{owners_of}
use Rattle.night_drive.proofs.Guessing.{owner_by}
use Rattle.night_drive.proofs.Tallying.{row_owns}
use Rattle.night_drive.proofs.guessed.owner_of.Goals as goal

pub returns : goal.returns
returns g c =
    let p = c.args.state.now in
    let names = c.args.names.now in
    let task = c.in-Some.task.now in
    let row = c.in-Some-get.row.now in
    let is : slice_get p.work.tasks c.args.n ≡ Some task =
    sym (c.in-Some.ensures ∙ ap (λ (w : WorkState). slice_get w.tasks c.args.n) c.groups.ensures) in
    let at : slice_get c.args.owners.now task.group ≡ Some row =
    read c.args.owners.now task.group row c.in-Some-get.ensures.lookup.3.0
    c.in-Some-get.ensures.lookup.1 in
    let own : row.items ≡ owners_of p names task.group =
    row_owns p names _ task.group (map (λ row. row.items) c.args.owners.now) row.items
    c.requires.owned
    (slice_get-map (λ row. row.items) c.args.owners.now task.group
    ∙ ap (λ o. option_map (λ row. row.items) o) at) in
    owner_by p c.args.plan.now names c.args.n task c.as_slice.result.now c.owner_in.result
    c.requires.named is (sym c.counts.ensures ∙ c.if-not-counts.false)
    (c.as_slice.ensures.value ∙ own) c.owner_in.ensures
