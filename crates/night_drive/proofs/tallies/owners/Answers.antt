use Rattle.std.proofs.Common.{◌≡◌, ◌+◌, ◌∙◌, ap, arith, length, map, subst, sym}
use Rattle.std.proofs.lemmas.List.{map_push}
use Rattle.night_drive.specs.Tallies.{AreOwners}
use Rattle.night_drive.proofs.Tallying.{owners_more}
use Rattle.night_drive.proofs.tallies.owners.Goals as goal

pub loop-h-preserved : goal.loop-h-preserved
loop-h-preserved g c =
    let p = c.args.state.now in
    let names = c.args.names.now in
    subst (λ xs. AreOwners (c.loop-h.h + 1) p names xs)
    (sym (ap (λ xs. map (λ row. row.items) xs) c.in_ok-push.ensures.items
    ∙ map_push (λ row. row.items) c.loop-h.owners.items c.in_ok-row.row))
    (owners_more p names c.loop-h.h (map (λ row. row.items) c.loop-h.owners.items)
    c.in_ok-row.row.items c.in_ok-row.ensures c.loop-h.invariant)

pub returns : goal.returns
returns g c =
    let p = c.args.state.now in
    let all : c.loop-h.h ≡ length p.work.groups =
    omega (arith, c.group_count-h-end.ensures.len) in
    subst (λ m. AreOwners m p c.args.names.now (map (λ row. row.items) c.loop-h.owners.items)) all
    c.loop-h.invariant
