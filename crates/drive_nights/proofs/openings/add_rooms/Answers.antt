use Rattle.std.proofs.Common.{◌≡◌, ◌∙◌, ◌++◌, List, [], ℕ, Option, Some, ap, slice_get}
use Rattle.std.specs.Option.{option_map_or}
use Rattle.night_plan.proofs.Rows.{read}
use Rattle.drive_nights.specs.Openings.{rooms_below, until_at}
use Rattle.drive_nights.specs.Rooms.{room_steps}
use Rattle.drive_nights.proofs.Searching.{steps_more}
use Rattle.drive_nights.proofs.openings.add_rooms.Goals as goal

pub loop-g-preserved : goal.loop-g-preserved
loop-g-preserved g c =
    let p = c.args.state.now in
    let night = c.args.night in
    let base = c.args.base.now in
    let moved = c.args.moved in
    let groups = c.args.groups.now in
    let untils = c.args.untils.now in
    let group = c.index-groups-g.result in
    let at : slice_get groups c.loop-g.g ≡ Some group =
    read groups c.loop-g.g group c.loop-g-test.true c.index-groups-g.is in
    let here = room_steps p night base moved group (until_at untils c.loop-g.g) in
    steps_more (rooms_below p night base moved groups untils) c.loop-g.g c.args.steps.now.items
    c.loop-g.steps.items c.add_room.new.steps.items here c.loop-g.invariant
    (c.in_ok-add_room.ensures
    ∙ ap (λ u. c.loop-g.steps.items ++ room_steps p night base moved group u)
    c.until_at-until.ensures)
    (ap (λ (o : Option (List ℕ)). rooms_below p night base moved groups untils c.loop-g.g
    ++ option_map_or (λ (x : List ℕ). room_steps p night base moved x (until_at untils c.loop-g.g))
    o []) at)
