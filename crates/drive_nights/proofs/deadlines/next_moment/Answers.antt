use Rattle.std.proofs.Common.{◌∙◌, ◌≡◌, List, Option, ap, arith, ℕ}
use Rattle.std.specs.Prelude.{length}
use Rattle.night_plan.proofs.Rows.{read}
use Rattle.night_drive.specs.Searches.{last_below}
use Rattle.night_drive.specs.Seen.{is_scope}
use Rattle.drive_nights.specs.Deadlines.{sooner}
use Rattle.drive_nights.proofs.Waking.{comes_all, comes_first, comes_more}
use Rattle.drive_nights.proofs.deadlines.next_moment.Goals as goal

pub loop-group-init : goal.loop-group-init
loop-group-init g c =
    comes_first c.args.state.now c.args.night c.args.groups.now c.args.retry c.base_of.result
    c.sooner-next.result c.base_of.ensures.base
    (c.sooner-next.ensures ∙ ap (sooner c.args.retry) c.end_of.ensures)

pub loop-group-preserved : goal.loop-group-preserved
loop-group-preserved g c =
    let p = c.args.state.now in
    let groups = c.args.groups.now in
    let i = c.loop-group.group-index in
    let group = c.group-item.result in
    comes_more p c.args.night groups c.args.retry i group c.last_scope.result c.loop-group.next
    c.sooner-next-in-loop-group.result
    (read groups i group c.loop-group-test.true c.group-item.is)
    (c.last_scope.ensures.last
    ∙ ap (λ (text : Option (List ℕ)). last_below (is_scope p text group) (length p.tree.scopes))
    c.night_text-text.ensures)
    (c.sooner-next-in-loop-group.ensures
    ∙ ap (sooner c.loop-group.next) c.end_of-in-loop-group.ensures)
    c.loop-group.invariant

pub returns : goal.returns
returns g c =
    let whole : c.loop-group.group-index ≡ length c.args.groups.now = omega arith in
    comes_all c.args.state.now c.args.night c.args.groups.now c.args.retry
    c.loop-group.group-index c.loop-group.next whole c.loop-group.invariant
