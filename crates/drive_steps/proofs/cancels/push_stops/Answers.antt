use Rattle.std.proofs.Common.{◌∙◌, arith, sym}
use Rattle.drive_steps.proofs.Canceling.{stops_next, stops_skip}
use Rattle.drive_steps.proofs.cancels.push_stops.Goals as goal

pub loop-cancel-preserved-in_default : goal.loop-cancel-preserved-in_default
loop-cancel-preserved-in_default g c =
    stops_skip c.args.state.now c.args.names.now c.args.groups.now c.loop-cancel.cancel-index
    c.cancel-item.result c.index-group.result.now c.args.steps.now.items c.loop-cancel.steps.items
    (omega arith) c.cancel-item.is c.requires c.index-group.ensures
    (sym c.open_scope.ensures.last ∙ c.in_default.is) c.loop-cancel.invariant

pub loop-cancel-preserved : goal.loop-cancel-preserved
loop-cancel-preserved g c =
    stops_next c.args.state.now c.args.names.now c.args.groups.now c.loop-cancel.cancel-index
    c.in-Some.scope c.cancel-item.result c.index-group.result.now c.stop_of.result
    c.args.steps.now.items c.loop-cancel.steps.items c.push.new.self.items (omega arith)
    c.cancel-item.is c.requires c.index-group.ensures
    (sym c.open_scope.ensures.last ∙ c.in-Some.is) c.stop_of.ensures c.in_ok-push.ensures.items
    c.loop-cancel.invariant
