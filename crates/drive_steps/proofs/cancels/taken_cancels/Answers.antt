use Rattle.std.proofs.Common.{◌∙◌, ◌==◌, List, ap, arith, sym}
use Rattle.std.specs.List.{list_any}
use Rattle.drive_steps.specs.declared.cancels.CommandCancel.{CommandCancel}
use Rattle.drive_steps.proofs.Canceling.{taken_more, taken_named, taken_not}
use Rattle.drive_steps.proofs.cancels.taken_cancels.Goals as goal

pub loop-cancel-preserved-then-is_named : goal.loop-cancel-preserved-then-is_named
loop-cancel-preserved-then-is_named g c =
    taken_named c.args.state.now c.args.names.now c.args.plan.now.commands.items
    c.args.heard.now c.args.cancels.now c.loop-cancel.taken.items c.loop-cancel.cancel-index
    c.cancel-item.result (omega arith) c.cancel-item.is
    (sym (c.is_named.ensures
    ∙ ap (λ (xs : List CommandCancel). list_any (λ (x : CommandCancel).
    x.command == c.cancel-item.result.command) xs) c.deref.ensures.value)
    ∙ c.if-is_named.true) c.loop-cancel.invariant

pub loop-cancel-preserved-then-not-can_cancel : goal.loop-cancel-preserved-then-not-can_cancel
loop-cancel-preserved-then-not-can_cancel g c =
    taken_not c.args.state.now c.args.names.now c.args.plan.now.commands.items
    c.args.heard.now c.args.cancels.now c.loop-cancel.taken.items c.loop-cancel.cancel-index
    c.cancel-item.result (omega arith) c.cancel-item.is
    (sym c.can_cancel.ensures ∙ c.if-not-can_cancel.true) c.loop-cancel.invariant

pub loop-cancel-preserved : goal.loop-cancel-preserved
loop-cancel-preserved g c =
    taken_more c.args.state.now c.args.names.now c.args.plan.now.commands.items
    c.args.heard.now c.args.cancels.now c.loop-cancel.taken.items c.push.new.self.items
    c.loop-cancel.cancel-index c.cancel-item.result c.copy_of.result (omega arith)
    c.cancel-item.is
    (sym (c.is_named.ensures
    ∙ ap (λ (xs : List CommandCancel). list_any (λ (x : CommandCancel).
    x.command == c.cancel-item.result.command) xs) c.deref.ensures.value)
    ∙ c.if-is_named.false)
    (sym c.can_cancel.ensures ∙ c.if-not-can_cancel.false) c.copy_of.ensures
    c.in_ok-push.ensures.items c.loop-cancel.invariant
