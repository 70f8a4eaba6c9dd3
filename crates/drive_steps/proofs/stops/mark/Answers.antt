use Rattle.std.proofs.Common.{◌<◌, ◌∙◌, List, arith, length, refl, set, subst, sym, true}
use Rattle.std.proofs.lemmas.List.Elements.{All-get_or}
use Rattle.night_plan.specs.declared.facts.Known.{Known}
use Rattle.drive_steps.specs.declared.cancels.CommandCancel.{CommandCancel}
use Rattle.drive_steps.specs.Stops.{marked}
use Rattle.drive_steps.proofs.Halting.{mark_next, mark_size}
use Rattle.drive_steps.proofs.stops.mark.Goals as goal

pub loop-cancel-preserved : goal.loop-cancel-preserved
loop-cancel-preserved c =
    let old : List Known = c.args.known.now.items in
    let known : List Known = c.loop-cancel.known.items in
    let cancel : CommandCancel = c.cancel-item.result in
    let fact : Known = c.index-fact.result.now in
    let new : List Known = set known cancel.command (record fact { canceled = true }) in
    let less : c.loop-cancel.cancel-index < length c.args.canceled.now = omega arith in
    let own : cancel.command < length old =
    subst (λ (x : CommandCancel). x.command < length old) (sym c.cancel-item.is)
    (All-get_or (λ (x : CommandCancel). x.command < length old) c.args.canceled.now
    c.loop-cancel.cancel-index cancel less c.requires) in
    record {
      marked = mark_next known new (marked old c.args.canceled.now) c.args.canceled.now
          c.loop-cancel.cancel-index cancel fact less c.cancel-item.is
          (omega (arith, own, c.loop-cancel.invariant.sized)) c.index-fact.ensures refl
          c.loop-cancel.invariant.marked;
      sized = mark_size known new cancel.command fact refl ∙ c.loop-cancel.invariant.sized;
    }
