use Rattle.std.proofs.Common.{◌≡◌, ◌∙◌, List, None, ap, arith, length, replicate, slice_get}
use Rattle.std.proofs.Common.{subst, sym}
use Rattle.night_plan.proofs.Rows.{get_replicate}
use Rattle.night_drive.specs.declared.tallies.Tally.{Tally}
use Rattle.night_drive.specs.Tallies.{IsWithin}
use Rattle.night_drive.proofs.Indexing.{apart_of, within_of}
use Rattle.night_drive.proofs.Tallying.{tallies_more, tallies_none}
use Rattle.night_drive.proofs.tallies.tallies.Goals as goal

pub loop-n-init : goal.loop-n-init
loop-n-init g c =
    let plan = c.args.plan.now in
    let names = c.args.names.now in
    let index = c.args.index.now in
    let none : Tally = record { last = None; failures = 0 } in
    let items : c.in_ok-tallies.tallies.items ≡ replicate c.len.result none =
    c.in_ok-tallies.ensures.items_if_clones_equal (λ y same. same) in
    let within : IsWithin (length plan.commands.items) index =
    within_of plan.commands.items names index c.requires in
    record {
      sized = omega (arith, c.in_ok-tallies.ensures.len, c.len.ensures);
      tallies = tallies_none c.args.state.now names index c.in_ok-tallies.tallies.items
          (λ h d key found. ap (λ (ts : List Tally). slice_get ts d) items
          ∙ get_replicate c.len.result d none
          (omega (arith, within h d key found, c.len.ensures)));
    }

pub count_task-requires-clause-within : goal.count_task-requires-clause-within
count_task-requires-clause-within g c =
    let plan = c.args.plan.now in
    subst (λ m. IsWithin m c.args.index.now) (sym c.loop-n.invariant.sized)
    (within_of plan.commands.items c.args.names.now c.args.index.now c.requires)

pub count_task-requires-clause-apart : goal.count_task-requires-clause-apart
count_task-requires-clause-apart g c =
    apart_of c.args.plan.now.commands.items c.args.names.now c.args.index.now c.requires

pub loop-n-preserved : goal.loop-n-preserved
loop-n-preserved g c = record {
  sized = c.count_task.ensures.sized ∙ c.loop-n.invariant.sized;
  tallies = tallies_more c.args.state.now c.args.names.now c.args.index.now c.loop-n.n
      c.loop-n.tallies.items c.count_task.new.tallies.items
      (omega (arith, c.task_count-n-end.ensures.few)) c.loop-n.invariant.tallies
      c.count_task.ensures.counts;
}
