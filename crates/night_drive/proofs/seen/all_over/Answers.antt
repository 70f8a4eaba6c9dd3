use Rattle.std.proofs.Common.{◌≡◌, ◌<◌, ◌∙◌, ℕ, List, Some, ap, arith, get_or, length, slice_get}
use Rattle.std.proofs.Common.{subst}
use Rattle.night_plan.proofs.Rows.{read}
use Rattle.night_drive.specs.Seen.{AreOverTo}
use Rattle.night_drive.proofs.Reading.{longer, over_more}
use Rattle.night_drive.proofs.seen.all_over.Goals as goal

pub loop-group-preserved : goal.loop-group-preserved
loop-group-preserved g c =
    let names = c.args.names.now in
    let i = c.loop-group.group-index in
    let name = c.group-item.result in
    let items = c.deref-group-items.ensures.value in
    let within : i < length names.groups.items = omega (arith, ap length items) in
    let there : slice_get names.groups.items i ≡ Some name =
    read names.groups.items i name within
    (c.group-item.is ∙ ap (λ (xs : List (List ℕ)). get_or xs i name) items) in
    rw c.in_ok-push.ensures.items (record {
      sized = longer c.loop-group.done.items i c.is_over.result c.loop-group.invariant.sized;
      done = over_more c.args.state.now names c.loop-group.done.items i name c.is_over.result
          c.loop-group.invariant.sized
          there c.is_over.ensures c.loop-group.invariant.done;
    })

pub returns : goal.returns
returns g c =
    let names = c.args.names.now in
    let items = c.deref-group-items.ensures.value in
    let all : c.loop-group.group-index ≡ length names.groups.items =
    omega (arith, ap length items) in
    record {
      sized = c.loop-group.invariant.sized ∙ all;
      done = subst (λ m. AreOverTo m c.args.state.now names c.loop-group.done.items) all
          c.loop-group.invariant.done;
    }
