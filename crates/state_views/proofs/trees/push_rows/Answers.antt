use Rattle.std.proofs.Common.{◌<◌, ◌∙◌, sym, ap, length, arith, append-nil, ◌++◌, take_all}
use Rattle.state_views.specs.RowKinds.{parents_in}
use Rattle.state_views.proofs.Drawing.{as_many, has_one, one_fits, one_pushed}
use Rattle.state_views.proofs.trees.push_rows.Goals as goal
use Rattle.state_views.proofs.trees.push_rows.Goals.{in-Some, in_default}

pub loop-number-init : goal.loop-number-init
loop-number-init g c = sym (append-nil c.args.parents.now.items)

pub push-requires : goal.push-requires
push-requires g c =
    let p = c.args.state.now in
    let ns = parents_in c.args.rows p in
    let many = as_many c.args.rows p in (
      omega arith,
      one_fits ns c.loop-number.number 12416 c.args.parents.now.items c.loop-number.parents.items
          c.loop-number.invariant
          (omega (arith, many, c.loop-number-test.true, c.count-number-end.ensures))
          (omega (arith, many, c.requires)),
    )

pub loop-number-preserved : goal.loop-number-preserved
loop-number-preserved g c =
    let p = c.args.state.now in
    let ns = parents_in c.args.rows p in
    let n = c.loop-number.number in
    let less : n < length ns =
    omega (arith, as_many c.args.rows p, c.loop-number-test.true, c.count-number-end.ensures) in
    elim c.match-parent.branch [
      | in-Some w ↦
          rw w.parents-is (
          w.push.ensures.items
          ∙ one_pushed ns n w.in-Some.parent c.args.parents.now.items c.loop-number.parents.items
          (sym c.parent.ensures ∙ w.in-Some.is) c.loop-number.invariant)
      | in_default w ↦ absurd (has_one ns n less (sym c.parent.ensures ∙ w.in_default.is))
    ]

pub returns : goal.returns
returns g c =
    let p = c.args.state.now in
    let ns = parents_in c.args.rows p in
    c.loop-number.invariant
    ∙ ap (λ t. c.args.parents.now.items ++ t)
    (take_all c.loop-number.number ns
    (omega (arith, as_many c.args.rows p, c.loop-number-test.false, c.count-number-end.ensures)))
