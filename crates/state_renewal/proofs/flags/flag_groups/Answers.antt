use Rattle.run_model.proofs.Common.{Bool, List, length, false, option_map_or, sym, ap, subst, ◌∙◌}
use Rattle.run_model.proofs.Common.{◌≡◌, ◌+◌, arith}
use Rattle.state_renewal.specs.Marks.{AreFlags, group_stays, group_stays_at}
use Rattle.state_renewal.proofs.Flagging.{flags_none, flags_push}
use Rattle.state_renewal.proofs.flags.flag_groups.Goals as goal

pub loop-g-init : goal.loop-g-init
loop-g-init g c =
    let holds = group_stays_at c.args.scopes.now c.args.groups.now.groups in
    let taken = c.in-Ok.ensures in
    record {
      flags = subst (AreFlags holds 0) (sym taken.items) (flags_none holds);
      room = omega (arith, taken.capacity, c.group_count.ensures.len);
    }

pub group_at-requires : goal.group_at-requires
group_at-requires g c = omega (arith, c.loop-g-test.true, c.group_count-g-end.ensures.len)

pub group_stays-requires : goal.group_stays-requires
group_stays-requires g c =
    c.requires.known c.loop-g.g c.group_at.result.now c.group_at.ensures

pub push_reserved-requires : goal.push_reserved-requires
push_reserved-requires g c =
    let so = c.loop-g.invariant in
    let each = so.flags.each in
    omega (arith, so.room, each, c.loop-g-test.true, c.group_count-g-end.ensures.len)

pub loop-g-preserved : goal.loop-g-preserved
loop-g-preserved g c =
    let scopes = c.args.scopes.now in
    let holds = group_stays_at scopes c.args.groups.now.groups in
    let so = c.loop-g.invariant in
    let pushed = c.push_reserved.ensures in
    record {
      flags = subst (AreFlags holds (c.loop-g.g + 1)) (sym {A = List Bool} pushed.items)
          (flags_push holds c.loop-g.g c.loop-g.flags.items c.group_stays.result so.flags
          (c.group_stays.ensures
          ∙ ap (λ o. option_map_or (group_stays scopes) o false) (sym c.group_at.ensures)));
      room = omega (arith, so.room, pushed.capacity);
    }

pub returns-clause-flags : goal.returns-clause-flags
returns-clause-flags g c =
    let groups = c.args.groups.now.groups in
    let holds = group_stays_at c.args.scopes.now groups in
    let so = c.loop-g.invariant in
    let all : c.loop-g.g ≡ length groups =
    omega (arith, c.loop-g-test.false, c.loop-g.auto.g-end, c.group_count-g-end.ensures.len) in
    subst (λ n. AreFlags holds n c.loop-g.flags.items) all so.flags
