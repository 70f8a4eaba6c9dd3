use Rattle.run_model.proofs.Common.{Bool, List, length, false, option_map_or, sym, ap, subst}
use Rattle.run_model.proofs.Common.{◌≡◌, ◌+◌, arith}
use Rattle.run_model.specs.declared.tasks.Task.{Task}
use Rattle.state_renewal.specs.Marks.{AreFlags, is_flagged, task_stays_at}
use Rattle.state_renewal.proofs.Flagging.{flags_none, flags_push}
use Rattle.state_renewal.proofs.flags.flag_tasks.Goals as goal

pub loop-n-init : goal.loop-n-init
loop-n-init g c =
    let holds = task_stays_at c.args.stay.now c.args.groups.now.tasks in
    let taken = c.in-Ok.ensures in
    record {
      flags = subst (AreFlags holds 0) (sym taken.items) (flags_none holds);
      room = omega (arith, taken.capacity, c.task_count.ensures.len);
    }

pub push_reserved-requires : goal.push_reserved-requires
push_reserved-requires g c =
    let so = c.loop-n.invariant in
    let each = so.flags.each in
    omega (arith, so.room, each, c.loop-n-test.true, c.task_count-n-end.ensures.len)

pub loop-n-preserved : goal.loop-n-preserved
loop-n-preserved g c =
    let stay = c.args.stay.now in
    let holds = task_stays_at stay c.args.groups.now.tasks in
    let so = c.loop-n.invariant in
    let pushed = c.push_reserved.ensures in
    record {
      flags = subst (AreFlags holds (c.loop-n.n + 1)) (sym {A = List Bool} pushed.items)
          (flags_push holds c.loop-n.n c.loop-n.flags.items _ so.flags
          (ap (λ o. option_map_or (λ (task : Task). is_flagged stay task.group) o false)
          (sym c.task_at.ensures)));
      room = omega (arith, so.room, pushed.capacity);
    }

pub returns-clause-flags : goal.returns-clause-flags
returns-clause-flags g c =
    let tasks = c.args.groups.now.tasks in
    let holds = task_stays_at c.args.stay.now tasks in
    let so = c.loop-n.invariant in
    let all : c.loop-n.n ≡ length tasks =
    omega (arith, c.loop-n-test.false, c.loop-n.auto.n-end, c.task_count-n-end.ensures.len) in
    subst (λ n. AreFlags holds n c.loop-n.flags.items) all so.flags
