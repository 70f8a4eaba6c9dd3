use Rattle.run_model.proofs.Common.{◌+◌, not, sym, subst, arith, is_done}
use Rattle.state_renewal.specs.Marks.{AreFlags}
use Rattle.state_renewal.proofs.Flagging.{flags_push}
use Rattle.state_renewal.proofs.flags.flag_live.Goals as goal

pub loop-s-preserved : goal.loop-s-preserved
loop-s-preserved g c =
    let rows = c.args.tree.now.scopes in
    let s = c.loop-s.s in
    let so = c.loop-s.invariant in
    let pushed = c.push_reserved.ensures in
    record {
      flags =
          subst (AreFlags (λ n. not (is_done rows n)) (s + 1)) (sym pushed.items)
          (flags_push (λ n. not (is_done rows n)) s c.loop-s.flags.items c.is_live.result so.flags
          c.is_live.ensures);
      room = omega (arith, so.room, pushed.capacity);
    }
