use Rattle.run_model.proofs.Common.{◌≡◌, ◌<◌, ◌≤◌, ◌∙◌, ℕ, length, replicate, false, ap, refl}
use Rattle.run_model.proofs.Common.{arith, sym, List, Bool, ◌∷◌, []}
use Rattle.run_model.proofs.Common.{length-append}
use Rattle.task_group.proofs.Trees.{pushed_down}
use Rattle.task_group.proofs.queue.all_down.Goals as goal

pub loop-flags-init : goal.loop-flags-init
loop-flags-init g c = record {
  down = rw c.in_ok-flags.ensures.items refl;
  room = c.in_ok-flags.ensures.exact;
  within = rw c.in_ok-flags.ensures.items (omega arith);
}

pub loop-flags-preserved : goal.loop-flags-preserved
loop-flags-preserved g c =
    let s = c.loop-flags in
    let less : length s.flags.items < c.args.count =
    rw (← s.flags.ok.0, ← c.len.ensures) c.loop-flags-test.true in
    let long = c.push_reserved.ensures.items in
    record {
      down =
          long ∙ pushed_down s.flags.items s.invariant.down
          ∙ ap (λ (l : List Bool). replicate (length l) false) (sym long);
      room = c.push_reserved.ensures.capacity ∙ s.invariant.room;
      within = rw long (omega (arith, length-append s.flags.items (false ∷ []), less));
    }

pub returns-clause-down : goal.returns-clause-down
returns-clause-down g c =
    let s = c.loop-flags in
    let more : c.args.count ≤ length s.flags.items =
    rw (← s.flags.ok.0, ← c.len.ensures) c.loop-flags-test.false in
    let within = s.invariant.within in
    let all : length s.flags.items ≡ c.args.count = omega (arith, more, within) in
    s.invariant.down ∙ ap (λ (n : ℕ). replicate n false) all
