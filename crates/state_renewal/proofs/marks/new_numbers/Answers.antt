use Rattle.std.proofs.Common.{List, subst, sym, ap, ◌∙◌, ◌≡◌, ◌+◌, ℕ, arith, slice_get, refl}
use Rattle.state_renewal.specs.Marks.{is_flagged}
use Rattle.state_renewal.specs.Renewed.{new_number}
use Rattle.state_renewal.proofs.Numbering.{AreNumbers, number_gone, number_kept, numbers_all}
use Rattle.state_renewal.proofs.Numbering.{numbers_more, numbers_none}
use Rattle.state_renewal.proofs.marks.new_numbers.Goals.{then-flags-n, else-flags-n}
use Rattle.state_renewal.proofs.marks.new_numbers.Goals as goal

pub loop-n-init : goal.loop-n-init
loop-n-init g c =
    let flags = c.args.flags.now in
    let taken = c.in-Ok.ensures in
    record {
      numbers = subst (AreNumbers flags 0) (sym taken.items) (numbers_none flags);
      next = refl;
      small = omega arith;
      room = omega (arith, taken.capacity);
    }

pub push_reserved-requires : goal.push_reserved-requires
push_reserved-requires g c =
    let so = c.loop-n.invariant in
    let size = so.numbers.size in
    omega (arith, so.room, size, c.loop-n-test.true)

pub overflow_add-next : goal.overflow_add-next
overflow_add-next g c =
    omega (arith, c.loop-n.invariant.small, c.loop-n-test.true, c.requires.few)

pub loop-n-preserved : goal.loop-n-preserved
loop-n-preserved g c =
    let flags = c.args.flags.now in
    let n = c.loop-n.n in
    let so = c.loop-n.invariant in
    let pushed = c.push_reserved.ensures in
    let next : c.if-flags-n.next ≡ new_number (is_flagged flags) (n + 1) =
    elim c.if-flags-n.branch [
      | then-flags-n w ↦
          w.next-is ∙ ap (λ m. m + 1) so.next
          ∙ sym (number_kept (is_flagged flags) n w.if-flags-n.true)
      | else-flags-n w ↦
          w.next-is ∙ so.next ∙ sym (number_gone (is_flagged flags) n w.if-flags-n.false)
    ] in
    record {
      numbers = subst (AreNumbers flags (n + 1)) (sym {A = List ℕ} pushed.items)
          (numbers_more flags n c.loop-n.next c.loop-n.numbers.items so.numbers so.next);
      next = next;
      small = elim c.if-flags-n.branch [
        | then-flags-n w ↦ omega (arith, so.small, w.next-is)
        | else-flags-n w ↦ omega (arith, so.small, w.next-is)
      ];
      room = omega (arith, so.room, pushed.capacity);
    }

pub push_reserved-requires-2 : goal.push_reserved-requires-2
push_reserved-requires-2 g c =
    let so = c.loop-n.invariant in
    let size = so.numbers.size in
    omega (arith, so.room, size, c.loop-n.auto.n-end)

pub returns-clause-numbers : goal.returns-clause-numbers
returns-clause-numbers g c = λ n less.
    let flags = c.args.flags.now in
    let so = c.loop-n.invariant in
    ap (λ (l : List ℕ). slice_get l n) c.push_reserved-2.ensures.items
    ∙ numbers_all flags c.loop-n.n c.loop-n.next c.loop-n.numbers.items so.numbers so.next
    c.loop-n-test.false n less
