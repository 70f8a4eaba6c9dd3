use Rattle.run_model.proofs.Common.{◌≡◌, ℕ, List, length, ap, subst, ◌∙◌, arith, get_or_default}
use Rattle.arrayvec.specs.ArrayVec.{array_vec_len}
use Rattle.scope_tree.specs.Deadlines.{SameNumbers}
use Rattle.scope_tree.proofs.Heaps.{takes, refill_is, back_removed, down_removed}
use Rattle.scope_tree.proofs.indexes.deadlines.take_first.Goals as goal

pub sift_down-requires-clause-known : goal.sift_down-requires-clause-known
sift_down-requires-clause-known c = rw c.deref_mut.ensures.value
    (λ n h. c.requires.heap.known n (back_removed c.args.due.now.items
    c.swap_remove-first.new.self.items c.swap_remove-first.result
    (omega (arith, c.swap_remove-first.ensures.len)) c.swap_remove-first.ensures.items n h))

pub sift_down-requires-clause-heap : goal.sift_down-requires-clause-heap
sift_down-requires-clause-heap c = rw c.deref_mut.ensures.value
    (down_removed c.args.due.now.items c.swap_remove-first.new.self.items
    c.swap_remove-first.result (omega (arith, c.swap_remove-first.ensures.len))
    c.swap_remove-first.ensures.items c.args.scopes.now c.requires.heap.heap)

pub returns-then-not-is_empty : goal.returns-then-not-is_empty
returns-then-not-is_empty c =
    let size : length c.sift_down.new.due ≡ length c.swap_remove-first.new.self.items =
    c.sift_down.ensures.same.size ∙ ap length c.deref_mut.ensures.value in
    let same : SameNumbers c.swap_remove-first.new.self.items c.sift_down.new.due =
    subst (λ (l : List ℕ). SameNumbers l c.sift_down.new.due) c.deref_mut.ensures.value
    c.sift_down.ensures.same in
    rw (refill_is (array_vec_len c.swap_remove-first.new.self) c.swap_remove-first.new.self.items
    c.sift_down.new.due (omega arith) size) (takes c.args.due.now.items
    c.swap_remove-first.new.self.items c.swap_remove-first.result
    (omega (arith, c.swap_remove-first.ensures.len)) c.swap_remove-first.ensures.items
    c.args.scopes.now c.sift_down.new.due c.swap_remove-first.result c.requires.heap
    (c.swap_remove-first.ensures.value ∙ get_or_default c.args.due.now.items 0
    c.swap_remove-first.result 0 (omega (arith, c.swap_remove-first.ensures.len))) same
    c.sift_down.ensures.heap)
