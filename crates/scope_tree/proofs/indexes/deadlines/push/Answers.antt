use Rattle.std.proofs.Common.{◌≡◌, [], ◌∷◌, ◌++◌, length, ap, ◌∙◌, arith}
use Rattle.arrayvec.specs.ArrayVec.{array_vec_len}
use Rattle.scope_tree.proofs.Heaps.{known_push, known_same, push_starts, refill_is}
use Rattle.scope_tree.proofs.indexes.deadlines.push.Goals as goal

pub sift_up-requires-clause-known : goal.sift_up-requires-clause-known
sift_up-requires-clause-known c = rw (c.deref_mut.ensures.value, c.push.ensures.items)
    (known_push c.args.scopes.now c.args.due.now.items c.args.n c.requires.heap.known
    c.requires.known)

pub sift_up-requires-clause-heap : goal.sift_up-requires-clause-heap
sift_up-requires-clause-heap c = let last : c.len-last.result ≡ length c.args.due.now.items =
    omega (arith, c.len-last.ensures.value) in rw (
      c.deref_mut.ensures.value,
      c.push.ensures.items,
      last,
    ) (push_starts c.args.scopes.now c.args.due.now.items c.args.n c.requires.heap.heap)

pub returns-clause-heap : goal.returns-clause-heap
returns-clause-heap c =
    let pushed : c.deref_mut.result.now ≡ c.args.due.now.items ++ c.args.n ∷ [] =
    c.deref_mut.ensures.value ∙ c.push.ensures.items in
    let size : length c.sift_up.new.due ≡ length c.push.new.self.items =
    c.sift_up.ensures.same.size ∙ ap length c.deref_mut.ensures.value in
    rw (refill_is (array_vec_len c.push.new.self) c.push.new.self.items c.sift_up.new.due
    (omega arith) size) (record {
      known = known_same c.args.scopes.now c.deref_mut.result.now c.sift_up.new.due
          c.sift_up.ensures.same (rw pushed (known_push c.args.scopes.now c.args.due.now.items
          c.args.n c.requires.heap.known c.requires.known));
      few = omega (arith, size, c.push.ensures.len, c.requires.room);
      heap = c.sift_up.ensures.heap;
    })
