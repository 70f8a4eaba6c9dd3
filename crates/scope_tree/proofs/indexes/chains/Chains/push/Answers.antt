use Rattle.std.proofs.Common.{◌≡◌, ◌<◌, length, ap, subst, arith}
use Rattle.scope_tree.specs.Chains.{Places, head_of}
use Rattle.scope_tree.proofs.Chaining.{chained_pushed, heads_back}
use Rattle.scope_tree.proofs.indexes.chains.Chains.push.Goals as goal

pub invariant_of-self : goal.invariant_of-self
invariant_of-self g c =
    let old = c.self.inside in
    let places : Places = record { capacity = old.keys.cap; keys = old.keys.items } in
    let room : length old.keys.items < old.keys.cap = rw (← c.self.view_is) at c.requires.room in
    let n : c.len-n.result ≡ length old.keys.items = omega (arith, c.len-n.ensures) in
    let lent = c.deref_mut.ensures.value in
    let len : old.heads.len ≡ length old.heads.items =
    omega (arith, ap length lent, c.deref_mut.ensures.len) in (
      chained_pushed places _ old.nexts.cap _ old.heads.items old.nexts.items _ _ _ c.args.key
          c.hang-next.result c.self.invariant.0 room c.requires.key
          c.push_reserved.ensures.capacity c.push_reserved-2.ensures.capacity
          c.push_reserved.ensures.items
          (heads_back old.heads.items _ _ _ c.args.key _ _ _ lent c.hang-next.ensures.hung n len)
          c.push_reserved-2.ensures.items
          (subst (λ l. c.hang-next.result ≡ head_of l c.args.key) lent
          c.hang-next.ensures.head),
      c.self.invariant.1,
    )
