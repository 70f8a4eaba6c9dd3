use Rattle.std.proofs.Common.{◌≡◌, ℕ, Some, arith, refl, slice_get}
use Rattle.drive_parts.proofs.Naming.{none_more, other_name, same_name}
use Rattle.drive_parts.proofs.names.is_among.Goals as goal

pub returns-then-is_same : goal.returns-then-is_same
returns-then-is_same c = (
  λ _. (
    c.loop-g.g,
    c.loop-g-test.true,
    same_name c.args.names.now c.loop-g.g c.index-names-g.result c.args.name.now c.is_same.result
        (omega arith) c.index-names-g.is c.is_same.ensures c.if-is_same.true,
  ),
  λ _. refl,
)

pub loop-g-preserved : goal.loop-g-preserved
loop-g-preserved c =
    let P : ℕ → Type 0 = λ k. slice_get c.args.names.now k ≡ Some c.args.name.now in
    none_more P c.loop-g.g c.loop-g.invariant
    (other_name c.args.names.now c.loop-g.g c.index-names-g.result c.args.name.now
    c.is_same.result (omega arith) c.index-names-g.is c.is_same.ensures c.if-is_same.false)
