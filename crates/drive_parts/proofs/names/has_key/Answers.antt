use Rattle.std.proofs.Common.{ℕ, arith, refl}
use Rattle.drive_parts.specs.Names.{HasKey, groups_of}
use Rattle.drive_parts.proofs.Naming.{none_more, other_key, same_key}
use Rattle.drive_parts.proofs.names.has_key.Goals as goal

pub returns-then-is_called : goal.returns-then-is_called
returns-then-is_called c = (
  λ _. (
    c.loop-c.c,
    c.loop-c-test.true,
    same_key c.args.commands.now c.args.keys.now c.loop-c.c c.index-commands-c.result
        c.index-keys-c.result (omega arith) c.requires.keyed c.index-commands-c.is
        c.index-keys-c.is c.args.group c.args.key.now c.is_called.result c.is_called.ensures
        c.if-is_called.true,
  ),
  λ _. refl,
)

pub loop-c-preserved : goal.loop-c-preserved
loop-c-preserved c =
    let P : ℕ → Type 0 = HasKey (groups_of c.args.commands.now) c.args.keys.now c.args.group
    c.args.key.now in
    none_more P c.loop-c.c c.loop-c.invariant
    (other_key c.args.commands.now c.args.keys.now c.loop-c.c c.index-commands-c.result
    c.index-keys-c.result (omega arith) c.requires.keyed c.index-commands-c.is
    c.index-keys-c.is c.args.group c.args.key.now c.is_called.result c.is_called.ensures
    c.if-is_called.false)
