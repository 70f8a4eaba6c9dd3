use Rattle.std.proofs.Common.{arith}
use Rattle.std.specs.Prelude.{slice_index_or}
use Rattle.std.proofs.lemmas.Bool.{both_ways}
use Rattle.std.proofs.lemmas.List.{length-map}
use Rattle.night_plan.specs.declared.commands.Command.{Command}
use Rattle.drive_parts.specs.Names.{groups_of}
use Rattle.drive_parts.proofs.Naming.{all_apart, key_at, more_apart}
use Rattle.drive_parts.proofs.names.first_twice.Goals as goal

pub loop-c-preserved : goal.loop-c-preserved
loop-c-preserved c =
    more_apart (groups_of c.args.commands.now) c.args.keys.now c.loop-c.c
    (slice_index_or c.args.commands.now c.loop-c.c c.index-commands-c.result).group
    c.index-keys-c.result c.loop-c.invariant
    (key_at c.args.commands.now c.args.keys.now c.loop-c.c c.index-commands-c.result
    c.index-keys-c.result (omega arith) c.requires c.index-commands-c.is c.index-keys-c.is)
    (λ has. both_ways c.has_key.result c.if-has_key.false (c.has_key.ensures.1 has))

pub returns : goal.returns
returns c =
    all_apart (groups_of c.args.commands.now) c.args.keys.now c.loop-c.c c.loop-c.invariant
    (omega (arith, length-map c.args.commands.now (λ (command : Command). command.group)))
