use Rattle.std.proofs.Common.{ltb, rules, tests}
use Rattle.std.proofs.lemmas.Iterator.{YieldsList-from_slice}
use Rattle.std.proofs.lemmas.Iterator.Search.{all_from_yields_List}
use Rattle.drive_runs.specs.declared.living.Living.{Living}
use Rattle.drive_runs.proofs.rounds.have_commands.Goals as goal

pub returns : goal.returns
returns c =
    all_from_yields_List (λ (x : Living). ltb x.command c.args.count) _ _ c.all.result
    c.all.ensures.ran (YieldsList-from_slice _ c.iter.ensures.rest)
    (λ x b q k. search (rules, tests))
