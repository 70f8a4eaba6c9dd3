use Rattle.std.proofs.Common.{ltb, rules, tests}
use Rattle.std.proofs.lemmas.Iterator.{YieldsList-from_slice}
use Rattle.std.proofs.lemmas.Iterator.Search.{all_from_yields_List}
use Rattle.drive_steps.specs.declared.cancels.GroupCancel.{GroupCancel}
use Rattle.drive_runs.proofs.records.have_names.Goals as goal

pub returns : goal.returns
returns c =
    all_from_yields_List (λ (x : GroupCancel). ltb x.group c.args.count) _ _ c.all.result
    c.all.ensures.ran (YieldsList-from_slice _ c.iter.ensures.rest)
    (λ x b q k. search (rules, tests))
