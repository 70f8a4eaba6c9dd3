use Rattle.std.proofs.Common.{ltb, rules, tests, ℕ}
use Rattle.std.proofs.lemmas.Iterator.{YieldsList-from_slice}
use Rattle.std.proofs.lemmas.Iterator.Search.{all_from_yields_List}
use Rattle.drive_runs.proofs.rebounds.are_below.Goals as goal

pub returns : goal.returns
returns c =
    all_from_yields_List (λ (n : ℕ). ltb n c.args.end) _ _ c.all.result c.all.ensures.ran
    (YieldsList-from_slice _ c.iter.ensures.rest) (λ x b q k. search (rules, tests))
