use Rattle.std.proofs.Common.{ap, rules, sym, tests, ◌==◌, ◌∙◌}
use Rattle.std.proofs.lemmas.Iterator.{YieldsList-from_slice}
use Rattle.std.proofs.lemmas.Iterator.Search.{find_from_yields_List}
use Rattle.std.specs.Option.{option_and_then, option_map}
use Rattle.drive_runs.specs.declared.living.Living.{Living}
use Rattle.drive_runs.proofs.living.reason_of.Goals as goal

pub returns-in-Some : goal.returns-in-Some
returns-in-Some c =
    let found = find_from_yields_List (λ (x : Living). x.task == c.args.task) _ _ c.find.result
    c.find.ensures.ran (YieldsList-from_slice _ c.iter.ensures.rest)
    (λ x b q k. search (rules, tests)) in
    c.copy_of.ensures
    ∙ ap (option_and_then (λ (x : Living). x.stop)) (sym (ap (option_map _) c.in-Some.is) ∙ found)

pub returns-in-None : goal.returns-in-None
returns-in-None c =
    let found = find_from_yields_List (λ (x : Living). x.task == c.args.task) _ _ c.find.result
    c.find.ensures.ran (YieldsList-from_slice _ c.iter.ensures.rest)
    (λ x b q k. search (rules, tests)) in
    ap (option_and_then (λ (x : Living). x.stop)) (sym (ap (option_map _) c.in-None.is) ∙ found)
