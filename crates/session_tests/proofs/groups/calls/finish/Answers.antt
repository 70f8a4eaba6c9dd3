use Rattle.std.proofs.Common.{Ok, sym}
use Rattle.std.proofs.lemmas.Bool.{not-false}
use Rattle.run_model.specs.declared.tasks.Outcome.TheVariants as outcome
use Rattle.run_model.specs.Allowed.{refusals}
use Rattle.run_model.specs.Event as event
use Rattle.run_model.specs.State.{new_tree}
use Rattle.run_model.proofs.RefusalLemmas.{each_fails, unless_Ok}
use Rattle.session_tests.proofs.groups.calls.finish.Goals as goal

pub finish-requires-clause-running : goal.finish-requires-clause-running
finish-requires-clause-running g c =
    let w = c.args.groups.now in
    let tree = new_tree w.layout in
    let asked = refusals (record { count = 0; tree = tree; work = w })
    (event.Finish c.args.task outcome.Success) in
    let may = each_fails asked (unless_Ok asked (Ok tt) tt
    (sym (c.in_ok-check_finish.ensures outcome.Success 0 tree))).0 in
    not-false _ may.1.0
