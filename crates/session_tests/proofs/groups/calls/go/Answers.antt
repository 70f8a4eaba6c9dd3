use Rattle.std.proofs.Common.{[], Ok, sym}
use Rattle.std.proofs.lemmas.Bool.{and_from, not-false}
use Rattle.run_model.specs.Allowed.{refusals}
use Rattle.run_model.specs.Event as event
use Rattle.run_model.specs.State.{new_tree}
use Rattle.run_model.proofs.RefusalLemmas.{each_fails, unless_Ok}
use Rattle.session_tests.proofs.groups.calls.go.Goals as goal

pub go-requires-clause-accepted : goal.go-requires-clause-accepted
go-requires-clause-accepted g c =
    let w = c.args.groups.now in
    let tree = new_tree w.layout in
    let asked = refusals (record { count = 0; tree = tree; work = w })
    (event.Go c.args.group [] []) in
    let may = each_fails asked (unless_Ok asked (Ok tt) tt
    (sym (c.in_ok-check_go.ensures [] [] 0 tree))).0 in
    and_from _ _ (not-false _ may.1.0) (not-false _ may.1.1.0)
