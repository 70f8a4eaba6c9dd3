use Rattle.std.proofs.Common.{Ok, sym}
use Rattle.std.proofs.lemmas.Bool.{leb-false, lt-ltb}
use Rattle.run_model.specs.Allowed.{refusals}
use Rattle.run_model.specs.Event as event
use Rattle.run_model.specs.State.{new_work}
use Rattle.run_model.proofs.RefusalLemmas.{each_fails, unless_Ok}
use Rattle.session_tests.proofs.runners.Runner.advance.Goals as goal

pub advance-requires-clause-accepted : goal.advance-requires-clause-accepted
advance-requires-clause-accepted g c =
    let t = c.args.self.now.tree in
    let work = new_work t.layout in
    let asked = refusals (record { count = 0; tree = t; work = work })
    (event.Advance c.args.moment) in
    let may = each_fails asked (unless_Ok asked (Ok tt) tt
    (sym (c.in_ok-check_advance.ensures 0 work))).0 in
    lt-ltb t.clock c.args.moment (leb-false c.args.moment t.clock may.0)
