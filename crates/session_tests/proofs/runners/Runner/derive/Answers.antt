use Rattle.std.proofs.Common.{refl, sym, Ok}
use Rattle.std.proofs.lemmas.Bool.{and_from, not-false}
use Rattle.run_model.specs.declared.scopes.Kind.TheVariants as kind
use Rattle.run_model.specs.Allowed.{refusals}
use Rattle.run_model.specs.Event as event
use Rattle.run_model.specs.State.{new_work}
use Rattle.run_model.proofs.RefusalLemmas.{each_fails, unless_Ok}
use Rattle.session_tests.proofs.runners.Runner.derive.Goals as goal

pub derive-number-requires-clause-accepted : goal.derive-number-requires-clause-accepted
derive-number-requires-clause-accepted g c =
    let t = c.args.self.now.tree in
    let work = new_work t.layout in
    let asked = refusals (record { count = 0; tree = t; work = work })
    (event.Derive c.as_bytes-name.result.now c.args.parent kind.Cancel) in
    let may = each_fails asked (unless_Ok asked (Ok tt) tt
    (sym (c.in_ok-check_derive.ensures kind.Cancel refl 0 work))).0 in
    and_from _ _ (and_from _ _ (not-false _ may.0) (not-false _ may.1.0)) (not-false _ may.1.1.0)
