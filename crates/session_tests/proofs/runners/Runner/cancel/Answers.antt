use Rattle.std.proofs.Common.{◌≡◌, ◌&&◌, not, Bor, Option, Some, None, Ok, is_some, refl, sym, ap}
use Rattle.std.proofs.Common.{◌∙◌}
use Rattle.std.specs.Option.{option_copied}
use Rattle.std.proofs.lemmas.Bool.{and_from, not-false, not_from_false}
use Rattle.run_model.specs.Allowed.{has_kind, refusals, takes_cause}
use Rattle.run_model.specs.Event as event
use Rattle.run_model.specs.State.{new_work}
use Rattle.run_model.proofs.RefusalLemmas.{each_fails, unless_Ok}
use Rattle.session_tests.proofs.runners.Runner.cancel.Goals as goal

-- A caller gives a cause where the bytes of one are there.
given_some : {X : Type 0} (o : Option (Bor X)) → is_some o ≡ is_some (option_copied o)
given_some None = refl
given_some (Some x) = refl

pub cancel-requires-clause-accepted : goal.cancel-requires-clause-accepted
cancel-requires-clause-accepted g c =
    let t = c.args.self.now.tree in
    let cause = c.bytes-cause.result in
    let work = new_work t.layout in
    let asked = refusals (record { count = 0; tree = t; work = work })
    (event.Cancel c.args.s (option_copied cause)) in
    let may = each_fails asked (unless_Ok asked (Ok tt) tt
    (sym (c.in_ok-check_cancel.ensures 0 work))).0 in
    let taken = ap (λ b. b && not (has_kind takes_cause t c.args.s)) (given_some cause)
    ∙ may.1.1.0 in
    and_from _ _ (and_from _ _ (not-false _ may.1.0) (not_from_false _ taken))
    (not_from_false _ may.1.1.1.0)
