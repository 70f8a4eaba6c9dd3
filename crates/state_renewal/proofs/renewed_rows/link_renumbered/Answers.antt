use Rattle.run_model.proofs.Common.{◌<◌, length, subst, arith, IfSome, lt-ltb}
use Rattle.state_renewal.specs.Marks.{is_flagged}
use Rattle.state_renewal.proofs.Numbers.{number_at_most}
use Rattle.state_renewal.proofs.renewed_rows.link_renumbered.Goals as goal

pub returns-in-Some-clause-kept : goal.returns-in-Some-clause-kept
returns-in-Some-clause-kept g c =
    let m = c.in-Some.m in
    let most = length c.args.tasks.now in
    let known : m < most =
    subst (λ o. IfSome o (λ k. k < most)) c.in-Some.is c.requires.link in
    let less = number_at_most (is_flagged c.args.tasks.now) m in
    lt-ltb c.number.result 65535
    (omega (arith, known, less, c.requires.few, c.number.ensures.value))
