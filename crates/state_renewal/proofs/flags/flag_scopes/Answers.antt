use Rattle.std.proofs.Common.{ap, ◌∙◌, arith}
use Rattle.state_renewal.specs.Marks.{is_flagged}
use Rattle.state_renewal.proofs.Flagging.{lent_back}
use Rattle.state_renewal.proofs.flags.flag_scopes.Goals as goal

pub returns-clause-flags : goal.returns-clause-flags
returns-clause-flags g c =
    λ s. ap (λ l. is_flagged l s)
    (lent_back _ _ c.flag_rest.new.flags
    (omega (arith, c.flag_rest.ensures.each, c.deref_mut.ensures.len)))
    ∙ c.flag_rest.ensures.flags s
