use Rattle.std.proofs.Common.{ap, arith, inl, inr, refl}
use Rattle.store_words.proofs.sources.read_source.Goals as goal

pub returns-then-branch-clause-not : goal.returns-then-branch-clause-not
returns-then-branch-clause-not g c =
    let found = c.in_ok-sizes_on.ensures.found in
    let count = ap (λ s. s.events) found.2 in
    inr (inl (refl, record { state = found.0; recovered = found.1; many = omega arith }))

pub returns-clause-serves : goal.returns-clause-serves
returns-clause-serves g c =
    let found = c.in_ok-sizes_on.ensures.found in
    let count = ap (λ s. s.events) found.2 in
    (found.0, record { recovered = found.1; few = omega arith })
