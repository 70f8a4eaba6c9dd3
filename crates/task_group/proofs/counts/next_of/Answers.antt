use Rattle.run_model.proofs.Common.{ℕ, length, Option, None, refl, sym, ap, unwrap_or}
use Rattle.run_model.proofs.Common.{slice_get_read}
use Rattle.task_group.proofs.counts.next_of.Goals as goal

pub index-requires : goal.index-requires
index-requires g c = rw c.args.next.now.ok.0 (rw c.in-Some.is at c.requires)

pub returns-in-None : goal.returns-in-None
returns-in-None g c = rw c.in-None.is refl

pub returns-in-Some : goal.returns-in-Some
returns-in-Some g c =
    let links = c.args.next.now.items in
    rw c.in-Some.is
    (sym
    (ap (λ (o : Option (Option ℕ)). unwrap_or o None)
    (slice_get_read links (length links) c.in-Some.h c.index.result.now refl
    (rw c.in-Some.is at c.requires) c.index.ensures)))
