use Rattle.std.proofs.Common.{IfOk, Result, Ok, Err}
use Rattle.file_disk.proofs.OpeningLemmas.{honest_if_intact, rest_if_honest}
use Rattle.file_disk.proofs.file_disks.FileDisk.settled.Goals as goal

both : {T E : Type 0} (P Q R : T → Type 0) (r : Result T E) → IfOk r P → IfOk r Q
    → ((d : T) → P d → Q d → R d) → IfOk r R
both P Q R (Ok d) p q then = then d p q
both P Q R (Err e) p q then = tt

pub returns-clause-honest : goal.returns-clause-honest
returns-clause-honest g c =
    both _ _ _ c.unsettled.result c.unsettled.ensures.honest c.unsettled.ensures.honest
    (λ d is again. let intact = honest_if_intact _ _ _ _ c.sync.ensures.kept
    c.in_ok-sync.ensures.durable in
    (λ honest. intact.0 (is.0 honest), λ file. is.1 (intact.1 file)))

pub returns-clause-rest : goal.returns-clause-rest
returns-clause-rest g c =
    both _ _ _ c.unsettled.result c.unsettled.ensures.honest c.unsettled.ensures.rest
    (λ d is rests honest. let intact = honest_if_intact _ _ _ _ c.sync.ensures.kept
    c.in_ok-sync.ensures.durable in
    let file = intact.0 (is.0 honest) in
    rests honest (rest_if_honest _ _ _ (c.in_ok-sync.ensures.durable file.0) (is.0 honest) file.1))
