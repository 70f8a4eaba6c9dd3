-- Nothing is known of the system's files.
use Rattle.std.specs.Prelude.{IfErr, OnOk, Result, Ok, Err}
use Rattle.std.proofs.Common.{inl}
use Rattle.system_files.proofs.system.SystemFilesFiles.replace.Goals as goal

on_ok : {T E P : Type 0} (r : Result T E) → P → OnOk r P
on_ok (Ok done) p = p
on_ok (Err why) p = tt

if_err : {T E : Type 0} {P : E → Type 0} (r : Result T E) → ((why : E) → P why) → IfErr r P
if_err (Ok done) p = tt
if_err (Err why) p = p why

pub returns-clause-done : goal.returns-clause-done
returns-clause-done g c =
    on_ok c.replaced.result (record { bare = c.args.self.now; gone = tt; put = tt })

pub returns-clause-left : goal.returns-clause-left
returns-clause-left g c =
    if_err c.replaced.result
    (λ error. (tt, inl (record { first = c.args.self.now; new = tt; old = tt })))
