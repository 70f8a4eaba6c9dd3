-- The result of a `?` that ends a call.
use Rattle.std.proofs.Common.{◌≡◌, Ok, Err, Result, ap}
use Rattle.std.specs.Result.{IsErrAnd}

-- The error is the one that was passed to it.
pub passed_on : {T E : Type 0} (r : Result T E) (e : E) → IsErrAnd r (λ y. y ≡ e) → r ≡ Err e
passed_on (Ok x) e reported = absurd reported
passed_on (Err y) e reported = ap (λ w. Err w) reported
