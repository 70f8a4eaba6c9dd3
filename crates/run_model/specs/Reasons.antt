-- The text of a reason.
use Rattle.std.specs.Prelude.{ℕ, List, codes}
use Rattle.run_model.specs.declared.scopes.Reason.{Reason}
use Rattle.run_model.specs.declared.scopes.Reason.TheVariants.{Canceled, DeadlineExceeded}

-- The text that Go's package gives as the Err of a scope that is done. It is also the cause if none
-- was given.
abbrev pub reason_text : Reason → List ℕ
reason_text Canceled = codes "context canceled"
reason_text DeadlineExceeded = codes "context deadline exceeded"
