-- The calls of a file, as they are counted.
use Rattle.std.specs.Prelude.{◌≡◌, ◌<◌, ◌+◌, ℕ, Result, OnErr, OnOk, is_ok}
use Rattle.run_disk.specs.Disk.{last_moment}

-- No call has failed, and a further one can be counted.
pub record IsFresh (calls failures : ℕ) : Type 0 where
  pub early : calls < last_moment
  pub fine : failures ≡ 0

-- A call that was made had the result `done`, and was counted. Then this result was returned, which
-- is Ok if the call's was.
pub record IsCounted {T E U F : Type 0} (done : Result T E) (result : Result U F)
    (calls failures calls_new failures_new : ℕ) : Type 0 where
  pub ticks : calls_new ≡ calls + 1
  pub fine : OnOk result (failures_new ≡ failures)
  pub fails : OnErr result (failures_new ≡ failures + 1)
  pub same : is_ok result ≡ is_ok done
