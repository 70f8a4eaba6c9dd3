use Rattle.file_calls.proofs.LockLemmas.{alone_excludes_all}
use Rattle.file_calls.proofs.laws.a_lock_alone_is_the_only_one.Goals as goal

pub returns : goal.returns
returns c = alone_excludes_all
