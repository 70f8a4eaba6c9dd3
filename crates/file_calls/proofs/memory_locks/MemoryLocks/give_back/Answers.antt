use Rattle.std.proofs.Common.{rules, nat_eq, not}
use Rattle.std.proofs.lemmas.Fn.{filter_same}
use Rattle.file_calls.proofs.memory_locks.MemoryLocks.give_back.Goals as goal

pub returns : goal.returns
returns c =
    filter_same _ (λ lock. not (nat_eq lock.holder c.args.holder)) _
    (λ x b f' k. search rules) _ _ c.retain.ensures.filtered
