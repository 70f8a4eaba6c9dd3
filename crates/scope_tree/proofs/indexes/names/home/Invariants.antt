use Rattle.std.proofs.Common.{◌≡◌, ◌+◌, ◌*◌, ◌%◌, take}
use Rattle.std.specs.List.{fold}
use Rattle.scope_tree.specs.declared.indexes.names.TheConstants.{FACTOR, SPAN}
use Rattle.scope_tree.proofs.indexes.names.home.Given as goal

abbrev pub invariant-loop-byte : goal.invariant-loop-byte
invariant-loop-byte l =
    l.sum ≡ fold (λ sum byte. ((sum + byte) * FACTOR) % SPAN) 0 (take l.byte-index l.name)
