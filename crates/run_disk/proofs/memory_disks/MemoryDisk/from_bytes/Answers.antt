use Rattle.std.proofs.Common.{◌∙◌, ap, arith}
use Rattle.run_disk.specs.Writes.{beginning}
use Rattle.run_disk.proofs.FirstLemmas.{filled_whole}
use Rattle.run_disk.proofs.MemoryLemmas.{begun, begun_kept}
use Rattle.run_disk.proofs.memory_disks.MemoryDisk.from_bytes.Goals as goal

pub returns-clause-history : goal.returns-clause-history
returns-clause-history g c =
    let bytes = c.args.bytes in
    rw c.new.ensures
    (ap beginning (filled_whole c.len-size.result bytes.items (c.len-size.ensures ∙ bytes.ok.0)))

pub invariant_of-result : goal.invariant_of-result
invariant_of-result g c =
    let bytes = c.args.bytes in
    let size = c.len-size.ensures ∙ bytes.ok.0 in
    rw (c.new.ensures, c.new-2.ensures, filled_whole c.len-size.result bytes.items size)
    (record { kept = begun_kept bytes.items (omega (arith, size, c.len-size.type_inv)) })

pub returns-clause-begins : goal.returns-clause-begins
returns-clause-begins g c =
    let bytes = c.args.bytes in
    let size = c.len-size.ensures ∙ bytes.ok.0 in
    rw (c.new.ensures, c.new-2.ensures, filled_whole c.len-size.result bytes.items size)
    (begun bytes.items)
