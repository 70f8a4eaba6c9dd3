use Rattle.std.proofs.Common.{◌≡◌, ap, arith, subst, sym}
use Rattle.std.specs.List.{All}
use Rattle.run_disk.specs.Disk.{Begins}
use Rattle.run_disk.specs.Memory.{memory_state}
use Rattle.run_disk.specs.Writes.{beginning, filled_up}
use Rattle.run_disk.proofs.FirstLemmas.{filled_size, filled_zeros}
use Rattle.run_disk.proofs.MemoryLemmas.{begun, begun_kept, begun_now}
use Rattle.run_disk.proofs.memory_disks.MemoryDisk.new.Goals as goal

pub returns-clause-begins : goal.returns-clause-begins
returns-clause-begins g c =
    let bytes = filled_up c.args.size c.new.result.items in
    rw (c.new-2.ensures, c.new-3.ensures)
    (subst (λ xs. Begins xs (memory_state (beginning bytes) 0 0)) (sym (begun_now bytes))
    (begun bytes))

pub returns-clause-zero : goal.returns-clause-zero
returns-clause-zero g c =
    let bytes = filled_up c.args.size c.new.result.items in
    rw (c.new-2.ensures, c.new-3.ensures)
    (subst (All (λ byte. byte ≡ 0)) (sym (begun_now bytes))
    (filled_zeros c.args.size c.new.result.items c.new.ensures.items))

pub returns-clause-history : goal.returns-clause-history
returns-clause-history g c =
    let bytes = filled_up c.args.size c.new.result.items in
    rw (c.new-2.ensures, c.new-3.ensures) (ap beginning (sym (begun_now bytes)))

pub invariant_of-result : goal.invariant_of-result
invariant_of-result g c =
    let bytes = filled_up c.args.size c.new.result.items in
    rw (c.new-2.ensures, c.new-3.ensures) (record {
      kept = begun_kept bytes
          (omega (arith, filled_size c.args.size c.new.result.items, c.ranges.size.fits));
    })
