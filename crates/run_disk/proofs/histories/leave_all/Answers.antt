use Rattle.std.proofs.Common.{◌∙◌}
use Rattle.run_disk.specs.History.{left_of}
use Rattle.run_disk.proofs.NewestLemmas.{byte-next}
use Rattle.run_disk.proofs.histories.leave_all.Goals as goal

pub loop-write-preserved : goal.loop-write-preserved
loop-write-preserved g c = record {
  size = c.leave.ensures.size ∙ c.loop-write.invariant.size;
  bytes = byte-next (left_of c.args.torn c.args.syncs.now c.args.calls) c.args.writes.now
      c.loop-write.write-index c.write-item.result c.args.from c.args.window.now
      c.loop-write.window c.leave.new.window c.loop-write-test.true c.write-item.is
      c.loop-write.invariant.bytes c.loop-write.invariant.size c.leave.ensures;
}
