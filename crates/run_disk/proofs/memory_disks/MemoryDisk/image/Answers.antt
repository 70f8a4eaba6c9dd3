use Rattle.std.proofs.Common.{arith}
use Rattle.run_disk.proofs.TearLemmas.{torn_is_image}
use Rattle.run_disk.proofs.memory_disks.MemoryDisk.image.Goals as goal

pub returns-in-Ok-clause-bytes : goal.returns-in-Ok-clause-bytes
returns-in-Ok-clause-bytes g c = c.in-Ok.ensures

pub returns-in-Ok-clause-image : goal.returns-in-Ok-clause-image
returns-in-Ok-clause-image g c =
    torn_is_image c.args.torn c.args.self.now.history c.args.after_calls c.in-Ok.image.items
    c.in-Ok.ensures

pub returns-in-Ok-clause-since : goal.returns-in-Ok-clause-since
returns-in-Ok-clause-since g c = (
  c.args.after_calls,
  omega arith,
  c.requires,
  torn_is_image c.args.torn c.args.self.now.history c.args.after_calls c.in-Ok.image.items
      c.in-Ok.ensures,
)
