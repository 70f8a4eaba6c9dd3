use Rattle.std.specs.Prelude.{length}
use Rattle.std.proofs.Common.{sym, ◌∙◌}
use Rattle.run_disk.proofs.MemoryLemmas.{now_size}
use Rattle.program_tests.proofs.ShelfLemmas.{gives_all}
use Rattle.program_tests.proofs.shelves.ShelfFiles.read_all.Goals as goal

pub returns-clause-gives : goal.returns-clause-gives
returns-clause-gives c =
    let disk = c.args.disk.now.disk in
    gives_all _ _ c.read_at.new.out (length c.args.out.now) c.read_at.result
    (c.requires ∙ sym (now_size disk.history disk.tally.calls))
    (c.read_at.ensures.reads tt) (c.read_at.ensures.bytes tt)
