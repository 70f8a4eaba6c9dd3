use Rattle.run_disk.specs.Runs.{OnlyReads}
use Rattle.store_files.specs.Files.{IsRead}
use Rattle.store_words.proofs.looks.steady_bytes.Given as goal

-- The bytes of the last reading; and readings change nothing of an honest disk.
abbrev pub invariant-loop : goal.invariant-loop
invariant-loop g l = record {
  last : IsRead g.F.Files.seen l.before.items l.disk;
  honest : (g.F.Disk.RunDisk.state l.fn.disk).honest → (g.F.Disk.RunDisk.state l.disk).honest;
  only : (g.F.Disk.RunDisk.state l.fn.disk).honest
      → OnlyReads (g.F.Disk.RunDisk.state l.fn.disk) (g.F.Disk.RunDisk.state l.disk);
}
