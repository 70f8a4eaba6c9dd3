use Rattle.std.proofs.Common.{◌≤◌, length}
use Rattle.file_calls.specs.OpenFiles.{Writes}
use Rattle.file_calls.proofs.FolderLemmas.{did_to_file, other_file}
use Rattle.file_calls.proofs.memory_folders.write.Goals as goal

pub returns-clause-others : goal.returns-clause-others
returns-clause-others c n apart = other_file _ _ n _ apart

pub returns-clause-writes : goal.returns-clause-writes
returns-clause-writes c =
    did_to_file (λ s t. c.args.at ≤ length s.now
    → Writes c.args.at c.args.bytes.now s t c.write_at.result) c.args.files.now c.args.number
    c.index-files-i.result c.fail_unless.new.self c.write_at.new.self c.if-files-i.false
    c.fail_unless.ensures.state (c.write_at.ensures.writes tt)
