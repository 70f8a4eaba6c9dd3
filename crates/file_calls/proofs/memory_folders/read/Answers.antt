use Rattle.file_calls.proofs.FolderLemmas.{did_nothing}
use Rattle.file_calls.proofs.memory_folders.read.Goals as goal

pub returns-clause-same : goal.returns-clause-same
returns-clause-same c =
    did_nothing c.args.files.now c.args.number c.index-files-i.result c.fail_unless.new.self
    c.read_at.new.self c.if-files-i.false c.fail_unless.ensures.state
    (c.read_at.ensures.same tt)
