use Rattle.std.proofs.Common.{◌∙◌, ap}
use Rattle.file_calls.specs.OpenFiles.{FileState}
use Rattle.file_calls.proofs.FolderLemmas.{other_file, this_file}
use Rattle.file_calls.proofs.memory_folders.clear.Goals as goal

pub returns-then-i-files-clause-others : goal.returns-then-i-files-clause-others
returns-then-i-files-clause-others c n apart = other_file _ _ n _ apart

pub returns-then-i-files-clause-empty : goal.returns-then-i-files-clause-empty
returns-then-i-files-clause-empty c =
    ap (λ (s : FileState). s.now)
    (this_file c.args.files.now c.args.number c.new-then-i-files.result c.if-i-files.true)
    ∙ (c.new-then-i-files.ensures.now ∙ c.new.ensures.items)

pub returns-then-i-files-clause-rest : goal.returns-then-i-files-clause-rest
returns-then-i-files-clause-rest c =
    rw (this_file c.args.files.now c.args.number c.new-then-i-files.result c.if-i-files.true)
    c.new-then-i-files.ensures.rest
