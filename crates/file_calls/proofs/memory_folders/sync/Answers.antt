use Rattle.std.proofs.Common.{◌⊎◌, OnErr, OnOk}
use Rattle.file_calls.specs.OpenFiles.{IsSame, Settles}
use Rattle.file_calls.specs.declared.places.Place.TheVariants.{Durable, Lost}
use Rattle.file_calls.proofs.FolderLemmas.{did_to_file, lost_or_same, other_file}
use Rattle.file_calls.proofs.memory_folders.sync.Goals as goal

pub returns-clause-others : goal.returns-clause-others
returns-clause-others c n apart = other_file _ _ n _ apart

pub returns-clause-durable : goal.returns-clause-durable
returns-clause-durable c =
    did_to_file (λ s t. OnOk c.sync.result (Settles Durable s t)) c.args.files.now c.args.number
    c.index-files-i.result c.fail_unless.new.self c.sync.new.self c.if-files-i.false
    c.fail_unless.ensures.state (c.sync.ensures.durable tt)

pub returns-clause-lost : goal.returns-clause-lost
returns-clause-lost c =
    did_to_file (λ s t. OnErr c.sync.result (Settles Lost s t ⊎ IsSame s t)) c.args.files.now
    c.args.number c.index-files-i.result c.fail_unless.new.self c.sync.new.self
    c.if-files-i.false c.fail_unless.ensures.state
    (lost_or_same _ _ _ _ c.sync.result (c.sync.ensures.goes_on tt) (c.sync.ensures.lost tt))
