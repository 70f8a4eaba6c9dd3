use Rattle.std.proofs.Common.{◌∙◌}
use Rattle.file_calls.proofs.NameLemmas.{durable_stays, none_as_before}
use Rattle.file_calls.proofs.laws.a_new_name_needs_a_sync_of_its_folder.Goals as goal

pub returns-clause-lost : goal.returns-clause-lost
returns-clause-lost c name file old new creates lost =
    rw creates.steps (none_as_before old name file ∙ lost)

pub returns-clause-kept : goal.returns-clause-kept
returns-clause-kept c name file old new creates =
    rw creates.steps (durable_stays old name file)
