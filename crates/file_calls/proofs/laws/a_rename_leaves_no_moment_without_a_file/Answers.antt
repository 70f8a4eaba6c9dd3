use Rattle.std.proofs.Common.{◌∙◌, ◌∷◌, [], ◌++◌, None, Some}
use Rattle.file_calls.specs.Names.{new_step}
use Rattle.file_calls.proofs.NameLemmas.{none_as_before, same_by_other}
use Rattle.file_calls.proofs.laws.a_rename_leaves_no_moment_without_a_file.Goals as goal

pub returns : goal.returns
returns c from to old new renames apart led =
    let first = old ++ new_step to (Some renames.file) ∷ [] in
    rw renames.steps
    (same_by_other first from to None None apart ∙ (none_as_before old to renames.file ∙ led))
