use Rattle.std.proofs.Common.{refl, ◌∙◌}
use Rattle.task_group.proofs.groups.Groups.go.Goals as goal

pub returns-clause-after : goal.returns-clause-after
returns-clause-after g c =
    c.submit.ensures.after ∙ rw (c.name_copy.ensures, c.name_copy-2.ensures) refl
