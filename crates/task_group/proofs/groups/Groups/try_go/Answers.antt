use Rattle.run_model.proofs.Common.{◌≡◌, true, and_parts, refl, ◌∙◌, admits, limit_of}
use Rattle.run_model.proofs.Common.{unfinished_in}
use Rattle.task_group.proofs.groups.Groups.try_go.Goals as goal

pub returns-clause-after : goal.returns-clause-after
returns-clause-after g c = c.go.ensures.after

pub go-requires-clause-accepted : goal.go-requires-clause-accepted
go-requires-clause-accepted g c = (and_parts _ _ c.requires.accepted).0

pub returns-clause-phase : goal.returns-clause-phase
returns-clause-phase g c =
    let w = c.args.self.now in
    let fits : admits (limit_of w c.args.group) (unfinished_in c.args.group w.tasks) ≡ true =
    (and_parts _ _ c.requires.accepted).1 in
    c.go.ensures.phase ∙ rw fits refl
