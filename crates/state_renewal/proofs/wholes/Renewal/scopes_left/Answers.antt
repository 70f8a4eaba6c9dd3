use Rattle.std.proofs.Common.{◌∙◌, arith}
use Rattle.state_renewal.proofs.Renewing.{scopes_count, some_scope}
use Rattle.state_renewal.proofs.wholes.Renewal.scopes_left.Goals as goal

pub returns-clause-count : goal.returns-clause-count
returns-clause-count g c =
    c.number.ensures.value
    ∙ scopes_count c.args.state.now c.args.self.now.scopes c.args.self.now.groups
    c.args.self.now.tasks c.requires.marks
    c.scope_count.result c.scope_count.ensures.len

pub returns-clause-root : goal.returns-clause-root
returns-clause-root g c =
    let count = c.number.ensures.value
    ∙ scopes_count c.args.state.now c.args.self.now.scopes c.args.self.now.groups
    c.args.self.now.tasks c.requires.marks
    c.scope_count.result c.scope_count.ensures.len in
    let some = some_scope c.args.state.now c.count-rules.ensures.rules in
    omega (arith, count, some)
