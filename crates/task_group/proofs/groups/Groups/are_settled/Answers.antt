use Rattle.run_model.proofs.Common.{◌<◌, ◌≤◌, length, sym, ◌∙◌, arith, row_there}
use Rattle.row_view.specs.WorkRows.{is_settled}
use Rattle.task_group.proofs.Settling.{passes_on, fails_at, passes_end}
use Rattle.task_group.proofs.groups.Groups.are_settled.Goals as goal

pub loop-g-preserved : goal.loop-g-preserved
loop-g-preserved g c =
    let w = c.args.self.now in
    let less : c.loop-g.g < length w.groups =
    omega (arith, c.loop-g-test.true, c.group_count-g-end.ensures.len) in
    let row = row_there w.groups c.loop-g.g less in
    passes_on (is_settled w) c.loop-g.g w.groups row.0 row.1
    (sym (c.is_settled.ensures row.0 row.1) ∙ c.if-not-is_settled.false) ∙ c.loop-g.invariant

pub returns-then-not-is_settled : goal.returns-then-not-is_settled
returns-then-not-is_settled g c =
    let w = c.args.self.now in
    let less : c.loop-g.g < length w.groups =
    omega (arith, c.loop-g-test.true, c.group_count-g-end.ensures.len) in
    let row = row_there w.groups c.loop-g.g less in
    sym
    (fails_at (is_settled w) c.loop-g.g w.groups row.0 row.1
    (sym (c.is_settled.ensures row.0 row.1) ∙ c.if-not-is_settled.true))
    ∙ c.loop-g.invariant

pub returns : goal.returns
returns g c =
    let w = c.args.self.now in
    let all : length w.groups ≤ c.loop-g.g =
    omega (arith, c.loop-g-test.false, c.group_count-g-end.ensures.len) in
    sym (passes_end (is_settled w) c.loop-g.g w.groups all) ∙ c.loop-g.invariant
