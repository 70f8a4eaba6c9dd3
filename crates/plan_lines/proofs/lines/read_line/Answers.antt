use Rattle.std.proofs.Common.{◌≤◌, arith, length, subst}
use Rattle.plan_lines.specs.Lines.{Parses}
use Rattle.plan_lines.proofs.Parsing.{means_by_tokens}
use Rattle.plan_lines.proofs.lines.read_line.Goals as goal

pub returns : goal.returns
returns c =
    let short : length c.args.line.now ≤ 255 = omega arith in
    means_by_tokens c.line_of.result c.in-Some.tokens.items c.args.line.now short c.in-Some.ensures
    (subst (λ l. Parses l c.line_of.result) c.as_slice.ensures.value c.line_of.ensures)
