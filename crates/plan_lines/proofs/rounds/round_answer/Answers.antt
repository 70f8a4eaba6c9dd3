use Rattle.plan_lines.specs.LineKinds.{line_of_kind}
use Rattle.plan_lines.specs.declared.rounds.LineKind.TheVariants as kind
use Rattle.plan_lines.proofs.Answered.{answered, pushed, pushed_first}
use Rattle.plan_lines.proofs.rounds.round_answer.Goals as goal

pub returns : goal.returns
returns c =
    answered c.args.state.now c.in_ok-choice.choice c.in_ok-stops.stops.items
    c.push_each.new.lines.items c.push_each-2.new.lines.items c.push_later.new.lines.items
    c.push_asked.new.lines.items c.push.new.self.items
    c.in_ok-choice.ensures.chosen c.in_ok-stops.ensures.exact c.in_ok-stops.ensures.order
    (pushed_first (line_of_kind kind.Begin) _ c.new-lines.result.items _ _
    c.in_ok-push_each.ensures c.as_slice.ensures.value c.new-lines.ensures.items)
    (pushed (line_of_kind kind.Stop) _ _ _ _ c.in_ok-push_each-2.ensures
    c.as_slice-2.ensures.value)
    c.in_ok-push_later.ensures c.in_ok-push_asked.ensures c.in_ok-push.ensures.items
