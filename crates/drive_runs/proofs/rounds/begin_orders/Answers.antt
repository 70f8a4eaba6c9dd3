use Rattle.std.proofs.Common.{List, Option, ap, get_or, subst, sym, take, ◌+◌, ◌∙◌}
use Rattle.std.specs.Prelude.{is_none}
use Rattle.std.specs.Option.{option_map}
use Rattle.std.proofs.lemmas.List.Folds.{list_any_at}
use Rattle.drive_lines.specs.declared.fields.TryName.{TryName}
use Rattle.drive_lines.specs.declared.orders.Order.{Order}
use Rattle.drive_lines.specs.declared.orders.Order.TheVariants as order
use Rattle.drive_steps.specs.declared.reported.Begun.{Begun}
use Rattle.drive_runs.specs.Rounds.{AreBegins}
use Rattle.drive_runs.specs.Tries.{try_name}
use Rattle.drive_runs.proofs.Ordering.{begins_more}
use Rattle.drive_runs.proofs.rounds.begin_orders.Goals as goal

pub loop-begin-preserved : goal.loop-begin-preserved
loop-begin-preserved g c =
    let none : Begun = record { command = 0; task = 0 } in
    let begin : Begun = get_or c.args.begun.now c.loop-begin.begin-index none in
    let old : List Order = c.loop-begin.orders.items in
    let line : Order = order.Begin begin.command begin.task c.in-Some.named in
    subst (λ (lines : List Order). AreBegins c.args.state.now
    (take (c.loop-begin.begin-index + 1) c.args.begun.now) lines) (sym c.in_ok-push.ensures.items)
    (begins_more c.args.state.now c.args.begun.now c.loop-begin.begin-index none old line
    c.loop-begin-test.true c.loop-begin.invariant
    (ap (λ (o : Option TryName). option_map (λ named.
    order.Begin begin.command begin.task named) o) (sym c.try_name.ensures ∙ c.in-Some.is)))

pub returns-in_default : goal.returns-in_default
returns-in_default g c =
    list_any_at (λ (begin : Begun). is_none (try_name c.args.state.now begin.task))
    c.args.begun.now c.loop-begin.begin-index (record { command = 0; task = 0 })
    c.loop-begin-test.true
    (ap (λ (o : Option TryName). is_none o) (sym c.try_name.ensures ∙ c.in_default.is))
