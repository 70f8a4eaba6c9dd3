use Rattle.run_model.proofs.Common.{OnErr, rules, subst, ◌≡◌}
use Rattle.run_model.specs.declared.commands.Step.TheVariants as step
use Rattle.model_laws.specs.Kinds.{is_finish, is_start}
use Rattle.model_laws.proofs.Commanding.{command_event}
use Rattle.run_model.specs.Replies.{reply}
use Rattle.run_book.specs.Views.{unless_broken}
use Rattle.run_crew.specs.Desks.{DeskView}
use Rattle.run_crew.proofs.Carrying.{added_by, carries_more, history_grown, none_barred}
use Rattle.run_crew.proofs.Counting.{kept}
use Rattle.run_crew.proofs.Stepping.{takes_step}
use Rattle.run_crew.proofs.desks.Desk.command.Goals as goal

pub invariant_of-self : goal.invariant_of-self
invariant_of-self g c =
    let b = c.self.inside.book in
    let new = c.command.new.self in
    let call = c.args.call.now in
    let known = g.O.Opening.opening in
    let added = added_by b (step.Command call) in
    let event = command_event b.session.state call in
    let grown = history_grown b new (step.Command call) c.command.ensures.after in (
      kept is_start b new call c.self.inside.starts.total event.start c.self.invariant.0 grown,
      kept is_finish b new call c.self.inside.finishes.total event.finish c.self.invariant.1 grown,
      carries_more g.D.RunDisk.state known b new added c.self.invariant.2
          c.command.ensures.carries_on grown
          (none_barred known added g.met.O.Obeys.commands_come),
    )

pub returns-clause-reply : goal.returns-clause-reply
returns-clause-reply g c =
    let Replies : DeskView _ → Type 0 = λ d. c.command.result
    ≡ unless_broken d.book (reply d.book.session.state d.book.session.log c.args.call.now) in
    subst Replies c.self.view_is c.command.ensures.reply

-- without the call's name, which an edit takes away
pub returns-clause-after : goal.returns-clause-after
returns-clause-after g c = search rules

pub returns-clause-step : goal.returns-clause-step
returns-clause-step g c =
    takes_step g.D.RunDisk.state _ _ (step.Command c.args.call.now) _ c.command.new.self
    c.self.view_is c.command.ensures.answers c.command.ensures.stays c.command.ensures.carries_on

pub returns-clause-refused : goal.returns-clause-refused
returns-clause-refused g c =
    let Refuses : DeskView _ → Type 0 = λ d.
    OnErr c.command.result (c.command.new.self ≡ d.book) in
    subst Refuses c.self.view_is c.command.ensures.refused
