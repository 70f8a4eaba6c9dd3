use Rattle.run_model.proofs.Common.{OnErr, reply_finish, rules, subst, ◌∙◌, ◌≡◌}
use Rattle.run_model.specs.declared.commands.Step.TheVariants as step
use Rattle.run_book.specs.Views.{unless_broken}
use Rattle.run_crew.specs.Desks.{DeskView}
use Rattle.run_crew.proofs.Carrying.{added_by, carries_more, finish_works, history_grown}
use Rattle.run_crew.proofs.Stepping.{counts_one, finish_counted, finish_totals, takes_step}
use Rattle.run_crew.proofs.desks.Desk.finish_as.Goals as goal

pub invariant_of-self : goal.invariant_of-self
invariant_of-self g c =
    let b = c.self.inside.book in
    let x = step.Finish c.args.task c.args.outcome.now in
    let new = c.finish-number.new.self in
    let reported = c.finish-number.ensures in
    let grown = history_grown b new x reported.after in
    let one = counts_one c.finish-number.result c.is_ok.result c.from.result c.is_ok.ensures.value
    c.from.ensures in
    let totals = finish_totals b new c.args.task c.args.outcome.now c.finish-number.result
    c.self.inside.starts.total c.self.inside.finishes.total c.from.result reported.reply
    reported.refused grown one c.self.invariant.0 c.self.invariant.1 in (
      totals.0,
      c.add.ensures.total ∙ totals.1,
      carries_more g.D.RunDisk.state g.O.Opening.opening b new (added_by b x)
          c.self.invariant.2 reported.carries_on grown
          (λ _. finish_works b c.args.task c.args.outcome.now),
    )

pub returns-clause-reply : goal.returns-clause-reply
returns-clause-reply g c =
    let Replies : DeskView _ → Type 0 = λ d. c.finish-number.result
    ≡ unless_broken d.book (reply_finish d.book.session.state c.args.task c.args.outcome.now) in
    subst Replies c.self.view_is c.finish-number.ensures.reply

-- without the call's name, which an edit takes away
pub returns-clause-after : goal.returns-clause-after
returns-clause-after g c = search rules

pub returns-clause-step : goal.returns-clause-step
returns-clause-step g c =
    takes_step g.D.RunDisk.state _ _ (step.Finish c.args.task c.args.outcome.now) _
    c.finish-number.new.self c.self.view_is c.finish-number.ensures.answers
    c.finish-number.ensures.stays c.finish-number.ensures.carries_on

pub returns-clause-refused : goal.returns-clause-refused
returns-clause-refused g c =
    let Refuses : DeskView _ → Type 0 = λ d.
    OnErr c.finish-number.result (c.finish-number.new.self ≡ d.book) in
    subst Refuses c.self.view_is c.finish-number.ensures.refused

pub returns-clause-own : goal.returns-clause-own
returns-clause-own g c =
    finish_counted c.finish-number.result _ _ c.add.new.share.parts c.add.new.share.amount
    c.from.result c.own.view_is c.add.ensures.parts c.add.ensures.amount
    (counts_one c.finish-number.result c.is_ok.result c.from.result c.is_ok.ensures.value
    c.from.ensures)
