use Rattle.run_model.proofs.Common.{OnErr, reply_start, rules, subst, ◌∙◌, ◌≡◌}
use Rattle.run_model.specs.declared.commands.Step.TheVariants as step
use Rattle.run_book.specs.Views.{unless_broken}
use Rattle.run_crew.specs.Desks.{DeskView}
use Rattle.run_crew.proofs.Carrying.{added_by, carries_more, history_grown, start_works}
use Rattle.run_crew.proofs.Stepping.{counts_one, start_counted, start_totals, takes_step}
use Rattle.run_crew.proofs.desks.Desk.start_as.Goals as goal

pub invariant_of-self : goal.invariant_of-self
invariant_of-self g c =
    let b = c.self.inside.book in
    let new = c.start-started.new.self in
    let reported = c.start-started.ensures in
    let grown = history_grown b new step.Start reported.after in
    let one = counts_one c.start-started.result c.is_ok.result c.from.result c.is_ok.ensures.value
    c.from.ensures in
    let totals = start_totals b new c.start-started.result c.self.inside.starts.total
    c.self.inside.finishes.total c.from.result reported.reply reported.refused grown one
    c.self.invariant.0 c.self.invariant.1 in (
      c.add.ensures.total ∙ totals.0,
      totals.1,
      carries_more g.D.RunDisk.state g.O.Opening.opening b new (added_by b step.Start)
          c.self.invariant.2 reported.carries_on grown (λ _. start_works b),
    )

pub returns-clause-reply : goal.returns-clause-reply
returns-clause-reply g c =
    let Replies : DeskView _ → Type 0 = λ d. c.start-started.result
    ≡ unless_broken d.book (reply_start d.book.session.state d.book.session.log) in
    subst Replies c.self.view_is c.start-started.ensures.reply

-- without the call's name, which an edit takes away
pub returns-clause-after : goal.returns-clause-after
returns-clause-after g c = search rules

pub returns-clause-step : goal.returns-clause-step
returns-clause-step g c =
    takes_step g.D.RunDisk.state _ _ step.Start _ c.start-started.new.self c.self.view_is
    c.start-started.ensures.answers c.start-started.ensures.stays
    c.start-started.ensures.carries_on

pub returns-clause-refused : goal.returns-clause-refused
returns-clause-refused g c =
    let Refuses : DeskView _ → Type 0 = λ d.
    OnErr c.start-started.result (c.start-started.new.self ≡ d.book) in
    subst Refuses c.self.view_is c.start-started.ensures.refused

pub returns-clause-own : goal.returns-clause-own
returns-clause-own g c =
    start_counted c.start-started.result _ _ c.add.new.share.parts c.add.new.share.amount
    c.from.result c.own.view_is c.add.ensures.parts c.add.ensures.amount
    (counts_one c.start-started.result c.is_ok.result c.from.result c.is_ok.ensures.value
    c.from.ensures)
