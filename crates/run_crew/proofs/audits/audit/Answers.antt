use Rattle.std.proofs.Common.{ap, ◌∙◌}
use Rattle.run_crew.proofs.Auditing.{complete, lacks, leaves, permuted, strays}
use Rattle.run_crew.proofs.audits.audit.Goals as goal

pub returns-in-Some : goal.returns-in-Some
returns-in-Some g c = record {
  answer = strays c.args.desk.now c.args.lists.now c.since_made-made.result c.in-Some.strayed
      c.since_made-made.ensures c.in-Some.ensures;
  exactly = tt;
}

pub returns-then-not-are_noted : goal.returns-then-not-are_noted
returns-then-not-are_noted g c = record {
  answer = lacks c.args.desk.now c.args.lists.now c.since_made-made.result
      c.since_made-made.ensures c.in_default.ensures c.if-not-are_noted.ensures;
  exactly = tt;
}

pub returns-in-Some-first_left : goal.returns-in-Some-first_left
returns-in-Some-first_left g c = record {
  answer = leaves c.args.desk.now c.args.lists.now c.since_made-made.result
      c.state.result.now.work c.in-Some-first_left.task
      c.since_made-made.ensures c.in_default.ensures c.if-not-are_noted.ensures
      (ap (λ s. s.work) c.state.ensures.state
      ∙ ap (λ b. b.session.state.work) c.book.ensures.book)
      c.in-Some-first_left.ensures;
  exactly = tt;
}

pub returns-in-None : goal.returns-in-None
returns-in-None g c = record {
  answer = complete c.args.desk.now c.args.lists.now c.since_made-made.result
      c.state.result.now.work
      c.since_made-made.ensures c.in_default.ensures c.if-not-are_noted.ensures
      (ap (λ s. s.work) c.state.ensures.state
      ∙ ap (λ b. b.session.state.work) c.book.ensures.book)
      c.in-None.ensures;
  exactly = permuted c.args.desk.now c.args.lists.now c.since_made-made.result
      c.since_made-made.ensures c.in_default.ensures c.if-not-are_noted.ensures;
}
