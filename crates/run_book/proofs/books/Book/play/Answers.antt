use Rattle.run_model.proofs.Common.{◌≡◌, ◌+◌, List, take, refl, sym, subst, ◌∙◌, arith, take_all}
use Rattle.run_model.specs.declared.answers.Reply.{Reply}
use Rattle.run_model.specs.declared.commands.Step.{Step}
use Rattle.book_model.specs.Steps.{PlaysInto}
use Rattle.run_book.proofs.Playing.{HasPlayed, played_more, played_none}
use Rattle.run_book.proofs.books.Book.play.Goals as goal

pub loop-step-init : goal.loop-step-init
loop-step-init g c = (
  played_none g.D.RunDisk.state c.args.self.now c.args.replies.now.items
      c.durable-durable.ensures.carries_on,
  omega arith,
  refl,
)

pub loop-step-preserved : goal.loop-step-preserved
loop-step-preserved g c =
    let state = g.D.RunDisk.state in
    let e = c.step-reply.ensures in
    let old = c.args.self.now in
    let steps = c.args.steps.now in
    let before = c.args.replies.now.items in (
      subst (λ (l : List Reply).
          HasPlayed state old c.step-reply.new.self (take (c.loop-step.step-index + 1) steps)
          before l)
          (sym c.push_reserved.ensures.items)
          (played_more state old c.loop-step.self c.step-reply.new.self steps
          c.loop-step.step-index c.step-item.result before c.loop-step.replies.items
          c.step-reply.result c.loop-step-test.true c.step-item.is c.loop-step.invariant.0
          e.answers e.carries_on e.stays),
      omega (arith, c.push_reserved.ensures.len, c.loop-step.invariant.1),
      c.push_reserved.ensures.capacity ∙ c.loop-step.invariant.2,
    )

pub push_reserved-requires : goal.push_reserved-requires
push_reserved-requires g c =
    omega (
      arith,
      c.requires.room,
      c.loop-step.invariant.1,
      c.loop-step.invariant.2,
      c.loop-step-test.true,
    )

pub returns : goal.returns
returns g c =
    let played = c.loop-step.invariant.0 in
    let all : take c.loop-step.step-index c.args.steps.now ≡ c.args.steps.now =
    take_all c.loop-step.step-index c.args.steps.now c.loop-step-test.false in
    record {
      plays =
          subst (λ (l : List Step). PlaysInto g.D.RunDisk.state c.args.self.now l
          c.args.replies.now.items c.loop-step.self c.loop-step.replies.items) all
          played.plays;
      capacity = c.loop-step.invariant.2;
      carries_on = played.carries_on;
      stays = played.stays;
    }
