use Rattle.std.specs.Prelude.{◌++◌, ◌∷◌, List, []}
use Rattle.std.proofs.Common.{None, Some, ap, inl, inr, refl, subst, sym, ◌≡◌, ◌∙◌}
use Rattle.std.proofs.Common.{true}
use Rattle.std.specs.List.{list_all}
use Rattle.run_model.specs.State.{State}
use Rattle.run_model.specs.declared.answers.Reply.{Reply}
use Rattle.run_model.specs.declared.commands.Step.{Step}
use Rattle.run_model.specs.declared.commands.Step.TheVariants as step
use Rattle.book_model.specs.Steps.{StepsOn}
use Rattle.drive_nights.specs.Marks.{mark_of}
use Rattle.drive_runs.specs.Closing.{hindrance_of, is_carried_out}
use Rattle.drive_runs.specs.Faults.{first_fault}
use Rattle.drive_runs.proofs.Faultless.{taken_whole}
use Rattle.drive_runs.proofs.nights.close_night.Goals as goal

pub returns-in_default-clause-closes : goal.returns-in_default-clause-closes
returns-in_default-clause-closes g c =
    inl (
      subst (λ (p : State). mark_of p c.args.night ≡ None) c.state.ensures.state
          (sym c.mark_of.ensures ∙ c.in_default.is),
      refl,
    )

pub returns-then-are_carried_out-clause-closes : goal.returns-then-are_carried_out-clause-closes
returns-then-are_carried_out-clause-closes g c =
    let mark = c.in-Some.mark in
    let replies = c.in_ok-replies.replies.items in
    let row : c.as_slice.result.now ≡ mark ∷ step.Flush ∷ [] =
    c.as_slice.ensures.value ∙ c.in_ok-push-2.ensures.items
    ∙ ap (λ (l : List Step). l ++ step.Flush ∷ [])
    (c.in_ok-push.ensures.items
    ∙ ap (λ (l : List Step). l ++ mark ∷ []) c.new-steps.ensures.items) in
    let taken : list_all is_carried_out replies ≡ true =
    ap (λ (l : List Reply). list_all is_carried_out l) (sym c.as_slice-2.ensures.value)
    ∙ sym c.are_carried_out.ensures ∙ c.if-are_carried_out.true in
    record {
      mark = mark;
      is = subst (λ (p : State). mark_of p c.args.night ≡ Some mark) c.state.ensures.state
          (sym c.mark_of.ensures ∙ c.in-Some.is);
      replies = replies;
      taken = taken;
      whole = taken_whole g.D.RunDisk.state c.args.book.now c.play.new.book mark replies
          c.state.ensures.replays.replays
          (subst (λ (l : List Step). StepsOn g.D.RunDisk.state c.args.book.now l replies
          c.play.new.book) row c.in_ok-replies.ensures.played) taken;
    }

pub returns-clause-closes : goal.returns-clause-closes
returns-clause-closes g c =
    let mark = c.in-Some.mark in
    let replies = c.in_ok-replies.replies.items in
    let row : c.as_slice.result.now ≡ mark ∷ step.Flush ∷ [] =
    c.as_slice.ensures.value ∙ c.in_ok-push-2.ensures.items
    ∙ ap (λ (l : List Step). l ++ step.Flush ∷ [])
    (c.in_ok-push.ensures.items
    ∙ ap (λ (l : List Step). l ++ mark ∷ []) c.new-steps.ensures.items) in
    inr record {
      mark = mark;
      is = subst (λ (p : State). mark_of p c.args.night ≡ Some mark) c.state.ensures.state
          (sym c.mark_of.ensures ∙ c.in-Some.is);
      replies = replies;
      played = subst (λ (l : List Step). StepsOn g.D.RunDisk.state c.args.book.now l replies
          c.play.new.book) row c.in_ok-replies.ensures.played;
      refused = ap (λ (l : List Reply). list_all is_carried_out l) (sym c.as_slice-2.ensures.value)
          ∙ sym c.are_carried_out.ensures ∙ c.if-are_carried_out.false;
      why = c.hindrance_of.ensures ∙ ap hindrance_of c.first_fault.ensures
          ∙ ap (λ (l : List Reply). hindrance_of (first_fault l)) c.as_slice-3.ensures.value;
    }
