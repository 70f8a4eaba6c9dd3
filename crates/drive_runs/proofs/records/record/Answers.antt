use Rattle.std.proofs.Common.{List, MatchOption, Option, ap, inl, length, refl, subst}
use Rattle.std.proofs.Common.{◌≡◌, ◌∙◌, ℕ}
use Rattle.run_model.specs.State.{State}
use Rattle.run_model.specs.declared.answers.Reply.{Reply}
use Rattle.run_model.specs.declared.commands.Step.{Step}
use Rattle.book_model.specs.Steps.{StepsOn}
use Rattle.drive_steps.specs.declared.cancels.CommandCancel.{CommandCancel}
use Rattle.drive_steps.specs.declared.heard.Ended.{Ended}
use Rattle.drive_steps.specs.Cancels.{AreTaken}
use Rattle.drive_steps.specs.Heard.{AreNoted}
use Rattle.drive_steps.specs.Rounds.{record_of}
use Rattle.drive_runs.specs.declared.living.Living.{Living}
use Rattle.drive_runs.specs.declared.records.Recording.{Recording}
use Rattle.drive_runs.specs.Living.{after_ends, without}
use Rattle.drive_runs.specs.Records.{Becomes, HasNoSteps, ends_of, once_canceled, some_gone}
use Rattle.drive_runs.proofs.Recording.{has_become}
use Rattle.drive_runs.proofs.records.record.Goals as goal

pub returns-in_default-clause-recorded : goal.returns-in_default-clause-recorded
returns-in_default-clause-recorded g c =
    let s = c.args.sitting.now in
    let heard = c.args.heard.now in
    let lived = c.in_ok-parts.ensures.living
    ∙ ap (λ (l : List Living). once_canceled heard.cancels.items l) c.as_slice.ensures.value in
    let ended = c.as_slice-ends.ensures.value ∙ c.in_ok-parts.ensures.ends
    ∙ ap (λ (l : List Living). ends_of l heard) lived in
    inl (
      subst (λ (ends : List Ended). HasNoSteps c.args.book.now.session.state s ends heard) ended
          (subst (λ (p : State). HasNoSteps p s c.as_slice-ends.result.now heard)
          c.state.ensures.state
          (subst (λ (o : Option Recording). MatchOption o
          (HasNoSteps c.state.result.now s c.as_slice-ends.result.now heard)
          (λ it. AreTaken c.state.result.now s.names s.plan.commands.items
          c.as_slice-ends.result.now heard.cancels.items it.taken.items
          × (it.steps.items ≡ record_of c.state.result.now s.names s.plan.commands.items
          c.as_slice-ends.result.now it.taken.items heard.done.items c.args.now)))
          c.in_default.is c.in_ok-recording.ensures)),
      refl,
    )

pub returns-clause-recorded : goal.returns-clause-recorded
returns-clause-recorded g c =
    let s = c.args.sitting.now in
    let heard = c.args.heard.now in
    let parts = c.in_ok-parts.parts in
    let ends = c.as_slice-ends.result.now in
    let recording = c.in-Some.recording in
    let taken = recording.taken.items in
    let replies = c.in_ok-replies.replies.items in
    let found = subst (λ (p : State). AreTaken p s.names s.plan.commands.items ends
    heard.cancels.items taken × (recording.steps.items ≡ record_of p s.names
    s.plan.commands.items ends taken heard.done.items c.args.now))
    c.state.ensures.state
    (subst (λ (o : Option Recording). MatchOption o (HasNoSteps c.state.result.now s ends heard)
    (λ it. AreTaken c.state.result.now s.names s.plan.commands.items ends heard.cancels.items
    it.taken.items × (it.steps.items ≡ record_of c.state.result.now s.names
    s.plan.commands.items ends it.taken.items heard.done.items c.args.now)))
    c.in-Some.is c.in_ok-recording.ensures) in
    let lived = c.in_ok-parts.ensures.living
    ∙ ap (λ (l : List Living). once_canceled heard.cancels.items l) c.as_slice.ensures.value in
    let left = c.in_ok-left.ensures
    ∙ ap (λ (l : List Living). after_ends l ends) (c.as_slice-3.ensures.value ∙ lived) in
    has_become g.D.RunDisk.state s _ heard c.args.now c.args.book.now c.play.new.book
    (record {
      ends = ends;
      ended = c.as_slice-ends.ensures.value ∙ c.in_ok-parts.ensures.ends
          ∙ ap (λ (l : List Living). ends_of l heard) lived;
      taken = taken;
      those = found.0;
      replies = replies;
      played = subst (λ (all : List Step). StepsOn g.D.RunDisk.state c.args.book.now all replies
          c.play.new.book) found.1
          (subst (λ (all : List Step). StepsOn g.D.RunDisk.state c.args.book.now all replies
          c.play.new.book) c.as_slice-2.ensures.value c.in_ok-replies.ensures.played);
      gone = c.some_gone-is_gone.result;
      gone_is = c.some_gone-is_gone.ensures
          ∙ ap (λ (l : List ℕ). some_gone l c.as_slice-4.result.now) c.as_slice-5.ensures.value
          ∙ ap (λ (l : List Living). some_gone heard.gone.items l)
          (c.as_slice-4.ensures.value ∙ left);
      remembers = record {
        same = record { plan = refl; names = refl; untils = refl; all = refl; night = refl };
        sizes = refl;
        noted = subst (λ (n : ℕ). AreNoted s.kept.ends c.note.new.ends ends n)
            c.get.ensures.value c.in_ok-note.ensures;
        living = c.in_ok-living.ensures
            ∙ ap (λ (l : List ℕ). without c.as_slice-6.result.now l) c.as_slice-7.ensures.value
            ∙ ap (λ (l : List Living). without l heard.gone.items)
            (c.as_slice-6.ensures.value ∙ left);
      };
    }) c.what_became.result
    (subst (λ (all : List Reply). Becomes (length ends) taken all c.some_gone-is_gone.result
    c.what_became.result) c.as_slice-8.ensures.value
    (subst (λ (l : List CommandCancel). Becomes (length ends) l c.as_slice-8.result.now
    c.some_gone-is_gone.result c.what_became.result) c.as_slice-taken.ensures.value
    c.what_became.ensures))
