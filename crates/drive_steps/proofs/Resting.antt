-- The ends of tries leave no task that waits to be started.
use Rattle.std.proofs.Common.{◌≡◌, ◌∙◌, ℕ, false, List, [], ◌∷◌, Option, Some, None, Result}
use Rattle.std.proofs.Common.{Ok, Err, length, slice_get, inl, inr, ap, refl, subst}
use Rattle.std.proofs.lemmas.Bool.{cases_eq}
use Rattle.std.specs.Option.{option_map, option_map_or}
use Rattle.std.specs.Result.{result_unwrap_or}
use Rattle.run_model.proofs.RowLemmas.{length-at_row, slice_get-at_row_other, slice_get-at_row_same}
use Rattle.run_model.specs.declared.commands.Step.TheVariants as step
use Rattle.run_model.specs.declared.refusals.Refusal.{Refusal}
use Rattle.run_model.specs.declared.tasks.Outcome.{Outcome}
use Rattle.run_model.specs.declared.tasks.Outcome.TheVariants as outcome
use Rattle.run_model.specs.declared.tasks.Task.{Task}
use Rattle.run_model.specs.Event.{Event}
use Rattle.run_model.specs.Event as event
use Rattle.run_model.specs.Replies.{decide_finish}
use Rattle.run_model.specs.Session.{Session, after_step, session_after, with_event}
use Rattle.run_model.specs.State.{State}
use Rattle.run_model.specs.Step as change
use Rattle.run_model.specs.Tasks.{has_stage, is_fresh}
use Rattle.run_model.specs.WorkChanges.{error_of, group_of_task, groups_after, stage_of, with_error}
use Rattle.run_model.specs.WorkChanges.{with_stage}
use Rattle.model_laws.proofs.StartingReplies.{finish_leads}
use Rattle.night_drive.specs.Seen.{is_owned}
use Rattle.night_drive.proofs.Finishing.{finished}
use Rattle.drive_steps.specs.declared.heard.Ended.{Ended}
use Rattle.drive_steps.specs.Heard.{finishes_of}

-- If no task waited to be started, none does. Each group is of the same night as before.
pub record Rests (p q : State) : Type 0 where
  pub none : ((n : ℕ) → has_stage is_fresh p.work n ≡ false)
      → (n : ℕ) → has_stage is_fresh q.work n ≡ false
  pub owned : (night : Option (List ℕ)) (group : List ℕ) (g : ℕ)
      → is_owned q night group g ≡ is_owned p night group g
  pub groups : length q.work.groups ≡ length p.work.groups

rests_here : (p : State) → Rests p p
rests_here p =
    record { none = λ old. old; owned = λ night group g. refl; groups = refl }

rests_on : (p q r : State) → Rests p q → Rests q r → Rests p r
rests_on p q r first second = record {
  none = λ old. second.none (first.none old);
  owned = λ night group g. second.owned night group g ∙ first.owned night group g;
  groups = second.groups ∙ first.groups;
}

ended_so : (o : Outcome) → is_fresh (stage_of o) ≡ false
ended_so outcome.Success = refl
ended_so (outcome.Failure text) = refl

pub finish_rests : (p : State) (n : ℕ) (o : Outcome) → Rests p (change.step p (event.Finish n o))
finish_rests p n o = record {
  none = none_waits;
  owned = λ night group g. (finished p n o).owned night group g;
  groups = by_outcome o;
}
  where
    by_row : (x : Option Task)
        → option_map_or (λ (task : Task). is_fresh task.stage)
        (option_map (with_stage (stage_of o)) x) false ≡ false
    by_row None = refl
    by_row (Some task) = ended_so o

    none_waits : ((m : ℕ) → has_stage is_fresh p.work m ≡ false)
        → (m : ℕ) → has_stage is_fresh (change.step p (event.Finish n o)).work m ≡ false
    none_waits old m = elim (cases_eq m n) [
      | inl same ↦
          ap (has_stage is_fresh (change.step p (event.Finish n o)).work) same
          ∙ ap (λ x. option_map_or (λ (task : Task). is_fresh task.stage) x false)
          (slice_get-at_row_same (with_stage (stage_of o)) n p.work.tasks)
          ∙ by_row (slice_get p.work.tasks n)
      | inr other ↦
          ap (λ x. option_map_or (λ (task : Task). is_fresh task.stage) x false)
          (slice_get-at_row_other (with_stage (stage_of o)) n m p.work.tasks other)
          ∙ old m
    ]

    by_outcome : (x : Outcome)
        → length (groups_after (group_of_task p.work n) (error_of x) p.work.groups)
        ≡ length p.work.groups
    by_outcome outcome.Success = refl
    by_outcome (outcome.Failure text) =
        length-at_row (with_error text) (group_of_task p.work n) p.work.groups

end_rests : (s : Session) (n : ℕ) (o : Outcome)
    → Rests s.state (after_step s (step.Finish n o)).state
end_rests s n o = by_result (decide_finish s.state n o) refl
  where
    by_result : (r : Result (Option Event) Refusal) → decide_finish s.state n o ≡ r
        → Rests s.state (with_event s (result_unwrap_or r None)).state
    by_result (Err why) is = rests_here s.state
    by_result (Ok None) is = rests_here s.state
    by_result (Ok (Some made)) is =
        subst (λ (e : Event). Rests s.state (change.step s.state e))
        (finish_leads s.state n o made is).1 (finish_rests s.state n o)

pub finishes_rest : (heard : List Ended) (s : Session)
    → Rests s.state (session_after s (finishes_of heard)).state
finishes_rest [] s = rests_here s.state
finishes_rest (end ∷ heard) s =
    let s1 : Session = after_step s (step.Finish end.task end.outcome) in
    rests_on s.state s1.state (session_after s1 (finishes_of heard)).state
    (end_rests s end.task end.outcome) (finishes_rest heard s1)
