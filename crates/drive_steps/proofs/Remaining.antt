-- What the recording of a round leaves of a state: tries that have ended run no longer, and all
-- else is as before.
use Rattle.std.proofs.Common.{map, ◌≡◌, ◌≢◌, ◌∙◌, ◌==◌, ◌&&◌, ◌||◌, ℕ, Bool, true, false, List, []}
use Rattle.std.proofs.Common.{◌∷◌}
use Rattle.std.proofs.Common.{◌⊎◌, cond, Option, Some, None, length, slice_get}
use Rattle.std.proofs.Common.{ap, refl, sym, subst, inl, inr}
use Rattle.std.proofs.lemmas.Bool.{cases_eq, eq-eqb, eqb-true, false≢true}
use Rattle.std.proofs.Math.Bool.{or-false}
use Rattle.std.specs.Option.{option_and_then, option_map, option_map_or}
use Rattle.std.specs.Str.{bytes_eq}
use Rattle.run_model.proofs.RowLemmas.{length-at_row, slice_get-at_row_other}
use Rattle.run_model.proofs.RowLemmas.{slice_get-at_row_same}
use Rattle.run_model.specs.declared.commands.Step.TheVariants as step
use Rattle.run_model.specs.declared.groups.Group.{Group}
use Rattle.run_model.specs.declared.tasks.Outcome.{Outcome}
use Rattle.run_model.specs.declared.tasks.Outcome.TheVariants as outcome
use Rattle.run_model.specs.declared.tasks.Stage.{Stage}
use Rattle.run_model.specs.declared.tasks.Stage.TheVariants as stage
use Rattle.run_model.specs.declared.tasks.Task.{Task}
use Rattle.run_model.specs.Event.{Event}
use Rattle.run_model.specs.Event as event
use Rattle.run_model.specs.Session.{Session, after_step, session_after, with_event}
use Rattle.run_model.specs.State.{State}
use Rattle.run_model.specs.Step as change
use Rattle.run_model.specs.Step.{own_scope}
use Rattle.run_model.specs.Tasks.{has_stage, is_running}
use Rattle.run_model.specs.WorkChanges.{error_of, group_of_task, groups_after, stage_of, with_stage}
use Rattle.night_plan.specs.declared.commands.Command.{Command}
use Rattle.night_drive.specs.declared.names.Names.{Names}
use Rattle.night_drive.specs.Seen.{is_owned}
use Rattle.night_drive.specs.Tries.{counts}
use Rattle.night_drive.specs.Turns.{is_task}
use Rattle.night_drive.proofs.Finishing.{finished}
use Rattle.night_drive.proofs.Staying.{KeepsGroups, error_keeps}
use Rattle.night_drive.proofs.Staying.{unmarked}
use Rattle.drive_steps.specs.declared.heard.Ended.{Ended}
use Rattle.drive_steps.specs.Heard.{AreEnds, finishes_of, has_ended}
use Rattle.drive_steps.proofs.Going.{row_is}
use Rattle.drive_steps.proofs.Hearing.{finish_made}

-- These tries have ended. All other tasks are the same, and each task belongs to the same command.
pub record AfterEnds (p q : State) (heard : List Ended) : Type 0 where
  pub others : (n : ℕ) → has_ended heard n ≡ false
      → slice_get q.work.tasks n ≡ slice_get p.work.tasks n
  pub ended : (n : ℕ) → has_ended heard n ≡ true → has_stage is_running q.work n ≡ false
  pub own : (night : Option (List ℕ)) (group key : List ℕ) (n : ℕ)
      → is_task q night group key n ≡ is_task p night group key n
  pub tried : (n : ℕ) → has_stage counts q.work n ≡ true → has_stage counts p.work n ≡ true
  pub owned : (night : Option (List ℕ)) (group : List ℕ) (g : ℕ)
      → is_owned q night group g ≡ is_owned p night group g
  pub bare : (g : ℕ) → own_scope q.work g ≡ own_scope p.work g
  pub size : length q.work.tasks ≡ length p.work.tasks

after_none : (p : State) → AfterEnds p p []
after_none p = record {
  others = λ n not. refl;
  ended = λ n is. cc;
  own = λ night group key n. refl;
  tried = λ n counted. counted;
  owned = λ night group g. refl;
  bare = λ g. refl;
  size = refl;
}

-- A task that is the same row belongs to the same command.
pub task_stays : (p q : State)
    → ((night : Option (List ℕ)) (group : List ℕ) (g : ℕ)
    → is_owned q night group g ≡ is_owned p night group g)
    → (night : Option (List ℕ)) (group key : List ℕ) (o : Option Task)
    → option_map_or (row_is q night group key) o false
    ≡ option_map_or (row_is p night group key) o false
task_stays p q owned night group key None = refl
task_stays p q owned night group key (Some task) =
    ap (λ b. bytes_eq task.argument key && b) (owned night group task.group)

-- ---- a finish

-- A group's own scope is the same where only errors are added.
pub scope_stays : (old new : List Group) → KeepsGroups old new → (g : ℕ)
    → option_and_then (λ (group : Group). cond group.bare None (Some group.scope))
    (slice_get new g)
    ≡ option_and_then (λ (group : Group). cond group.bare None (Some group.scope))
    (slice_get old g)
scope_stays old new kept g =
    without (slice_get new g)
    ∙ ap (option_and_then (λ (group : Group). cond group.bare None (Some group.scope)))
    (kept g)
    ∙ sym (without (slice_get old g))
  where
    without : (o : Option Group)
        → option_and_then (λ (group : Group). cond group.bare None (Some group.scope)) o
        ≡ option_and_then (λ (group : Group). cond group.bare None (Some group.scope))
        (option_map unmarked o)
    without None = refl
    without (Some row) = refl

ended_still : (o : Outcome) → is_running (stage_of o) ≡ false
ended_still outcome.Success = refl
ended_still (outcome.Failure text) = refl

running_counts : (s : Stage) → is_running s ≡ true → counts s ≡ true
running_counts stage.Fresh runs = cc
running_counts stage.Running runs = refl
running_counts stage.Success runs = cc
running_counts (stage.Failure text) runs = cc
running_counts stage.Interrupted runs = cc

-- A task that runs counts as a try.
pub run_counts : (p : State) (n : ℕ) → has_stage is_running p.work n ≡ true
    → has_stage counts p.work n ≡ true
run_counts p n runs = by_row (slice_get p.work.tasks n) runs
  where
    by_row : (o : Option Task)
        → option_map_or (λ (task : Task). is_running task.stage) o false ≡ true
        → option_map_or (λ (task : Task). counts task.stage) o false ≡ true
    by_row None runs = cc
    by_row (Some task) runs = running_counts task.stage runs

-- From one state to the other, this try has ended.
record OneEnd (p q : State) (n : ℕ) : Type 0 where
  others : (m : ℕ) → m ≢ n → slice_get q.work.tasks m ≡ slice_get p.work.tasks m
  ended : has_stage is_running q.work n ≡ false
  own : (night : Option (List ℕ)) (group key : List ℕ) (m : ℕ)
      → is_task q night group key m ≡ is_task p night group key m
  tried : (m : ℕ) → has_stage counts q.work m ≡ true → has_stage counts p.work m ≡ true
  owned : (night : Option (List ℕ)) (group : List ℕ) (g : ℕ)
      → is_owned q night group g ≡ is_owned p night group g
  bare : (g : ℕ) → own_scope q.work g ≡ own_scope p.work g
  size : length q.work.tasks ≡ length p.work.tasks

one_end : (p : State) (n : ℕ) (o : Outcome) → has_stage is_running p.work n ≡ true
    → OneEnd p (change.step p (event.Finish n o)) n
one_end p n o runs = record {
  others = others;
  ended = ap (λ x. option_map_or (λ (task : Task). is_running task.stage) x false) here
      ∙ by_stage (slice_get p.work.tasks n);
  own = own;
  tried = tried;
  owned = owned;
  bare = scope_stays p.work.groups (groups_after (group_of_task p.work n) (error_of o)
      p.work.groups) (error_keeps (group_of_task p.work n) (error_of o) p.work.groups);
  size = length-at_row (with_stage (stage_of o)) n p.work.tasks;
}
  where
    q : State
    q = change.step p (event.Finish n o)

    others : (m : ℕ) → m ≢ n → slice_get q.work.tasks m ≡ slice_get p.work.tasks m
    others m other = slice_get-at_row_other (with_stage (stage_of o)) n m p.work.tasks other

    here : slice_get q.work.tasks n
        ≡ option_map (with_stage (stage_of o)) (slice_get p.work.tasks n)
    here = slice_get-at_row_same (with_stage (stage_of o)) n p.work.tasks

    owned : (night : Option (List ℕ)) (group : List ℕ) (g : ℕ)
        → is_owned q night group g ≡ is_owned p night group g
    owned night group g = (finished p n o).owned night group g

    by_stage : (x : Option Task)
        → option_map_or (λ (task : Task). is_running task.stage)
        (option_map (with_stage (stage_of o)) x) false ≡ false
    by_stage None = refl
    by_stage (Some task) = ended_still o

    without_stage : (night : Option (List ℕ)) (group key : List ℕ) (x : Option Task)
        → option_map_or (row_is p night group key) (option_map (with_stage (stage_of o)) x) false
        ≡ option_map_or (row_is p night group key) x false
    without_stage night group key None = refl
    without_stage night group key (Some task) = refl

    own : (night : Option (List ℕ)) (group key : List ℕ) (m : ℕ)
        → is_task q night group key m ≡ is_task p night group key m
    own night group key m =
        task_stays p q owned night group key (slice_get q.work.tasks m) ∙ by_place (cases_eq m n)
      where
        by_place : (m ≡ n) ⊎ (m ≢ n)
            → option_map_or (row_is p night group key) (slice_get q.work.tasks m) false
            ≡ is_task p night group key m
        by_place (inl same) =
            ap (λ (k : ℕ). option_map_or (row_is p night group key) (slice_get q.work.tasks k)
            false) same
            ∙ ap (λ x. option_map_or (row_is p night group key) x false) here
            ∙ without_stage night group key (slice_get p.work.tasks n)
            ∙ ap (is_task p night group key) (sym same)
        by_place (inr other) =
            ap (λ x. option_map_or (row_is p night group key) x false) (others m other)

    tried : (m : ℕ) → has_stage counts q.work m ≡ true → has_stage counts p.work m ≡ true
    tried m counted = elim (cases_eq m n) [
      | inl same ↦ ap (has_stage counts p.work) same ∙ run_counts p n runs
      | inr other ↦
          sym (ap (λ x. option_map_or (λ (task : Task). counts task.stage) x false)
          (others m other)) ∙ counted
    ]

-- ---- all finishes

either_false : (a b : Bool) → (a || b) ≡ false → (a ≡ false) × (b ≡ false)
either_false true b is = cc
either_false false b is = (refl, is)

one_more : (p q r : State) (end : Ended) (heard : List Ended) → OneEnd p q end.task
    → AfterEnds q r heard → AfterEnds p r (end ∷ heard)
one_more p q r end heard one rest = record {
  others = λ n not.
      let parts = either_false (end.task == n) (has_ended heard n) not in
      rest.others n parts.1 ∙ one.others n (apart n parts.0);
  ended = λ n is. by_later n is (has_ended heard n) refl;
  own = λ night group key n. rest.own night group key n ∙ one.own night group key n;
  tried = λ n counted. one.tried n (rest.tried n counted);
  owned = λ night group g. rest.owned night group g ∙ one.owned night group g;
  bare = λ g. rest.bare g ∙ one.bare g;
  size = rest.size ∙ one.size;
}
  where
    apart : (n : ℕ) → (end.task == n) ≡ false → n ≢ end.task
    apart n not same =
        let is : (end.task == n) ≡ true = eq-eqb end.task n (sym same) in
        false≢true (sym not ∙ is)

    by_later : (n : ℕ) → ((end.task == n) || has_ended heard n) ≡ true → (b : Bool)
        → has_ended heard n ≡ b → has_stage is_running r.work n ≡ false
    by_later n is true later = rest.ended n later
    by_later n is false later =
        let at : (end.task == n) ≡ true =
        sym (ap (λ b. (end.task == n) || b) later ∙ or-false (end.task == n)) ∙ is in
        let same : end.task ≡ n = eqb-true end.task n at in
        ap (λ x. option_map_or (λ (task : Task). is_running task.stage) x false)
        (rest.others n later)
        ∙ ap (has_stage is_running q.work) (sym same) ∙ one.ended

pub end_leaves : (p : State) (end : Ended) → has_stage is_running p.work end.task ≡ true
    → AfterEnds p (change.step p (event.Finish end.task end.outcome)) (end ∷ [])
end_leaves p end runs =
    let q : State = change.step p (event.Finish end.task end.outcome) in
    one_more p q q end [] (one_end p end.task end.outcome runs) (after_none q)

pub ends_leave : (row : List (Ended × ℕ)) (s : Session) (names : Names) (commands : List Command)
    → AreEnds s.state names commands row
    → AfterEnds s.state (session_after s (finishes_of (map (λ x. x.0) row))).state
    (map (λ x. x.0) row)
ends_leave [] s names commands are = after_none s.state
ends_leave ((end, c) ∷ row) s names commands are =
    let s1 : Session = with_event s (Some (event.Finish end.task end.outcome)) in
    let made : after_step s (step.Finish end.task end.outcome) ≡ s1 =
    ap (with_event s) (finish_made s end.task end.outcome are.0.runs) in
    subst (λ (x : Session). AfterEnds s.state
    (session_after x (finishes_of (map (λ x. x.0) row))).state (end ∷ map (λ x. x.0) row))
    (sym made)
    (one_more s.state s1.state (session_after s1 (finishes_of (map (λ x. x.0) row))).state end
    (map (λ x. x.0) row) (one_end s.state end.task end.outcome are.0.runs)
    (ends_leave row s1 names commands are.1))
