-- What is recorded of a round are turns.
use Rattle.std.proofs.Common.{◌≡◌, ◌∙◌, ◌==◌, ◌&&◌, ◌||◌, ℕ, Bool, true, false, not, cond}
use Rattle.std.proofs.Common.{List, [], ◌∷◌, ◌++◌, Option, Some, None, Ok, length, map, slice_get}
use Rattle.std.proofs.Common.{ap, refl, subst, sym, inl, inr}
use Rattle.std.proofs.lemmas.Bool.{cases_eq, eq-eqb, eqb-true}
use Rattle.std.proofs.Math.Bool.{or-true}
use Rattle.std.proofs.lemmas.Option.{slice_get_within}
use Rattle.std.specs.Option.{option_map, option_map_or}
use Rattle.std.specs.Prelude.{unwrap_or}
use Rattle.std.specs.Result.{result_unwrap_or}
use Rattle.run_model.proofs.Common.{lt-ltb}
use Rattle.run_model.proofs.RefusalLemmas.{unless_none}
use Rattle.run_model.proofs.RowLemmas.{slice_get-at_row_other, slice_get-at_row_same}
use Rattle.run_model.specs.Allowed.{allowed, has_row, refusals}
use Rattle.run_model.specs.declared.commands.Step.{Step}
use Rattle.run_model.specs.declared.commands.Step.TheVariants as step
use Rattle.run_model.specs.declared.tasks.Outcome.{Outcome}
use Rattle.run_model.specs.declared.tasks.Outcome.TheVariants as outcome
use Rattle.run_model.specs.declared.tasks.Stage.{Stage}
use Rattle.run_model.specs.declared.tasks.Stage.TheVariants as stage
use Rattle.run_model.specs.declared.tasks.Task.{Task}
use Rattle.run_model.specs.Event as event
use Rattle.run_model.specs.Session.{Session, after_step, event_of_step, session_after, with_event}
use Rattle.run_model.specs.State.{State}
use Rattle.run_model.specs.Step as change
use Rattle.run_model.specs.Tasks.{has_stage, is_running}
use Rattle.run_model.specs.WorkChanges.{stage_of, with_stage}
use Rattle.night_plan.specs.declared.commands.Command.{Command}
use Rattle.night_plan.specs.declared.commands.Plan.{Plan}
use Rattle.night_plan.specs.declared.facts.Known.{Known}
use Rattle.night_plan.specs.declared.facts.Phase.{Phase}
use Rattle.night_plan.specs.declared.facts.Phase.TheVariants.{Canceled, Failed, Fresh}
use Rattle.night_plan.specs.Nights.{Night}
use Rattle.night_plan.specs.Sessions.{after_all}
use Rattle.night_plan.specs.Turns.{Turn, Stop, after as after_turn}
use Rattle.night_drive.specs.declared.ends.Ends.{Ends}
use Rattle.night_drive.specs.declared.names.Names.{Names}
use Rattle.night_drive.specs.PlanTurns.{known_in, night_in}
use Rattle.night_drive.specs.Searches.{count_below, last_below}
use Rattle.night_drive.specs.Seen.{AreNames, is_over, is_try, known_of, moment_of, phase_after}
use Rattle.night_drive.specs.Tries.{has_failed, is_cancel, phase_by}
use Rattle.night_drive.specs.Turns.{end_of}
use Rattle.night_drive.proofs.Playing.{advances_are_turns, finishes_are_turns}
use Rattle.night_drive.proofs.Turning.{HasRowAt, row_at}
use Rattle.drive_steps.specs.declared.heard.Ended.{Ended}
use Rattle.drive_steps.specs.Heard.{AreEnds, AreNoted, ClocksAreTurns, EndsAreTurns}
use Rattle.drive_steps.specs.Heard.{finishes_of, has_ended, turns_of}

-- ---- when a try that runs will end plays no part

phase_alike : (s : Stage) (a b : ℕ) → (is_running s ≡ false → a ≡ b)
    → phase_by a s ≡ phase_by b s
phase_alike stage.Fresh a b same = refl
phase_alike stage.Running a b same = refl
phase_alike stage.Success a b same = refl
phase_alike (stage.Failure error) a b same =
    ap (λ (m : ℕ). cond (is_cancel error) Canceled (Failed m)) (same refl)
phase_alike stage.Interrupted a b same = refl

known_alike : (p : State) (before after : ℕ → ℕ) (night : Option (List ℕ)) (group key : List ℕ)
    → ((n : ℕ) → has_stage is_running p.work n ≡ false → after n ≡ before n)
    → known_of p after night group key ≡ known_of p before night group key
known_alike p before after night group key same =
    ap with_phase (by_last (last_below (is_try p night group key) (length p.work.tasks)))
  where
    with_phase : Phase → Known
    with_phase phase = record {
      phase = phase;
      failures = count_below (λ n. is_try p night group key n && has_stage has_failed p.work n)
          (length p.work.tasks);
      canceled = false;
    }

    by_row : (n : ℕ) (o : Option Task) → slice_get p.work.tasks n ≡ o
        → option_map_or (λ (task : Task). phase_by (after n) task.stage) o Fresh
        ≡ option_map_or (λ (task : Task). phase_by (before n) task.stage) o Fresh
    by_row n None found = refl
    by_row n (Some task) found =
        phase_alike task.stage (after n) (before n) (λ still. same n
        (ap (λ o. option_map_or (λ (task : Task). is_running task.stage) o false) found ∙ still))

    by_last : (o : Option ℕ) → phase_after p after o ≡ phase_after p before o
    by_last None = refl
    by_last (Some n) = by_row n (slice_get p.work.tasks n) refl

all_alike : (p : State) (old new : Ends) (names : Names)
    → ((n : ℕ) → has_stage is_running p.work n ≡ false → moment_of new n ≡ moment_of old n)
    → (commands : List Command) (keys : List (List ℕ))
    → known_in p new names commands keys ≡ known_in p old names commands keys
all_alike p old new names same [] keys = refl
all_alike p old new names same (command ∷ commands) [] = refl
all_alike p old new names same (command ∷ commands) (key ∷ keys) =
    let group : List ℕ = unwrap_or (slice_get names.groups.items command.group) [] in
    ap (λ (k : Known). k ∷ known_in p new names commands keys)
    (known_alike p (moment_of old) (moment_of new) names.night group key same)
    ∙ ap (λ (ks : List Known). known_of p (moment_of old) names.night group key ∷ ks)
    (all_alike p old new names same commands keys)

night_alike : (p : State) (old new : Ends) (plan : Plan) (names : Names)
    → ((n : ℕ) → has_stage is_running p.work n ≡ false → moment_of new n ≡ moment_of old n)
    → night_in p new plan names ≡ night_in p old plan names
night_alike p old new plan names same =
    ap with_known (all_alike p old new names same plan.commands.items names.keys.items)
  where
    with_known : List Known → Night
    with_known known = record {
      first = plan.first;
      groups = plan.groups.items;
      commands = plan.commands.items;
      known = known;
      done = map (is_over p names.night) names.groups.items;
    }

-- ---- what ends in a round, runs before it

stays_ended : (o : Outcome) → is_running (stage_of o) ≡ false
stays_ended outcome.Success = refl
stays_ended (outcome.Failure text) = refl

ran_before : (p : State) (n m : ℕ) (o : Outcome)
    → has_stage is_running (change.step p (event.Finish n o)).work m ≡ true
    → has_stage is_running p.work m ≡ true
ran_before p n m o runs = elim (cases_eq m n) [
  | inl same ↦
      let ended : has_stage is_running (change.step p (event.Finish n o)).work n ≡ false =
      ap (λ x. option_map_or (λ (task : Task). is_running task.stage) x false)
      (slice_get-at_row_same (with_stage (stage_of o)) n p.work.tasks)
      ∙ by_row (slice_get p.work.tasks n) in
      let still : has_stage is_running (change.step p (event.Finish n o)).work m ≡ false =
      ap (has_stage is_running (change.step p (event.Finish n o)).work) same ∙ ended in
      cc
  | inr other ↦
      sym (ap (λ x. option_map_or (λ (task : Task). is_running task.stage) x false)
      (slice_get-at_row_other (with_stage (stage_of o)) n m p.work.tasks other)) ∙ runs
]
  where
    by_row : (x : Option Task)
        → option_map_or (λ (task : Task). is_running task.stage)
        (option_map (with_stage (stage_of o)) x) false ≡ false
    by_row None = refl
    by_row (Some task) = stays_ended o

all_ran : (p : State) (names : Names) (commands : List Command) (row : List (Ended × ℕ))
    → AreEnds p names commands row → (n : ℕ) → has_ended (map (λ part. part.0) row) n ≡ true
    → has_stage is_running p.work n ≡ true
all_ran p names commands [] are n ended = cc
all_ran p names commands ((end, c) ∷ row) are n ended =
    by_task (end.task == n) refl ended
    (λ later. ran_before p end.task n end.outcome
    (all_ran (change.step p (event.Finish end.task end.outcome)) names commands row are.1 n later))
  where
    by_task : (b : Bool) → (end.task == n) ≡ b
        → (b || has_ended (map (λ part. part.0) row) n) ≡ true
        → (has_ended (map (λ part. part.0) row) n ≡ true → has_stage is_running p.work n ≡ true)
        → has_stage is_running p.work n ≡ true
    by_task true is ended before =
        ap (has_stage is_running p.work) (sym (eqb-true end.task n is)) ∙ are.0.runs
    by_task false is ended before = before ended

unheard : (p : State) (names : Names) (commands : List Command) (row : List (Ended × ℕ))
    → AreEnds p names commands row → (n : ℕ) → has_stage is_running p.work n ≡ false
    → has_ended (map (λ part. part.0) row) n ≡ false
unheard p names commands row are n still = by_ended (has_ended (map (λ part. part.0) row) n) refl
  where
    by_ended : (b : Bool) → has_ended (map (λ part. part.0) row) n ≡ b → b ≡ false
    by_ended false is = refl
    by_ended true is =
        let ran : has_stage is_running p.work n ≡ true = all_ran p names commands row are n is in cc

-- ---- one end after another

pub finish_allowed : (p : State) (n : ℕ) (o : Outcome) → has_stage is_running p.work n ≡ true
    → allowed p (event.Finish n o) ≡ true
finish_allowed p n o runs =
    let at : HasRowAt p n is_running = row_at p n is_running runs in
    let there : has_row p.work.tasks n ≡ true =
    lt-ltb n (length p.work.tasks) (slice_get_within p.work.tasks n at.row at.found) in
    ap (λ b. not (not b) && (not (not (has_stage is_running p.work n)) && true)) there
    ∙ ap (λ b. not (not b) && true) runs

pub finish_made : (s : Session) (n : ℕ) (o : Outcome) → has_stage is_running s.state.work n ≡ true
    → event_of_step s (step.Finish n o) ≡ Some (event.Finish n o)
finish_made s n o runs =
    ap (λ r. result_unwrap_or r None)
    (unless_none (refusals s.state (event.Finish n o)) (Ok (Some (event.Finish n o)))
    (finish_allowed s.state n o runs))

-- The first of some ends is a turn, and after it come the others.
pub record IsFirstEnd (end : Ended) (c : ℕ) (row : List (Ended × ℕ)) (s : Session) (new : Ends)
    (plan : Plan) (names : Names) (now : ℕ) : Type 0 where
  pub turn : night_in (after_step s (step.Finish end.task end.outcome)).state new plan names
      ≡ after_turn (night_in s.state new plan names) (end_of c now end.outcome)
  pub are : AreEnds (after_step s (step.Finish end.task end.outcome)).state names
      plan.commands.items row
  pub own : (n : ℕ) → has_ended (map (λ part. part.0) row) n ≡ true → moment_of new n ≡ now

pub first_end : (end : Ended) (c : ℕ) (row : List (Ended × ℕ)) (s : Session) (new : Ends)
    (plan : Plan) (names : Names) (now : ℕ) → AreNames plan names
    → AreEnds s.state names plan.commands.items ((end, c) ∷ row)
    → ((n : ℕ) → has_ended (end ∷ map (λ part. part.0) row) n ≡ true → moment_of new n ≡ now)
    → IsFirstEnd end c row s new plan names now
first_end end c row s new plan names now are ends own =
    let n : ℕ = end.task in
    let o : Outcome = end.outcome in
    let made : with_event s (Some (event.Finish n o)) ≡ after_step s (step.Finish n o) =
    sym (ap (with_event s) (finish_made s n o ends.0.runs)) in
    let moment : moment_of new n ≡ now =
    own n (ap (λ b. b || has_ended (map (λ part. part.0) row) n) (eq-eqb n n refl)) in
    record {
      turn =
          ap (λ (x : Session). night_in x.state new plan names) (sym made)
          ∙ finishes_are_turns s.state new new plan names n c o are ends.0.runs ends.0.counted
          ends.0.bare (λ m other. refl) ends.0.of
          ∙ ap (λ (m : ℕ). after_turn (night_in s.state new plan names) (end_of c m o)) moment;
      are = subst (λ (x : Session). AreEnds x.state names plan.commands.items row) made ends.1;
      own = λ m is. own m (ap (λ b. (n == m) || b) is ∙ or-true (n == m));
    }

one_by_one : (row : List (Ended × ℕ)) (s : Session) (new : Ends) (plan : Plan) (names : Names)
    (now : ℕ) → AreNames plan names → AreEnds s.state names plan.commands.items row
    → ((n : ℕ) → has_ended (map (λ part. part.0) row) n ≡ true → moment_of new n ≡ now)
    → night_in (session_after s (finishes_of (map (λ part. part.0) row))).state new plan names
    ≡ after_all (night_in s.state new plan names) (turns_of now row)
one_by_one [] s new plan names now are ends own = refl
one_by_one ((end, c) ∷ row) s new plan names now are ends own =
    let first = first_end end c row s new plan names now are ends own in
    one_by_one row (after_step s (step.Finish end.task end.outcome)) new plan names now are
    first.are first.own
    ∙ ap (λ x. after_all x (turns_of now row)) first.turn

-- Before the ends it plays no part when those tries will have ended.
pub heard_night : (s : Session) (old new : Ends) (plan : Plan) (names : Names)
    (row : List (Ended × ℕ)) (now : ℕ) → AreEnds s.state names plan.commands.items row
    → AreNoted old new (map (λ part. part.0) row) now
    → night_in s.state new plan names ≡ night_in s.state old plan names
heard_night s old new plan names row now ends noted =
    night_alike s.state old new plan names
    (λ n still. noted.others n
    (unheard s.state names plan.commands.items row ends n still))

pub ends_turn : EndsAreTurns
ends_turn s old new plan names row now are ends noted =
    one_by_one row s new plan names now are ends noted.own
    ∙ ap (λ x. after_all x (turns_of now row))
    (heard_night s old new plan names row now ends noted)

-- ---- and then the clock

pub steps_join : (s : Session) (first second : List Step)
    → session_after s (first ++ second) ≡ session_after (session_after s first) second
steps_join s [] second = refl
steps_join s (x ∷ first) second = steps_join (after_step s x) first second

pub turns_join : (n : Night) (first second : List Turn)
    → after_all n (first ++ second) ≡ after_all (after_all n first) second
turns_join n [] second = refl
turns_join n (t ∷ first) second = turns_join (after_turn n t) first second

-- A clock that moves stops the groups whose deadline has come, and one that stays stops none.
pub clocks_are_turns : ClocksAreTurns
clocks_are_turns s ends plan names now stopped are comes = elim comes [
  | inl moves ↦
      ap (λ (x : Session). night_in x.state ends plan names) (ap (with_event s) moves.moves)
      ∙ advances_are_turns s.state ends plan names now stopped are moves.numbered moves.those
  | inr stays ↦
      ap (λ (x : Session). night_in x.state ends plan names) (ap (with_event s) stays.stays)
      ∙ ap (λ (xs : List ℕ). after_all (night_in s.state ends plan names) (map Stop xs))
      (sym stays.none)
]
