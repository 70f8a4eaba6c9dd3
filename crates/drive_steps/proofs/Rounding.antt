-- A round: what it leaves, its turns, and what its flush acknowledges.
use Rattle.std.proofs.Common.{◌≡◌, ◌<◌, ◌≤◌, ◌∙◌, ◌==◌, ◌&&◌, ◌||◌, ◌+◌, ℕ, not, Bool, true, false}
use Rattle.std.proofs.Common.{cond}
use Rattle.std.proofs.Common.{List, [], ◌∷◌, ◌++◌, Option, Some, None, length, filter, map}
use Rattle.std.proofs.Common.{slice_get}
use Rattle.std.proofs.Common.{◌⊎◌, drop, ap, refl, sym, subst, arith, append_assoc, inl, inr}
use Rattle.std.proofs.Math.Bool.{or-true}
use Rattle.std.proofs.lemmas.Bool.{cases_lt, false≢true}
use Rattle.std.proofs.lemmas.List.Elements.{All-contains, All-filter, filter_passes}
use Rattle.std.proofs.lemmas.Option.{slice_get_within}
use Rattle.std.specs.List.{Contains, list_any}
use Rattle.std.specs.Option.{option_map, option_map_or}
use Rattle.std.specs.Prelude.{find}
use Rattle.std.specs.Str.{bytes_eq}
use Rattle.run_model.specs.declared.commands.Step.{Step}
use Rattle.run_model.specs.declared.commands.Step.TheVariants as step
use Rattle.run_model.specs.declared.tasks.Outcome.{Outcome}
use Rattle.run_model.specs.declared.tasks.Outcome.TheVariants as outcome
use Rattle.run_model.specs.declared.tasks.Stage.{Stage}
use Rattle.run_model.specs.declared.tasks.Stage.TheVariants as stage
use Rattle.run_model.specs.declared.tasks.Task.{Task}
use Rattle.run_model.specs.Event.{Event}
use Rattle.run_model.specs.Event as event
use Rattle.run_model.specs.Session.{Session, accepted, after_step, is_ack, replies, reply_of_step}
use Rattle.run_model.specs.Session.{session_after, up_to_last_ack}
use Rattle.run_model.specs.State.{State, WorkState}
use Rattle.run_model.specs.Step.{own_scope}
use Rattle.run_model.specs.Tasks.{has_stage, is_fresh, is_running}
use Rattle.run_model.specs.WorkChanges.{stage_of}
use Rattle.model_laws.proofs.StateSteps.{run_keeps}
use Rattle.model_laws.proofs.Stepping.{accepted_runs}
use Rattle.night_plan.proofs.Rows.{all_from_contains}
use Rattle.night_plan.specs.declared.commands.Command.{Command}
use Rattle.night_plan.specs.declared.commands.Plan.{Plan}
use Rattle.night_plan.specs.Nights.{Night}
use Rattle.night_plan.specs.Sessions.{after_all}
use Rattle.night_plan.specs.Turns.{Begin, Stop, Turn, after as after_turn}
use Rattle.night_drive.specs.declared.ends.Ends.{Ends}
use Rattle.night_drive.specs.declared.names.Names.{Names}
use Rattle.night_drive.specs.PlanTurns.{night_in}
use Rattle.night_drive.specs.Seen.{AreNames, IsCalled, is_owned}
use Rattle.night_drive.specs.Tries.{counts}
use Rattle.night_drive.specs.Turns.{is_task}
use Rattle.night_drive.proofs.Staying.{owned_stays}
use Rattle.night_drive.proofs.Turning.{HasRowAt, row_at as staged_at}
use Rattle.drive_steps.specs.Cancels.{are_started, can_cancel, canceled_text, cuts_of, end_in}
use Rattle.drive_steps.specs.Cancels.{is_open, is_open_after}
use Rattle.drive_steps.specs.declared.cancels.CommandCancel.{CommandCancel}
use Rattle.drive_steps.specs.declared.heard.Ended.{Ended}
use Rattle.drive_steps.specs.declared.reported.Begun.{Begun}
use Rattle.drive_steps.specs.Heard.{AreEnds, finishes_of, has_ended, turns_of}
use Rattle.drive_steps.specs.Living.{AreLiving, AreTheirs, IsBetween, IsLiving}
use Rattle.drive_steps.specs.Rounds.{AreCanceled, Heard}
use Rattle.drive_steps.specs.Rounds.{AreAcked, IsBegunByChoice, MayCome, Round}
use Rattle.drive_steps.specs.Rounds.{RoundsAreAcknowledged}
use Rattle.drive_steps.specs.Rounds.{RoundsAreTurns, RoundsKeepTheLiving, after_round, at_choice}
use Rattle.drive_steps.specs.Rounds.{done_from, ends_in, living_then, record_in, record_turns}
use Rattle.drive_steps.specs.Rounds.{recorded}
use Rattle.drive_steps.specs.Rows.{IsAtRest, Reports}
use Rattle.drive_steps.specs.Starts.{row_of}
use Rattle.drive_steps.proofs.Choosing.{chosen_within}
use Rattle.drive_steps.proofs.Cutting.{AreCut, all_cut, bare_came, cut_of, ends_came}
use Rattle.drive_steps.proofs.Going.{Came, came_on, groups_same, housed_goes, stage_goes}
use Rattle.drive_steps.proofs.Going.{task_goes, unstaged}
use Rattle.drive_steps.proofs.Hearing.{ends_turn, steps_join, turns_join}
use Rattle.drive_steps.proofs.Listing.{earlier_listed, ends_listed, later_listed}
use Rattle.drive_steps.proofs.Naming.{housed_at}
use Rattle.drive_steps.proofs.Playing.{Fits, Played, Ready, reported_so, rows_begin_all}
use Rattle.drive_steps.proofs.Remaining.{AfterEnds, ends_leave, task_stays}
use Rattle.drive_steps.proofs.Resting.{finishes_rest}
use Rattle.drive_steps.proofs.Stopping.{OnlyStops, halts_of, halts_only_stop, stops_are_turns}
use Rattle.drive_steps.proofs.Surviving.{bare_stays, chosen_differ, grown_lives, left_living}
use Rattle.drive_steps.proofs.Surviving.{none_twice, own_last, row_living, their_ends_are_ends}

-- ---- what is canceled doesn't live

end_missing : (heard : List Ended) (n : ℕ) → has_ended heard n ≡ false → end_in heard n ≡ None
end_missing [] n not = refl
end_missing (end ∷ heard) n not =
    by_first (end.task == n) not (λ later. end_missing heard n later)
  where
    by_first : (b : Bool) → (b || has_ended heard n) ≡ false
        → (has_ended heard n ≡ false → end_in heard n ≡ None)
        → option_map (λ (x : Ended). x.outcome)
        (cond b (Some end) (find (λ (x : Ended). x.task == n) heard)) ≡ None
    by_first true not later = cc
    by_first false not later = later not

closed_by : (s : Stage) → is_running s ≡ true → is_open s ≡ false
closed_by stage.Fresh runs = refl
closed_by stage.Running runs = refl
closed_by stage.Success runs = refl
closed_by (stage.Failure text) runs = cc
closed_by stage.Interrupted runs = cc

lives_closed : (p : State) (plan : Plan) (names : Names) (heard : List Ended) (try : Begun)
    → AreNames plan names → IsLiving p names plan.commands.items try
    → has_ended heard try.task ≡ false
    → can_cancel p names plan.commands.items heard try.command ≡ false
lives_closed p plan names heard try are lives not =
    let row : HasRowAt p try.task is_running = staged_at p try.task is_running lives.runs in
    ap (λ (o : Option ℕ). option_map_or (is_open_after p heard) o true)
    (own_last p plan names try are lives)
    ∙ ap (λ (o : Option Outcome). option_map_or (λ x. is_open (stage_of x)) o
    (has_stage is_open p.work try.task)) (end_missing heard try.task not)
    ∙ ap (λ (o : Option Task). option_map_or (λ (x : Task). is_open x.stage) o false) row.found
    ∙ closed_by row.row.stage row.passes

-- ---- after the cancels

cut_living : (p : State) (plan : Plan) (names : Names) (s : Session) (steps : List Step)
    (taken : List CommandCancel) (living : List Begun) → AreCut p plan names s steps taken
    → ((try : Begun) → Contains living try → (i : ℕ) (cancel : CommandCancel)
    → slice_get taken i ≡ Some cancel → try.command ≡ cancel.command → ⊥)
    → AreLiving s.state names plan.commands.items living
    → AreLiving (session_after s steps).state names plan.commands.items living
cut_living p plan names s steps taken living cut free was = record {
  each = all_from_contains (IsLiving end names commands) living (λ try listed.
      grown_lives s.state end names commands living cut.goes (λ m past within.
      let it = cut.made m past within in
      record {
        command = it.cancel.command;
        own = it.own;
        free = λ other there same. free other there it.place it.cancel it.at same;
      }) try listed (All-contains (IsLiving s.state names commands) living try was.each listed));
  every = λ c n command group key called its runs.
      by_place c n command group key called its runs (cases_lt n (length s.state.work.tasks));
}
  where
    commands : List Command
    commands = plan.commands.items

    end : State
    end = (session_after s steps).state

    by_place : (c n : ℕ) (command : Command) (group key : List ℕ)
        → IsCalled names commands c command group key
        → is_task end names.night group key n ≡ true → has_stage is_running end.work n ≡ true
        → (n < length s.state.work.tasks) ⊎ (length s.state.work.tasks ≤ n)
        → Contains living (record { command = c; task = n })
    by_place c n command group key called its runs (inl before) =
        was.every c n command group key called
        (sym (task_goes s.state end cut.goes names.night group key n before) ∙ its)
        (sym (stage_goes s.state end cut.goes is_running n before) ∙ runs)
    by_place c n command group key called its runs (inr past) =
        let row : HasRowAt end n is_running = staged_at end n is_running runs in
        let it = cut.made n past (slice_get_within end.work.tasks n row.row row.found) in
        absurd (false≢true (sym it.still ∙ runs))

-- ---- after groups were canceled and the clock has moved

halts_leave : (p q : State) → OnlyStops p q → AfterEnds p q []
halts_leave p q only = record {
  others = λ n not. ap (λ (w : WorkState). slice_get w.tasks n) only.work;
  ended = λ n is. cc;
  own = λ night group key n.
      task_stays p q owned night group key (slice_get q.work.tasks n)
      ∙ ap (λ (w : WorkState). option_map_or (λ (task : Task).
      bytes_eq task.argument key && is_owned p night group task.group) (slice_get w.tasks n) false)
      only.work;
  tried = λ n counted.
      sym (ap (λ (w : WorkState). has_stage counts w n) only.work) ∙ counted;
  owned = owned;
  bare = λ g. ap (λ (w : WorkState). own_scope w g) only.work;
  size = ap (λ (w : WorkState). length w.tasks) only.work;
}
  where
    owned : (night : Option (List ℕ)) (group : List ℕ) (g : ℕ)
        → is_owned q night group g ≡ is_owned p night group g
    owned =
        owned_stays p q only.scopes
        (groups_same p q (ap (λ (w : WorkState). w.groups) only.work))

halts_came : (p q : State) → OnlyStops p q → Came p q
halts_came p q only = record {
  scopes = only.scopes;
  groups = groups_same p q (ap (λ (w : WorkState). w.groups) only.work);
  sized = ap (λ (w : WorkState). length w.groups) only.work;
  rows = λ n below.
      ap (λ (w : WorkState). option_map unstaged (slice_get w.tasks n)) only.work;
  grown = omega (arith, ap (λ (w : WorkState). length w.tasks) only.work);
}

filter_all : (living : List Begun)
    → filter (λ (try : Begun). not (has_ended [] try.task)) living ≡ living
filter_all [] = refl
filter_all (try ∷ living) = ap (λ (xs : List Begun). try ∷ xs) (filter_all living)

-- ---- what was recorded

-- The living tries that haven't ended.
abbrev pub left_in : List Begun → Heard → List Begun
left_in living h = filter (λ (try : Begun). not (has_ended (ends_in h) try.task)) living

-- The session after the ends, the steps of the cancels of commands, and those after them.
abbrev pub ended : Session → Heard → Session
ended s h = session_after s (finishes_of (ends_in h))

abbrev pub cuts_in : Session → Plan → Names → Heard → List Step
cuts_in s plan names h =
    cuts_of s.state names plan.commands.items (length s.state.work.tasks) h.cancels

abbrev pub halts_in : Session → Names → Heard → List Step
halts_in s names h = halts_of s.state names h.groups h.now

pub record IsRecorded (s : Session) (plan : Plan) (names : Names) (living : List Begun) (h : Heard)
    : Type 0 where
  pub ends : AreEnds s.state names plan.commands.items h.ends
  pub cut : AreCut s.state plan names (ended s h) (cuts_in s plan names h) h.cancels
  pub split : recorded s plan names h
      ≡ session_after (session_after (ended s h) (cuts_in s plan names h)) (halts_in s names h)
  pub only : OnlyStops (session_after (ended s h) (cuts_in s plan names h)).state
      (recorded s plan names h).state
  pub between : IsBetween (recorded s plan names h).state plan names (left_in living h)
  pub size : length (recorded s plan names h).state.work.tasks
      ≡ length s.state.work.tasks + length h.cancels

replies_after : (row : List (Ended × ℕ)) (s : Session) (rest : List Step)
    → drop (length row) (replies s (finishes_of (map (λ x. x.0) row) ++ rest))
    ≡ replies (session_after s (finishes_of (map (λ x. x.0) row))) rest
replies_after [] s rest = refl
replies_after ((end, c) ∷ row) s rest =
    replies_after row (after_step s (step.Finish end.task end.outcome)) rest

pub record_so : (s : Session) (plan : Plan) (names : Names) (living : List Begun) (h : Heard)
    → IsBetween s.state plan names living → AreTheirs living h.ends
    → AreCanceled s plan names h → IsRecorded s plan names living h
record_so s plan names living h between theirs canceled = record {
  ends = are;
  cut = cut;
  split = split;
  only = subst (λ (x : Session). OnlyStops k.state x.state) (sym split) only;
  between = subst (λ (x : Session). IsBetween x.state plan names (left_in living h)) (sym split)
      (record {
        rest = record {
          named = between.rest.named;
          distinct = between.rest.distinct;
          housed = housed_goes s.state t.state came names ∙ between.rest.housed;
          consistent = run_keeps (accepted k halts) k.state t.state cut.ready.consistent
              (accepted_runs k halts);
          none_fresh = λ n.
              ap (λ (w : WorkState). has_stage is_fresh w n) only.work ∙ cut.ready.none n;
        };
        bare = bare_came s.state t.state names came between.bare;
        lives = subst (λ (xs : List Begun). AreLiving t.state names commands xs)
            (filter_all (left_in living h))
            (left_living k.state t.state names commands (left_in living h) []
            (halts_leave k.state t.state only)
            (cut_living s.state plan names f cuts h.cancels (left_in living h) cut free left));
      });
  size = ap (λ (x : Session). length x.state.work.tasks) split
      ∙ ap (λ (w : WorkState). length w.tasks) only.work
      ∙ cut.more ∙ ap (λ (m : ℕ). m + length h.cancels) after.size;
}
  where
    commands : List Command
    commands = plan.commands.items

    cuts : List Step
    cuts = cuts_in s plan names h

    halts : List Step
    halts = halts_in s names h

    f : Session
    f = ended s h

    k : Session
    k = session_after f cuts

    t : Session
    t = session_after k halts

    split : recorded s plan names h ≡ t
    split =
        steps_join s (finishes_of (ends_in h)) (cuts ++ halts) ∙ steps_join f cuts halts

    are : AreEnds s.state names commands h.ends
    are = their_ends_are_ends s.state plan names living h.ends between theirs

    after : AfterEnds s.state f.state (ends_in h)
    after = ends_leave h.ends s names commands are

    ready : Ready s.state f
    ready = record {
      came = ends_came h.ends s names commands are;
      consistent = run_keeps (accepted s (finishes_of (ends_in h))) s.state f.state
          between.rest.consistent (accepted_runs s (finishes_of (ends_in h)));
      none = (finishes_rest (ends_in h) s).none between.rest.none_fresh;
    }

    fits : Fits s.state plan names
    fits = record {
      named = between.rest.named;
      distinct = between.rest.distinct;
      housed = λ g group at. housed_at s.state names g group between.rest.housed at;
    }

    cut : AreCut s.state plan names f cuts h.cancels
    cut =
        all_cut h.cancels s.state plan names fits (λ i x at. (canceled.each i x at).0) f ready
        (bare_stays s.state f.state names (ends_in h) after between.bare)
        (length s.state.work.tasks) (sym after.size) halts
        (ap (are_started h.cancels) (sym (replies_after h.ends s (cuts ++ halts)))
        ∙ canceled.started)

    only : OnlyStops k.state t.state
    only = halts_only_stop h.groups s.state names h.now k cut.ready.consistent

    came : Came s.state t.state
    came = came_on s.state k.state t.state cut.ready.came (halts_came k.state t.state only)

    left : AreLiving f.state names commands (left_in living h)
    left = left_living s.state f.state names commands living (ends_in h) after between.lives

    test : Begun → Bool
    test try = not (has_ended (ends_in h) try.task)

    not_ended : (b : Bool) → not b ≡ true → b ≡ false
    not_ended true is = cc
    not_ended false is = refl

    free : (try : Begun) → Contains (left_in living h) try → (i : ℕ) (cancel : CommandCancel)
        → slice_get h.cancels i ≡ Some cancel → try.command ≡ cancel.command → ⊥
    free try listed i cancel at same =
        let lives : IsLiving s.state names commands try =
        All-contains (IsLiving s.state names commands) (left_in living h) try
        (All-filter test (IsLiving s.state names commands) living between.lives.each) listed in
        let still : has_ended (ends_in h) try.task ≡ false =
        not_ended (has_ended (ends_in h) try.task)
        (All-contains (λ (x : Begun). test x ≡ true) (left_in living h) try
        (filter_passes test living) listed) in
        false≢true (sym (lives_closed s.state plan names (ends_in h) try between.rest.named lives
        still)
        ∙ ap (can_cancel s.state names commands (ends_in h)) same
        ∙ (canceled.each i cancel at).1)

-- ---- a round

pub reports_by_choice : (s : Session) (ends : Ends) (plan : Plan) (names : Names)
    (sizes chosen : List ℕ) (begun : List Begun) → IsAtRest s.state plan names
    → IsBegunByChoice s ends plan names sizes chosen begun → Reports s plan names chosen begun
reports_by_choice s ends plan names sizes chosen begun rest by = record {
  rest = rest;
  within = chosen_within (night_in s.state ends plan names) s.state.tree.clock sizes chosen
      by.choice;
  reported = by.reported;
}

-- The row of the commands that begin.
abbrev pub row_in : Session → Plan → Names → Round → List Step
row_in s plan names r =
    row_of (at_choice s plan names r).state names plan.commands.items r.chosen

pub record IsPlayed (s : Session) (plan : Plan) (names : Names) (living : List Begun) (r : Round)
    : Type 0 where
  pub record_is : IsRecorded s plan names living r.heard
  pub reports : Reports (at_choice s plan names r) plan names r.chosen r.begun
  pub played : Played plan names (at_choice s plan names r) (row_in s plan names r) r.chosen r.begun
  pub split : after_round s plan names r
      ≡ session_after (at_choice s plan names r) (row_in s plan names r)

pub round_so : (s : Session) (old : Ends) (plan : Plan) (names : Names) (living : List Begun)
    (r : Round) → IsBetween s.state plan names living → MayCome s old plan names living r
    → IsPlayed s plan names living r
round_so s old plan names living r between may =
    let t : Session = at_choice s plan names r in
    let it : IsRecorded s plan names living r.heard =
    record_so s plan names living r.heard between may.theirs may.canceled in
    let reports : Reports t plan names r.chosen r.begun =
    reports_by_choice t r.ends plan names r.sizes r.chosen r.begun it.between.rest may.begun in
    record {
      record_is = it;
      reports = reports;
      played = reported_so t plan names r.chosen r.begun reports;
      split = steps_join s (record_in s.state plan names r.heard) (row_in s plan names r);
    }

pub rounds_keep : RoundsKeepTheLiving
rounds_keep s old plan names living r between may =
    let commands : List Command = plan.commands.items in
    let t : Session = at_choice s plan names r in
    let it : IsPlayed s plan names living r = round_so s old plan names living r between may in
    let left : List Begun = left_in living r.heard in
    let end : Session = session_after t (row_in s plan names r) in
    let was : IsBetween t.state plan names left = it.record_is.between in
    subst (λ (x : Session). IsBetween x.state plan names (living_then living r)) (sym it.split)
    (record {
      rest = (rows_begin_all t plan names r.chosen r.begun it.reports).rest;
      bare = bare_came t.state end.state names it.played.goes.came was.bare;
      lives = row_living t plan names left r.chosen r.begun it.reports
          (chosen_differ (night_in t.state r.ends plan names) t.state.tree.clock r.sizes r.chosen
          may.begun.choice)
          (λ try listed again. none_twice t.state r.ends plan names r.sizes r.chosen
          t.state.tree.clock was.rest.named may.begun.choice try
          (All-contains (IsLiving t.state names commands) left try was.lives.each listed) again)
          was.lives;
    })

-- ---- turns

-- The night when commands are chosen.
record_night : (s : Session) (old : Ends) (plan : Plan) (names : Names) (living : List Begun)
    (r : Round) → IsBetween s.state plan names living → MayCome s old plan names living r
    → night_in (at_choice s plan names r).state r.ends plan names
    ≡ after_all (night_in s.state old plan names) (record_turns s plan names r)
record_night s old plan names living r between may =
    let h : Heard = r.heard in
    let it : IsRecorded s plan names living h =
    record_so s plan names living h between may.theirs may.canceled in
    let f : Session = ended s h in
    let k : Session = session_after f (cuts_in s plan names h) in
    let t : Session = at_choice s plan names r in
    let n : Night = night_in s.state old plan names in
    let first : List Turn = turns_of h.now h.ends in
    let second : List Turn = map cut_of h.cancels in
    let third : List Turn =
    map Stop (done_from 0 (night_in t.state r.ends plan names).done) in
    stops_are_turns k.state t.state r.ends plan names between.rest.named it.only
    ∙ ap (λ (x : Night). after_all x third)
    (it.cut.turn r.ends
    ∙ ap (λ (x : Night). after_all x second)
    (ends_turn s old r.ends plan names h.ends h.now between.rest.named it.ends may.noted))
    ∙ sym (turns_join (after_all n first) second third)
    ∙ sym (turns_join n first (second ++ third))

pub rounds_are_turns : RoundsAreTurns
rounds_are_turns s old plan names living r between may =
    let t : Session = at_choice s plan names r in
    let it : IsPlayed s plan names living r = round_so s old plan names living r between may in
    let clock : ℕ = t.state.tree.clock in
    ap (λ (x : Session). night_in x.state r.ends plan names) it.split
    ∙ it.played.turn r.ends clock r.sizes
    ∙ ap (λ (x : Night). after_turn x (Begin clock r.sizes r.chosen))
    (record_night s old plan names living r between may)
    ∙ sym (turns_join (night_in s.state old plan names) (record_turns s plan names r)
    (Begin clock r.sizes r.chosen ∷ []))

-- ---- one flush

-- All of these steps are acknowledged if the last ones are.
pub whole_join : (first second : List Step) (s : Session)
    → AreAcked (session_after s first) second → AreAcked s (first ++ second)
whole_join [] second s are = are
whole_join (x ∷ first) second s are =
    let rest = whole_join first second (after_step s x) are in
    let any : list_any is_ack (replies s (x ∷ first ++ second)) ≡ true =
    ap (λ b. is_ack (reply_of_step s x) || b) rest.any ∙ or-true (is_ack (reply_of_step s x)) in
    record {
      any = any;
      whole = ap (λ b. cond b (x ∷ up_to_last_ack (first ++ second)
          (replies (after_step s x) (first ++ second))) []) any
          ∙ ap (λ (xs : List Step). x ∷ xs) rest.whole;
    }

pub rounds_are_acknowledged : RoundsAreAcknowledged
rounds_are_acknowledged s old plan names living r between may =
    let h : Heard = r.heard in
    let t : Session = at_choice s plan names r in
    let it : IsPlayed s plan names living r = round_so s old plan names living r between may in
    let first : List Step = record_in s.state plan names h in
    let second : List Step = row_in s plan names r in
    let fin : List Step = finishes_of (ends_in h) in
    let cut : List Step = cuts_in s plan names h in
    let more : List Step = cut ++ halts_in s names h in
    let f : Session = ended s h in
    let whole : AreAcked s (first ++ second) =
    whole_join first second s (record { any = it.played.any; whole = it.played.whole }) in
    let acked = λ (e : Event) (listed : Contains (accepted s (first ++ second)) e).
    subst (λ (steps : List Step). Contains (accepted s steps) e) (sym whole.whole) listed in
    record {
      whole = whole;
      ends = λ i part at.
          acked (event.Finish part.0.task part.0.outcome)
          (subst (λ (steps : List Step). Contains (accepted s steps)
          (event.Finish part.0.task part.0.outcome)) (sym (append_assoc fin more second))
          (ends_listed h.ends s names plan.commands.items (more ++ second) it.record_is.ends i part
          at));
      cancels = λ i cancel at.
          let e : Event = event.Finish (length f.state.work.tasks + i)
          (outcome.Failure (canceled_text cancel.why)) in (
            length f.state.work.tasks + i,
            acked e (earlier_listed first second s e (later_listed fin more s e
                (earlier_listed cut (halts_in s names h) f e (it.record_is.cut.listed i cancel
                at)))),
          );
      starts = λ i begin at.
          acked (event.Start begin.task)
          (later_listed first second s (event.Start begin.task) (it.played.listed i begin at));
    }
