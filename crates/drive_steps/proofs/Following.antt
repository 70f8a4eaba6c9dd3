-- Many rounds, one after another.
use Rattle.std.proofs.Common.{◌≡◌, ◌<◌, ◌≤◌, ◌∙◌, ◌||◌, ◌+◌, ◌-◌, ℕ, zero, suc, Bool, true}
use Rattle.std.proofs.Common.{false}
use Rattle.std.proofs.Common.{cond, List, [], ◌∷◌, ◌++◌, Some, length, map, slice_get}
use Rattle.std.proofs.Common.{ap, refl, sym, subst, inl, inr, arith}
use Rattle.std.proofs.Math.Bool.{or-true}
use Rattle.std.proofs.lemmas.Bool.{cases_eq, cases_lt}
use Rattle.std.proofs.lemmas.List.Elements.{All-contains}
use Rattle.std.proofs.lemmas.Option.{none-some}
use Rattle.std.specs.List.{Contains, list_any}
use Rattle.run_model.specs.declared.answers.Reply.{Reply}
use Rattle.run_model.specs.declared.commands.Step.{Step}
use Rattle.run_model.specs.declared.commands.Step.TheVariants as step
use Rattle.run_model.specs.declared.tasks.Outcome.{Outcome}
use Rattle.run_model.specs.declared.tasks.Outcome.TheVariants as outcome
use Rattle.run_model.specs.Event.{Event}
use Rattle.run_model.specs.Event as event
use Rattle.run_model.specs.Session.{Session, accepted, after_step, is_ack, replies, reply_of_step}
use Rattle.run_model.specs.Session.{session_after, up_to_last_ack}
use Rattle.night_plan.specs.declared.commands.Plan.{Plan}
use Rattle.night_plan.specs.Nights.{Night, runs}
use Rattle.night_plan.specs.Sessions.{after_all}
use Rattle.night_plan.specs.Turns.{Begin, Cut, Fail, Lead, May, Stop, Turn, after as after_turn}
use Rattle.night_drive.specs.declared.ends.Ends.{Ends}
use Rattle.night_drive.specs.declared.names.Names.{Names}
use Rattle.night_drive.specs.PlanTurns.{night_in}
use Rattle.night_drive.specs.Seen.{AreNames, moment_of}
use Rattle.night_drive.specs.Tries.{is_cancel}
use Rattle.night_drive.specs.Turns.{end_of}
use Rattle.drive_steps.specs.Cancels.{canceled_text}
use Rattle.drive_steps.specs.declared.cancels.CommandCancel.{CommandCancel}
use Rattle.drive_steps.specs.declared.heard.Ended.{Ended}
use Rattle.drive_steps.specs.declared.reported.Begun.{Begun}
use Rattle.drive_steps.specs.Heard.{AreEnds, finishes_of, has_ended, turns_of}
use Rattle.drive_steps.specs.Living.{IsBetween, IsLiving}
use Rattle.drive_steps.specs.ManyRounds.{AreRounds, ManyRoundsKeepTheLiving, NoTaskIsReportedTwice}
use Rattle.drive_steps.specs.ManyRounds.{ReportsComeAfter, RoundsFollow, RoundsLead, all_begun}
use Rattle.drive_steps.specs.ManyRounds.{all_cancels, all_ends, all_living, all_steps, all_turns}
use Rattle.drive_steps.specs.Rounds.{AcknowledgeAll, Acknowledges, Heard, MayCome, Round}
use Rattle.drive_steps.specs.Rounds.{after_round}
use Rattle.drive_steps.specs.Rounds.{at_choice, done_from, living_then, round_of, round_turns}
use Rattle.drive_steps.proofs.Cutting.{cut_of}
use Rattle.drive_steps.proofs.Hearing.{first_end, heard_night, steps_join, turns_join}
use Rattle.drive_steps.proofs.Listing.{later_listed}
use Rattle.drive_steps.proofs.Rounding.{IsPlayed, cuts_in, ended, round_so, rounds_are_acknowledged}
use Rattle.drive_steps.proofs.Rounding.{whole_join}
use Rattle.drive_steps.proofs.Rounding.{rounds_are_turns, rounds_keep, row_in}
use Rattle.drive_steps.proofs.Stopping.{stops_are_turns}
use Rattle.drive_steps.proofs.Surviving.{lives_busy}

-- ---- one round

-- The tasks that a round adds: those of what was canceled, and then those that it reports.
record AddsTasks (s : Session) (plan : Plan) (names : Names) (r : Round) : Type 0 where
  numbers : (i : ℕ) (begin : Begun) → slice_get r.begun i ≡ Some begin
      → begin.task ≡ length (at_choice s plan names r).state.work.tasks + i
  first : length s.state.work.tasks ≤ length (at_choice s plan names r).state.work.tasks
  more : length (after_round s plan names r).state.work.tasks
      ≡ length (at_choice s plan names r).state.work.tasks + length r.begun

round_adds : (s : Session) (ends : Ends) (plan : Plan) (names : Names) (living : List Begun)
    (r : Round) → IsBetween s.state plan names living → MayCome s ends plan names living r
    → AddsTasks s plan names r
round_adds s ends plan names living r between may =
    let it : IsPlayed s plan names living r = round_so s ends plan names living r between may in
    record {
      numbers = it.played.numbers;
      first = omega (arith, it.record_is.size);
      more = ap (λ (x : Session). length x.state.work.tasks) it.split ∙ it.played.more;
    }

-- ---- the living

keep_on : (rounds : List Round) (s : Session) (ends : Ends) (plan : Plan) (names : Names)
    (living : List Begun) → IsBetween s.state plan names living
    → AreRounds s ends plan names living rounds
    → IsBetween (session_after s (all_steps s plan names rounds)).state plan names
    (all_living living rounds)
keep_on [] s ends plan names living between are = between
keep_on (r ∷ rounds) s ends plan names living between are =
    let later : List Begun = living_then living r in
    let t : Session = after_round s plan names r in
    subst (λ (x : Session). IsBetween x.state plan names (all_living later rounds))
    (sym (steps_join s (round_of s plan names r) (all_steps t plan names rounds)))
    (keep_on rounds t r.ends plan names later
    (rounds_keep s ends plan names living r between are.0) are.1)

pub many_rounds_keep : ManyRoundsKeepTheLiving
many_rounds_keep s ends plan names living rounds between are =
    keep_on rounds s ends plan names living between are

-- ---- no task twice

get_late : {X : Type 0} (xs ys : List X) (i : ℕ) → length xs ≤ i
    → slice_get (xs ++ ys) i ≡ slice_get ys (i - length xs)
get_late [] ys i past = ap (slice_get ys) (omega arith)
get_late (x ∷ xs) ys zero past = absurd (omega (arith, past))
get_late (x ∷ xs) ys (suc i) past =
    get_late xs ys i (omega (arith, past)) ∙ ap (slice_get ys) (omega arith)

get_early : {X : Type 0} (xs ys : List X) (i : ℕ) → i < length xs
    → slice_get (xs ++ ys) i ≡ slice_get xs i
get_early [] ys i less = absurd (omega (arith, less))
get_early (x ∷ xs) ys zero less = refl
get_early (x ∷ xs) ys (suc i) less = get_early xs ys i (omega (arith, less))

-- The tasks that are reported are new ones.
are_new : (rounds : List Round) (s : Session) (ends : Ends) (plan : Plan) (names : Names)
    (living : List Begun) → IsBetween s.state plan names living
    → AreRounds s ends plan names living rounds → (i : ℕ) (a : Begun)
    → slice_get (all_begun rounds) i ≡ Some a → length s.state.work.tasks ≤ a.task
are_new [] s ends plan names living between are i a at = absurd (none-some a at)
are_new (r ∷ rounds) s ends plan names living between are i a at =
    let adds : AddsTasks s plan names r = round_adds s ends plan names living r between are.0 in
    elim (cases_lt i (length r.begun)) [
      | inl here ↦
          omega (
            arith,
            adds.first,
            adds.numbers i a (sym (get_early r.begun (all_begun rounds) i here) ∙ at),
          )
      | inr past ↦
          let later : length (after_round s plan names r).state.work.tasks ≤ a.task =
          are_new rounds (after_round s plan names r) r.ends plan names
          (living_then living r)
          (rounds_keep s ends plan names living r between are.0) are.1 (i - length r.begun) a
          (sym (get_late r.begun (all_begun rounds) i past) ∙ at) in
          omega (arith, later, adds.more, adds.first)
    ]

ascend : (rounds : List Round) (s : Session) (ends : Ends) (plan : Plan) (names : Names)
    (living : List Begun) → IsBetween s.state plan names living
    → AreRounds s ends plan names living rounds → (i j : ℕ) (a b : Begun) → i < j
    → slice_get (all_begun rounds) i ≡ Some a → slice_get (all_begun rounds) j ≡ Some b
    → a.task < b.task
ascend [] s ends plan names living between are i j a b less at there = absurd (none-some a at)
ascend (r ∷ rounds) s ends plan names living between are i j a b less at there =
    elim (cases_lt i (length r.begun)) [
      | inl first ↦ elim (cases_lt j (length r.begun)) [
        | inl both ↦
            omega (
              arith,
              less,
              adds.numbers i a (sym (get_early r.begun rest i first) ∙ at),
              adds.numbers j b (sym (get_early r.begun rest j both) ∙ there),
            )
        | inr past ↦
            let new : length t.state.work.tasks ≤ b.task =
            are_new rounds t r.ends plan names later next are.1 (j - length r.begun) b
            (sym (get_late r.begun rest j past) ∙ there) in
            omega (
              arith,
              first,
              new,
              adds.more,
              adds.numbers i a (sym (get_early r.begun rest i first) ∙ at),
            )
      ]
      | inr past ↦
          let also : length r.begun ≤ j = omega (arith, past, less) in
          ascend rounds t r.ends plan names later next are.1 (i - length r.begun)
          (j - length r.begun) a b (omega (arith, past, less))
          (sym (get_late r.begun rest i past) ∙ at)
          (sym (get_late r.begun rest j also) ∙ there)
    ]
  where
    t : Session
    t = after_round s plan names r

    rest : List Begun
    rest = all_begun rounds

    later : List Begun
    later = living_then living r

    next : IsBetween t.state plan names later
    next = rounds_keep s ends plan names living r between are.0

    adds : AddsTasks s plan names r
    adds = round_adds s ends plan names living r between are.0

pub none_reported_twice : NoTaskIsReportedTwice
none_reported_twice s ends plan names living rounds i j a b between are at there same =
    elim (cases_lt i j) [
      | inl less ↦
          let first : a.task < b.task =
          ascend rounds s ends plan names living between are i j a b less at there in
          absurd (omega (arith, first, same))
      | inr more ↦ elim (cases_eq i j) [
        | inl it ↦ it
        | inr other ↦
            let first : b.task < a.task =
            ascend rounds s ends plan names living between are j i b a
            (omega (arith, more, other)) there at in
            absurd (omega (arith, first, same))
      ]
    ]

-- ---- acknowledged before it is reported

-- An event is acknowledged only if there is an acknowledgement.
some_ack : (steps : List Step) (answers : List Reply) (s : Session) (e : Event)
    → Contains (accepted s (up_to_last_ack steps answers)) e → list_any is_ack answers ≡ true
some_ack [] answers s e (k, less, is) = absurd (omega (arith, less))
some_ack (x ∷ steps) [] s e (k, less, is) = absurd (omega (arith, less))
some_ack (x ∷ steps) (r ∷ answers) s e listed =
    by_any (is_ack r || list_any is_ack answers) listed
  where
    by_any : (b : Bool)
        → Contains (accepted s (cond b (x ∷ up_to_last_ack steps answers) [])) e → b ≡ true
    by_any true listed = refl
    by_any false (k, less, is) = absurd (omega (arith, less))

acked_join : (first second : List Step) (s : Session)
    → list_any is_ack (replies (session_after s first) second) ≡ true
    → (list_any is_ack (replies s (first ++ second)) ≡ true)
    × (up_to_last_ack (first ++ second) (replies s (first ++ second))
    ≡ first ++ up_to_last_ack second (replies (session_after s first) second))
acked_join [] second s any = (any, refl)
acked_join (x ∷ first) second s any =
    let rest = acked_join first second (after_step s x) any in
    let here : list_any is_ack (replies s (x ∷ first ++ second)) ≡ true =
    ap (λ b. is_ack (reply_of_step s x) || b) rest.0 ∙ or-true (is_ack (reply_of_step s x)) in (
      here,
      ap (λ b. cond b (x ∷ up_to_last_ack (first ++ second)
          (replies (after_step s x) (first ++ second))) []) here
          ∙ ap (λ (xs : List Step). x ∷ xs) rest.1,
    )

-- What later steps acknowledge, all steps acknowledge.
acks_join : (first second : List Step) (s : Session) (e : Event)
    → Acknowledges (session_after s first) second e → Acknowledges s (first ++ second) e
acks_join first second s e acked =
    let t : Session = session_after s first in
    let any = some_ack second (replies t second) t e acked in
    subst (λ (steps : List Step). Contains (accepted s steps) e)
    (sym (acked_join first second s any).1)
    (later_listed first (up_to_last_ack second (replies t second)) s e acked)

append_nil : {X : Type 0} (xs : List X) → xs ++ [] ≡ xs
append_nil [] = refl
append_nil (x ∷ xs) = ap (λ ys. x ∷ ys) (append_nil xs)

acknowledge_more : (first second : List Step) (s : Session) (r : Round)
    → AcknowledgeAll (session_after s first) second r → AcknowledgeAll s (first ++ second) r
acknowledge_more first second s r all = record {
  whole = whole_join first second s all.whole;
  ends = λ i part at.
      acks_join first second s (event.Finish part.0.task part.0.outcome) (all.ends i part at);
  cancels = λ i cancel at.
      let it = all.cancels i cancel at in (
        it.0,
        acks_join first second s
            (event.Finish it.0 (outcome.Failure (canceled_text cancel.why))) it.1,
      );
  starts = λ i begin at.
      acks_join first second s (event.Start begin.task) (all.starts i begin at);
}

come_after : (earlier : List Round) (r : Round) (s : Session) (ends : Ends) (plan : Plan)
    (names : Names) (living : List Begun) → IsBetween s.state plan names living
    → AreRounds s ends plan names living (earlier ++ r ∷ [])
    → AcknowledgeAll s (all_steps s plan names (earlier ++ r ∷ [])) r
come_after [] r s ends plan names living between are =
    subst (λ (steps : List Step). AcknowledgeAll s steps r)
    (sym (append_nil (round_of s plan names r)))
    (rounds_are_acknowledged s ends plan names living r between are.0)
come_after (x ∷ earlier) r s ends plan names living between are =
    let t : Session = after_round s plan names x in
    acknowledge_more (round_of s plan names x) (all_steps t plan names (earlier ++ r ∷ [])) s r
    (come_after earlier r t x.ends plan names (living_then living x)
    (rounds_keep s ends plan names living x between are.0) are.1)

pub reports_come_after : ReportsComeAfter
reports_come_after s ends plan names living earlier r between are =
    come_after earlier r s ends plan names living between are

-- ---- turns

lead_join : (first second : List Turn) (n m k : Night) → Lead n first m → Lead m second k
    → Lead n (first ++ second) k
lead_join [] second n m k one two = subst (λ (x : Night). Lead x second k) (sym one) two
lead_join (t ∷ first) second n m k one two =
    (one.0, lead_join first second (after_turn n t) m k one.1 two)

may_end : (n : Night) (c now : ℕ) (o : Outcome) → runs n c ≡ true → May n (end_of c now o)
may_end n c now outcome.Success busy = busy
may_end n c now (outcome.Failure error) busy = by_cancel (is_cancel error)
  where
    by_cancel : (b : Bool) → May n (cond b (Cut c) (Fail c now))
    by_cancel true = busy
    by_cancel false = busy

ends_lead : (row : List (Ended × ℕ)) (s : Session) (new : Ends) (plan : Plan) (names : Names)
    (now : ℕ) → AreNames plan names → AreEnds s.state names plan.commands.items row
    → ((i : ℕ) (part : Ended × ℕ) → slice_get row i ≡ Some part
    → part.1 < length plan.commands.items)
    → ((n : ℕ) → has_ended (map (λ x. x.0) row) n ≡ true → moment_of new n ≡ now)
    → Lead (night_in s.state new plan names) (turns_of now row)
    (night_in (session_after s (finishes_of (map (λ x. x.0) row))).state new plan names)
ends_lead [] s new plan names now are ends within own = refl
ends_lead ((end, c) ∷ row) s new plan names now are ends within own =
    let first = first_end end c row s new plan names now are ends own in
    let next : Session = after_step s (step.Finish end.task end.outcome) in
    let lives : IsLiving s.state names plan.commands.items
    (record { command = c; task = end.task }) =
    record { within = within zero (end, c) refl; runs = ends.0.runs; of = ends.0.of } in (
      may_end (night_in s.state new plan names) c now end.outcome
          (lives_busy s.state new plan names (record { command = c; task = end.task }) are lives),
      subst (λ (x : Night). Lead x (turns_of now row)
          (night_in (session_after next (finishes_of (map (λ x. x.0) row))).state new plan names))
          first.turn
          (ends_lead row next new plan names now are first.are
          (λ i part at. within (suc i) part at) first.own),
    )

stops_lead : (stopped : List ℕ) (n : Night)
    → Lead n (map Stop stopped) (after_all n (map Stop stopped))
stops_lead [] n = refl
stops_lead (g ∷ stopped) n = (tt, stops_lead stopped (after_turn n (Stop g)))

cut_leads : (cancels : List CommandCancel) (n m : Night) → cancels ≡ []
    → m ≡ after_all n (map cut_of cancels) → Lead n (map cut_of cancels) m
cut_leads [] n m none same = sym same
cut_leads (cancel ∷ cancels) n m none same = cc

round_leads : (s : Session) (ends : Ends) (plan : Plan) (names : Names) (living : List Begun)
    (r : Round) → IsBetween s.state plan names living → MayCome s ends plan names living r
    → r.heard.cancels ≡ []
    → Lead (night_in s.state ends plan names) (round_turns s plan names r)
    (night_in (after_round s plan names r).state r.ends plan names)
round_leads s ends plan names living r between may none =
    let are : AreNames plan names = between.rest.named in
    let h : Heard = r.heard in
    let it : IsPlayed s plan names living r = round_so s ends plan names living r between may in
    let f : Session = ended s h in
    let k : Session = session_after f (cuts_in s plan names h) in
    let t : Session = at_choice s plan names r in
    let e : Session = session_after t (row_in s plan names r) in
    let clock : ℕ = t.state.tree.clock in
    let zero_night : Night = night_in s.state r.ends plan names in
    let fin : Night = night_in f.state r.ends plan names in
    let cut : Night = night_in k.state r.ends plan names in
    let at : Night = night_in t.state r.ends plan names in
    let last : Night = night_in e.state r.ends plan names in
    let begin : Turn = Begin clock r.sizes r.chosen in
    let first : List Turn = turns_of h.now h.ends in
    let second : List Turn = map cut_of h.cancels in
    let stopped : List ℕ = done_from 0 at.done in
    let third : List Turn = map Stop stopped in
    let within = λ (i : ℕ) (part : Ended × ℕ) (there : slice_get h.ends i ≡ Some part).
    (All-contains (IsLiving s.state names plan.commands.items) living
    (record { command = part.1; task = part.0.task }) between.lives.each
    (may.theirs.lived i part there)).within in
    let lead_third : Lead cut third at =
    subst (λ (x : Night). Lead cut third x)
    (sym (stops_are_turns k.state t.state r.ends plan names are it.record_is.only))
    (stops_lead stopped cut) in
    let lead_second : Lead fin (second ++ third) at =
    lead_join second third fin cut at
    (cut_leads h.cancels fin cut none (it.record_is.cut.turn r.ends)) lead_third in
    let lead_first : Lead zero_night (first ++ (second ++ third)) at =
    lead_join first (second ++ third) zero_night fin at
    (ends_lead h.ends s r.ends plan names h.now are it.record_is.ends within may.noted.own)
    lead_second in
    subst (λ (x : Night). Lead x (round_turns s plan names r)
    (night_in (after_round s plan names r).state r.ends plan names))
    (heard_night s ends r.ends plan names h.ends h.now it.record_is.ends may.noted)
    (subst (λ (x : Session). Lead zero_night (round_turns s plan names r)
    (night_in x.state r.ends plan names)) (sym it.split)
    (lead_join (first ++ (second ++ third)) (begin ∷ []) zero_night at last lead_first
    (may.begun.choice, sym (it.played.turn r.ends clock r.sizes))))

none_first : {X : Type 0} (xs ys : List X) → xs ++ ys ≡ [] → (xs ≡ []) × (ys ≡ [])
none_first [] ys none = (refl, none)
none_first (x ∷ xs) ys none = cc

lead_on : (rounds : List Round) (s : Session) (ends : Ends) (plan : Plan) (names : Names)
    (living : List Begun) → IsBetween s.state plan names living
    → AreRounds s ends plan names living rounds → all_cancels rounds ≡ []
    → Lead (night_in s.state ends plan names) (all_turns s plan names rounds)
    (night_in (session_after s (all_steps s plan names rounds)).state (all_ends ends rounds) plan
    names)
lead_on [] s ends plan names living between are none = refl
lead_on (r ∷ rounds) s ends plan names living between are none =
    let t : Session = after_round s plan names r in
    let rest : List Step = all_steps t plan names rounds in
    let parts = none_first r.heard.cancels (all_cancels rounds) none in
    lead_join (round_turns s plan names r) (all_turns t plan names rounds)
    (night_in s.state ends plan names) (night_in t.state r.ends plan names)
    (night_in (session_after s (round_of s plan names r ++ rest)).state (all_ends r.ends rounds)
    plan names)
    (round_leads s ends plan names living r between are.0 parts.0)
    (subst (λ (x : Session). Lead (night_in t.state r.ends plan names)
    (all_turns t plan names rounds) (night_in x.state (all_ends r.ends rounds) plan names))
    (sym (steps_join s (round_of s plan names r) rest))
    (lead_on rounds t r.ends plan names (living_then living r)
    (rounds_keep s ends plan names living r between are.0) are.1 parts.1))

pub rounds_lead : RoundsLead
rounds_lead s ends plan names living rounds between are none =
    lead_on rounds s ends plan names living between are none

follow_on : (rounds : List Round) (s : Session) (ends : Ends) (plan : Plan) (names : Names)
    (living : List Begun) → IsBetween s.state plan names living
    → AreRounds s ends plan names living rounds
    → night_in (session_after s (all_steps s plan names rounds)).state (all_ends ends rounds) plan
    names
    ≡ after_all (night_in s.state ends plan names) (all_turns s plan names rounds)
follow_on [] s ends plan names living between are = refl
follow_on (r ∷ rounds) s ends plan names living between are =
    let t : Session = after_round s plan names r in
    let rest : List Step = all_steps t plan names rounds in
    let later : List Turn = all_turns t plan names rounds in
    ap (λ (x : Session). night_in x.state (all_ends r.ends rounds) plan names)
    (steps_join s (round_of s plan names r) rest)
    ∙ follow_on rounds t r.ends plan names (living_then living r)
    (rounds_keep s ends plan names living r between are.0) are.1
    ∙ ap (λ (x : Night). after_all x later)
    (rounds_are_turns s ends plan names living r between are.0)
    ∙ sym (turns_join (night_in s.state ends plan names) (round_turns s plan names r) later)

pub rounds_follow : RoundsFollow
rounds_follow s ends plan names living rounds between are =
    follow_on rounds s ends plan names living between are
