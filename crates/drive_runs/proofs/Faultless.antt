-- Where a row of steps is reported, no step of it met a fault, so the book replied as its session.
use Rattle.std.specs.Prelude.{◌≡◌, ◌==◌, ◌&&◌, ℕ, suc, Bool, true, false, List, [], ◌∷◌}
use Rattle.std.specs.Prelude.{Option, Some, None, length, unwrap_or}
use Rattle.std.specs.List.{list_all, list_any}
use Rattle.std.specs.Option.{option_map, option_or}
use Rattle.std.proofs.Common.{ap, arith, sym, subst, ◌∙◌, refl}
use Rattle.std.proofs.lemmas.Bool.Decides.{nat_tests}
use Rattle.std.proofs.lemmas.Grind.{common_steps}
use Rattle.run_model.specs.declared.answers.Reply.{Reply}
use Rattle.run_model.specs.declared.answers.Reply.TheVariants as reply
use Rattle.run_model.specs.declared.commands.Step.{Step}
use Rattle.run_model.specs.declared.commands.Step.TheVariants as step
use Rattle.run_model.specs.Session.{Session, after_step, is_ack, replies, reply_of_step}
use Rattle.run_model.specs.Session.{session_after}
use Rattle.run_model.specs.State.{State}
use Rattle.run_disk.specs.Disk.{DiskState}
use Rattle.book_model.specs.Books.{BookView, IsReached}
use Rattle.book_model.specs.Plays.{Playing, Plays, acked_of, is_fault, last_acked, stuck}
use Rattle.book_model.specs.Steps.{Steps, StepsOn, playing}
use Rattle.book_model.proofs.Playing.{plays_sound}
use Rattle.book_model.proofs.Rows.{row_steps}
use Rattle.book_model.proofs.Stepping.{steps_left, steps_play}
use Rattle.night_plan.specs.declared.commands.Command.{Command}
use Rattle.night_drive.specs.declared.names.Names.{Names}
use Rattle.drive_steps.specs.declared.reported.Begun.{Begun}
use Rattle.drive_steps.specs.Reported.{begins_reported}
use Rattle.drive_steps.specs.Starts.{next_try, row_of}
use Rattle.drive_runs.specs.Closing.{is_carried_out}
use Rattle.drive_runs.specs.Laws.{IsPlayedWhole}

-- Of a mapped option that is there, the option is.
was_there : {X Y : Type 0} (f : X → Y) (o : Option X) (y : Y) → option_map f o ≡ Some y
    → (x : X) × (o ≡ Some x)
was_there f None y e = cc
was_there f (Some x) y e = (x, refl)

-- Two replies aren't one.
two_long : (n : ℕ) (b : Bool) → suc (suc n) == 1 && b ≡ false
two_long n b = grind (arith, nat_tests, common_steps)

-- No reply to a row is a fault if the row is reported.
pub no_fault : (chosen : List ℕ) (answers : List Reply) (begun : List Begun)
    → begins_reported chosen answers ≡ Some begun → list_any is_fault answers ≡ false
no_fault [] [] begun e = refl
no_fault [] (reply.Answer a ∷ []) begun e = refl
no_fault [] (reply.Started a ∷ []) begun e = refl
no_fault [] (reply.Finished a ∷ []) begun e = refl
no_fault [] (reply.Acked a ∷ []) begun e = refl
no_fault [] (reply.Refused a ∷ []) begun e = refl
no_fault [] (reply.Faulty a ∷ []) begun e = cc
no_fault [] (r ∷ q ∷ answers) begun e = cc (two_long (length answers) (is_ack r), e)
no_fault (c ∷ chosen) [] begun e = refl
no_fault (c ∷ chosen) (reply.Answer a ∷ []) begun e = refl
no_fault (c ∷ chosen) (reply.Started a ∷ answers) begun e = cc
no_fault (c ∷ chosen) (reply.Finished a ∷ answers) begun e = cc
no_fault (c ∷ chosen) (reply.Acked a ∷ answers) begun e = cc
no_fault (c ∷ chosen) (reply.Refused a ∷ answers) begun e = cc
no_fault (c ∷ chosen) (reply.Faulty a ∷ answers) begun e = cc
no_fault (c ∷ chosen) (reply.Answer a ∷ reply.Started b ∷ answers) begun e =
    let there = was_there (λ others. record { command = c; task = b.info.task } ∷ others)
    (begins_reported chosen answers) begun e in
    no_fault chosen answers there.0 there.1
no_fault (c ∷ chosen) (reply.Answer a ∷ reply.Answer b ∷ answers) begun e = cc
no_fault (c ∷ chosen) (reply.Answer a ∷ reply.Finished b ∷ answers) begun e = cc
no_fault (c ∷ chosen) (reply.Answer a ∷ reply.Acked b ∷ answers) begun e = cc
no_fault (c ∷ chosen) (reply.Answer a ∷ reply.Refused b ∷ answers) begun e = cc
no_fault (c ∷ chosen) (reply.Answer a ∷ reply.Faulty b ∷ answers) begun e = cc

-- A broken book refuses each step, so nothing is reported of it.
stuck_reports : (s : Session) (end : Playing) (p : State) (names : Names)
    (commands : List Command) (chosen : List ℕ) (answers : List Reply) (begun : List Begun)
    → Plays (stuck s) (row_of p names commands chosen) answers end
    → begins_reported chosen answers ≡ Some begun → ⊥
stuck_reports s end p names commands [] [] begun played e = absurd played
stuck_reports s end p names commands [] (r ∷ []) begun played e =
    cc (ap (λ (q : Reply). begins_reported [] (q ∷ [])) played.0, e)
stuck_reports s end p names commands [] (r ∷ q ∷ answers) begun played e = absurd played.1
stuck_reports s end p names commands (c ∷ chosen) [] begun played e = absurd played
stuck_reports s end p names commands (c ∷ chosen) (r ∷ answers) begun played e =
    cc (ap (λ (q : Reply). begins_reported (c ∷ chosen) (q ∷ answers)) played.0, e)

-- The last reply of a session to a row acknowledges all events.
last_of_row : (s : Session) (p : State) (names : Names) (commands : List Command)
    (chosen : List ℕ) → last_acked (replies s (row_of p names commands chosen))
    ≡ Some (session_after s (row_of p names commands chosen)).state.count
last_of_row s p names commands [] = refl
last_of_row s p names commands (c ∷ chosen) =
    let asked : Step = step.Command (next_try p names commands c) in
    let one : Session = after_step s asked in
    ap (λ (o : Option ℕ). option_or (option_or o (acked_of (reply_of_step one step.Start)))
    (acked_of (reply_of_step s asked)))
    (last_of_row (after_step one step.Start) p names commands chosen)

-- A book that wasn't broken, and no reply of which is a fault, has replied as its session.
pub whole_row : {D : Type 0} (state : D → DiskState) (old new : BookView D) (row : List Step)
    (answers : List Reply) → IsReached old → StepsOn state old row answers new
    → list_any is_fault answers ≡ false
    → (Plays (stuck old.session) row answers (playing new) → ⊥)
    → last_acked (replies old.session row) ≡ Some (session_after old.session row).state.count
    → IsPlayedWhole old row answers new
whole_row state old new row answers reached played faultless never last =
    by_broken old.journal.broken refl
  where
    steps : Steps state old row answers new
    steps = row_steps state old new row answers played

    from : Plays (playing old) row answers (playing new)
    from = (steps_play state old new row answers reached steps).plays

    at : (b : Bool) → old.journal.broken ≡ b
        → Plays (record { session = old.session; broken = b }) row answers (playing new)
    at b is = subst (λ (k : Bool).
        Plays (record { session = old.session; broken = k }) row answers (playing new)) is from

    by_broken : (b : Bool) → old.journal.broken ≡ b → IsPlayedWhole old row answers new
    by_broken true is = absurd (never (at true is))
    by_broken false is =
        let whole = plays_sound old.session (playing new) row answers (at false is) faultless in
        let same : new.session ≡ session_after old.session row =
        ap (λ (b : Playing). b.session) whole.1 in
        record {
          sound = is;
          replied = whole.0;
          session = same;
          durable = (steps_left state old new row answers steps).durable
              ∙ ap (λ (all : List Reply). unwrap_or (last_acked all) old.durable) whole.0
              ∙ ap (λ (o : Option ℕ). unwrap_or o old.durable) last
              ∙ sym (ap (λ (s : Session). s.state.count) same);
        }

-- A book of whose row something is reported has replied as its session.
pub played_whole : {D : Type 0} (state : D → DiskState) (old new : BookView D) (p : State)
    (names : Names) (commands : List Command) (chosen : List ℕ) (answers : List Reply)
    (begun : List Begun) → IsReached old
    → StepsOn state old (row_of p names commands chosen) answers new
    → begins_reported chosen answers ≡ Some begun
    → IsPlayedWhole old (row_of p names commands chosen) answers new
played_whole state old new p names commands chosen answers begun reached played reported =
    whole_row state old new (row_of p names commands chosen) answers reached played
    (no_fault chosen answers begun reported)
    (λ never. stuck_reports old.session (playing new) p names commands chosen answers begun never
    reported)
    (last_of_row old.session p names commands chosen)

-- ---- a step and its flush

taken_no_fault : (answers : List Reply) → list_all is_carried_out answers ≡ true
    → list_any is_fault answers ≡ false
taken_no_fault [] e = refl
taken_no_fault (reply.Answer a ∷ answers) e = taken_no_fault answers e
taken_no_fault (reply.Acked a ∷ answers) e = taken_no_fault answers e
taken_no_fault (reply.Started a ∷ answers) e = cc
taken_no_fault (reply.Finished a ∷ answers) e = cc
taken_no_fault (reply.Refused a ∷ answers) e = cc
taken_no_fault (reply.Faulty a ∷ answers) e = cc

-- A broken book takes no step.
stuck_takes_none : (s : Session) (end : Playing) (x : Step) (steps : List Step)
    (answers : List Reply) → Plays (stuck s) (x ∷ steps) answers end
    → list_all is_carried_out answers ≡ true → ⊥
stuck_takes_none s end x steps [] played e = absurd played
stuck_takes_none s end x steps (r ∷ answers) played e =
    cc (ap (λ (q : Reply). list_all is_carried_out (q ∷ answers)) played.0, e)

pub taken_whole : {D : Type 0} (state : D → DiskState) (old new : BookView D) (x : Step)
    (answers : List Reply) → IsReached old
    → StepsOn state old (x ∷ step.Flush ∷ []) answers new
    → list_all is_carried_out answers ≡ true
    → IsPlayedWhole old (x ∷ step.Flush ∷ []) answers new
taken_whole state old new x answers reached played taken =
    whole_row state old new (x ∷ step.Flush ∷ []) answers reached played
    (taken_no_fault answers taken)
    (λ never. stuck_takes_none old.session (playing new) x (step.Flush ∷ []) answers never taken)
    refl
