-- What a script leaves of a store, wherever it was cut, and what the next opening finds.
use Rattle.std.proofs.Common.{◌≡◌, ◌≤◌, ◌+◌, ◌-◌, ◌∙◌, ℕ, List, arith, inl, inr}
use Rattle.std.proofs.Common.{subst, Option, None, Some, Ok, Err}
use Rattle.std.specs.Prelude.{Result, IfErr, IfOk, unwrap_or}
use Rattle.run_model.specs.declared.answers.Reply.{Reply}
use Rattle.run_model.specs.Allowed.{IsPrefix}
use Rattle.run_model.specs.Event.{Event}
use Rattle.run_model.specs.State.{State}
use Rattle.run_disk.specs.Disk.{DiskState, IsDisk}
use Rattle.book_model.specs.Books.{BookView, acked}
use Rattle.book_model.specs.Plays.{last_acked}
use Rattle.book_model.specs.Standing.{LiesWith}
use Rattle.book_model.specs.Stores.{restarted}
use Rattle.book_model.proofs.Machining.{opened_as}
use Rattle.book_model.proofs.Rows.{row_carries, row_steps}
use Rattle.book_model.proofs.Stepping.{steps_left}
use Rattle.console_lines.specs.declared.faults.RunFault.{RunFault}
use Rattle.console_lines.specs.declared.rejections.RejectedLine.{RejectedLine}
use Rattle.run_console.specs.RunProgress.{RunEnds, RunStops}
use Rattle.run_console.specs.Timed.{timed_known}
use Rattle.run_console.specs.declared.untils.Until.{Until}
use Rattle.run_console.proofs.Prefixes.{stops_begin}
use Rattle.night_program.specs.CutScripts.{CutsLines, IsRunOver, RunsLines}
use Rattle.night_program.specs.Scripts.{EndsOver, Runs, RunsOver, ScriptEnds}
use Rattle.night_program.specs.Timed.{RunsTimed, TimedEnds}
use Rattle.store_words.specs.Lasting.{FindsLeft}
use Rattle.store_words.proofs.FoundLemmas.{held_is_found, start_is}
use Rattle.store_words.proofs.WordLemmas.{IsLedBy, prefix_led}

-- What a run says of both of its ends.
pub ran : {D : Type 0} (state : D → DiskState) (until : Until)
    (r : Result (Option RejectedLine) RunFault) (r0 r1 w0 w1 : Option (List ℕ)) (b c : BookView D)
    → IfOk r (λ stray. RunEnds state until stray b c r0 r1 w0 w1)
    → IfErr r (λ why. RunStops state until why b c r0 r1 w0 w1)
    → Runs state until r r0 r1 w0 w1 b c
ran state until (Ok stray) r0 r1 w0 w1 b c runs stops = runs
ran state until (Err why) r0 r1 w0 w1 b c runs stops = (
  stops,
  λ whole. stops_begin (subst (λ u. RunStops state u why b c r0 r1 w0 w1) whole stops),
)

module _ {D : Type 0} (state : D → DiskState) where
  -- How lines were run over a book, whatever else is said of it.
  run_over : (Ran : BookView D → BookView D → Type 0) (given left : D)
      → ((b c : BookView D) → Ran b c → RunsLines state b c) → RunsOver state Ran given left
      → RunsOver state (RunsLines state) given left
  run_over Ran given left is over = record {
    before = over.before;
    after = over.after;
    opened = over.opened;
    begun = over.begun;
    runs = is over.before over.after over.runs;
    lasts = over.lasts;
    carries_on = over.carries_on;
    disk = over.disk;
  }

  ends_over : {T : Type 0} (Ran : BookView D → BookView D → Type 0) (given left : D)
      (answer : Result T RunFault) (r0 r1 w0 w1 : Option (List ℕ))
      → ((b c : BookView D) → Ran b c → RunsLines state b c)
      → EndsOver state Ran given answer left r0 r1 w0 w1 → IsRunOver state given left
  ends_over Ran given left answer r0 r1 w0 w1 is (inl over) = inl (run_over Ran given left is over)
  ends_over Ran given left answer r0 r1 w0 w1 is (inr (why, reported, opens, unread, quiet)) =
      inr (why, opens)

  pub stored_over : (until : Until) (done : Result (Option RejectedLine) RunFault) (given left : D)
      (r0 r1 w0 w1 : Option (List ℕ)) → ScriptEnds state until given done left r0 r1 w0 w1
      → IsRunOver state given left
  stored_over until done given left r0 r1 w0 w1 ends =
      ends_over (Runs state until done r0 r1 w0 w1) given left done r0 r1 w0 w1
      (λ b c runs. (until, done, r0, r1, w0, w1, runs)) ends

  pub timed_over : (moments : Option (List ℕ)) (until : Until)
      (done : Result (Option RejectedLine) RunFault) (given left : D)
      (r0 r1 w0 w1 : Option (List ℕ))
      → TimedEnds moments state until given done left r0 r1 w0 w1 → IsRunOver state given left
  timed_over moments until done given left r0 r1 w0 w1 ends =
      ends_over (RunsTimed moments (λ s0 s1. Runs state until done s0 s1 w0 w1) r0) given left done
      r0 r1 w0 w1
      (λ b c runs.
      (until, done, timed_known b.session.state.tree.clock moments r0, runs.0, w0, w1, runs.1))
      ends

module _ {D : Type 0} (state : D → DiskState) (disk : (d : D) → IsDisk (state d)) where
  reported_below : (o : Option ℕ) (n durable count : ℕ) → n ≡ unwrap_or o durable
      → unwrap_or o 0 ≤ count + (n - count)
  reported_below None n durable count is = omega arith
  reported_below (Some k) n durable count is = omega (arith, is)

  pub lines_led : (given next : D) (p : State) (events : List Event) (reported : List Reply)
      → LiesWith state given p → CutsLines state given events reported next
      → IsLedBy p events (unwrap_or (last_acked reported) 0) (state next).now
  lines_led given next p events reported lies cut =
      let b = cut.over.before in
      let m = cut.middle in
      let c = cut.over.after in
      let opened = opened_as state given p b lies cut.over.opened in
      let first = row_carries state b m cut.first reported disk opened.durable cut.played in
      let second = row_carries state m c cut.second cut.unreported disk first.images cut.goes_on in
      let found = held_is_found state given next p b m c lies cut.over.opened first second
      (subst (λ d. FindsLeft state m.journal.disk d next) cut.over.disk cut.finds) in
      let left = steps_left state b m cut.first reported
      (row_steps state b m cut.first reported cut.played)
      in
      let start = first.start ∙ start_is state given p b lies cut.over.opened in
      let below = reported_below (last_acked reported) m.durable b.durable m.session.start.count
      left.durable in
      let least = subst (λ (q : State). unwrap_or (last_acked reported) 0 ≤ q.count + acked m) start
      below in
      record {
        state = found.state;
        leads = prefix_led p found.state events (acked m) (unwrap_or (last_acked reported) 0)
            (subst (λ es. IsPrefix (restarted p) es (acked m) found.state) cut.history found.prefix)
            least;
        stores = found.stores;
      }
