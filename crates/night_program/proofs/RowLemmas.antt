-- Runs of the program, one after another: what they leave of a store.
use Rattle.std.proofs.Common.{◌≡◌, ◌⊎◌, ◌≤◌, ◌+◌, ◌∙◌, ◌∷◌, [], ℕ, List, ap, arith, inl, inr}
use Rattle.std.proofs.Common.{refl, subst, sym, Option, None, Ok, Err, true, length}
use Rattle.std.specs.List.{list_all}
use Rattle.std.proofs.lemmas.List.{take_all}
use Rattle.std.specs.Prelude.{Bool, Result, unwrap_or}
use Rattle.run_model.specs.Allowed.{IsPrefix, run}
use Rattle.run_model.specs.Event.{Event}
use Rattle.run_model.specs.State.{State, formatted}
use Rattle.run_disk.specs.Disk.{DiskState, IsDisk}
use Rattle.state_renewal.specs.Renewed.{renewed_in}
use Rattle.book_model.specs.Books.{acked}
use Rattle.book_model.specs.Migrations.{widened}
use Rattle.book_model.specs.Plays.{last_acked}
use Rattle.book_model.specs.Standing.{CutsOpening, Finds, LiesWith}
use Rattle.book_model.specs.Stores.{Stores, restarted}
use Rattle.run_crew.specs.Openings.{is_work}
use Rattle.console_lines.specs.declared.faults.RunFault.{RunFault}
use Rattle.run_crew.specs.Crews.{AcksNight, CrewEnds, StoresNight}
use Rattle.night_program.specs.Crews.{AreOpenShifts}
use Rattle.drive_runs.proofs.Lasting.{crash_finds, opening_finds}
use Rattle.night_program.specs.Lasting.{CutsAnswers, CutsCrew, Driving, Formatting, Leads}
use Rattle.night_program.specs.Lasting.{Migrating, Reading, Renewing}
use Rattle.night_program.specs.Lasting.{Run, RunLeaves, RunsLeave, Scripting, StoresAfterRuns}
use Rattle.night_program.specs.Lasting.{Working, flushed_by}
use Rattle.night_program.proofs.LastingLemmas.{crew_is_found}
use Rattle.store_words.specs.Lasting.{FindsLeft, LeadsBy}
use Rattle.night_program.proofs.LineLemmas.{lines_led}
use Rattle.store_words.proofs.WordLemmas.{IsLedBy, format_leaves, prefix_led, lies_read}
use Rattle.store_words.proofs.WordLemmas.{made_lies, migrate_leaves, opened_led, renew_leaves}

-- ---- what a night leads to

night_led : (p : State) (work : List Event) (x : List ℕ) → StoresNight p work x
    → IsLedBy p work 0 x
night_led p work x (inl before) = record {
  state = p;
  leads = record { prefix = inl refl; holds = omega arith };
  stores = before;
}
night_led p work x (inr after) = record {
  state = after.state;
  leads = prefix_led p after.state work 0 0 after.prefix (omega arith);
  stores = after.stores;
}

module _ {D : Type 0} (state : D → DiskState) (disk : (d : D) → IsDisk (state d)) where
  -- ---- crews

  acks_led : (p : State) (work : List Event) (n : ℕ) (x : List ℕ) (left : D)
      → AcksNight p work n (state left) → (state left).images x → IsLedBy p work n x
  acks_led p work n x left acks image = record {
    state = acks.state;
    leads = record {
      prefix = inr (record {
        many = length work;
        enough = omega arith;
        within = omega arith;
        reached = ap (λ es. run (restarted p) es) (take_all (length work) work (omega arith))
            ∙ acks.reached;
      });
      holds = omega (arith, acks.counted);
    };
    stores = acks.stores x image;
  }

  -- The bytes store what a crew's events lead to.
  record IsWorkLed (p : State) (n : ℕ) (bytes : List ℕ) : Type 0 where
    pub work : List Event
    pub only : list_all is_work work ≡ true
    pub led : IsLedBy p work n bytes

  crew_led : (given left next : D) (p : State) (workers : ℕ) (answer : Result Bool RunFault)
      (w0 w1 : Option (List ℕ)) → LiesWith state given p
      → CrewEnds state (AreOpenShifts state) given workers answer left w0 w1
      → FindsLeft state given left next
      → IsWorkLed p 0 (state next).now
  crew_led given left next p workers answer w0 w1 lies ends finds =
      let found = crew_is_found state given left next p workers answer w0 w1 lies ends finds in
      record {
        work = found.work;
        only = found.only;
        led = night_led p found.work (state next).now found.stores;
      }

  crew_later : (given left : D) (p : State) (workers : ℕ) (answer : Result Bool RunFault)
      (w0 w1 : Option (List ℕ)) → LiesWith state given p
      → CrewEnds state (AreOpenShifts state) given workers answer left w0 w1
      → (state given).clock ≤ (state left).clock
  crew_later given left p workers answer w0 w1 lies (inl (why, reported, opens, same, promises)) =
      (promises lies.honest lies.rest p lies.stores).later
  crew_later given left p workers answer w0 w1 lies
      (inr (b, opened, begun, inl (fault, same, promises))) =
      (promises lies.honest lies.rest p lies.stores).1.any_moment.later
  crew_later given left p workers answer w0 w1 lies
      (inr (b, opened, begun, inr (audited, starts, finishes, flushed, worked, reported, promises)))
      =
      (promises lies.honest lies.rest p lies.stores).0.any_moment.later

  sooner : (given left next : D) → (state given).clock ≤ (state left).clock
      → FindsLeft state left left next → FindsLeft state given left next
  sooner given left next later finds = record {
    honest = finds.honest;
    rest = finds.rest;
    content = (disk left).earlier (state given).clock (state left).clock (state next).now later
        (omega arith) finds.content;
  }

  night_acked : (given left next : D) (p : State) (workers : ℕ) (answer : Result Bool RunFault)
      (w0 w1 : Option (List ℕ)) → LiesWith state given p
      → (ends : CrewEnds state (AreOpenShifts state) given workers answer left w0 w1)
      → FindsLeft state left left next
      → IsWorkLed p (unwrap_or (flushed_by state given workers answer left w0 w1 ends) 0)
      (state next).now
  night_acked given left next p workers answer w0 w1 lies
      (inl (why, reported, opens, same, promises)) finds =
      let ends = inl (why, reported, opens, same, promises) in
      crew_led given left next p workers answer w0 w1 lies ends
      (sooner given left next (crew_later given left p workers answer w0 w1 lies ends) finds)
  night_acked given left next p workers answer w0 w1 lies
      (inr (b, opened, begun, inl (fault, same, promises))) finds =
      let ends = inr (b, opened, begun, inl (fault, same, promises)) in
      crew_led given left next p workers answer w0 w1 lies ends
      (sooner given left next (crew_later given left p workers answer w0 w1 lies ends) finds)
  night_acked given left next p workers answer w0 w1 lies
      (inr (b, opened, begun, inr (audited, starts, finishes, Err why, worked, reported, promises)))
      finds =
      let ends =
      inr (b, opened, begun, inr (audited, starts, finishes, Err why, worked, reported, promises))
      in
      crew_led given left next p workers answer w0 w1 lies ends
      (sooner given left next (crew_later given left p workers answer w0 w1 lies ends) finds)
  night_acked given left next p workers answer w0 w1 lies
      (inr (b, opened, begun, inr (audited, starts, finishes, Ok n, worked, reported, promises)))
      finds =
      let kept = promises lies.honest lies.rest p lies.stores in
      let work = worked.desk.book.session.history in
      record {
        work = work;
        only = kept.0.only;
        led = acks_led p work n (state next).now left kept.1
            ((disk left).only_now (state next).now finds.content);
      }

  cut_crew_led : (given next : D) (p : State) (reported : Option ℕ) → LiesWith state given p
      → CutsCrew state given reported next → IsWorkLed p (unwrap_or reported 0) (state next).now
  cut_crew_led given next p reported lies cut = by cut.cut
    where
      ends : CrewEnds state (AreOpenShifts state) given cut.workers cut.answer cut.left cut.w0
          cut.w1
      ends = cut.ends

      by : ((reported ≡ None) × FindsLeft state given cut.left next)
          ⊎ ((reported
          ≡ flushed_by state given cut.workers cut.answer cut.left cut.w0 cut.w1 cut.ends)
          × FindsLeft state cut.left cut.left next)
          → IsWorkLed p (unwrap_or reported 0) (state next).now
      by (inl (none, finds)) =
          subst (λ o. IsWorkLed p (unwrap_or o 0) (state next).now) (sym none)
          (crew_led given cut.left next p cut.workers cut.answer cut.w0 cut.w1 lies ends finds)
      by (inr (is, finds)) =
          subst (λ o. IsWorkLed p (unwrap_or o 0) (state next).now) (sym is)
          (night_acked given cut.left next p cut.workers cut.answer cut.w0 cut.w1 lies ends finds)

  -- ---- any run

  -- What a run leads to lies on the disk that is found.
  record IsLed (p : State) (run : Run) (next : D) : Type 0 where
    pub state_then : State
    pub leads : Leads p run state_then
    pub lies : LiesWith state next state_then

  found_by : (p : State) (run : Run) (left : List ℕ → Type 0) (next : D)
      → Finds state left next → (q : State) → Leads p run q → Stores (state next).now q
      → IsLed p run next
  found_by p run left next finds q leads stores = record {
    state_then = q;
    leads = leads;
    lies = record { honest = finds.honest; rest = finds.rest; stores = stores };
  }

  run_led : (given next : D) (p : State) (run : Run) → LiesWith state given p
      → RunLeaves state given run next → IsLed p run next
  run_led given next p Reading lies (read, alone, finds) =
      let reads = alone.reads lies.honest in
      let same : (state next).now ≡ (state given).now =
      lies.rest.only (state next).now (reads.each (state next).now finds.content) in
      found_by p Reading _ next finds p refl
      (subst (λ x. Stores x p) (sym same) lies.stores)
  run_led given next p (Scripting events reported) lies (inl (none, cuts)) =
      let left = cuts.opens.any_moment lies.honest lies.rest p lies.stores in
      let led = opened_led p events (state next).now
      (left.each (state next).now cuts.finds.content) in
      found_by p (Scripting events reported) _ next cuts.finds led.state
      (subst (λ rs. LeadsBy p events (unwrap_or (last_acked rs) 0) led.state) (sym none) led.leads)
      led.stores
  run_led given next p (Scripting events reported) lies (inr cuts) =
      let led = lines_led state disk given next p events reported lies cuts in
      found_by p (Scripting events reported) _ next cuts.finds led.state led.leads led.stores
  run_led given next p (Working reported) lies cuts =
      let led = cut_crew_led given next p reported lies cuts in
      record {
        state_then = led.led.state;
        leads = (led.work, led.only, led.led.leads);
        lies = crew_lies cuts.cut led.led.state led.led.stores;
      }
    where
      crew_lies : {A B : Type 0} {left : D}
          → (A × FindsLeft state given left next) ⊎ (B × FindsLeft state left left next)
          → (q : State) → Stores (state next).now q → LiesWith state next q
      crew_lies (inl (is, finds)) q stores =
          record { honest = finds.honest; rest = finds.rest; stores = stores }
      crew_lies (inr (is, finds)) q stores =
          record { honest = finds.honest; rest = finds.rest; stores = stores }
  run_led given next p (Formatting layout) lies cuts =
      let ends = cuts.ends in
      record {
        state_then = formatted layout;
        leads = refl;
        lies = made_lies state disk _ next (formatted layout) cuts
            (format_leaves state disk cuts.made cuts.left layout ends.1 ends.2 ends.3 cuts.honest
            cuts.zeros ends.0 ends.4);
      }
  run_led given next p Migrating lies cuts =
      let ends = cuts.ends in
      let looked = lies_read state disk given ends.0 p ends.1 lies in
      record {
        state_then = widened p;
        leads = refl;
        lies = made_lies state disk _ next (widened p) cuts
            (migrate_leaves state disk ends.0 cuts.made ends.3 cuts.left p ends.2 looked cuts.honest
            cuts.zeros ends.4);
      }
  run_led given next p (Renewing layout) lies cuts =
      let ends = cuts.ends in
      let looked = lies_read state disk given ends.1 p ends.2 lies in
      record {
        state_then = renewed_in layout p;
        leads = refl;
        lies = made_lies state disk _ next (renewed_in layout p) cuts
            (renew_leaves state disk ends.1 cuts.made ends.4 cuts.left p layout ends.3 looked
            cuts.honest cuts.zeros ends.0 ends.5);
      }
  run_led given next p (Driving openings events reported) lies cuts = by cuts.cut
    where
      by : ((reported ≡ 0) × CutsOpening state cuts.middle next)
          ⊎ CutsAnswers state cuts.input cuts.middle cuts.to events reported next
          → IsLed p (Driving openings events reported) next
      by (inl (none, cut)) =
          let found = opening_finds state disk cuts.input openings given cuts.middle next cuts.at
          cuts.to p lies cuts.sittings cut in
          let led = opened_led found.0 events (state next).now found.2 in
          found_by p (Driving openings events reported) _ next cut.finds led.state (
            found.0,
            found.1,
            subst (λ n. LeadsBy found.0 events n led.state) (sym none) led.leads,
          )
          led.stores
      by (inr cut) =
          let m = cut.middle in
          let found = crash_finds state disk cuts.input openings cut.count given cuts.middle next
          cuts.at cuts.to cut.to p cut.before m cut.after lies cuts.sittings cut.opened cut.answers
          cut.goes_on cut.finds in
          let q = found.0 in
          let left = found.2.1 in
          let least : reported ≤ (restarted q).count + acked m =
          omega (arith, cut.acked, ap (λ (s : State). s.count) found.2.0) in
          found_by p (Driving openings events reported) _ next cut.finds left.state (
            q,
            found.1,
            prefix_led q left.state events (acked m) reported
                (subst (λ es. IsPrefix (restarted q) es (acked m) left.state) cut.history
                left.prefix)
                least,
          )
          left.stores

  -- ---- any runs

  pub runs_led : (given next : D) (p : State) (runs : List Run) → LiesWith state given p
      → RunsLeave state given runs next → StoresAfterRuns p runs (state next).now
  runs_led given next p [] lies same = record {
    state = p;
    stores = subst (λ d. Stores (state d).now p) (sym same) lies.stores;
    leads = refl;
  }
  runs_led given next p (run ∷ runs) lies (found, one, rest) =
      let first = run_led given found p run lies one in
      let more = runs_led found next first.state_then runs first.lies rest in
      record {
        state = more.state;
        stores = more.stores;
        leads = (first.state_then, first.leads, more.leads);
      }
