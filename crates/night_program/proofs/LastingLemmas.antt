-- What a night, or a script that was cut, leaves of a store, and what the next opening finds.
use Rattle.std.proofs.Common.{◌∙◌, arith, inl, inr, refl, subst}
use Rattle.std.specs.Prelude.{ℕ, List, Bool, Option, Result, Ok, []}
use Rattle.run_model.specs.State.{State}
use Rattle.run_disk.specs.Disk.{DiskState}
use Rattle.run_disk.specs.Runs.{LeavesOnly}
use Rattle.run_disk.proofs.RunLemmas.{leaves_only_more}
use Rattle.book_model.specs.Books.{CarriesOn, BookView, acked}
use Rattle.book_model.specs.Openings.{Opens}
use Rattle.book_model.specs.Standing.{LiesWith}
use Rattle.book_model.specs.Stores.{StoresPrefix, StoresOpened, restarted}
use Rattle.book_model.proofs.BookLemmas.{stores_fewer}
use Rattle.console_lines.specs.declared.faults.RunFault.{RunFault}
use Rattle.run_crew.specs.Crews.{CrewEnds, StoresNight}
use Rattle.run_crew.proofs.PrintedNights.{opened_night}
use Rattle.night_program.specs.Crews.{AreOpenShifts}
use Rattle.night_program.specs.Lasting.{StoresWork}
use Rattle.store_words.specs.Lasting.{FindsLeft}
use Rattle.store_words.proofs.FoundLemmas.{safe_then, start_is}

module _ {D : Type 0} (state : D → DiskState) where
  pub cut_is_found : (given next : D) (p : State) (b c : BookView D) → LiesWith state given p
      → Opens state given (Ok b) → CarriesOn state b c
      → FindsLeft state given c.journal.disk next
      → StoresNight p c.session.history (state next).now
  cut_is_found given next p b c lies opens on finds =
      let all : LeavesOnly (StoresNight p c.session.history) (state given) (state c.journal.disk) =
      leaves_only_more (StoresOpened p) (StoresPrefix c.session.start c.session.history (acked b))
      (StoresNight p c.session.history) (state given) (state b.journal.disk) (state c.journal.disk)
      (opens.any_moment lies.honest lies.rest p lies.stores)
      (on.any_moment (safe_then state given p b lies opens))
      (λ x s. opened_night p c.session.history x s)
      (λ x s.
      inr (stores_fewer (restarted p) c.session.history (acked b) 0 x (omega arith)
      (subst (λ q. StoresPrefix q c.session.history (acked b) x)
      (on.start ∙ start_is state given p b lies opens) s))) in
      all.each (state next).now finds.content

  pub crew_is_found : (given left next : D) (p : State) (workers : ℕ)
      (answer : Result Bool RunFault) (w0 w1 : Option (List ℕ)) → LiesWith state given p
      → CrewEnds state (AreOpenShifts state) given workers answer left w0 w1
      → FindsLeft state given left next → StoresWork p (state next).now
  crew_is_found given left next p workers answer w0 w1 lies
      (inl (why, reported, opens, same, promises)) finds = record {
        work = [];
        only = refl;
        stores = opened_night p [] (state next).now
            ((promises lies.honest lies.rest p lies.stores).each (state next).now finds.content);
      }
  crew_is_found given left next p workers answer w0 w1 lies
      (inr (b, opened, begun, inl (fault, same, promises))) finds =
      let kept = promises lies.honest lies.rest p lies.stores in
      record {
        work = kept.0;
        only = kept.1.only;
        stores = kept.1.any_moment.each (state next).now finds.content;
      }
  crew_is_found given left next p workers answer w0 w1 lies
      (inr (b, opened, begun, inr (audited, starts, finishes, flushed, worked, reported, promises)))
      finds =
      let kept = (promises lies.honest lies.rest p lies.stores).0 in
      record {
        work = worked.desk.book.session.history;
        only = kept.only;
        stores = kept.any_moment.each (state next).now finds.content;
      }
