-- The effect of a run on a disk.
use Rattle.std.proofs.Common.{◌≡◌, ◌-◌, ◌++◌, ℕ, List, true, Ok}
use Rattle.std.proofs.Common.{arith, ap, inl, inr, refl, subst, sym, ◌∙◌}
use Rattle.std.specs.List.{list_all}
use Rattle.std.specs.Prelude.{Result, Err, IfOk}
use Rattle.run_model.specs.declared.faults.Trouble.{Trouble}
use Rattle.run_model.specs.Allowed.{run}
use Rattle.run_model.specs.Event.{Event}
use Rattle.run_model.specs.State.{State}
use Rattle.run_disk.specs.Disk.{DiskState, IsAtRest}
use Rattle.run_disk.specs.Runs.{LeavesOnly}
use Rattle.run_disk.proofs.RunLemmas.{leaves_only_more}
use Rattle.run_model.specs.Session.{begun_at}
use Rattle.run_session.specs.Replays.{Replays}
use Rattle.book_model.specs.Books.{BookView, IsDurable, IsSafe}
use Rattle.book_model.specs.Openings.{Opens}
use Rattle.book_model.specs.Stores.{Stores, StoresPrefix, StoresOpened, restarted}
use Rattle.book_model.proofs.BookLemmas.{saved_stores, stores_fewer}
use Rattle.book_model.proofs.Storing.{stores_one}
use Rattle.run_crew.specs.Openings.{CarriesFrom, is_work, opened_of}
use Rattle.run_crew.specs.Crews.{AcksNight, KeepsNight, StoresNight}
use Rattle.run_crew.proofs.Working.{no_history}

pub opened_night : (p : State) (work : List Event) (x : List ℕ) → StoresOpened p x
    → StoresNight p work x
opened_night p work x (inl before) = inl before
opened_night p work x (inr after) =
    inr (record {
      state = restarted p;
      prefix = record {
        many = 0;
        enough = omega arith;
        within = omega arith;
        reached = refl;
      };
      stores = after;
    })

module _ {D : Type 0} (state : D → DiskState) (given : D) (b : BookView D)
    (opens : Opens state given (Ok b)) (begun : b.session ≡ begun_at b.session.start)
    (honest : (state given).honest) (rest : IsAtRest (state given)) (p : State)
    (stores : Stores (state given).now p) (h : BookView D)
    (on : CarriesFrom (opened_of state b) state h) where
  start : b.session.start ≡ restarted p
  start =
      let opened = opens.answer in
      ap (λ s. s.start) opened.opened.session
      ∙ ap restarted (stores_one (state given).now opened.stored p
      (opened.found.stores honest) stores)

  honest_then : (state b.journal.disk).honest
  honest_then = opens.answer.opened.passed.honest honest

  rest_then : IsAtRest (state b.origin)
  rest_then = subst (λ d. IsAtRest (state d)) (sym opens.answer.opened.origin) rest

  pub keeps_night : (left : D) → h.journal.disk ≡ left
      → KeepsNight p h.session.history (state given) (state left)
  keeps_night left is =
      let only : list_all is_work h.session.history ≡ true =
      ap (λ l. list_all is_work l) (on.more ∙ ap (λ l. l ++ on.added) (no_history b begun))
      ∙ on.only refl in
      let least = b.durable - b.session.start.count in
      record {
        only = only;
        any_moment =
            subst (λ d. LeavesOnly (StoresNight p h.session.history) (state given) (state d)) is
            (leaves_only_more
            (StoresOpened p) (StoresPrefix b.session.start h.session.history least)
            (StoresNight p h.session.history)
            (state given) (state b.journal.disk) (state h.journal.disk)
            (opens.any_moment honest rest p stores) (on.any_moment honest_then rest_then)
            (λ x s. opened_night p h.session.history x s)
            (λ x s.
            inr (stores_fewer (restarted p) h.session.history least 0 x (omega arith)
            (subst (λ q. StoresPrefix q h.session.history least x) start s))));
      }

  pub safe_night : IsSafe state h
  safe_night = record {
    honest = on.passed.honest honest_then;
    rest = on.rest rest_then;
  }

  pub start_night : h.session.start ≡ restarted p
  start_night = on.start ∙ start

  pub acks_night : (left : D) (n : ℕ) → h.journal.disk ≡ left → Replays h.session
      → IsDurable state h → n ≡ h.session.state.count → h.durable ≡ n
      → AcksNight p h.session.history n (state left)
  acks_night left n is replays durable counted acked =
      record {
        state = h.session.state;
        reached = ap (λ q. run q h.session.history) (sym start_night) ∙ replays.replays;
        counted = counted;
        stores = subst
            (λ e. (x : List ℕ) → (state e).images x → Stores x h.session.state) is
            (λ x image.
            saved_stores state h x durable safe_night (acked ∙ counted) replays.replays image);
      }

  pub acks_reported : (left : D) (r : Result ℕ Trouble) → h.journal.disk ≡ left → Replays h.session
      → IsDurable state h
      → IfOk r (λ count. (count ≡ h.session.state.count) × (h.durable ≡ count))
      → IfOk r (λ n. AcksNight p h.session.history n (state left))
  acks_reported left (Ok n) is replays durable acked =
      acks_night left n is replays durable acked.0 acked.1
  acks_reported left (Err why) is replays durable acked = tt
