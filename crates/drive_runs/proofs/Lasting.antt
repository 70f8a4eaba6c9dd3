-- What a run leaves of a store after some openings, and what a crash leaves after that.
use Rattle.std.specs.Prelude.{◌≡◌, ℕ, zero, suc, List, Option, Some, Ok}
use Rattle.std.proofs.Common.{refl, sym, ap, subst, ◌∙◌}
use Rattle.run_model.specs.Allowed.{run}
use Rattle.run_model.specs.State.{State}
use Rattle.run_disk.specs.Disk.{DiskState, IsDisk}
use Rattle.book_model.specs.Books.{BookView, CarriesOn, IsReached, IsSafe, acked}
use Rattle.book_model.specs.Openings.{Opens}
use Rattle.book_model.specs.Standing.{CutsOpening, Finds, LiesWith}
use Rattle.book_model.specs.Stores.{StoresOpened, StoresPrefix, restarted}
use Rattle.book_model.proofs.BookLemmas.{left_any_moment, safe_on}
use Rattle.book_model.proofs.Machining.{opened_as}
use Rattle.book_model.proofs.Rows.{row_carries, row_steps}
use Rattle.book_model.proofs.Stepping.{steps_play}
use Rattle.drive_runs.specs.Laws.{Reaches}
use Rattle.drive_runs.specs.Moving.{Moves}
use Rattle.drive_runs.specs.Runs.{Answers, Place, Sittings}
use Rattle.drive_runs.proofs.Moving.{moves_none, moves_then}

module _ {D : Type 0} (state : D → DiskState) (disk : (d : D) → IsDisk (state d))
    (input : Option (List ℕ)) where
  answers_move : (n : ℕ) (at to : Place) (a b : BookView D) → Answers state input n at a to b
      → Moves state a b
  answers_move zero at to a b (stays, same) =
      subst (λ (c : BookView D). Moves state a c) (sym same) (moves_none state a)
  answers_move (suc n) at to a b (middle, between, first, turn) =
      moves_then state a between b (answers_move n at middle a between first) turn.moves

  -- A book that was opened over a disk that stores a state, after some steps.
  record Went (q : State) (b c : BookView D) : Type 0 where
    on : CarriesOn state b c
    reached : IsReached c
    safe : IsSafe state c
    start : c.session.start ≡ restarted q

  went : (given : D) (q : State) (b c : BookView D) → LiesWith state given q
      → Opens state given (Ok b) → Moves state b c → Went q b c
  went given q b c lies opened (steps, answers, row) =
      let holds = opened_as state given q b lies opened in
      let on = row_carries state b c steps answers disk holds.durable row in
      record {
        on = on;
        reached =
            (steps_play state b c steps answers holds.reached
            (row_steps state b c steps answers row)).reached;
        safe = safe_on state b c on holds.safe;
        start = on.start ∙ sym (ap (λ m. m.session.start) holds.book);
      }

  pub sittings_store : (n : ℕ) (given left : D) (at to : Place) (p : State)
      → LiesWith state given p → Sittings state input n given at left to
      → Reaches n p (λ q. LiesWith state left q)
  sittings_store zero given left at to p lies (same, stays) =
      (p, refl, subst (λ (d : D). LiesWith state d p) (sym same) lies)
  sittings_store (suc n) given left at to p lies (middle, between, first, last) =
      let earlier = sittings_store n given middle at between p lies first in
      let q = earlier.0 in
      let sitting = last.sitting in
      let b = sitting.before in
      let c = last.settled in
      let is = went middle q b c earlier.2 sitting.opened
      (moves_then state b last.last c
      (answers_move sitting.count between last.place b last.last sitting.answers) last.moves) in (
        c.session.state,
        (
          q,
          c.session.history,
          earlier.1,
          subst (λ (r : State). run r c.session.history ≡ Some c.session.state) is.start is.reached,
        ),
        subst (λ (d : D). LiesWith state d c.session.state) (sym last.disk) (last.stores is.safe),
      )

  pub opening_finds : (n : ℕ) (given middle next : D) (at to : Place) (p : State)
      → LiesWith state given p → Sittings state input n given at middle to
      → CutsOpening state middle next → Reaches n p (λ q. StoresOpened q (state next).now)
  opening_finds n given middle next at to p lies sittings cut =
      let earlier = sittings_store n given middle at to p lies sittings in
      let q = earlier.0 in
      let is = earlier.2 in (
        q,
        earlier.1,
        (cut.opens.any_moment is.honest is.rest q is.stores).each (state next).now
            cut.finds.content,
      )

  pub crash_finds : (n k : ℕ) (given middle next : D) (at between to : Place) (p : State)
      (b m c : BookView D) → LiesWith state given p
      → Sittings state input n given at middle between → Opens state middle (Ok b)
      → Answers state input k between b to m → Moves state m c
      → Finds state ((state c.journal.disk).since (state m.journal.disk).clock) next
      → Reaches n p (λ q. (m.session.start ≡ restarted q)
      × StoresPrefix (restarted q) c.session.history (acked m) (state next).now)
  crash_finds n k given middle next at between to p b m c lies sittings opened answers
      (steps, replies, row) finds =
      let earlier = sittings_store n given middle at between p lies sittings in
      let q = earlier.0 in
      let is = went middle q b m earlier.2 opened (answers_move k between to b m answers) in
      let on = row_carries state m c steps replies disk is.on.images row in (
        q,
        earlier.1,
        (
          is.start,
          subst (λ (r : State). StoresPrefix r c.session.history (acked m) (state next).now)
              is.start (left_any_moment state m c (state next).now on is.safe finds.content),
        ),
      )
