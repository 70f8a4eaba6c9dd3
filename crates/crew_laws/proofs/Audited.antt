-- The notes of a night whose audit found no difference.
use Rattle.run_model.proofs.Common.{◌≡◌, ◌∙◌, ◌≤◌, ◌==◌, ℕ, true, List, Option, Ok, Err, ap, arith}
use Rattle.run_model.proofs.Common.{cond, inl, inr, list_all, refl, Result, run, Session, Some}
use Rattle.run_model.proofs.Common.{State, sym, ⊤}
use Rattle.std.proofs.lemmas.List.Sorted.{sum_by-IsPermutation}
use Rattle.run_model.specs.Event as event
use Rattle.run_model.specs.declared.faults.Trouble.{Trouble}
use Rattle.run_disk.specs.Disk.{DiskState, IsAtRest}
use Rattle.book_model.specs.Books.{BookView}
use Rattle.book_model.specs.Openings.{HasOpened}
use Rattle.book_model.specs.Stores.{Stores, restarted}
use Rattle.run_crew.specs.declared.audits.Strayed.{Strayed}
use Rattle.run_crew.specs.declared.notes.Note.{Note}
use Rattle.run_crew.specs.Audits.{NoneLeft, made_at}
use Rattle.run_crew.specs.Crews.{CrewEnds, IsReported}
use Rattle.run_crew.specs.Desks.{finishes_of, starts_of}
use Rattle.run_crew.specs.Notes.{all_notes, noted}
use Rattle.run_crew.specs.Openings.{CarriesFrom, From, Known, is_work, opened_of}
use Rattle.crew_laws.specs.Audits.{IsAudited, notes_of}
use Rattle.crew_laws.proofs.Balanced.{balanced}
use Rattle.crew_laws.proofs.Ended.{ended_by}
use Rattle.crew_laws.proofs.Noted.{NotedOnce, noted_once}

-- A failed flush isn't answered by Ok(true).
no_failed_flush : (audited : Result ⊤ Strayed) (why : Trouble) (starts finishes : ℕ)
    (w0 w1 : Option (List ℕ)) → IsReported audited starts finishes (Err why) (Ok true) w0 w1 → ⊥
no_failed_flush audited why starts finishes w0 w1 (inl printed) = let is = printed.0 in absurd (cc)
no_failed_flush audited why starts finishes w0 w1 (inr printed) = let is = printed.0 in absurd (cc)

-- Neither is an audit that found a difference.
no_difference : (strayed : Strayed) (count starts finishes : ℕ) (w0 w1 : Option (List ℕ))
    → IsReported (Err strayed) starts finishes (Ok count) (Ok true) w0 w1 → ⊥
no_difference strayed count starts finishes w0 w1 (inl printed) =
    let is = printed.0 in absurd (cc)
no_difference strayed count starts finishes w0 w1 (inr printed) =
    let is = printed.0 in absurd (cc)

-- If no task is left of a book that was opened, its history has as many starts as finishes.
starts_finished : {D : Type 0} (state : D → DiskState) (given : D) (b h : BookView D)
    → HasOpened state given b → CarriesFrom (opened_of state b) state h
    → run h.session.start h.session.history ≡ Some h.session.state
    → list_all is_work h.session.history ≡ true → NoneLeft h.session.state.work
    → starts_of h.session.history ≡ finishes_of h.session.history
starts_finished state given b h opened on led only none =
    let start : h.session.start ≡ restarted opened.stored =
    on.start ∙ ap (λ (s : Session). s.start) opened.opened.session in
    balanced opened.stored h.session.state h.session.history
    (ap (λ q. run q h.session.history) (sym start) ∙ led) only none

module _ {D : Type 0} (state : D → DiskState) (Shifts : Known → List (List Note) → ℕ → Type 0)
    (Whole : Known → List (List Note) → Type 0)
    (are_whole : (known : Known) (lists : List (List Note)) (starts : ℕ)
    → Shifts known lists starts → starts ≤ noted lists → Whole known lists)
    (given left : D) (p : State) (workers : ℕ) (w0 w1 : Option (List ℕ)) where
  pub audited_night : CrewEnds state Shifts given workers (Ok true) left w0 w1
      → (state given).honest → IsAtRest (state given) → Stores (state given).now p
      → IsAudited state Whole p workers given left
  audited_night (inl (why, answer, opens, same, promises)) honest rest stores = absurd (cc)
  audited_night (inr (b, opened, begun, inl (answer, same, promises))) honest rest stores =
      absurd (cc)
  audited_night
      (inr (b, opened, begun, inr (audited, starts, finishes, Err why, worked, reported, promises)))
      honest rest stores = absurd (no_failed_flush audited why starts finishes w0 w1 reported)
  audited_night
      (inr (
        b,
        opened,
        begun,
        inr (Err strayed, starts, finishes, Ok n, worked, reported, promises),
      ))
      honest rest stores = absurd (no_difference strayed n starts finishes w0 w1 reported)
  audited_night
      (inr (b, opened, begun, inr (Ok done, starts, finishes, Ok n, worked, reported, promises)))
      honest rest stores =
      let kept = promises honest rest p stores in
      let acks = kept.1 in
      let begun = worked.started in
      let ended = worked.finished in
      let each = worked.each_is_noted in
      let same_number = starts_finished state given b worked.desk.book opened worked.carries
      worked.replays.replays kept.0.only worked.audit.none_left in
      let d = worked.desk in
      let noted : (task : ℕ)
      → NotedOnce (restarted p) acks.state task (notes_of task (made_at d)) =
      λ task. noted_once (restarted p) acks.state task d.since d.book.session.start.count
      d.book.session.history acks.reached in
      let same : (task : ℕ)
      → notes_of task (all_notes worked.lists) ≡ notes_of task (made_at d) =
      λ task. sum_by-IsPermutation (λ (y : Note). cond (y.task == task) 1 0) (made_at d)
      (all_notes worked.lists) worked.exactly in
      record {
        book = b;
        opened = opened;
        lists = worked.lists;
        shifts = are_whole (From (opened_of state b)) worked.lists starts worked.shifts
            (omega (arith, begun, ended, each, same_number));
        each_has_a_list = worked.each_has_a_list;
        last = acks.state;
        stores = acks.stores;
        once = λ task. let s = same task in let o = (noted task).once in omega (arith, s, o);
        ended = λ task some. let s = same task in (noted task).ended (omega (arith, s, some));
        never =
            λ task has.
            let s = same task in
            let none = (noted task).never (ended_by p event.Restart task refl has) in
            omega (arith, s, none);
      }
