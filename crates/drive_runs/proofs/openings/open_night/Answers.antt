use Rattle.std.proofs.Common.{List, Option, ap, arith, inl, inr, refl, subst, sym}
use Rattle.std.proofs.Common.{◌≡◌, ◌∙◌, ℕ}
use Rattle.std.proofs.Common.{Bool, false, ◌&&◌, ◌≤◌, ◌^◌, nat_lt}
use Rattle.std.proofs.Math.Bool.{and-false}
use Rattle.std.proofs.lemmas.Bool.Decides.{nat_tests}
use Rattle.std.specs.List.{list_all}
use Rattle.run_model.specs.State.{State}
use Rattle.run_model.specs.declared.answers.Reply.{Reply}
use Rattle.run_model.specs.declared.commands.Step.{Step}
use Rattle.book_model.specs.Steps.{StepsOn}
use Rattle.drive_nights.specs.declared.untils.Until.{Until}
use Rattle.drive_nights.specs.Effects.{is_taken}
use Rattle.drive_nights.specs.Names.{is_short}
use Rattle.drive_nights.specs.Openings.{opening_of}
use Rattle.drive_steps.specs.Rooms.{are_housed}
use Rattle.drive_runs.specs.Faults.{first_fault}
use Rattle.drive_runs.specs.Opens.{can_open, hindered_by, opening_in}
use Rattle.drive_runs.proofs.Moving.{moves_then}
use Rattle.drive_runs.proofs.openings.open_night.Goals as goal
use Rattle.drive_runs.proofs.openings.open_night.Goals.{else-are_taken, then-are_taken}
use Rattle.drive_runs.proofs.openings.open_night.Goals.{
  then-night-ge-LATE-via-else-night-ge-LATE+then-not-are_short,
  then-night-ge-LATE-via-then-night-ge-LATE,
}

too_late : (night : ℕ) (short : Bool) → 10 ^ 10 ≤ night
    → (nat_lt night (10 ^ 10) && short) ≡ false
too_late night short late =
    let past : nat_lt night (10 ^ 10) ≡ false = grind (arith, nat_tests, late) in
    ap (λ (b : Bool). b && short) past

pub returns-then-night-ge-LATE-clause-opens : goal.returns-then-night-ge-LATE-clause-opens
returns-then-night-ge-LATE-clause-opens g c = inl (shut, refl, refl)
  where
    shut : can_open c.args.sitting.now ≡ false
    shut = elim c.then-night-ge-LATE.branch [
      | then-night-ge-LATE-via-then-night-ge-LATE w ↦
          too_late c.args.sitting.now.kept.night _ w.if-night-ge-LATE.true
      | then-night-ge-LATE-via-else-night-ge-LATE+then-not-are_short w ↦
          let night = c.args.sitting.now.kept.night in
          ap (λ (b : Bool). nat_lt night (10 ^ 10) && b)
          (ap (λ (l : List (List ℕ)). list_all (λ group. is_short group night) l)
          (sym w.as_slice.ensures.value) ∙ sym w.are_short.ensures ∙ w.if-not-are_short.true)
          ∙ and-false (nat_lt night (10 ^ 10))
    ]

pub returns-in_err-fault-clause-moves : goal.returns-in_err-fault-clause-moves
returns-in_err-fault-clause-moves g c =
    moves_then g.D.RunDisk.state _ _ _ c.play.ensures.moves c.end_others.ensures.moves

pub returns-clause-moves : goal.returns-clause-moves
returns-clause-moves g c =
    moves_then g.D.RunDisk.state _ _ _ c.play.ensures.moves c.end_others.ensures.moves

pub returns-clause-opens : goal.returns-clause-opens
returns-clause-opens g c =
    let s = c.args.sitting.now in
    let old = c.args.book.now in
    let mid = c.play.new.book in
    let night : ℕ = s.kept.night in
    let replies : List Reply = c.in_ok-replies.replies.items in
    let row : c.as_slice-4.result.now ≡ opening_in s old.session.state =
    c.as_slice-4.ensures.value ∙ c.in_ok-steps.ensures
    ∙ ap (λ (l : List (List ℕ)).
    opening_of c.state.result.now night l c.as_slice-3.result.now s.all)
    c.as_slice-2.ensures.value
    ∙ ap (λ (l : List (Option Until)). opening_of c.state.result.now night s.names.groups.items l
    s.all) c.as_slice-3.ensures.value
    ∙ ap (opening_in s) c.state.ensures.state in
    inr (inr (record {
      replies = replies;
      mid = mid;
      opened = subst (λ (l : List Step). StepsOn g.D.RunDisk.state old l replies mid) row
          c.in_ok-replies.ensures.played;
      sound = ap first_fault (sym c.as_slice-5.ensures.value) ∙ sym c.first_fault.ensures
          ∙ c.in_default.is;
      fault = c.in_ok-fault.fault;
      ended = c.in_ok-fault.ensures.ends;
      found_is = c.hindered_by.ensures ∙ ap (hindered_by c.in_ok-fault.fault) is_open;
    }))
  where
    taken : c.are_taken.result ≡ list_all is_taken c.in_ok-replies.replies.items
    taken =
        c.are_taken.ensures
        ∙ ap (λ (l : List Reply). list_all is_taken l) c.as_slice-6.ensures.value

    housed : Bool
    housed = are_housed c.end_others.new.book.session.state c.args.sitting.now.names

    is_open : c.if-are_taken.is_open
        ≡ (list_all is_taken c.in_ok-replies.replies.items
        && are_housed c.end_others.new.book.session.state c.args.sitting.now.names)
    is_open = elim c.if-are_taken.branch [
      | then-are_taken w ↦
          w.is_open-is ∙ w.are_housed-is_open.ensures
          ∙ ap (λ (p : State). are_housed p c.args.sitting.now.names)
          w.state-then-are_taken.ensures.state
          ∙ sym (ap (λ (b : Bool). b && housed) (sym taken ∙ w.if-are_taken.true))
      | else-are_taken w ↦
          w.is_open-is ∙ w.if-are_taken.false
          ∙ sym (ap (λ (b : Bool). b && housed) (sym taken ∙ w.if-are_taken.false))
    ]
