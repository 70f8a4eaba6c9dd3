use Rattle.std.specs.Prelude.{Option}
use Rattle.std.proofs.Common.{None, add-one, ap, arith, inl, inr, length, refl, subst, sym}
use Rattle.std.proofs.Common.{◌<◌, ◌≡◌, ◌∙◌, ℕ}
use Rattle.run_model.specs.State.{State}
use Rattle.drive_steps.specs.Rooms.{are_housed}
use Rattle.drive_runs.specs.declared.openings.Hindrance.{Hindrance}
use Rattle.drive_runs.specs.Grows.{AddsGroup, HasGroups}
use Rattle.drive_runs.specs.Opens.{hindered_by}
use Rattle.drive_runs.proofs.Moving.{moves_none, moves_then}
use Rattle.drive_runs.proofs.nights.missing_groups.Goals as goal

pub loop-g-init : goal.loop-g-init
loop-g-init g c = (refl, moves_none g.D.RunDisk.state c.args.book.now)

pub loop-g-preserved : goal.loop-g-preserved
loop-g-preserved g c = (
  subst (λ (n : ℕ). HasGroups g.D.RunDisk.state c.args.sitting.now n c.args.book.now
      c.missing_group.new.book) (sym (add-one c.loop-g.g)) (
        c.loop-g.book,
        c.loop-g.invariant.0,
        subst (λ (found : Option Hindrance). AddsGroup g.D.RunDisk.state c.args.sitting.now
            c.loop-g.g c.loop-g.book found c.missing_group.new.book) c.in_default.is
            c.in_ok-hindrance.ensures.adds,
      ),
  moves_then g.D.RunDisk.state _ _ _ c.loop-g.invariant.1 c.missing_group.ensures.moves,
)

pub returns-in_err-hindrance-clause-moves : goal.returns-in_err-hindrance-clause-moves
returns-in_err-hindrance-clause-moves g c =
    moves_then g.D.RunDisk.state _ _ _ c.loop-g.invariant.1 c.missing_group.ensures.moves

pub returns-in-Some-clause-moves : goal.returns-in-Some-clause-moves
returns-in-Some-clause-moves g c =
    moves_then g.D.RunDisk.state _ _ _ c.loop-g.invariant.1 c.missing_group.ensures.moves

pub returns-in-Some-clause-grows : goal.returns-in-Some-clause-grows
returns-in-Some-clause-grows g c =
    let s = c.args.sitting.now in
    let below : c.loop-g.g < length s.names.groups.items =
    omega (arith, c.loop-g-test.true, c.len-g-end.ensures, s.names.groups.ok) in
    inl (
      c.in-Some.hindrance,
      refl,
      record {
        g = c.loop-g.g;
        of_plan = below;
        between = c.loop-g.book;
        before = c.loop-g.invariant.0;
        refused = subst (λ (found : Option Hindrance). AddsGroup g.D.RunDisk.state s c.loop-g.g
            c.loop-g.book found c.missing_group.new.book) c.in-Some.is
            c.in_ok-hindrance.ensures.adds;
      },
    )

pub returns-clause-grows : goal.returns-clause-grows
returns-clause-grows g c =
    let s = c.args.sitting.now in
    let end : c.loop-g.g ≡ length s.names.groups.items =
    omega (
      arith,
      c.loop-g-test.false,
      c.loop-g.auto.g-end,
      c.len-g-end.ensures,
      s.names.groups.ok,
    ) in
    inr record {
      all = subst (λ (n : ℕ). HasGroups g.D.RunDisk.state s n c.args.book.now c.loop-g.book) end
          c.loop-g.invariant.0;
      found_is = c.hindered_by.ensures ∙ ap (hindered_by None) (c.are_housed-is_open.ensures
          ∙ ap (λ (p : State). are_housed p s.names) c.state.ensures.state);
    }
