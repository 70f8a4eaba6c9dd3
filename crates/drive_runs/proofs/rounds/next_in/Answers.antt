use Rattle.std.proofs.Common.{Bool, List, None, refl, subst, sym, ℕ}
use Rattle.drive_nights.specs.Deadlines.{IsNextMoment}
use Rattle.drive_runs.specs.Rounds.{IsNext}
use Rattle.drive_runs.proofs.rounds.next_in.Goals as goal

pub returns-then-over : goal.returns-then-over
returns-then-over g c =
    subst (λ (over : Bool). IsNext over c.args.state.now c.args.sitting.now c.args.retry None)
    (sym c.if-over.true) refl

pub returns-else-over : goal.returns-else-over
returns-else-over g c =
    subst (λ (over : Bool). IsNext over c.args.state.now c.args.sitting.now c.args.retry
    c.next_moment.result) (sym c.if-over.false)
    (subst (λ (groups : List (List ℕ)). IsNextMoment c.args.state.now
    c.args.sitting.now.kept.night groups c.args.retry c.next_moment.result)
    c.as_slice.ensures.value c.next_moment.ensures)
