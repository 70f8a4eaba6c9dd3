-- The night that was opened goes on with the next opening.
use Rattle.std.proofs.Common.{◌≡◌, ◌≤◌, ◌∙◌, ◌&&◌, ◌||◌, ◌+◌, ℕ, Bool, true, false, cond}
use Rattle.std.proofs.Common.{ap, arith, is_some, length, subst}
use Rattle.std.proofs.Math.Nat.{max-eq_right}
use Rattle.run_model.specs.State.{State}
use Rattle.drive_nights.specs.Effects.{IsOpen, OpenedNightsGoOn, opened}
use Rattle.drive_nights.specs.Nights.{base_of, is_ended, last_night, night_at, night_of_store}
use Rattle.drive_nights.proofs.Marking.{nights_go_on}
use Rattle.drive_nights.proofs.Numbering.{greatest_least}
use Rattle.drive_nights.proofs.Opening.{openings_open}

-- No opening goes back to an earlier night.
not_earlier : (p : State) (next : Bool) → last_night p ≤ night_of_store p next
not_earlier p next =
    by_end (is_some (base_of p (last_night p)) && (next || is_ended p (last_night p)))
  where
    by_end : (b : Bool) → last_night p ≤ cond b (last_night p + 1) (last_night p)
    by_end true = omega arith
    by_end false = omega arith

pub opened_nights_go_on : OpenedNightsGoOn
opened_nights_go_on s next n groups untils all opening is small = (
  last,
  λ going. nights_go_on q (ap (is_ended q) last ∙ going) ∙ last,
)
  where
    q : State
    q = opened s n groups untils all

    it : IsOpen s.state (opened s n groups untils all) n groups untils all
    it = openings_open s n groups untils all opening

    first : 1 ≤ last_night s.state
    first = greatest_least (night_at s.state) (length s.state.tree.scopes)

    after : last_night s.state ≤ n
    after = subst (λ (m : ℕ). last_night s.state ≤ m) is (not_earlier s.state next)

    last : last_night (opened s n groups untils all) ≡ n
    last = it.last (omega (arith, first, after)) small ∙ max-eq_right after
