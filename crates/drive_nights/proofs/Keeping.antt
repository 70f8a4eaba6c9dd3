-- What an opening leaves of a night as it was.
use Rattle.std.proofs.Common.{◌≡◌, ◌∙◌, ◌&&◌, ◌||◌, not, ℕ, Bool, true, false, cond, List, []}
use Rattle.std.proofs.Common.{Option, Some, None, slice_get, map, is_some, ap, refl, sym}
use Rattle.std.proofs.Math.Bool.{and-false, or-false}
use Rattle.std.specs.Option.{option_and_then}
use Rattle.std.specs.Prelude.{is_none}
use Rattle.run_model.specs.Session.{Session}
use Rattle.run_model.specs.State.{State}
use Rattle.night_drive.specs.PlanTurns.{night_in}
use Rattle.night_drive.specs.Seen.{is_over, moment_of}
use Rattle.night_drive.proofs.Playing.{done_stopped, facts_are, known_same}
use Rattle.drive_nights.specs.declared.untils.Until.{Until}
use Rattle.drive_nights.specs.Effects.{CanceledGroupsStay, IsOpening, OpeningsAreNoTurns}
use Rattle.drive_nights.specs.Effects.{SameDeadlinesStay, has_come, is_base_over, is_kept}
use Rattle.drive_nights.specs.Effects.{opened}
use Rattle.drive_nights.specs.Nights.{night_text}
use Rattle.drive_nights.specs.Openings.{until_at}
use Rattle.drive_nights.specs.Rooms.{is_changed, is_replaced, kept_base, last_scope, was_canceled}
use Rattle.drive_nights.proofs.Opening.{openings_open}

-- A group that keeps its scope is done as before.
stays_over : (s : Session) (n : ℕ) (groups : List (List ℕ)) (untils : List (Option Until))
    (all : Option Until) (g : ℕ) (group : List ℕ) → IsOpening s n groups untils all
    → slice_get groups g ≡ Some group → is_kept s.state n all group (until_at untils g) ≡ true
    → is_over (opened s n groups untils all) (night_text n) group
    ≡ is_over s.state (night_text n) group
stays_over s n groups untils all g group opening at kept =
    (openings_open s n groups untils all opening).over g group at
    ∙ ap (λ b. cond b (is_over s.state (night_text n) group)
    (is_base_over s.state n all || has_come s.state (until_at untils g))) kept

pub openings_are_no_turns : OpeningsAreNoTurns
openings_are_no_turns s n groups untils all ends plan names opening are of kept =
    facts_are plan (night_in p ends plan names).known (night_in q ends plan names).known
    (map (is_over p names.night) names.groups.items)
    (map (is_over q names.night) names.groups.items)
    (known_same p q ends plan names are (λ group key.
    (openings_open s n groups untils all opening).known (moment_of ends) names.night group key))
    (done_stopped p q names [] each)
  where
    p : State
    p = s.state

    q : State
    q = opened s n groups untils all

    each : (g : ℕ) (group : List ℕ) → slice_get names.groups.items g ≡ Some group
        → is_over (opened s n groups untils all) names.night group
        ≡ (is_over s.state names.night group || false)
    each g group there =
        let at : slice_get groups g ≡ Some group =
        ap (λ (xs : List (List ℕ)). slice_get xs g) (sym of.groups_are) ∙ there in
        ap (λ (night : Option (List ℕ)). is_over q night group) of.night_is
        ∙ stays_over s n groups untils all g group opening at (kept g group at)
        ∙ ap (λ (night : Option (List ℕ)). is_over p night group) (sym of.night_is)
        ∙ sym (or-false (is_over p names.night group))

-- It keeps its scope if nothing takes the place of that.
kept_so : (p : State) (n : ℕ) (group : List ℕ) (until : Option Until) (moved : Bool) (scope : ℕ)
    → last_scope p n group ≡ Some scope
    → is_replaced p scope (moved || is_changed p scope until) ≡ false
    → is_some (option_and_then (λ s. cond (is_replaced p s (moved || is_changed p s until)) None
    (Some s)) (last_scope p n group)) ≡ true
kept_so p n group until moved scope last stays =
    ap (λ (o : Option ℕ). is_some (option_and_then (λ s.
    cond (is_replaced p s (moved || is_changed p s until)) None (Some s)) o)) last
    ∙ ap (λ b. is_some (cond b None (Some scope))) stays

pub canceled_groups_stay : CanceledGroupsStay
canceled_groups_stay s n groups untils all g scope group opening at last canceled =
    let p : State = s.state in
    let until : Option Until = until_at untils g in
    let moved : Bool = is_none (kept_base p n all) in
    let changed : Bool = moved || is_changed p scope until in
    stays_over s n groups untils all g group opening at
    (kept_so p n group until moved scope last
    (ap (λ b. changed && not b) canceled ∙ and-false changed))

pub same_deadlines_stay : SameDeadlinesStay
same_deadlines_stay s n groups untils all g scope group opening at last same base =
    let p : State = s.state in
    let until : Option Until = until_at untils g in
    let moved : Bool = is_none (kept_base p n all) in
    let old : moved ≡ false = not_none (kept_base p n all) base in
    stays_over s n groups untils all g group opening at
    (kept_so p n group until moved scope last
    (ap (λ b. (b || is_changed p scope until) && not (was_canceled p scope)) old
    ∙ ap (λ b. b && not (was_canceled p scope)) same))
  where
    not_none : (o : Option ℕ) → is_some o ≡ true → is_none o ≡ false
    not_none None some = cc
    not_none (Some x) some = refl
