-- A group is added to a night that is under way.
use Rattle.std.proofs.Common.{◌≡◌, ◌∙◌, ◌||◌, ℕ, true, false, cond, List}
use Rattle.std.proofs.Common.{Option, Some, None, length, is_some, codes, ap, refl, sym, subst}
use Rattle.std.proofs.Common.{inl, inr}
use Rattle.std.specs.Option.{option_map_or}
use Rattle.run_model.specs.Scopes.{is_done}
use Rattle.run_model.specs.Session.{session_after}
use Rattle.run_model.specs.State.{State}
use Rattle.night_drive.specs.Seen.{is_over, is_owned}
use Rattle.night_drive.proofs.Searching.{last_passes, last_within}
use Rattle.drive_nights.specs.Effects.{AreTaken, GrowthsHouse, IsGrown, has_come}
use Rattle.drive_nights.specs.Nights.{base_of, name_at, night_text}
use Rattle.drive_nights.specs.Rooms.{kept_scope, last_room, room_steps}
use Rattle.drive_nights.proofs.Opening.{base_place}
use Rattle.drive_nights.proofs.Placing.{Place}
use Rattle.drive_nights.proofs.Rooming.{Comes, Housed, Roomed, housed_stays, last_found, room_made}

-- The last group of the store is one.
pub is_housed : (p : State) (n : ℕ) (group : List ℕ) (o : Option ℕ) → last_room p n group ≡ o
    → is_some o ≡ true → Housed p (night_text n) group
is_housed p n group None is some = cc
is_housed p n group (Some g) is some = record {
  number = g;
  within = last_within (is_owned p (night_text n) group) (length p.work.groups) g is;
  owned = last_passes (is_owned p (night_text n) group) (length p.work.groups) g is;
}

pub has_last_room : (q : State) (n : ℕ) (group : List ℕ) → Housed q (night_text n) group
    → is_some (last_room q n group) ≡ true
has_last_room q n group it =
    last_found (is_owned q (night_text n) group) (length q.work.groups) it.number it.within it.owned

pub growths_house : GrowthsHouse
growths_house s n group until growth =
    by_base (option_map_or (name_at p) (base_of p n) (codes "root")) named growth.taken
  where
    p : State
    p = s.state

    named : option_map_or (name_at s.state) (base_of s.state n) (codes "root")
        ≡ name_at s.state growth.base
    named = ap (λ (o : Option ℕ). option_map_or (name_at p) o (codes "root")) growth.based

    comes : Comes s.state s
    comes = record {
      consistent = growth.consistent;
      clock = refl;
      places = λ name night over it. it;
      housed = λ night group it. it;
    }

    grown : (base : List ℕ)
        → Roomed s.state
        (session_after s (room_steps s.state n base false group until)).state n group
        (cond (is_some (kept_scope s.state n group until false))
        (is_over s.state (night_text n) group)
        (is_done s.state.tree.scopes growth.base || has_come s.state until))
        → IsGrown s.state
        (session_after s (room_steps s.state n base false group until)).state n group until
        growth.base
    grown base it = record {
      consistent = it.consistent;
      tasks = it.grows.tasks;
      known = it.grows.known;
      housed = λ other or.
          let q : State = (session_after s (room_steps p n base false group until)).state in
          elim or [
            | inl same ↦
                ap (λ (x : List ℕ). is_some (last_room q n x)) same
                ∙ has_last_room q n group it.housed
            | inr had ↦
                has_last_room q n other
                (housed_stays p q (night_text n) other it.grows
                (is_housed p n other (last_room p n other) refl had))
          ];
      own = it.over_is;
      others = it.others;
    }

    by_base : (base : List ℕ) → base ≡ name_at s.state growth.base
        → AreTaken s (room_steps s.state n base false group until)
        → IsGrown s.state
        (session_after s (room_steps s.state n base false group until)).state n group until
        growth.base
    by_base base is taken =
        grown base
        (room_made p s n group base until false (is_done p.tree.scopes growth.base) comes
        growth.number growth.plain
        (subst (λ (x : List ℕ). Place p x (night_text n) (is_done p.tree.scopes growth.base))
        (sym is) (base_place p n growth.base growth.based))
        taken)
