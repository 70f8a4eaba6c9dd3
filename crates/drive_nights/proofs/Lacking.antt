-- A group for which nothing is made takes tasks.
use Rattle.std.proofs.Common.{◌≡◌, ◌==◌, ◌&&◌, ◌||◌, ◌++◌, ◌∷◌, not, ℕ, Bool, true, false, cond}
use Rattle.std.proofs.Common.{List, [], Option, Some, None, is_some, refl, slice_get}
use Rattle.std.proofs.lemmas.Bool.{false≢true}
use Rattle.std.specs.Option.{option_map_or}
use Rattle.std.specs.Prelude.{is_none}
use Rattle.run_model.specs.declared.commands.Command.TheVariants as call
use Rattle.run_model.specs.declared.commands.Step.{Step}
use Rattle.run_model.specs.declared.commands.Step.TheVariants as step
use Rattle.run_model.specs.declared.groups.Group.{Group}
use Rattle.run_model.specs.State.{State}
use Rattle.drive_nights.specs.Effects.{NothingIsLacking, TakesTasks}
use Rattle.drive_nights.specs.Names.{free_name}
use Rattle.drive_nights.specs.Nights.{name_at}
use Rattle.drive_nights.specs.Rooms.{is_changed, is_replaced, is_room, kept_scope, last_room}
use Rattle.drive_nights.specs.Rooms.{last_scope, new_room, old_room, scope_steps, unlimited}
use Rattle.drive_nights.specs.Rooms.{unlimited_at}
use Rattle.drive_nights.proofs.Rooming.{kept_is}

-- Something follows.
some_follow : (xs : List Step) (x : Step) → xs ++ x ∷ [] ≡ [] → ⊥
some_follow [] x e = cc
some_follow (y ∷ xs) x e = cc

-- A group without a step for its limit has none.
pub no_limit : (row : Group) → unlimited row ≡ [] → is_none row.limit ≡ true
no_limit row e = by_limit row.limit e
  where
    by_limit : (limit : Option ℕ)
        → cond (is_some limit) (step.Command (call.SetLimit row.name None) ∷ []) [] ≡ []
        → is_none limit ≡ true
    by_limit None e = refl
    by_limit (Some most) e = cc

room_takes : (p : State) (n : ℕ) (group : List ℕ) (s g : ℕ) → last_scope p n group ≡ Some s
    → last_room p n group ≡ Some g → is_room p s g ≡ true → unlimited_at p g ≡ []
    → TakesTasks p n group
room_takes p n group s g last is takes none = record {
  scope = s;
  room = g;
  last = last;
  is = is;
  takes = takes;
  unlimited = by_row (slice_get p.work.groups g) takes none;
}
  where
    by_row : (o : Option Group)
        → option_map_or (λ (row : Group). row.scope == s && not row.waited) o false ≡ true
        → option_map_or unlimited o [] ≡ []
        → option_map_or (λ (row : Group). is_none row.limit) o false ≡ true
    by_row None takes none = absurd (false≢true takes)
    by_row (Some row) takes none = no_limit row none

pub nothing_is_lacking : NothingIsLacking
nothing_is_lacking p n base moved group until none =
    by_scope (kept_scope p n group until moved) refl none
  where
    by_room : (s : ℕ) → last_scope p n group ≡ Some s → (o : Option ℕ) → last_room p n group ≡ o
        → (b : Bool) → option_map_or (is_room p s) o false ≡ b
        → cond b (option_map_or (unlimited_at p) o [])
        (step.Command (call.Bare (free_name p group n) (name_at p s)) ∷ []) ≡ []
        → TakesTasks p n group
    by_room s last o is false room none = cc
    by_room s last None is true room none = absurd (false≢true room)
    by_room s last (Some g) is true room none = room_takes p n group s g last is room none

    by_scope : (o : Option ℕ) → kept_scope p n group until moved ≡ o
        → option_map_or (old_room p n group) o (new_room (free_name p group n) base until) ≡ []
        → TakesTasks p n group
    by_scope None is none =
        absurd (some_follow (scope_steps (free_name p group n) base until)
        (step.Command (call.Bare (free_name p group n) (free_name p group n))) none)
    by_scope (Some s) is none =
        by_room s
        (kept_is (λ x. is_replaced p x (moved || is_changed p x until)) (last_scope p n group) s is)
        (last_room p n group) refl (option_map_or (is_room p s) (last_room p n group) false) refl
        none
