-- After an opening the state is one between two rounds.
use Rattle.std.proofs.Common.{◌≡◌, ◌∙◌, ℕ, zero, suc, Bool, true, List, [], ◌∷◌, Option}
use Rattle.std.proofs.Common.{Some, slice_get, is_some, ap, refl, sym}
use Rattle.std.proofs.lemmas.Bool.{false≢true}
use Rattle.std.proofs.lemmas.List.Elements.{All-from_recursion}
use Rattle.std.specs.List.{list_all}
use Rattle.run_model.proofs.Common.{and_from}
use Rattle.night_drive.specs.Searches.{last_below}
use Rattle.night_drive.specs.Seen.{is_owned}
use Rattle.std.proofs.Common.{length}
use Rattle.drive_steps.specs.Living.{IsLiving}
use Rattle.run_model.specs.State.{State}
use Rattle.drive_nights.specs.Resting.{OpeningsRest}
use Rattle.drive_nights.specs.Rooms.{last_room}
use Rattle.drive_nights.specs.Effects.{IsOpen, opened}
use Rattle.drive_nights.proofs.Opening.{openings_open}

all_pass : {X : Type 0} (test : X → Bool) (xs : List X)
    → ((i : ℕ) (x : X) → slice_get xs i ≡ Some x → test x ≡ true) → list_all test xs ≡ true
all_pass test [] each = refl
all_pass test (x ∷ xs) each =
    and_from (test x) (list_all test xs) (each zero x refl)
    (all_pass test xs (λ i y at. each (suc i) y at))

pub openings_rest : OpeningsRest
openings_rest s n groups untils all plan names opening are distinct of none =
    let q : State = opened s n groups untils all in
    let it : IsOpen s.state q n groups untils all =
    openings_open s n groups untils all opening in
    let room = λ (g : ℕ) (group : List ℕ) (at : slice_get names.groups.items g ≡ Some group).
    it.housed g group (ap (λ (xs : List (List ℕ)). slice_get xs g) (sym of.groups_are)
    ∙ at) in
    record {
      rest = record {
        named = are;
        distinct = distinct;
        housed = ap (λ (night : Option (List ℕ)). list_all (λ group.
            is_some (last_below (is_owned q night group) (length q.work.groups)))
            names.groups.items) of.night_is
            ∙ all_pass (λ group. is_some (last_room q n group)) names.groups.items room;
        consistent = it.consistent;
        none_fresh = it.none_fresh;
      };
      bare = λ g h group at owned. it.bare h;
      lives = record {
        each = All-from_recursion (IsLiving q names plan.commands.items) [] tt;
        every = λ c m command group key called own runs.
            absurd (false≢true (sym (none m) ∙ it.ran m runs));
      };
    }
