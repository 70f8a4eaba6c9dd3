-- The tallies of commands. (For private functions: no public contract cites them.)
use Rattle.std.specs.Prelude.{◌≡◌, ◌<◌, ℕ, ◌+◌, ◌==◌, ◌&&◌, nat_lt, min, Bool, false, List, map}
use Rattle.std.specs.Prelude.{if◌then◌else◌, length, Option, Some, slice_get, slice_index_or}
use Rattle.std.specs.Str.{bytes_eq}
use Rattle.run_model.specs.State.{State}
use Rattle.run_model.specs.Tasks.{has_stage}
use Rattle.night_plan.specs.declared.facts.Known.{Known}
use Rattle.night_drive.specs.declared.index.Index.{Index}
use Rattle.night_drive.specs.declared.names.Names.{Names}
use Rattle.night_drive.specs.declared.tallies.Tally.{Tally}
use Rattle.night_drive.specs.Index.{found_in}
use Rattle.night_drive.specs.Searches.{count_below, last_below}
use Rattle.night_drive.specs.Seen.{is_owned, is_try, phase_after}
use Rattle.night_drive.specs.Tries.{has_failed}

-- The tally of a command by the first n tasks.
abbrev pub tally_of : State → (night : Option (List ℕ)) → (group key : List ℕ) → ℕ → Tally
tally_of p night group key n = record {
  last = last_below (is_try p night group key) n;
  failures = count_below (λ m. is_try p night group key m && has_stage has_failed p.work m) n;
}

-- The greatest count.
abbrev pub MOST : ℕ
MOST = 4294967295

-- The tally with one more try, task n, which may have failed.
abbrev pub with_try : (n : ℕ) → (failed : Bool) → Tally → Tally
with_try n failed tally = record {
  last = Some n;
  failures = if failed then min (tally.failures + 1) MOST else tally.failures;
}

-- The same, if it is a try of the command.
abbrev pub counted : (is : Bool) → (n : ℕ) → (failed : Bool) → Tally → Tally
counted is n failed tally = if is then with_try n failed tally else tally

-- Each command that the index finds has its tally by the first n tasks.
abbrev pub AreTallies : (n : ℕ) → State → Names → Index → List Tally → Type 0
AreTallies n p names index tallies =
    (g c : ℕ) (group key : List ℕ) → slice_get names.groups.items g ≡ Some group
    → found_in index g key ≡ Some c
    → slice_get tallies c ≡ Some (tally_of p names.night group key n)

-- Each command that the index finds is one of the first ones.
abbrev pub IsWithin : (most : ℕ) → Index → Type 0
IsWithin most index = (g c : ℕ) (key : List ℕ) → found_in index g key ≡ Some c → c < most

-- The index finds a command for one group and one key only.
abbrev pub IsApart : Index → Type 0
IsApart index =
    (g h c : ℕ) (key other : List ℕ) → found_in index g key ≡ Some c
    → found_in index h other ≡ Some c → (g ≡ h) × (key ≡ other)

-- Which groups of the plan own group h of the store.
abbrev pub owners_of : State → Names → (h : ℕ) → List Bool
owners_of p names h = map (λ group. is_owned p names.night group h) names.groups.items

-- One group of the plan, g, took task n as a try of its command with this key, if it owns it.
abbrev pub AddsTo : Index → (owns : Bool) → (g : ℕ) → (key : List ℕ) → (n : ℕ) → (failed : Bool)
    → (old new : List Tally) → Type 0
AddsTo index owns g key n failed old new =
    (h c : ℕ) (other : List ℕ) (tally : Tally) → found_in index h other ≡ Some c
    → slice_get old c ≡ Some tally
    → slice_get new c
    ≡ Some (counted (owns && (g == h && bytes_eq key other)) n failed tally)

-- The first groups of the plan did so.
abbrev pub AddsTry : (most : ℕ) → Index → (owners : List Bool) → (key : List ℕ) → (n : ℕ)
    → (failed : Bool) → (old new : List Tally) → Type 0
AddsTry most index owners key n failed old new =
    (h c : ℕ) (other : List ℕ) (tally : Tally) → found_in index h other ≡ Some c
    → slice_get old c ≡ Some tally
    → slice_get new c
    ≡ Some (counted ((nat_lt h most && slice_index_or owners h false) && bytes_eq key other) n
    failed tally)

-- Task n was counted for each command of which it is a try.
abbrev pub CountsTask : State → Names → Index → (n : ℕ) → (old new : List Tally) → Type 0
CountsTask p names index n old new =
    (g c : ℕ) (group key : List ℕ) (tally : Tally) → slice_get names.groups.items g ≡ Some group
    → found_in index g key ≡ Some c → slice_get old c ≡ Some tally
    → slice_get new c
    ≡ Some (counted (is_try p names.night group key n) n (has_stage has_failed p.work n) tally)

-- These are the owners of the first groups of the store.
abbrev pub AreOwners : (most : ℕ) → State → Names → List (List Bool) → Type 0
AreOwners most p names owners =
    (length owners ≡ most)
    × ((h : ℕ) → h < most → slice_get owners h ≡ Some (owners_of p names h))

-- The facts about a command with this tally.
abbrev pub known_by : State → (ended : ℕ → ℕ) → Tally → Known
known_by p ended tally = record {
  phase = phase_after p ended tally.last;
  failures = tally.failures;
  canceled = false;
}
