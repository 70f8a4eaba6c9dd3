-- A task belongs to one command, if the names of a plan are distinct.
use Rattle.std.proofs.Common.{◌≡◌, ◌<◌, ◌≤◌, ◌⊎◌, ◌∙◌, ◌==◌, ◌&&◌, ◌+◌, ℕ, Bool, true, false}
use Rattle.std.proofs.Common.{not, List, Option, Some, None, length, drop, take, slice_get}
use Rattle.std.proofs.Common.{inl, inr, refl, sym, ap, arith, nat_le, length-drop}
use Rattle.std.proofs.lemmas.Bool.{and_parts, cases_eq, cases_lt, eq-eqb, eqb-true, false≢true}
use Rattle.std.proofs.lemmas.Bool.{false_from_ne_true, leb-true, ne_eqb, not-true, or_cases}
use Rattle.std.proofs.lemmas.List.{get_or-drop, get_or-take, get_or_past}
use Rattle.std.proofs.lemmas.Option.{same_Some}
use Rattle.std.proofs.lemmas.Slice.Eq.{bytes_eq-Decides}
use Rattle.std.specs.Option.{option_map_or}
use Rattle.std.specs.Prelude.{slice_index}
use Rattle.std.specs.Str.{bytes_eq}
use Rattle.run_model.specs.declared.groups.Group.{Group}
use Rattle.run_model.specs.declared.tasks.Task.{Task}
use Rattle.run_model.specs.State.{State}
use Rattle.night_plan.specs.declared.commands.Command.{Command}
use Rattle.night_drive.specs.Distinct.{IsPlain}
use Rattle.night_drive.specs.Names.{begins, belongs, is_round, is_same, night_of}
use Rattle.night_drive.specs.PlanTurns.{TasksAreOfOneCommand}
use Rattle.night_drive.specs.Seen.{is_owned}
use Rattle.night_drive.specs.Turns.{is_task}

-- ---- names

all_three : (x y z : Bool) → (x && y && z) ≡ true → (x ≡ true) × (y ≡ true) × (z ≡ true)
all_three true true z e = (refl, refl, e)
all_three true false z e = cc
all_three false y z e = cc

-- Two hyphens stand at this place, and no third one.
record HasRound (name : List ℕ) (at : ℕ) : Type 0 where
  pub first : slice_index name at ≡ 45
  pub second : slice_index name (at + 1) ≡ 45
  pub third : (slice_index name (at + 2) == 45) ≡ false

-- A name is this group's.
record IsOf (group name : List ℕ) : Type 0 where
  pub within : length group ≤ length name
  pub starts : take (length group) name ≡ group
  pub rest : (length (drop (length group) name) ≡ 0) ⊎ HasRound name (length group)

is_of : (group name : List ℕ) → belongs group name ≡ true → IsOf group name
is_of group name belong =
    let n : ℕ = length group in
    let rest : List ℕ = drop (length group) name in
    let parts = and_parts (begins name group) (is_round (drop (length group) name)) belong in
    let start = and_parts (nat_le (length group) (length name))
    (bytes_eq (take (length group) name) group) parts.0 in
    record {
      within = leb-true (length group) (length name) start.0;
      starts = (bytes_eq-Decides (take (length group) name) group).0 start.1;
      rest = elim (or_cases (length rest == 0)
          (slice_index rest 0 == 45 && slice_index rest 1 == 45 && not (slice_index rest 2 == 45))
          parts.1) [
            | inl empty ↦ inl (eqb-true (length rest) 0 empty)
            | inr round ↦ inr (by_three
                (all_three (slice_index rest 0 == 45) (slice_index rest 1 == 45)
                (not (slice_index rest 2 == 45)) round))
          ];
    }
  where
    at : (i : ℕ) → slice_index (drop (length group) name) i ≡ slice_index name (length group + i)
    at i = get_or-drop (length group) name i 0

    by_three : ((slice_index (drop (length group) name) 0 == 45) ≡ true)
        × ((slice_index (drop (length group) name) 1 == 45) ≡ true)
        × (not (slice_index (drop (length group) name) 2 == 45) ≡ true)
        → HasRound name (length group)
    by_three three =
        let none : length group + 0 ≡ length group = omega arith in
        record {
          first = sym (at 0 ∙ ap (slice_index name) none)
              ∙ eqb-true (slice_index (drop (length group) name) 0) 45 three.0;
          second = sym (at 1) ∙ eqb-true (slice_index (drop (length group) name) 1) 45 three.1;
          third = ap (λ x. x == 45) (sym (at 2))
              ∙ not-true (slice_index (drop (length group) name) 2 == 45) three.2;
        }

-- A group with a longer name doesn't have the same name of the store, if its name is plain.
longer_not : (g h name : List ℕ) → IsOf g name → IsOf h name → IsPlain h
    → length g < length h → ⊥
longer_not g h name one other plain less = by_rest one.rest
  where
    byte : (i : ℕ) → i < length h → slice_index h i ≡ slice_index name i
    byte i below =
        ap (λ xs. slice_index xs i) (sym other.starts) ∙ get_or-take (length h) name i 0 below

    by_other : length h ≡ length g + 1 → HasRound name (length g)
        → (length (drop (length h) name) ≡ 0) ⊎ HasRound name (length h) → ⊥
    by_other size round (inl empty) =
        let left = length-drop (length h) name in
        let past : slice_index name (length g + 1) ≡ 0 =
        get_or_past name (length g + 1) 0 (omega (arith, left, empty, size)) in
        let hyphen : slice_index name (length g + 1) ≡ 45 = round.second in
        omega (arith, past, hyphen)
    by_other size round (inr next) =
        let place : length h + 1 ≡ length g + 2 = omega (arith, size) in
        let hyphen : slice_index name (length g + 2) ≡ 45 =
        ap (slice_index name) (sym place) ∙ next.second in
        false≢true (sym round.third ∙ eq-eqb (slice_index name (length g + 2)) 45 hyphen)

    by_rest : (length (drop (length g) name) ≡ 0) ⊎ HasRound name (length g) → ⊥
    by_rest (inl empty) =
        let left = length-drop (length g) name in
        let within : length h ≤ length name = other.within in
        omega (arith, left, empty, within, less)
    by_rest (inr round) = elim (cases_lt (length g + 1) (length h)) [
      | inl two ↦
          plain (length g) (byte (length g) less ∙ round.first)
          (byte (length g + 1) two ∙ round.second)
      | inr one_more ↦ by_other (omega (arith, less, one_more)) round other.rest
    ]

-- A name of the store belongs to one group.
pub one_group : (g h name : List ℕ) → belongs g name ≡ true → belongs h name ≡ true → IsPlain g
    → IsPlain h → g ≡ h
one_group g h name first second plain_g plain_h = elim (cases_eq (length g) (length h)) [
  | inl same ↦
      let a = is_of g name first in
      let b = is_of h name second in
      sym a.starts ∙ ap (λ n. take n name) same ∙ b.starts
  | inr other ↦ elim (cases_lt (length g) (length h)) [
    | inl less ↦
        absurd (longer_not g h name (is_of g name first) (is_of h name second) plain_h less)
    | inr more ↦
        let less : length h < length g = omega (arith, more, other) in
        absurd (longer_not h g name (is_of h name second) (is_of g name first) plain_g less)
  ]
]

-- ---- tasks

-- The rows by which a task is the command's.
record IsTask (p : State) (group key : List ℕ) (n : ℕ) : Type 0 where
  pub task : Task
  pub found : slice_get p.work.tasks n ≡ Some task
  pub keyed : task.argument ≡ key
  pub row : Group
  pub there : slice_get p.work.groups task.group ≡ Some row
  pub named : belongs group row.name ≡ true

task_is : (p : State) (night : Option (List ℕ)) (group key : List ℕ) (n : ℕ)
    → is_task p night group key n ≡ true → IsTask p group key n
task_is p night group key n holds = by_task (slice_get p.work.tasks n) refl holds
  where
    by_group : (task : Task) → slice_get p.work.tasks n ≡ Some task → task.argument ≡ key
        → (o : Option Group) → slice_get p.work.groups task.group ≡ o
        → option_map_or (λ row. belongs group row.name && is_same (night_of p row.scope) night) o
        false ≡ true
        → IsTask p group key n
    by_group task found keyed None there owned = absurd (false≢true owned)
    by_group task found keyed (Some row) there owned = record {
      task = task;
      found = found;
      keyed = keyed;
      row = row;
      there = there;
      named = (and_parts (belongs group row.name) (is_same (night_of p row.scope) night) owned).0;
    }

    by_task : (o : Option Task) → slice_get p.work.tasks n ≡ o
        → option_map_or (λ task. bytes_eq task.argument key && is_owned p night group task.group) o
        false ≡ true
        → IsTask p group key n
    by_task None found holds = absurd (false≢true holds)
    by_task (Some task) found holds =
        let parts =
        and_parts (bytes_eq task.argument key) (is_owned p night group task.group) holds in
        by_group task found ((bytes_eq-Decides task.argument key).0 parts.0)
        (slice_get p.work.groups task.group) refl parts.1

-- Rows at one number are the same.
one_row : {X : Type 0} (xs : List X) (n : ℕ) (x y : X) → slice_get xs n ≡ Some x
    → slice_get xs n ≡ Some y → x ≡ y
one_row xs n x y first second = same_Some x y (sym first ∙ second)

pub tasks_part : TasksAreOfOneCommand
tasks_part p plan names n c a g x distinct called its d b h y other =
    elim (cases_eq c d) [
      | inl same ↦
          let commands : a ≡ b =
          one_row plan.commands.items d a b (ap (slice_get plan.commands.items) (sym same)
          ∙ called.is) other.is in
          let groups : g ≡ h =
          one_row names.groups.items b.group g h
          (ap (λ (k : Command). slice_get names.groups.items k.group) (sym commands)
          ∙ called.group_is) other.group_is in
          let keys : x ≡ y =
          one_row names.keys.items d x y (ap (slice_get names.keys.items) (sym same)
          ∙ called.key_is) other.key_is in
          ap (λ z. is_task p names.night z y n) (sym groups)
          ∙ ap (λ z. is_task p names.night g z n) (sym keys) ∙ its ∙ sym (eq-eqb c d same)
      | inr apart ↦
          false_from_ne_true (is_task p names.night h y n) (λ both. apart (meet both))
          ∙ sym (ne_eqb c d apart)
    ]
  where
    meet : is_task p names.night h y n ≡ true → c ≡ d
    meet both =
        let one = task_is p names.night g x n its in
        let two = task_is p names.night h y n both in
        let task : one.task ≡ two.task =
        one_row p.work.tasks n one.task two.task one.found two.found in
        let row : one.row ≡ two.row =
        one_row p.work.groups two.task.group one.row two.row
        (ap (λ (t : Task). slice_get p.work.groups t.group) (sym task) ∙ one.there) two.there in
        let key : x ≡ y = sym one.keyed ∙ ap (λ (t : Task). t.argument) task ∙ two.keyed in
        let group : g ≡ h =
        one_group g h two.row.name (ap (λ (r : Group). belongs g r.name) (sym row) ∙ one.named)
        two.named (distinct.plain a.group g called.group_is)
        (distinct.plain b.group h other.group_is) in
        let number : a.group ≡ b.group =
        distinct.groups a.group b.group h (called.group_is ∙ ap (λ z. Some z) group)
        other.group_is in
        distinct.keys c d a b y called.is other.is number (called.key_is ∙ ap (λ z. Some z) key)
        other.key_is
