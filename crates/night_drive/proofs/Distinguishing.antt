-- A plan of four commands has distinct names, and a row of events begins two of them.
use Rattle.std.proofs.Common.{◌≡◌, ◌<◌, ◌≤◌, ◌∙◌, ◌==◌, ◌&&◌, ◌||◌, ◌+◌, ℕ, zero, suc, Bool, true}
use Rattle.std.proofs.Common.{false}
use Rattle.std.proofs.Common.{not, List, [], ◌∷◌, Option, Some, codes, length, map}
use Rattle.std.proofs.Common.{slice_get}
use Rattle.std.proofs.Common.{inl, inr, refl, sym, ap, arith, nat_lt}
use Rattle.std.proofs.Math.Bool.{and-false}
use Rattle.std.proofs.lemmas.Bool.{and_parts, cases_lt, eq-eqb, eqb-true, false≢true, leb-true}
use Rattle.std.proofs.lemmas.Bool.{ltb-true, not-true}
use Rattle.std.proofs.lemmas.List.{length-map}
use Rattle.std.proofs.lemmas.Option.{none-some, same_Some, slice_get-map, slice_get_past}
use Rattle.std.proofs.lemmas.Slice.Eq.{bytes_eq-Decides}
use Rattle.std.specs.List.{list_any}
use Rattle.std.specs.Option.{option_map, option_map_or}
use Rattle.std.specs.Prelude.{slice_index}
use Rattle.std.specs.Str.{bytes_eq}
use Rattle.run_model.specs.declared.bounds.TheConstants.{MOST_GROUPS}
use Rattle.run_model.specs.declared.groups.Group.{Group}
use Rattle.run_model.specs.declared.scopes.Scope.{Scope}
use Rattle.run_model.specs.declared.tasks.Task.{Task}
use Rattle.run_model.specs.Event.{Event}
use Rattle.run_model.specs.Event as event
use Rattle.run_model.specs.Layouts.{most_scopes, most_tasks}
use Rattle.run_model.specs.Rules.{AreNumbered}
use Rattle.run_model.specs.Scopes.{is_root}
use Rattle.run_model.specs.State.{State}
use Rattle.run_model.specs.Step.{step}
use Rattle.run_model.specs.Tasks.{has_stage}
use Rattle.night_plan.proofs.Rows.{row_at}
use Rattle.night_plan.specs.declared.commands.Command.{Command}
use Rattle.night_plan.specs.declared.commands.Plan.{Plan}
use Rattle.night_drive.specs.declared.names.Names.{Names}
use Rattle.night_drive.specs.Distinct.{AreDistinct, IsPlain}
use Rattle.night_drive.specs.Examples.{AreFour, row_of_two, second, two_nights}
use Rattle.night_drive.specs.PlanTurns.{AreBegins, IsBegin, IsNoTurn, IsOfCommand}
use Rattle.night_drive.specs.Seen.{IsCalled}
use Rattle.night_drive.specs.Tries.{counts}
use Rattle.night_drive.specs.Turns.{IsLast, is_task}
use Rattle.night_drive.proofs.Parting.{tasks_part}
use Rattle.night_drive.proofs.Turning.{try_is}

-- ---- tests of lists

-- Each row passes the test, with its number from i on.
abbrev each_passes : {X : Type 0} → (ℕ → X → Bool) → ℕ → List X → Bool
each_passes test i [] = true
each_passes test i (row ∷ rows) = test i row && each_passes test (suc i) rows

row_passes : {X : Type 0} (test : ℕ → X → Bool) (i : ℕ) (rows : List X) (n : ℕ) (row : X)
    → each_passes test i rows ≡ true → slice_get rows n ≡ Some row → test (n + i) row ≡ true
row_passes test i [] n row all found = absurd (none-some row found)
row_passes test i (x ∷ rows) zero row all found =
    let none : 0 + i ≡ i = omega arith in
    ap (λ m. test m row) none ∙ ap (test i) (sym (same_Some x row found))
    ∙ (and_parts (test i x) (each_passes test (suc i) rows) all).0
row_passes test i (x ∷ rows) (suc n) row all found =
    let same : suc n + i ≡ n + suc i = omega arith in
    ap (λ m. test m row) same
    ∙ row_passes test (suc i) rows n row
    (and_parts (test i x) (each_passes test (suc i) rows) all).1 found

passes_at : {X : Type 0} (test : ℕ → X → Bool) (rows : List X) (n : ℕ) (row : X)
    → each_passes test 0 rows ≡ true → slice_get rows n ≡ Some row → test n row ≡ true
passes_at test rows n row all found =
    let same : n ≡ n + 0 = omega arith in
    ap (λ m. test m row) same ∙ row_passes test 0 rows n row all found

-- No two of these words are the same.
abbrev are_apart : List (List ℕ) → Bool
are_apart [] = true
are_apart (x ∷ xs) = not (list_any (bytes_eq x) xs) && are_apart xs

is_there : (xs : List (List ℕ)) (n : ℕ) (x y : List ℕ) → slice_get xs n ≡ Some x → y ≡ x
    → list_any (bytes_eq y) xs ≡ true
is_there [] n x y found same = absurd (none-some x found)
is_there (z ∷ xs) zero x y found same =
    ap (λ b. b || list_any (bytes_eq y) xs)
    ((bytes_eq-Decides y z).1 (same ∙ sym (same_Some z x found)))
is_there (z ∷ xs) (suc n) x y found same = by_first (bytes_eq y z) (is_there xs n x y found same)
  where
    by_first : (b : Bool) → list_any (bytes_eq y) xs ≡ true
        → (b || list_any (bytes_eq y) xs) ≡ true
    by_first true rest = refl
    by_first false rest = rest

one_place : (xs : List (List ℕ)) (n m : ℕ) (x : List ℕ) → are_apart xs ≡ true
    → slice_get xs n ≡ Some x → slice_get xs m ≡ Some x → n ≡ m
one_place [] n m x apart one two = absurd (none-some x one)
one_place (y ∷ xs) zero zero x apart one two = refl
one_place (y ∷ xs) zero (suc m) x apart one two =
    let parts = and_parts (not (list_any (bytes_eq y) xs)) (are_apart xs) apart in
    absurd (false≢true (sym (not-true (list_any (bytes_eq y) xs) parts.0)
    ∙ is_there xs m x y two (same_Some y x one)))
one_place (y ∷ xs) (suc n) zero x apart one two =
    let parts = and_parts (not (list_any (bytes_eq y) xs)) (are_apart xs) apart in
    absurd (false≢true (sym (not-true (list_any (bytes_eq y) xs) parts.0)
    ∙ is_there xs n x y one (same_Some y x two)))
one_place (y ∷ xs) (suc n) (suc m) x apart one two =
    ap suc (one_place xs n m x
    (and_parts (not (list_any (bytes_eq y) xs)) (are_apart xs) apart).1 one two)

-- ---- plain names

-- Two hyphens stand in a row.
abbrev has_two : List ℕ → Bool
has_two [] = false
has_two (x ∷ xs) = (x == 45 && slice_index xs 0 == 45) || has_two xs

plain_by : (name : List ℕ) → has_two name ≡ false → IsPlain name
plain_by [] none i one two = absurd (omega (arith, one))
plain_by (x ∷ xs) none zero one two =
    let both : (x == 45 && slice_index xs 0 == 45) ≡ true =
    ap (λ b. b && slice_index xs 0 == 45) (eq-eqb x 45 one) ∙ eq-eqb (slice_index xs 0) 45 two in
    absurd (false≢true (sym none ∙ ap (λ b. b || has_two xs) both))
plain_by (x ∷ xs) none (suc i) one two =
    let next : suc i + 1 ≡ suc (i + 1) = omega arith in
    plain_by xs (by_first (x == 45 && slice_index xs 0 == 45) none) i one
    (ap (slice_index (x ∷ xs)) (sym next) ∙ two)
  where
    by_first : (b : Bool) → (b || has_two xs) ≡ false → has_two xs ≡ false
    by_first true is = cc
    by_first false is = is

pub old_disks_is_plain : IsPlain (codes "old-disks")
old_disks_is_plain = plain_by (codes "old-disks") refl

pub a_round_is_not_plain : IsPlain (codes "disks--2") → ⊥
a_round_is_not_plain plain = plain 5 refl refl

-- ---- four commands

-- A number before each word.
abbrev marked : List ℕ → List (List ℕ) → List (List ℕ)
marked (n ∷ ns) (word ∷ words) = (n ∷ word) ∷ marked ns words
marked _ _ = []

marked_at : (ns : List ℕ) (words : List (List ℕ)) (i n : ℕ) (word : List ℕ)
    → slice_get ns i ≡ Some n → slice_get words i ≡ Some word
    → slice_get (marked ns words) i ≡ Some (n ∷ word)
marked_at [] words i n word one two = absurd (none-some n one)
marked_at (m ∷ ns) [] i n word one two = absurd (none-some word two)
marked_at (m ∷ ns) (w ∷ words) zero n word one two =
    ap (λ x. Some (x ∷ w)) (same_Some m n one) ∙ ap (λ y. Some (n ∷ y)) (same_Some w word two)
marked_at (m ∷ ns) (w ∷ words) (suc i) n word one two = marked_at ns words i n word one two

abbrev groups_of : List ℕ
groups_of = 0 ∷ 0 ∷ 0 ∷ 1 ∷ []

abbrev group_names : List (List ℕ)
group_names = codes "disks" ∷ codes "tapes" ∷ []

abbrev keys_of : List (List ℕ)
keys_of = codes "a" ∷ codes "d" ∷ codes "e" ∷ codes "d" ∷ []

group_at : (plan : Plan) (names : Names) → AreFour plan names → (c : ℕ) (command : Command)
    → slice_get plan.commands.items c ≡ Some command
    → slice_get groups_of c ≡ Some command.group
group_at plan names four c command is =
    ap (λ (xs : List ℕ). slice_get xs c) (sym four.groups_of)
    ∙ slice_get-map (λ (command : Command). command.group) plan.commands.items c
    ∙ ap (option_map (λ (command : Command). command.group)) is

pub four_are_distinct : (plan : Plan) (names : Names) → AreFour plan names → AreDistinct plan names
four_are_distinct plan names four = record {
  plain = λ g name is.
      plain_by name (not-true (has_two name)
      (passes_at (λ i word. not (has_two word)) group_names g name refl (named g name is)));
  groups = λ g h name one two.
      one_place group_names g h name refl (named g name one) (named h name two);
  keys = λ c d a b key one two same first second.
      one_place (marked groups_of keys_of) c d (a.group ∷ key) refl
      (marked_at groups_of keys_of c a.group key (group_at plan names four c a one)
      (keyed c key first))
      (marked_at groups_of keys_of d a.group key
      (group_at plan names four d b two ∙ ap (λ n. Some n) (sym same)) (keyed d key second));
}
  where
    named : (g : ℕ) (name : List ℕ) → slice_get names.groups.items g ≡ Some name
        → slice_get group_names g ≡ Some name
    named g name is = ap (λ (xs : List (List ℕ)). slice_get xs g) (sym four.groups) ∙ is

    keyed : (c : ℕ) (key : List ℕ) → slice_get names.keys.items c ≡ Some key
        → slice_get keys_of c ≡ Some key
    keyed c key is = ap (λ (xs : List (List ℕ)). slice_get xs c) (sym four.keys) ∙ is

-- ---- the rows of two nights

-- No task after this one counts.
last_of : (p : State) (n : ℕ) → ((m : ℕ) → n < m → has_stage counts p.work m ≡ false)
    → (night : Option (List ℕ)) (group key : List ℕ) → IsLast p night group key n
last_of p n none night group key own m less =
    try_is p night group key m ∙ ap (λ b. is_task p night group key m && b) (none m less)
    ∙ and-false (is_task p night group key m)

-- Command c of the disks has task n.
of_disks : (plan : Plan) (names : Names) → AreFour plan names → (p : State) (n c : ℕ)
    (key : List ℕ) → c < 4 → slice_get groups_of c ≡ Some 0 → slice_get keys_of c ≡ Some key
    → is_task p second (codes "disks") key n ≡ true
    → ((m : ℕ) → n < m → has_stage counts p.work m ≡ false)
    → IsOfCommand p names plan.commands.items n c
of_disks plan names four p n c key less in_disks keyed own none = record {
  only = λ d other group of called.
      tasks_part p plan names n c command.0 (codes "disks") key (four_are_distinct plan names four)
      own_called (ap (λ night. is_task p night (codes "disks") key n) four.night ∙ own) d other
      group of called;
  last = λ d other group of called. last_of p n none names.night group of;
}
  where
    size : length plan.commands.items ≡ 4
    size =
        sym (length-map plan.commands.items (λ (command : Command). command.group))
        ∙ ap length four.groups_of

    command : (x : Command) × (slice_get plan.commands.items c ≡ Some x)
    command = row_at plan.commands.items c (omega (arith, less, size))

    in_first : 0 ≡ command.0.group
    in_first =
        same_Some 0 command.0.group
        (sym in_disks ∙ group_at plan names four c command.0 command.1)

    own_called : IsCalled names plan.commands.items c command.0 (codes "disks") key
    own_called = record {
      is = command.1;
      group_is = ap (slice_get names.groups.items) (sym in_first)
          ∙ ap (λ (xs : List (List ℕ)). slice_get xs 0) four.groups;
      key_is = ap (λ (xs : List (List ℕ)). slice_get xs c) four.keys ∙ keyed;
    }

pub two_nights_are_numbered : AreNumbered two_nights
two_nights_are_numbered = record {
  one_layout = refl;
  few_scopes = leb-true 8 (most_scopes two_nights.tree.layout) refl;
  few_groups = leb-true 4 MOST_GROUPS refl;
  few_tasks = leb-true 9 (most_tasks two_nights.work.layout) refl;
  rooted = refl;
  one_root = λ s row found is.
      by_root s (is_root row.kind)
      (passes_at (λ s (row : Scope). not (is_root row.kind) || s == 0) two_nights.tree.scopes s row
      refl found) is;
  scope_names = λ s t a b one two same.
      one_place (map (λ (row : Scope). row.name) two_nights.tree.scopes) s t b.name refl
      (slice_get-map (λ (row : Scope). row.name) two_nights.tree.scopes s
      ∙ ap (option_map (λ (row : Scope). row.name)) one ∙ ap (λ n. Some n) same)
      (slice_get-map (λ (row : Scope). row.name) two_nights.tree.scopes t
      ∙ ap (option_map (λ (row : Scope). row.name)) two);
  group_names = λ g h a b one two same.
      one_place (map (λ (row : Group). row.name) two_nights.work.groups) g h b.name refl
      (slice_get-map (λ (row : Group). row.name) two_nights.work.groups g
      ∙ ap (option_map (λ (row : Group). row.name)) one ∙ ap (λ n. Some n) same)
      (slice_get-map (λ (row : Group). row.name) two_nights.work.groups h
      ∙ ap (option_map (λ (row : Group). row.name)) two);
  ordered = λ s row found not_root.
      by_order s row.parent (is_root row.kind)
      (passes_at (λ s (row : Scope). is_root row.kind || nat_lt row.parent s)
      two_nights.tree.scopes s row refl found) not_root;
  scopes = λ g row found.
      ltb-true row.scope 8
      (passes_at (λ g (row : Group). nat_lt row.scope 8) two_nights.work.groups g row refl found);
  groups = λ n row found.
      ltb-true row.group 4
      (passes_at (λ n (row : Task). nat_lt row.group 4) two_nights.work.tasks n row refl found);
}
  where
    by_root : (s : ℕ) (b : Bool) → (not b || s == 0) ≡ true → b ≡ true → s ≡ 0
    by_root s true holds is = eqb-true s 0 holds
    by_root s false holds is = cc

    by_order : (s parent : ℕ) (b : Bool) → (b || nat_lt parent s) ≡ true → b ≡ false → parent < s
    by_order s parent true holds is = cc
    by_order s parent false holds is = ltb-true parent s holds

-- ---- the row

pub a_row_begins_two : (plan : Plan) (names : Names) → AreFour plan names
    → AreBegins two_nights names plan.commands.items row_of_two
a_row_begins_two plan names four = (quiet, (first, (then_next, tt)))
  where
    submitted : State
    submitted = step two_nights (event.Go 3 (codes "sh") (codes "e"))

    quiet : IsNoTurn two_nights (event.Go 3 (codes "sh") (codes "e"))
    quiet = record {
      numbered = two_nights_are_numbered;
      same = refl;
      no_start = refl;
      no_finish = refl;
      no_restart = refl;
    }

    past : (p : State) (m : ℕ) → length p.work.tasks ≤ m → has_stage counts p.work m ≡ false
    past p m more =
        ap (λ o. option_map_or (λ (task : Task). counts task.stage) o false)
        (slice_get_past p.work.tasks m more)

    none_last : (m : ℕ) → 9 < m → has_stage counts (step submitted (event.Start 8)).work m ≡ false
    none_last m less = past (step submitted (event.Start 8)) m (omega (arith, less))

    none_then : (m : ℕ) → 8 < m → has_stage counts submitted.work m ≡ false
    none_then m less = elim (cases_lt m 10) [
      | inl below ↦
          let nine : m ≡ 9 = omega (arith, less, below) in
          ap (has_stage counts submitted.work) nine
      | inr more ↦ past submitted m more
    ]

    first : IsBegin submitted names plan.commands.items (event.Start 8) 1
    first = record {
      task = 8;
      starts = refl;
      fresh = refl;
      of = of_disks plan names four submitted 8 1 (codes "d") (omega arith) refl refl refl
          none_then;
    }

    then_next : IsBegin (step submitted (event.Start 8)) names plan.commands.items (event.Start 9) 2
    then_next = record {
      task = 9;
      starts = refl;
      fresh = refl;
      of = of_disks plan names four (step submitted (event.Start 8)) 9 2 (codes "e") (omega arith)
          refl refl refl none_last;
    }
