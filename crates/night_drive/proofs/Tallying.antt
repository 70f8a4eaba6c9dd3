-- Tallies, in which one task after another is counted.
use Rattle.std.proofs.Common.{◌≡◌, ◌≢◌, ◌<◌, ◌≤◌, ◌∙◌, ◌⊎◌, ℕ, zero, suc, ◌+◌, ◌==◌, ◌&&◌}
use Rattle.std.proofs.Common.{nat_lt, min}
use Rattle.std.proofs.Common.{Bool, true, false, cond, List, Option, Some, None, slice_get, length}
use Rattle.std.proofs.Common.{IsSome}
use Rattle.std.proofs.Common.{set, get_or, [], ◌∷◌, ◌++◌, inl, inr, ap, sym, refl, arith}
use Rattle.std.proofs.lemmas.Bool.{and_right, false≢true, cases_Bool, cases_eq, cases_lt}
use Rattle.std.proofs.lemmas.Bool.{eq-eqb, le-ltb, lt-ltb, ne_eqb}
use Rattle.std.proofs.lemmas.List.{length-map}
use Rattle.std.proofs.lemmas.Option.{get_or_from_slice_get, same_Some, slice_get-map}
use Rattle.std.proofs.lemmas.Option.{slice_get_within}
use Rattle.std.specs.Option.{option_map, option_map_or}
use Rattle.std.specs.Str.{bytes_eq}
use Rattle.run_model.specs.declared.tasks.Task.{Task}
use Rattle.run_model.specs.State.{State}
use Rattle.run_model.specs.Tasks.{has_stage}
use Rattle.night_plan.proofs.Rows.{get_push_old, get_set_other, get_set_same, row_at}
use Rattle.night_plan.specs.declared.commands.Command.{Command}
use Rattle.night_plan.specs.declared.facts.Known.{Known}
use Rattle.night_drive.specs.declared.ends.Ends.{Ends}
use Rattle.night_drive.specs.declared.index.Index.{Index}
use Rattle.night_drive.specs.declared.names.Names.{Names}
use Rattle.night_drive.specs.declared.tallies.Tally.{Tally}
use Rattle.night_drive.specs.Index.{found_in}
use Rattle.night_drive.specs.Searches.{count_below, last_below}
use Rattle.night_drive.specs.Seen.{AreKnownTo, is_owned, is_try, moment_of}
use Rattle.night_drive.specs.Tallies.{AddsTo, AddsTry, AreOwners, AreTallies, CountsTask, IsApart}
use Rattle.night_drive.specs.Tallies.{MOST, counted, known_by, owners_of, tally_of, with_try}
use Rattle.night_drive.specs.Tries.{counts, has_failed}
use Rattle.night_drive.proofs.Indexing.{found_alike, is_key, is_same_key}
use Rattle.night_drive.proofs.Reading.{known_more, longer, pushed}

-- ---- one group of the plan

-- If a group owns the task, its command with this key has one try more.
pub adds_found : (index : Index) (owns : Bool) (g : ℕ) (key : List ℕ) (n : ℕ) (failed : Bool)
    (old : List Tally) (c : ℕ) (tally : Tally) → IsApart index → owns ≡ true
    → found_in index g key ≡ Some c → slice_get old c ≡ Some tally
    → AddsTo index owns g key n failed old (set old c (with_try n failed tally))
adds_found index owns g key n failed old c tally apart owned here is h d other t found there =
    elim (cases_eq d c) [
      | inl same ↦
          let at_c : found_in index h other ≡ Some c = found ∙ ap Some same in
          let both : (g ≡ h) × (key ≡ other) = apart g h c key other here at_c in
          let one : tally ≡ t =
          same_Some tally t (sym is ∙ ap (λ m. slice_get old m) (sym same) ∙ there) in
          ap (λ m. slice_get (set old c (with_try n failed tally)) m) same
          ∙ get_set_same old c (with_try n failed tally) (slice_get_within old c tally is)
          ∙ ap (λ x. Some (with_try n failed x)) one
          ∙ ap (λ b. Some (counted b n failed t))
          (sym (ap (λ b. b && is_key g key h other) owned
          ∙ is_same_key g h key other both.0 both.1))
      | inr other_one ↦
          get_set_other old c d (with_try n failed tally) (slice_get_within old d t there) other_one
          ∙ there
          ∙ ap (λ b. Some (counted b n failed t)) (sym (no_key (cases_Bool (is_key g key h other))
          other_one))
    ]
  where
    no_key : (is_key g key h other ≡ true) ⊎ (is_key g key h other ≡ false) → d ≢ c
        → (owns && is_key g key h other) ≡ false
    no_key (inl same) it =
        absurd (it (same_Some d c (sym found ∙ sym (found_alike index g h key other same) ∙ here)))
    no_key (inr lacks) it = and_right owns (is_key g key h other) lacks

-- ---- one group more

-- What two groups count, one after the other.
two_counted : (m h : ℕ) (owns o be : Bool) (n : ℕ) (failed : Bool) (tally : Tally)
    → (m ≡ h → owns ≡ o)
    → counted (owns && (m == h && be)) n failed (counted ((nat_lt h m && o) && be) n failed tally)
    ≡ counted ((nat_lt h (m + 1) && o) && be) n failed tally
two_counted m h owns o be n failed tally alike = elim (cases_eq m h) [
  | inl same ↦
      ap (λ b. counted (owns && (m == h && be)) n failed (counted ((b && o) && be) n failed tally))
      (le-ltb h m (omega (arith, same)))
      ∙ ap (λ b. counted (b && (m == h && be)) n failed tally) (alike same)
      ∙ ap (λ b. counted (o && (b && be)) n failed tally) (eq-eqb m h same)
      ∙ ap (λ b. counted ((b && o) && be) n failed tally)
      (sym (lt-ltb h (m + 1) (omega (arith, same))))
  | inr other ↦
      ap (λ b. counted (owns && (b && be)) n failed (counted ((nat_lt h m && o) && be) n failed
      tally)) (ne_eqb m h other)
      ∙ ap (λ b. counted b n failed (counted ((nat_lt h m && o) && be) n failed tally))
      (and_right owns false refl)
      ∙ ap (λ b. counted ((b && o) && be) n failed tally) (below (cases_lt h m) other)
]
  where
    below : (h < m) ⊎ (m ≤ h) → m ≢ h → nat_lt h m ≡ nat_lt h (m + 1)
    below (inl less) it =
        lt-ltb h m less ∙ sym (lt-ltb h (m + 1) (omega (arith, less)))
    below (inr more) it =
        le-ltb h m more ∙ sym (le-ltb h (m + 1) (omega (arith, more, it)))

pub try_more : (index : Index) (owners : List Bool) (owns : Bool) (m : ℕ) (key : List ℕ) (n : ℕ)
    (failed : Bool) (old mid new : List Tally) → owns ≡ get_or owners m false
    → AddsTry m index owners key n failed old mid → AddsTo index owns m key n failed mid new
    → AddsTry (m + 1) index owners key n failed old new
try_more index owners owns m key n failed old mid new is before more h c other tally found there =
    more h c other
    (counted ((nat_lt h m && get_or owners h false) && bytes_eq key other) n failed tally) found
    (before h c other tally found there)
    ∙ ap Some (two_counted m h owns (get_or owners h false) (bytes_eq key other) n failed tally
    (λ same. is ∙ ap (λ x. get_or owners x false) same))

-- ---- one task

-- Whether a task is a try, by its row.
pub try_by : (p : State) (night : Option (List ℕ)) (group key : List ℕ) (n : ℕ) (task : Task)
    → slice_get p.work.tasks n ≡ Some task
    → is_try p night group key n ≡ (bytes_eq task.argument key
    && (counts task.stage && is_owned p night group task.group))
try_by p night group key n task row =
    ap (λ (o : Option Task). option_map_or (λ task. bytes_eq task.argument key
    && (counts task.stage && is_owned p night group task.group)) o false) row

swapped : (a b : Bool) → (a && b) ≡ (b && a)
swapped true true = refl
swapped true false = refl
swapped false true = refl
swapped false false = refl

-- A task that counts, for the groups that own it.
pub task_counted : (p : State) (names : Names) (index : Index) (row : List Bool) (n : ℕ)
    (task : Task) (old new : List Tally) → slice_get p.work.tasks n ≡ Some task
    → counts task.stage ≡ true → row ≡ owners_of p names task.group
    → AddsTry (length row) index row task.argument n (has_failed task.stage) old new
    → CountsTask p names index n old new
task_counted p names index row n task old new is holds own adds g c group key tally name found
    there =
    adds g c key tally found there
    ∙ ap (λ b. Some (counted b n (has_failed task.stage) tally)) same
    ∙ ap (λ b. Some (counted (is_try p names.night group key n) n b tally)) (sym failed)
  where
    failed : has_stage has_failed p.work n ≡ has_failed task.stage
    failed =
        ap (λ (o : Option Task). option_map_or (λ task. has_failed task.stage) o false) is

    owned : get_or row g false ≡ is_owned p names.night group task.group
    owned =
        get_or_from_slice_get row g (is_owned p names.night group task.group) false
        (ap (λ (xs : List Bool). slice_get xs g) own
        ∙ slice_get-map (λ x. is_owned p names.night x task.group) names.groups.items g
        ∙ ap (λ (o : Option (List ℕ)). option_map (λ x. is_owned p names.night x task.group) o)
        name)

    long : length row ≡ length names.groups.items
    long = ap length own ∙ length-map names.groups.items (λ x. is_owned p names.night x task.group)

    within : g < length row
    within =
        let inside : g < length names.groups.items =
        slice_get_within names.groups.items g group name in omega (arith, inside, long)

    same : ((nat_lt g (length row) && get_or row g false) && bytes_eq task.argument key)
        ≡ is_try p names.night group key n
    same =
        ap (λ b. (b && get_or row g false) && bytes_eq task.argument key)
        (lt-ltb g (length row) within)
        ∙ ap (λ b. b && bytes_eq task.argument key) owned
        ∙ swapped (is_owned p names.night group task.group) (bytes_eq task.argument key)
        ∙ ap (λ b. bytes_eq task.argument key && (b && is_owned p names.night group task.group))
        (sym holds)
        ∙ sym (try_by p names.night group key n task is)

-- ---- the owners

pub owners_more : (p : State) (names : Names) (n : ℕ) (owners : List (List Bool)) (row : List Bool)
    → row ≡ owners_of p names n → AreOwners n p names owners
    → AreOwners (n + 1) p names (owners ++ row ∷ [])
owners_more p names n owners row own before = (
  longer owners n row before.0,
  λ h below. elim (cases_eq h n) [
    | inl same ↦
        ap (λ m. slice_get (owners ++ row ∷ []) m) same ∙ pushed owners n row before.0
        ∙ ap Some own ∙ ap (λ m. Some (owners_of p names m)) (sym same)
    | inr other ↦
        get_push_old owners (row ∷ []) h (omega (arith, below, other, before.0))
        ∙ before.1 h (omega (arith, below, other))
  ],
)

-- The row of a group of the store that is there.
pub row_owns : (p : State) (names : Names) (most h : ℕ) (owners : List (List Bool))
    (row : List Bool) → AreOwners most p names owners → slice_get owners h ≡ Some row
    → row ≡ owners_of p names h
row_owns p names most h owners row all there =
    let within : h < length owners = slice_get_within owners h row there in
    same_Some row (owners_of p names h)
    (sym there ∙ all.1 h (omega (arith, within, all.0)))

-- ---- all tasks

count_within : (test : ℕ → Bool) (n : ℕ) → count_below test n ≤ n
count_within test zero = omega arith
count_within test (suc n) = by_test (test n) (count_within test n)
  where
    by_test : (b : Bool) → count_below test n ≤ n → count_below test n + cond b 1 0 ≤ suc n
    by_test true before = omega (arith, before)
    by_test false before = omega (arith, before)

one_more : (b f : Bool) (n : ℕ) (last : Option ℕ) (k : ℕ) → k + 1 ≤ MOST
    → counted b n f (record { last = last; failures = k })
    ≡ record { last = cond b (Some n) last; failures = k + cond (b && f) 1 0 }
one_more true true n last k few =
    let m : min (k + 1) MOST ≡ k + 1 = omega (arith, few) in
    ap (λ x. record { last = Some n; failures = x }) m
one_more true false n last k few =
    let m : k ≡ k + 0 = omega arith in ap (λ x. record { last = Some n; failures = x }) m
one_more false f n last k few =
    let m : k ≡ k + 0 = omega arith in ap (λ x. record { last = last; failures = x }) m

pub tallies_none : (p : State) (names : Names) (index : Index) (tallies : List Tally)
    → ((g c : ℕ) (key : List ℕ) → found_in index g key ≡ Some c
    → slice_get tallies c ≡ Some (record { last = None; failures = 0 }))
    → AreTallies 0 p names index tallies
tallies_none p names index tallies none g c group key name found = none g c key found

-- The tally of a command by one more task.
pub tally_more : (p : State) (night : Option (List ℕ)) (group key : List ℕ) (n : ℕ) → n < MOST
    → counted (is_try p night group key n) n (has_stage has_failed p.work n)
    (tally_of p night group key n)
    ≡ tally_of p night group key (n + 1)
tally_more p night group key n few =
    let test : ℕ → Bool = λ m. is_try p night group key m && has_stage has_failed p.work m in
    let within : count_below test n ≤ n = count_within test n in
    let next : suc n ≡ n + 1 = omega arith in
    one_more (is_try p night group key n) (has_stage has_failed p.work n) n
    (last_below (is_try p night group key) n) (count_below test n) (omega (arith, within, few))
    ∙ ap (λ m. tally_of p night group key m) next

pub tallies_more : (p : State) (names : Names) (index : Index) (n : ℕ) (old new : List Tally)
    → n < MOST → AreTallies n p names index old → CountsTask p names index n old new
    → AreTallies (n + 1) p names index new
tallies_more p names index n old new few before more g c group key name found =
    more g c group key (tally_of p names.night group key n) name found
    (before g c group key name found)
    ∙ ap Some (tally_more p names.night group key n few)

-- ---- the facts

-- What is found is there.
some_there : (o : Option ℕ) → IsSome o → (d : ℕ) × (o ≡ Some d)
some_there None some = absurd (false≢true some)
some_there (Some d) some = (d, refl)

-- The facts about one more command are those of its tally.
pub known_tallied : (p : State) (ends : Ends) (names : Names) (commands : List Command)
    (index : Index) (tallies : List Tally) (known : List Known) (n : ℕ) (command : Command)
    (key : List ℕ) (tally : Tally) (k : Known) → length known ≡ n
    → slice_get commands n ≡ Some command → slice_get names.keys.items n ≡ Some key
    → command.group < length names.groups.items → IsSome (found_in index command.group key)
    → ((d : ℕ) → found_in index command.group key ≡ Some d → slice_get tallies d ≡ Some tally)
    → AreTallies (length p.work.tasks) p names index tallies
    → k ≡ known_by p (moment_of ends) tally → AreKnownTo n p ends names commands known
    → AreKnownTo (n + 1) p ends names commands (known ++ k ∷ [])
known_tallied p ends names commands index tallies known n command key tally k sized is key_is own
    some at all made before =
    let group : (x : List ℕ) × (slice_get names.groups.items command.group ≡ Some x) =
    row_at names.groups.items command.group own in
    let there : (d : ℕ) × (found_in index command.group key ≡ Some d) =
    some_there (found_in index command.group key) some in
    let whole : Tally = tally_of p names.night group.0 key (length p.work.tasks) in
    let same : tally ≡ whole =
    same_Some tally whole
    (sym (at there.0 there.1) ∙ all command.group there.0 group.0 key group.1 there.1) in
    known_more p ends names commands known n command group.0 key k sized
    (record { is = is; group_is = group.1; key_is = key_is })
    (made ∙ ap (λ t. known_by p (moment_of ends) t) same) before
