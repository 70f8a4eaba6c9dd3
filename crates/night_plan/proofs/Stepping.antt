-- Nights whose plan grows keep the laws of nights.
use Rattle.std.proofs.Common.{◌≡◌, ◌<◌, ◌≤◌, ◌+◌, ◌==◌, ◌∙◌, ◌⊎◌, inl, inr, ℕ, suc, Bool, true}
use Rattle.std.proofs.Common.{false, cond, List, [], ◌∷◌, ◌++◌, Option, Some, length, refl, ap}
use Rattle.std.proofs.Common.{sym, subst, arith, slice_get, length-append}
use Rattle.std.proofs.lemmas.Bool.{cases_Bool, cases_lt, eqb-true, false≢true}
use Rattle.std.proofs.lemmas.Bool.{false_from_ne_true}
use Rattle.std.proofs.lemmas.List.Elements.{recursion_from_All}
use Rattle.std.proofs.lemmas.List.Sums.{sum_by-cons}
use Rattle.std.proofs.lemmas.Option.{same_Some, slice_get_within}
use Rattle.std.specs.List.{AllByRecursion}
use Rattle.std.specs.Option.{option_map_or}
use Rattle.std.specs.Prelude.{All, Contains}
use Rattle.night_plan.specs.declared.commands.Command.{Command}
use Rattle.night_plan.specs.declared.commands.Need.{Need}
use Rattle.night_plan.specs.declared.commands.When.TheVariants as when
use Rattle.night_plan.specs.declared.facts.Known.{Known}
use Rattle.night_plan.specs.declared.facts.Phase.TheVariants as phase
use Rattle.night_plan.specs.Plans.{HasNeed}
use Rattle.night_plan.specs.Nights.{Night, at, is_busy, is_ok, is_failed, runs, has_ended_ok}
use Rattle.night_plan.specs.Nights.{failed_last, cleans_up, was_canceled, IsFinal, IsMetBy, IsNever}
use Rattle.std.proofs.Common.{◌&&◌, ◌||◌, not}
use Rattle.night_plan.specs.Nights.{HasFailed, Names, is_canceled, is_cleanup, is_cut, is_done}
use Rattle.night_plan.specs.Choices.{in_use, sum_below, takes_at, takes_of}
use Rattle.night_plan.specs.Growth.{fresh_row, with_one}
use Rattle.night_plan.specs.Turns.{Turn, Begin, EndOk, Fail, Interrupt, Cut, Cancel, Stop}
use Rattle.night_plan.specs.Turns.{after, all_turned, begins, begins_in, interruptions}
use Rattle.night_plan.specs.Turns.{interrupts_in, is_among, IsWithin, May, turned}
use Rattle.night_plan.specs.Steps.{Step, Turns, Adds, Opens, stepped, StepsLead, turns_in, IsNew}
use Rattle.night_plan.specs.Steps.{Begins}
use Rattle.night_plan.proofs.Keeping.{canceled_by, canceled_itself, fresh_not_canceled, itself}
use Rattle.night_plan.proofs.Keeping.{begun_among, final_begun, fresh_idle, fresh_not_begun}
use Rattle.night_plan.proofs.Keeping.{is_begun, step_kept, sum_le, sum_zero}
use Rattle.night_plan.proofs.Lasting.{among_contains, Balanced, bounded, ended_by}
use Rattle.night_plan.proofs.Lasting.{fresh_not_ok, ok_stays, ready_from, stays_balanced}
use Rattle.night_plan.proofs.Lasting.{turned_at, turned_back}
use Rattle.night_plan.proofs.Rows.{at_is, at_there, get_push_last, get_push_old, row_at}

-- ---- rows

turned_length : (t : Turn) (i : ℕ) (known : List Known)
    → length (all_turned t i known) ≡ length known
turned_length t i [] = refl
turned_length t i (k ∷ known) = ap suc (turned_length t (i + 1) known)

alike_after : (n : Night) (s : Step) → length n.known ≡ length n.commands
    → length (stepped n s).known ≡ length (stepped n s).commands
alike_after n (Turns t) alike = turned_length t 0 n.known ∙ alike
alike_after n (Adds command) alike =
    let one = length-append n.known (fresh_row ∷ []) in
    let two = length-append n.commands (command ∷ []) in
    omega (arith, one, two, alike)
alike_after n (Opens group) alike = alike

module _ (n : Night) (new : Command) (alike : length n.known ≡ length n.commands) where
  -- A test that passes passed before, or passes at the new command.
  grown_back : (c : ℕ) (test : Command → Known → Bool) → at (with_one n new) c test ≡ true
      → ((at n c test ≡ true) × (c < length n.commands)) ⊎ (test new fresh_row ≡ true)
  grown_back c test passes =
      let it = at_there (with_one n new) c test passes in
      elim (cases_lt c (length n.commands)) [
        | inl below ↦
            let one = sym (get_push_old n.commands (new ∷ []) c below) ∙ it.2 in
            let two = sym (get_push_old n.known (fresh_row ∷ []) c (omega (arith, below, alike)))
            ∙ it.3 in
            inl (at_is n c it.0 it.1 one two test ∙ it.4, below)
        | inr past ↦
            let less = slice_get_within (n.commands ++ new ∷ []) c it.0 it.2 in
            let len = length-append n.commands (new ∷ []) in
            let last : c ≡ length n.commands = omega (arith, past, less, len) in
            let also : c ≡ length n.known = omega (arith, last, alike) in
            let row : it.0 ≡ new = same_Some it.0 new
            (sym it.2 ∙ ap (slice_get (n.commands ++ new ∷ [])) last
            ∙ get_push_last n.commands new) in
            let fact : it.1 ≡ fresh_row = same_Some it.1 fresh_row
            (sym it.3 ∙ ap (slice_get (n.known ++ fresh_row ∷ [])) also
            ∙ get_push_last n.known fresh_row) in
            inr (subst (λ (x : Command). test x fresh_row ≡ true) row
            (subst (λ (k : Known). test it.0 k ≡ true) fact it.4))
      ]

  grown_there : (c : ℕ) (test : Command → Known → Bool) → at n c test ≡ true
      → at (with_one n new) c test ≡ true
  grown_there c test passes =
      let it = at_there n c test passes in
      let below = slice_get_within n.commands c it.0 it.2 in
      at_is (with_one n new) c it.0 it.1
      (get_push_old n.commands (new ∷ []) c below ∙ it.2)
      (get_push_old n.known (fresh_row ∷ []) c (omega (arith, below, alike)) ∙ it.3) test
      ∙ it.4

-- ---- in order

ended_among : (steps : List Step) (n m : Night) (c : ℕ) → length n.known ≡ length n.commands
    → StepsLead n steps m → has_ended_ok m c ≡ true
    → (has_ended_ok n c ≡ true) ⊎ Contains (turns_in steps) (EndOk c)
ended_among [] n m c alike led ended =
    inl (subst (λ x. has_ended_ok x c ≡ true) (sym led) ended)
ended_among (Turns t ∷ steps) n m c alike led ended =
    elim (ended_among steps (after n t) m c (alike_after n (Turns t) alike) led.1 ended) [
      | inl early ↦ elim (ended_by n t c early) [
        | inl before ↦ inl before
        | inr here ↦ inr (0, omega arith, here)
      ]
      | inr later ↦ inr (suc later.0, omega (arith, later.1), later.2)
    ]
ended_among (Adds new ∷ steps) n m c alike led ended =
    elim (ended_among steps (with_one n new) m c (alike_after n (Adds new) alike) led.1 ended) [
      | inl early ↦ elim (grown_back n new alike c (λ x f. is_ok f.phase) early) [
        | inl before ↦ inl before.0
        | inr never ↦ absurd (false≢true never)
      ]
      | inr later ↦ inr later
    ]
ended_among (Opens group ∷ steps) n m c alike led ended =
    ended_among steps (stepped n (Opens group)) m c alike led.1 ended

failed_turned : (t : Turn) (c : ℕ) (k : Known) → is_failed (turned t c k).phase ≡ true
    → (is_failed k.phase ≡ true) ⊎ ((moment : ℕ) × (t ≡ Fail c moment))
failed_turned (Begin now sizes chosen) c k failed = go (is_among c chosen) failed
  where
    go : (b : Bool) → is_failed (cond b (record k { phase = phase.Busy }) k).phase ≡ true
        → (is_failed k.phase ≡ true) ⊎ ((moment : ℕ) × (Begin now sizes chosen ≡ Fail c moment))
    go true never = absurd (false≢true never)
    go false same = inl same
failed_turned (EndOk d) c k failed = go (d == c) failed
  where
    go : (b : Bool) → is_failed (cond b (record k { phase = phase.EndedOk }) k).phase ≡ true
        → (is_failed k.phase ≡ true) ⊎ ((moment : ℕ) × (EndOk d ≡ Fail c moment))
    go true never = absurd (false≢true never)
    go false same = inl same
failed_turned (Fail d moment) c k failed = go (d == c) refl failed
  where
    go : (b : Bool) → (d == c) ≡ b
        → is_failed (cond b (record k { phase = phase.Failed moment; failures = k.failures + 1 })
        k).phase ≡ true
        → (is_failed k.phase ≡ true) ⊎ ((other : ℕ) × (Fail d moment ≡ Fail c other))
    go true here new = inr (moment, ap (λ e. Fail e moment) (eqb-true d c here))
    go false other same = inl same
failed_turned (Interrupt d) c k failed = go (d == c) failed
  where
    go : (b : Bool) → is_failed (cond b (record k { phase = phase.Interrupted }) k).phase ≡ true
        → (is_failed k.phase ≡ true) ⊎ ((moment : ℕ) × (Interrupt d ≡ Fail c moment))
    go true never = absurd (false≢true never)
    go false same = inl same
failed_turned (Cut d) c k failed = go (d == c) failed
  where
    go : (b : Bool) → is_failed (cond b (record k { phase = phase.Canceled }) k).phase ≡ true
        → (is_failed k.phase ≡ true) ⊎ ((moment : ℕ) × (Cut d ≡ Fail c moment))
    go true never = absurd (false≢true never)
    go false same = inl same
failed_turned (Cancel d) c k failed = go (d == c) failed
  where
    go : (b : Bool) → is_failed (cond b (record k { canceled = true }) k).phase ≡ true
        → (is_failed k.phase ≡ true) ⊎ ((moment : ℕ) × (Cancel d ≡ Fail c moment))
    go true same = inl same
    go false same = inl same
failed_turned (Stop g) c k failed = inl failed

-- What failed last failed so at the start, or did so in a turn.
failed_among : (steps : List Step) (n m : Night) (c : ℕ) → length n.known ≡ length n.commands
    → StepsLead n steps m → failed_last m c ≡ true
    → (failed_last n c ≡ true) ⊎ ((moment : ℕ) × Contains (turns_in steps) (Fail c moment))
failed_among [] n m c alike led failed =
    inl (subst (λ x. failed_last x c ≡ true) (sym led) failed)
failed_among (Turns t ∷ steps) n m c alike led failed =
    elim (failed_among steps (after n t) m c (alike_after n (Turns t) alike) led.1 failed) [
      | inl early ↦
          let it = at_there (after n t) c (λ x f. is_failed f.phase) early in
          let old = turned_back n t c it.1 it.3 in
          elim (failed_turned t c old.0
          (ap (λ (k : Known). is_failed k.phase) (sym old.2) ∙ it.4)) [
            | inl before ↦
                inl (at_is n c it.0 old.0 it.2 old.1 (λ x f. is_failed f.phase) ∙ before)
            | inr here ↦ inr (here.0, (0, omega arith, here.1))
          ]
      | inr later ↦ inr (later.0, (suc later.1.0, omega (arith, later.1.1), later.1.2))
    ]
failed_among (Adds new ∷ steps) n m c alike led failed =
    elim (failed_among steps (with_one n new) m c (alike_after n (Adds new) alike) led.1 failed) [
      | inl early ↦ elim (grown_back n new alike c (λ x f. is_failed f.phase) early) [
        | inl before ↦ inl before.0
        | inr never ↦ absurd (false≢true never)
      ]
      | inr later ↦ inr later
    ]
failed_among (Opens group ∷ steps) n m c alike led failed =
    failed_among steps (stepped n (Opens group)) m c alike led.1 failed

module _ (n m : Night) (steps : List Step) (now c : ℕ) (sizes chosen : List ℕ) (need : Need)
    (it : Begins n m steps now c sizes chosen) (has : HasNeed m.commands c need) where
  met : IsMetBy m c need need.when
  met = (ready_from m now c sizes chosen it.may it.listed).may.met need has

  pub well_in_order : (d : ℕ) → need.when ≡ when.Well → Names m c need d
      → Contains (turns_in steps) (EndOk d)
  well_in_order d well named =
      elim (ended_among steps n m d it.new.alike it.lead
      (subst (IsMetBy m c need) well met d named)) [
        | inl never ↦ absurd (fresh_not_ok n d it.new.fresh never)
        | inr there ↦ there
      ]

  pub failed_in_order : need.when ≡ when.Failed → (d : ℕ) × Names m c need d × HasFailed m d
      × (moment : ℕ) × Contains (turns_in steps) (Fail d moment)
  failed_in_order fails =
      let one = subst (IsMetBy m c need) fails met in
      let there : (moment : ℕ) × Contains (turns_in steps) (Fail one.0 moment) =
      elim (failed_among steps n m one.0 it.new.alike it.lead one.2.0) [
        | inl never ↦ absurd (fresh_not_failed one.0 never)
        | inr found ↦ found
      ] in
      (one.0, one.1, one.2, there.0, there.1)
    where
      fresh_not_failed : (d : ℕ) → failed_last n d ≡ true → ⊥
      fresh_not_failed d failed =
          let old = at_there n d (λ x f. is_failed f.phase) failed in
          false≢true (sym (ap (λ (k : Known). is_failed k.phase) (it.new.fresh d old.1 old.3))
          ∙ old.4)

  pub ended_in_order : (d : ℕ) → need.when ≡ when.Ended → Names m c need d
      → Contains (turns_in steps) (EndOk d) ⊎ IsNever m d
  ended_in_order d ends named = elim (subst (IsMetBy m c need) ends met d named) [
    | inl ok ↦ elim (ended_among steps n m d it.new.alike it.lead ok) [
      | inl never ↦ absurd (fresh_not_ok n d it.new.fresh never)
      | inr there ↦ inl there
    ]
    | inr never ↦ inr never
  ]

-- ---- begun no more

pub ends_once : (steps : List Step) (n m : Night) (c : ℕ) → length n.known ≡ length n.commands
    → has_ended_ok n c ≡ true → StepsLead n steps m → begins c (turns_in steps) ≡ 0
ends_once [] n m c alike ok led = refl
ends_once (Turns t ∷ steps) n m c alike ok led =
    let it = at_there n c (λ x f. is_ok f.phase) ok in
    let kept = ok_stays n t c it.0 it.1 led.0 it.2 it.3 it.4 in
    let rest = ends_once steps (after n t) m c (alike_after n (Turns t) alike)
    (at_is (after n t) c it.0 (turned t c it.1) it.2 (turned_at n t c it.1 it.3)
    (λ x f. is_ok f.phase) ∙ kept.0) led.1 in
    sum_by-cons (λ x. cond (begins_in c x) 1 0) t (turns_in steps)
    ∙ ap (λ (b : Bool). cond b 1 0 + begins c (turns_in steps)) kept.1
    ∙ omega (arith, rest)
ends_once (Adds new ∷ steps) n m c alike ok led =
    ends_once steps (with_one n new) m c (alike_after n (Adds new) alike)
    (grown_there n new alike c (λ x f. is_ok f.phase) ok) led.1
ends_once (Opens group ∷ steps) n m c alike ok led =
    ends_once steps (stepped n (Opens group)) m c alike ok led.1

-- ---- canceled for good

canceled_stays : (t : Turn) (c : ℕ) (k : Known) → k.canceled ≡ true
    → (turned t c k).canceled ≡ true
canceled_stays (Begin now sizes chosen) c k was = go (is_among c chosen)
  where
    go : (b : Bool) → (cond b (record k { phase = phase.Busy }) k).canceled ≡ true
    go true = was
    go false = was
canceled_stays (EndOk d) c k was = go (d == c)
  where
    go : (b : Bool) → (cond b (record k { phase = phase.EndedOk }) k).canceled ≡ true
    go true = was
    go false = was
canceled_stays (Fail d moment) c k was = go (d == c)
  where
    go : (b : Bool) → (cond b (record k {
      phase = phase.Failed moment;
      failures = k.failures + 1;
    }) k).canceled ≡ true
    go true = was
    go false = was
canceled_stays (Interrupt d) c k was = go (d == c)
  where
    go : (b : Bool) → (cond b (record k { phase = phase.Interrupted }) k).canceled ≡ true
    go true = was
    go false = was
canceled_stays (Cut d) c k was = go (d == c)
  where
    go : (b : Bool) → (cond b (record k { phase = phase.Canceled }) k).canceled ≡ true
    go true = was
    go false = was
canceled_stays (Cancel d) c k was = go (d == c)
  where
    go : (b : Bool) → (cond b (record k { canceled = true }) k).canceled ≡ true
    go true = refl
    go false = was
canceled_stays (Stop g) c k was = was

-- What was canceled itself isn't begun.
canceled_rests : (n : Night) (t : Turn) (c : ℕ) (k : Known) → slice_get n.known c ≡ Some k
    → k.canceled ≡ true → May n t → begins_in c t ≡ false
canceled_rests n (Begin now sizes chosen) c k known was may =
    elim (cases_Bool (is_among c chosen)) [
      | inl among ↦
          let ready = ready_from n now c sizes chosen may (among_contains c chosen among) in
          let it = at_there n c _ ready.may.idle in
          let lost : was_canceled n c ≡ true =
          at_is n c it.0 k it.2 known (is_canceled n.done)
          ∙ ap (λ (b : Bool). b || (is_cut k.phase
          || (not (is_cleanup it.0) && is_done n.done it.0.group))) was in
          absurd (ready.may.free (record { idle = ready.may.idle; why = inr (inl lost) }))
      | inr none ↦ none
    ]
canceled_rests n (EndOk d) c k known was may = refl
canceled_rests n (Fail d moment) c k known was may = refl
canceled_rests n (Interrupt d) c k known was may = refl
canceled_rests n (Cut d) c k known was may = refl
canceled_rests n (Cancel d) c k known was may = refl
canceled_rests n (Stop g) c k known was may = refl

pub canceled_for_good : (n m : Night) (steps : List Step) (c : ℕ) (fact : Known)
    → length n.known ≡ length n.commands → slice_get n.known c ≡ Some fact
    → fact.canceled ≡ true → StepsLead n steps m → begins c (turns_in steps) ≡ 0
canceled_for_good n m [] c k alike known was led = refl
canceled_for_good n m (Turns t ∷ steps) c k alike known was led =
    let rest = canceled_for_good (after n t) m steps c (turned t c k)
    (alike_after n (Turns t) alike) (turned_at n t c k known) (canceled_stays t c k was) led.1 in
    sum_by-cons (λ x. cond (begins_in c x) 1 0) t (turns_in steps)
    ∙ ap (λ (b : Bool). cond b 1 0 + begins c (turns_in steps))
    (canceled_rests n t c k known was led.0)
    ∙ omega (arith, rest)
canceled_for_good n m (Adds new ∷ steps) c k alike known was led =
    canceled_for_good (with_one n new) m steps c k (alike_after n (Adds new) alike)
    (get_push_old n.known (fresh_row ∷ []) c (slice_get_within n.known c k known) ∙ known) was
    led.1
canceled_for_good n m (Opens group ∷ steps) c k alike known was led =
    canceled_for_good (stepped n (Opens group)) m steps c k alike known was led.1

-- ---- so often

-- A command that is there stays.
stays : (steps : List Step) (n m : Night) (c : ℕ) (command : Command) → StepsLead n steps m
    → slice_get n.commands c ≡ Some command → slice_get m.commands c ≡ Some command
stays [] n m c command led is =
    subst (λ (x : Night). slice_get x.commands c ≡ Some command) led is
stays (Turns t ∷ steps) n m c command led is = stays steps (after n t) m c command led.1 is
stays (Adds new ∷ steps) n m c command led is =
    stays steps (with_one n new) m c command led.1
    (get_push_old n.commands (new ∷ []) c (slice_get_within n.commands c command is) ∙ is)
stays (Opens group ∷ steps) n m c command led is =
    stays steps (stepped n (Opens group)) m c command led.1 is

often : (steps : List Step) (n m : Night) (c : ℕ) (command : Command) (k : Known) (b i : ℕ)
    → length n.known ≡ length n.commands → StepsLead n steps m
    → slice_get n.commands c ≡ Some command → slice_get n.known c ≡ Some k
    → Balanced k.phase k.failures command.retries b i
    → b + begins c (turns_in steps)
    ≤ 1 + command.retries + (i + interruptions c (turns_in steps))
often [] n m c command k b i alike led is known balance =
    let all = bounded k.phase k.failures command.retries b i balance in
    let none : begins c [] ≡ 0 = refl in
    let nor : interruptions c [] ≡ 0 = refl in
    omega (arith, all, none, nor)
often (Turns t ∷ steps) n m c command k b i alike led is known balance =
    let rest = often steps (after n t) m c command (turned t c k) _ _
    (alike_after n (Turns t) alike) led.1 is
    (turned_at n t c k known) (stays_balanced n t c command k b i led.0 is known balance) in
    let more = sum_by-cons (λ x. cond (begins_in c x) 1 0) t (turns_in steps) in
    let also = sum_by-cons (λ x. cond (interrupts_in c x) 1 0) t (turns_in steps) in
    omega (arith, rest, more, also)
often (Adds new ∷ steps) n m c command k b i alike led is known balance =
    often steps (with_one n new) m c command k b i (alike_after n (Adds new) alike) led.1
    (get_push_old n.commands (new ∷ []) c (slice_get_within n.commands c command is) ∙ is)
    (get_push_old n.known (fresh_row ∷ []) c (slice_get_within n.known c k known) ∙ known) balance
often (Opens group ∷ steps) n m c command k b i alike led is known balance =
    often steps (stepped n (Opens group)) m c command k b i alike led.1 is known balance

-- What isn't there doesn't begin.
not_begun : (n : Night) (t : Turn) (c : ℕ) → May n t → length n.commands ≤ c
    → begins_in c t ≡ false
not_begun n (Begin now sizes chosen) c may past = elim (cases_Bool (is_among c chosen)) [
  | inl among ↦
      let ready = ready_from n now c sizes chosen may (among_contains c chosen among) in
      let it = at_there n c _ ready.may.idle in
      let less = slice_get_within n.commands c it.0 it.2 in
      absurd (omega (arith, less, past))
  | inr none ↦ none
]
not_begun n (EndOk d) c may past = refl
not_begun n (Fail d moment) c may past = refl
not_begun n (Interrupt d) c may past = refl
not_begun n (Cut d) c may past = refl
not_begun n (Cancel d) c may past = refl
not_begun n (Stop g) c may past = refl

later : (steps : List Step) (n m : Night) (c : ℕ) (command : Command)
    → length n.known ≡ length n.commands → length n.commands ≤ c → StepsLead n steps m
    → slice_get m.commands c ≡ Some command
    → begins c (turns_in steps) ≤ 1 + command.retries + interruptions c (turns_in steps)
later [] n m c command alike past led is =
    let less = slice_get_within n.commands c command
    (subst (λ (x : Night). slice_get x.commands c ≡ Some command) (sym led) is) in
    absurd (omega (arith, less, past))
later (Turns t ∷ steps) n m c command alike past led is =
    let rest = later steps (after n t) m c command (alike_after n (Turns t) alike) past led.1 is in
    let more = sum_by-cons (λ x. cond (begins_in c x) 1 0) t (turns_in steps) in
    let also = sum_by-cons (λ x. cond (interrupts_in c x) 1 0) t (turns_in steps) in
    let none : ◌≡◌ {A = ℕ} (cond (begins_in c t) 1 0) 0 =
    ap (λ (b : Bool). cond {A = ℕ} b 1 0) (not_begun n t c led.0 past) in
    omega (arith, rest, more, also, none)
later (Adds new ∷ steps) n m c command alike past led is = elim (cases_lt (length n.commands) c) [
  | inl beyond ↦
      let len = length-append n.commands (new ∷ []) in
      later steps (with_one n new) m c command (alike_after n (Adds new) alike)
      (omega (arith, len, beyond)) led.1 is
  | inr here ↦
      let last : c ≡ length n.commands = omega (arith, here, past) in
      let also : c ≡ length n.known = omega (arith, last, alike) in
      let row : slice_get (n.commands ++ new ∷ []) c ≡ Some new =
      ap (slice_get (n.commands ++ new ∷ [])) last ∙ get_push_last n.commands new in
      let fact : slice_get (n.known ++ fresh_row ∷ []) c ≡ Some fresh_row =
      ap (slice_get (n.known ++ fresh_row ∷ [])) also ∙ get_push_last n.known fresh_row in
      let same : new ≡ command = same_Some new command
      (sym (stays steps (with_one n new) m c new led.1 row) ∙ is) in
      let start : Balanced phase.Fresh 0 new.retries 0 0 = (refl, omega arith) in
      let all = often steps (with_one n new) m c new fresh_row 0 0
      (alike_after n (Adds new) alike) led.1 row fact start in
      let retries = ap (λ (x : Command). x.retries) same in
      omega (arith, all, retries)
]
later (Opens group ∷ steps) n m c command alike past led is =
    later steps (stepped n (Opens group)) m c command alike past led.1 is

pub steps_bounded : (n m : Night) (steps : List Step) (c : ℕ) (command : Command) → IsNew n
    → StepsLead n steps m → slice_get m.commands c ≡ Some command
    → begins c (turns_in steps) ≤ 1 + command.retries + interruptions c (turns_in steps)
steps_bounded n m steps c command new led is = elim (cases_lt c (length n.commands)) [
  | inr past ↦ later steps n m c command new.alike past led is
  | inl below ↦
      let alike = new.alike in
      let row = row_at n.commands c below in
      let fact = row_at n.known c (omega (arith, below, alike)) in
      let known = fact.1 ∙ ap Some (new.fresh c fact.0 fact.1) in
      let same : row.0 ≡ command = same_Some row.0 command
      (sym (stays steps n m c row.0 led row.1) ∙ is) in
      let start : Balanced phase.Fresh 0 row.0.retries 0 0 = (refl, omega arith) in
      let all = often steps n m c row.0 fresh_row 0 0 new.alike led row.1 known start in
      let retries = ap (λ (x : Command). x.retries) same in
      omega (arith, all, retries)
]

-- ---- the pools

grown_in_use : (n : Night) (new : Command) (p : ℕ) → length n.known ≡ length n.commands
    → in_use (with_one n new) p ≤ in_use n p
grown_in_use n new p alike =
    let len : length (n.commands ++ new ∷ []) ≡ suc (length n.commands) =
    (let it = length-append n.commands (new ∷ []) in omega (arith, it)) in
    let same = ap (sum_below (λ c. cond (runs (with_one n new) c) (takes_at (with_one n new) p c)
    0)) len in
    let split = sum_le (λ c. cond (runs (with_one n new) c) (takes_at (with_one n new) p c) 0)
    (λ c. cond (runs n c) (takes_at n p c) 0) (λ c. 0)
    (λ c. each c (runs (with_one n new) c) refl) (suc (length n.commands)) in
    let none = sum_zero (suc (length n.commands)) in
    let beyond : ◌≡◌ {A = ℕ} (cond (runs n (length n.commands))
    (takes_at n p (length n.commands)) 0) 0 =
    ap (λ (b : Bool). cond b (takes_at n p (length n.commands)) 0) not_there in
    omega (arith, same, split, none, beyond)
  where
    not_there : runs n (length n.commands) ≡ false
    not_there = elim (cases_Bool (runs n (length n.commands))) [
      | inl ran ↦
          let it = at_there n (length n.commands) (λ x f. is_busy f.phase) ran in
          let less = slice_get_within n.commands (length n.commands) it.0 it.2 in
          absurd (omega (arith, less))
      | inr idle ↦ idle
    ]

    each : (c : ℕ) (b : Bool) → runs (with_one n new) c ≡ b
        → cond b (takes_at (with_one n new) p c) 0 ≤ cond (runs n c) (takes_at n p c) 0 + 0
    each c false is = omega arith
    each c true is = elim (grown_back n new alike c (λ x f. is_busy f.phase) is) [
      | inl before ↦
          let same = ap (λ (b : Bool). cond b (takes_at n p c) 0) before.0 in
          let row : takes_at (with_one n new) p c ≡ takes_at n p c =
          ap (λ (o : Option Command). option_map_or
          (λ x. takes_of x.takes.items p) o 0)
          (get_push_old n.commands (new ∷ []) c before.1) in
          omega (arith, same, row)
      | inr never ↦ absurd (false≢true never)
    ]

pools_kept : (steps : List Step) (n m : Night) (p size : ℕ)
    → length n.known ≡ length n.commands → in_use n p ≤ size → StepsLead n steps m
    → AllByRecursion (IsWithin p size) (turns_in steps) → in_use m p ≤ size
pools_kept [] n m p size alike kept led within = subst (λ x. in_use x p ≤ size) led kept
pools_kept (Turns t ∷ steps) n m p size alike kept led within =
    pools_kept steps (after n t) m p size (alike_after n (Turns t) alike)
    (step_kept n t p size within.0 led.0 kept) led.1 within.1
pools_kept (Adds new ∷ steps) n m p size alike kept led within =
    pools_kept steps (with_one n new) m p size (alike_after n (Adds new) alike)
    (let less = grown_in_use n new p alike in omega (arith, less, kept)) led.1 within
pools_kept (Opens group ∷ steps) n m p size alike kept led within =
    pools_kept steps (stepped n (Opens group)) m p size alike kept led.1 within

pub steps_keep_pools : (n m : Night) (steps : List Step) (p size : ℕ) → IsNew n
    → StepsLead n steps m → All (IsWithin p size) (turns_in steps) → in_use m p ≤ size
steps_keep_pools n m steps p size new led within =
    let none = fresh_idle n p new.fresh in
    pools_kept steps n m p size new.alike (omega (arith, none)) led
    (recursion_from_All (IsWithin p size) (turns_in steps) within)

-- ---- cleanups

begun_in : (steps : List Step) (n m : Night) (c : ℕ) → length n.known ≡ length n.commands
    → StepsLead n steps m → at m c (λ x f. is_begun f.phase) ≡ true
    → (at n c (λ x f. is_begun f.phase) ≡ true) ⊎ (1 ≤ begins c (turns_in steps))
begun_in [] n m c alike led begun =
    inl (subst (λ (x : Night). at x c (λ y f. is_begun f.phase) ≡ true) (sym led) begun)
begun_in (Turns t ∷ steps) n m c alike led begun =
    let split = sum_by-cons (λ x. cond (begins_in c x) 1 0) t (turns_in steps) in
    let one = sum_by-cons (λ x. cond (begins_in c x) 1 0) t [] in
    elim (begun_in steps (after n t) m c (alike_after n (Turns t) alike) led.1 begun) [
      | inr some ↦ inr (omega (arith, split, some))
      | inl early ↦ elim (begun_among (t ∷ []) n (after n t) c (led.0, refl) early) [
        | inl before ↦ inl before
        | inr here ↦ inr (omega (arith, split, one, here))
      ]
    ]
begun_in (Adds new ∷ steps) n m c alike led begun =
    elim (begun_in steps (with_one n new) m c (alike_after n (Adds new) alike) led.1 begun) [
      | inr some ↦ inr some
      | inl early ↦ elim (grown_back n new alike c (λ x f. is_begun f.phase) early) [
        | inl before ↦ inl before.0
        | inr never ↦ absurd (false≢true never)
      ]
    ]
begun_in (Opens group ∷ steps) n m c alike led begun =
    begun_in steps (stepped n (Opens group)) m c alike led.1 begun

canceled_in : (steps : List Step) (n m : Night) (c : ℕ) → length n.known ≡ length n.commands
    → StepsLead n steps m → at m c itself ≡ true → (at n c itself ≡ true)
    ⊎ (Contains (turns_in steps) (Cancel c) ⊎ Contains (turns_in steps) (Cut c))
canceled_in [] n m c alike led was =
    inl (subst (λ (x : Night). at x c itself ≡ true) (sym led) was)
canceled_in (Turns t ∷ steps) n m c alike led was =
    elim (canceled_in steps (after n t) m c (alike_after n (Turns t) alike) led.1 was) [
      | inl early ↦ elim (canceled_by n t c early) [
        | inl before ↦ inl before
        | inr (inl here) ↦ inr (inl (0, omega arith, here))
        | inr (inr here) ↦ inr (inr (0, omega arith, here))
      ]
      | inr (inl found) ↦ inr (inl (suc found.0, omega (arith, found.1), found.2))
      | inr (inr found) ↦ inr (inr (suc found.0, omega (arith, found.1), found.2))
    ]
canceled_in (Adds new ∷ steps) n m c alike led was =
    elim (canceled_in steps (with_one n new) m c (alike_after n (Adds new) alike) led.1 was) [
      | inr found ↦ inr found
      | inl early ↦ elim (grown_back n new alike c itself early) [
        | inl before ↦ inl before.0
        | inr never ↦ absurd (false≢true never)
      ]
    ]
canceled_in (Opens group ∷ steps) n m c alike led was =
    canceled_in steps (stepped n (Opens group)) m c alike led.1 was

pub steps_begin_cleanups : (n m : Night) (steps : List Step) (c : ℕ) → IsNew n
    → StepsLead n steps m → IsFinal m c → cleans_up m c ≡ true
    → (Contains (turns_in steps) (Cancel c) → ⊥) → (Contains (turns_in steps) (Cut c) → ⊥)
    → 1 ≤ begins c (turns_in steps)
steps_begin_cleanups n m steps c new led final cleanup no_cancel no_cut =
    let canceled = false_from_ne_true (was_canceled m c) (λ was.
    elim (canceled_in steps n m c new.alike led (canceled_itself m c cleanup was)) [
      | inl early ↦ fresh_not_canceled n c new.fresh early
      | inr (inl found) ↦ no_cancel found
      | inr (inr found) ↦ no_cut found
    ]) in
    elim (begun_in steps n m c new.alike led (final_begun m c cleanup canceled final)) [
      | inr some ↦ some
      | inl early ↦ absurd (fresh_not_begun n c new.fresh early)
    ]
