-- What lasts over the turns of a night.
use Rattle.std.proofs.Common.{◌≡◌, ◌<◌, ◌≤◌, ◌+◌, ◌==◌, ◌&&◌, ◌||◌, ◌∙◌, ◌⊎◌, inl, inr, ℕ}
use Rattle.std.proofs.Common.{suc, zero}
use Rattle.std.proofs.Common.{Bool, true, false, cond, List, [], ◌∷◌, Option, Some, None, nat_lt}
use Rattle.std.proofs.Common.{slice_get, length, refl, ap, sym, subst, arith}
use Rattle.std.proofs.lemmas.Bool.{eqb-true, both_ways, false_from_ne_true}
use Rattle.std.proofs.lemmas.Bool.{ltb-false, false≢true, true≢false, or_parts, or_cases}
use Rattle.std.proofs.lemmas.List.Elements.{All-contains}
use Rattle.std.proofs.lemmas.List.Sums.{sum_by-cons}
use Rattle.std.proofs.lemmas.Option.{same_Some, none-some, slice_get_within}
use Rattle.std.specs.Prelude.{Contains}
use Rattle.std.specs.Option.{option_map}
use Rattle.night_plan.specs.declared.commands.Command.{Command}
use Rattle.night_plan.specs.declared.facts.Phase.{Phase}
use Rattle.night_plan.specs.declared.facts.Phase.TheVariants as phase
use Rattle.night_plan.specs.declared.facts.Known.{Known}
use Rattle.night_plan.specs.declared.commands.Need.{Need}
use Rattle.night_plan.specs.declared.commands.When.TheVariants as when
use Rattle.night_plan.specs.Plans.{HasNeed}
use Rattle.night_plan.specs.Nights.{Night, is_busy, is_ok, is_failed, is_cut, is_spent}
use Rattle.night_plan.specs.Nights.{is_canceled, IsMetBy, Names, runs}
use Rattle.night_plan.specs.Nights.{has_ended_ok, IsReady}
use Rattle.night_plan.specs.Turns.{Turn, Begin, EndOk, Fail, Interrupt, Cut, Cancel, Stop}
use Rattle.night_plan.specs.Turns.{is_among, turned, all_turned}
use Rattle.night_plan.specs.Turns.{after, May, Lead, IsFresh, begins_in, interrupts_in, begins}
use Rattle.night_plan.specs.Turns.{interruptions}
use Rattle.night_plan.proofs.Rows.{at_is, at_there, row_at}
use Rattle.night_plan.proofs.Final.{idle_parts}

-- ---- one turn

turned_from : (t : Turn) (i c : ℕ) (known : List Known)
    → slice_get (all_turned t i known) c ≡ option_map (turned t (i + c)) (slice_get known c)
turned_from t i c [] = refl
turned_from t i zero (k ∷ known) =
    let none : i ≡ i + 0 = omega arith in ap (λ (j : ℕ). Some (turned t j k)) none
turned_from t i (suc c) (k ∷ known) =
    let more : i + 1 + c ≡ i + suc c = omega arith in
    turned_from t (i + 1) c known
    ∙ ap (λ (j : ℕ). option_map (turned t j) (slice_get known c)) more

pub turned_at : (n : Night) (t : Turn) (c : ℕ) (fact : Known) → slice_get n.known c ≡ Some fact
    → slice_get (after n t).known c ≡ Some (turned t c fact)
turned_at n t c fact known =
    let none : 0 + c ≡ c = omega arith in
    turned_from t 0 c n.known ∙ ap (λ (o : Option Known). option_map (turned t (0 + c)) o) known
    ∙ ap (λ (j : ℕ). Some (turned t j fact)) none

-- What is known after a turn was turned from what was known before.
pub turned_back : (n : Night) (t : Turn) (c : ℕ) (new : Known)
    → slice_get (after n t).known c ≡ Some new
    → (fact : Known) × (slice_get n.known c ≡ Some fact) × (new ≡ turned t c fact)
turned_back n t c new is = go (slice_get n.known c) refl
  where
    go : (o : Option Known) → slice_get n.known c ≡ o
        → (fact : Known) × (slice_get n.known c ≡ Some fact) × (new ≡ turned t c fact)
    go None none =
        absurd (none-some new (sym (turned_from t 0 c n.known
        ∙ ap (λ (o : Option Known). option_map (turned t (0 + c)) o) none) ∙ is))
    go (Some fact) known =
        (fact, known, same_Some _ _ (sym is ∙ turned_at n t c fact known))

pub among_contains : (c : ℕ) (chosen : List ℕ) → is_among c chosen ≡ true → Contains chosen c
among_contains c [] never = absurd (false≢true never)
among_contains c (d ∷ chosen) found = elim (or_cases (d == c) (is_among c chosen) found) [
  | inl here ↦ (0, omega arith, eqb-true d c here)
  | inr later ↦ let it = among_contains c chosen later in (suc it.0, omega (arith, it.1), it.2)
]

-- A command that is begun is ready.
pub ready_from : (n : Night) (now c : ℕ) (sizes chosen : List ℕ)
    → May n (Begin now sizes chosen) → Contains chosen c → IsReady n now c
ready_from n now c sizes chosen may listed =
    All-contains (IsReady n now) chosen c may.ready listed

-- What is ready isn't busy, hasn't ended well, hasn't failed for good, and wasn't cut.
pub ready_parts : (n : Night) (now c : ℕ) (command : Command) (fact : Known)
    → slice_get n.commands c ≡ Some command → slice_get n.known c ≡ Some fact → IsReady n now c
    → (is_busy fact.phase ≡ false) × (is_ok fact.phase ≡ false)
    × (is_spent n.done command fact ≡ false) × (is_cut fact.phase ≡ false)
ready_parts n now c command fact is known ready =
    let idle = idle_parts n c ready.may.idle in
    let spent = false_from_ne_true (is_spent n.done command fact) (λ yes_spent. ready.may.free
    (record {
      idle = ready.may.idle;
      why = inl (at_is n c command fact is known (is_spent n.done) ∙ yes_spent);
    })) in
    let canceled = false_from_ne_true (is_canceled n.done command fact) (λ was. ready.may.free
    (record {
      idle = ready.may.idle;
      why = inr (inl (at_is n c command fact is known (is_canceled n.done) ∙ was));
    })) in
    let parts = or_parts fact.canceled _ canceled in (
      sym (at_is n c command fact is known (λ x f. is_busy f.phase)) ∙ idle.0,
      sym (at_is n c command fact is known (λ x f. is_ok f.phase)) ∙ idle.1,
      spent,
      (or_parts (is_cut fact.phase) _ parts.1).0,
    )

-- ---- ended ok

ok_turned : (t : Turn) (c : ℕ) (k : Known) → is_ok (turned t c k).phase ≡ true
    → (is_ok k.phase ≡ true) ⊎ (t ≡ EndOk c)
ok_turned (Begin now sizes chosen) c k ok = go (is_among c chosen) ok
  where
    go : (b : Bool) → is_ok (cond b (record k { phase = phase.Busy }) k).phase ≡ true
        → (is_ok k.phase ≡ true) ⊎ (Begin now sizes chosen ≡ EndOk c)
    go true never = absurd (false≢true never)
    go false same = inl same
ok_turned (EndOk d) c k ok = go (d == c) refl ok
  where
    go : (b : Bool) → (d == c) ≡ b
        → is_ok (cond b (record k { phase = phase.EndedOk }) k).phase ≡ true
        → (is_ok k.phase ≡ true) ⊎ (EndOk d ≡ EndOk c)
    go true here new = inr (ap EndOk (eqb-true d c here))
    go false other same = inl same
ok_turned (Fail d moment) c k ok = go (d == c) ok
  where
    go : (b : Bool)
        → is_ok (cond b (record k { phase = phase.Failed moment; failures = k.failures + 1 })
        k).phase ≡ true
        → (is_ok k.phase ≡ true) ⊎ (Fail d moment ≡ EndOk c)
    go true never = absurd (false≢true never)
    go false same = inl same
ok_turned (Interrupt d) c k ok = go (d == c) ok
  where
    go : (b : Bool) → is_ok (cond b (record k { phase = phase.Interrupted }) k).phase ≡ true
        → (is_ok k.phase ≡ true) ⊎ (Interrupt d ≡ EndOk c)
    go true never = absurd (false≢true never)
    go false same = inl same
ok_turned (Cut d) c k ok = go (d == c) ok
  where
    go : (b : Bool) → is_ok (cond b (record k { phase = phase.Canceled }) k).phase ≡ true
        → (is_ok k.phase ≡ true) ⊎ (Cut d ≡ EndOk c)
    go true never = absurd (false≢true never)
    go false same = inl same
ok_turned (Cancel d) c k ok = go (d == c) ok
  where
    go : (b : Bool) → is_ok (cond b (record k { canceled = true }) k).phase ≡ true
        → (is_ok k.phase ≡ true) ⊎ (Cancel d ≡ EndOk c)
    go true same = inl same
    go false same = inl same
ok_turned (Stop g) c k ok = inl ok

pub ended_by : (n : Night) (t : Turn) (c : ℕ) → has_ended_ok (after n t) c ≡ true
    → (has_ended_ok n c ≡ true) ⊎ (t ≡ EndOk c)
ended_by n t c ended =
    let it = at_there (after n t) c (λ x f. is_ok f.phase) ended in
    let old = turned_back n t c it.1 it.3 in
    elim (ok_turned t c old.0 (ap (λ (k : Known). is_ok k.phase) (sym old.2) ∙ it.4)) [
      | inl ok ↦ inl (at_is n c it.0 old.0 it.2 old.1 (λ x f. is_ok f.phase) ∙ ok)
      | inr here ↦ inr here
    ]

-- What has ended ok at the end had so at the start, or did so in a turn.
pub ended_among : (turns : List Turn) (n m : Night) (c : ℕ) → Lead n turns m
    → has_ended_ok m c ≡ true → (has_ended_ok n c ≡ true) ⊎ Contains turns (EndOk c)
ended_among [] n m c same ended = inl (subst (λ x. has_ended_ok x c ≡ true) (sym same) ended)
ended_among (t ∷ turns) n m c led ended = elim (ended_among turns (after n t) m c led.1 ended) [
  | inl early ↦ elim (ended_by n t c early) [
    | inl before ↦ inl before
    | inr here ↦ inr (0, omega arith, here)
  ]
  | inr later ↦ inr (suc later.0, omega (arith, later.1), later.2)
]

pub fresh_not_ok : (n : Night) (c : ℕ) → IsFresh n → has_ended_ok n c ≡ true → ⊥
fresh_not_ok n c fresh ok =
    let it = at_there n c (λ x f. is_ok f.phase) ok in
    false≢true (sym (ap (λ (k : Known). is_ok k.phase) (fresh c it.1 it.3)) ∙ it.4)

pub begins_in_order : (n m : Night) (turns : List Turn) (now c d : ℕ) (sizes chosen : List ℕ)
    (need : Need) → IsFresh n → Lead n turns m → May m (Begin now sizes chosen)
    → Contains chosen c → HasNeed m.commands c need → need.when ≡ when.Well → Names m c need d
    → Contains turns (EndOk d)
begins_in_order n m turns now c d sizes chosen need fresh led may listed has well named =
    let ready = ready_from m now c sizes chosen may listed in
    let met = subst (IsMetBy m c need) well (ready.may.met need has) in
    elim (ended_among turns n m d led (met d named)) [
      | inl never ↦ absurd (fresh_not_ok n d fresh never)
      | inr there ↦ there
    ]

-- ---- begun no more

busy_not_ok : (p : Phase) → is_busy p ≡ true → is_ok p ≡ true → ⊥
busy_not_ok phase.Fresh busy ok = false≢true busy
busy_not_ok phase.Busy busy ok = false≢true ok
busy_not_ok phase.EndedOk busy ok = false≢true busy
busy_not_ok (phase.Failed last) busy ok = false≢true busy
busy_not_ok phase.Interrupted busy ok = false≢true busy
busy_not_ok phase.Canceled busy ok = false≢true busy

-- What begins was ready.
pub among_ready : (n : Night) (now c : ℕ) (sizes chosen : List ℕ) (command : Command) (fact : Known)
    → May n (Begin now sizes chosen) → is_among c chosen ≡ true
    → slice_get n.commands c ≡ Some command → slice_get n.known c ≡ Some fact
    → (is_busy fact.phase ≡ false) × (is_ok fact.phase ≡ false)
    × (is_spent n.done command fact ≡ false) × (is_cut fact.phase ≡ false)
among_ready n now c sizes chosen command fact may among is known =
    ready_parts n now c command fact is known
    (ready_from n now c sizes chosen may (among_contains c chosen among))

-- What ends was busy.
runs_busy : (n : Night) (c d : ℕ) (command : Command) (fact : Known) → runs n d ≡ true
    → (d == c) ≡ true → slice_get n.commands c ≡ Some command → slice_get n.known c ≡ Some fact
    → is_busy fact.phase ≡ true
runs_busy n c d command fact may same is known =
    sym (at_is n c command fact is known (λ x f. is_busy f.phase))
    ∙ sym (ap (runs n) (eqb-true d c same)) ∙ may

pub ok_stays : (n : Night) (t : Turn) (c : ℕ) (command : Command) (k : Known) → May n t
    → slice_get n.commands c ≡ Some command → slice_get n.known c ≡ Some k
    → is_ok k.phase ≡ true → (is_ok (turned t c k).phase ≡ true) × (begins_in c t ≡ false)
ok_stays n (Begin now sizes chosen) c command k may is known ok = go (is_among c chosen) refl
  where
    go : (b : Bool) → is_among c chosen ≡ b
        → (is_ok (cond b (record k { phase = phase.Busy }) k).phase ≡ true) × (b ≡ false)
    go true among = absurd (both_ways (is_ok k.phase)
        (among_ready n now c sizes chosen command k may among is known).1 ok)
    go false none = (ok, refl)
ok_stays n (EndOk d) c command k may is known ok = (go (d == c), refl)
  where
    go : (b : Bool) → is_ok (cond b (record k { phase = phase.EndedOk }) k).phase ≡ true
    go true = refl
    go false = ok
ok_stays n (Fail d moment) c command k may is known ok = (go (d == c) refl, refl)
  where
    go : (b : Bool) → (d == c) ≡ b
        → is_ok (cond b (record k { phase = phase.Failed moment; failures = k.failures + 1 })
        k).phase ≡ true
    go true here = absurd (busy_not_ok k.phase (runs_busy n c d command k may here is known) ok)
    go false other = ok
ok_stays n (Interrupt d) c command k may is known ok = (go (d == c) refl, refl)
  where
    go : (b : Bool) → (d == c) ≡ b
        → is_ok (cond b (record k { phase = phase.Interrupted }) k).phase ≡ true
    go true here = absurd (busy_not_ok k.phase (runs_busy n c d command k may here is known) ok)
    go false other = ok
ok_stays n (Cut d) c command k may is known ok = (go (d == c) refl, refl)
  where
    go : (b : Bool) → (d == c) ≡ b
        → is_ok (cond b (record k { phase = phase.Canceled }) k).phase ≡ true
    go true here = absurd (busy_not_ok k.phase (runs_busy n c d command k may here is known) ok)
    go false other = ok
ok_stays n (Cancel d) c command k may is known ok = (go (d == c), refl)
  where
    go : (b : Bool) → is_ok (cond b (record k { canceled = true }) k).phase ≡ true
    go true = ok
    go false = ok
ok_stays n (Stop g) c command k may is known ok = (ok, refl)

pub begun_no_more : (turns : List Turn) (n m : Night) (c : ℕ) → has_ended_ok n c ≡ true
    → Lead n turns m → begins c turns ≡ 0
begun_no_more [] n m c ok led = refl
begun_no_more (t ∷ turns) n m c ok led =
    let it = at_there n c (λ x f. is_ok f.phase) ok in
    let kept = ok_stays n t c it.0 it.1 led.0 it.2 it.3 it.4 in
    let new = turned_at n t c it.1 it.3 in
    let rest = begun_no_more turns (after n t) m c
    (at_is (after n t) c it.0 (turned t c it.1) it.2 new (λ x f. is_ok f.phase) ∙ kept.0) led.1 in
    sum_by-cons (λ x. cond (begins_in c x) 1 0) t turns
    ∙ ap (λ (b : Bool). cond b 1 0 + begins c turns) kept.1
    ∙ omega (arith, rest)

-- ---- so often

-- How a command's begins add up, by how far it is: its failures, its interruptions, and the try
-- that runs or ended ok.
abbrev pub Balanced : Phase → ℕ → ℕ → ℕ → ℕ → Type 0
Balanced phase.Fresh failures retries b i = (b ≡ failures + i) × (failures ≤ retries)
Balanced phase.Busy failures retries b i = (b ≡ failures + i + 1) × (failures ≤ retries)
Balanced phase.EndedOk failures retries b i = (b ≡ failures + i + 1) × (failures ≤ retries)
Balanced (phase.Failed last) failures retries b i = (b ≡ failures + i) × (failures ≤ retries + 1)
Balanced phase.Interrupted failures retries b i = (b ≡ failures + i) × (failures ≤ retries)
Balanced phase.Canceled failures retries b i = (b ≡ failures + i + 1) × (failures ≤ retries)

pub bounded : (p : Phase) (failures retries b i : ℕ) → Balanced p failures retries b i
    → b ≤ 1 + retries + i
bounded phase.Fresh failures retries b i is = omega (arith, is.0, is.1)
bounded phase.Busy failures retries b i is = omega (arith, is.0, is.1)
bounded phase.EndedOk failures retries b i is = omega (arith, is.0, is.1)
bounded (phase.Failed last) failures retries b i is = omega (arith, is.0, is.1)
bounded phase.Interrupted failures retries b i is = omega (arith, is.0, is.1)
bounded phase.Canceled failures retries b i is = omega (arith, is.0, is.1)

-- It stays so if nothing of the command changes.
unchanged : (k : Known) (retries b i : ℕ) → Balanced k.phase k.failures retries b i
    → Balanced k.phase k.failures retries (b + 0) (i + 0)
unchanged k retries b i is =
    let eb : b ≡ b + 0 = omega arith in
    let ei : i ≡ i + 0 = omega arith in
    subst (λ x. Balanced k.phase k.failures retries x (i + 0)) eb
    (subst (λ x. Balanced k.phase k.failures retries b x) ei is)

-- A begin.
begun : (p : Phase) (failures retries b i : ℕ) → is_busy p ≡ false → is_ok p ≡ false
    → is_cut p ≡ false
    → (is_failed p ≡ true → failures ≤ retries) → Balanced p failures retries b i
    → (b + 1 ≡ failures + (i + 0) + 1) × (failures ≤ retries)
begun phase.Fresh failures retries b i busy ok cut tries is = (omega (arith, is.0), is.1)
begun phase.Busy failures retries b i busy ok cut tries is = absurd (true≢false busy)
begun phase.EndedOk failures retries b i busy ok cut tries is = absurd (true≢false ok)
begun (phase.Failed last) failures retries b i busy ok cut tries is =
    (omega (arith, is.0), tries refl)
begun phase.Interrupted failures retries b i busy ok cut tries is = (omega (arith, is.0), is.1)
begun phase.Canceled failures retries b i busy ok cut tries is = absurd (true≢false cut)

-- A try that ran.
ran : (p : Phase) (failures retries b i : ℕ) → is_busy p ≡ true → Balanced p failures retries b i
    → (b ≡ failures + i + 1) × (failures ≤ retries)
ran phase.Fresh failures retries b i busy is = absurd (false≢true busy)
ran phase.Busy failures retries b i busy is = is
ran phase.EndedOk failures retries b i busy is = absurd (false≢true busy)
ran (phase.Failed last) failures retries b i busy is = absurd (false≢true busy)
ran phase.Interrupted failures retries b i busy is = absurd (false≢true busy)
ran phase.Canceled failures retries b i busy is = absurd (false≢true busy)

-- What has not failed for good has tries left.
has_tries : (done : List Bool) (command : Command) (fact : Known)
    → is_spent done command fact ≡ false → is_failed fact.phase ≡ true
    → fact.failures ≤ command.retries
has_tries done command fact not_lost failed =
    let parts = or_parts (nat_lt command.retries fact.failures) (is_canceled done command fact)
    (sym (ap (λ b. b && (nat_lt command.retries fact.failures || is_canceled done command fact))
    failed) ∙ not_lost) in
    ltb-false command.retries fact.failures parts.0

pub stays_balanced : (n : Night) (t : Turn) (c : ℕ) (command : Command) (k : Known) (b i : ℕ)
    → May n t → slice_get n.commands c ≡ Some command → slice_get n.known c ≡ Some k
    → Balanced k.phase k.failures command.retries b i
    → Balanced (turned t c k).phase (turned t c k).failures command.retries
    (b + cond (begins_in c t) 1 0) (i + cond (interrupts_in c t) 1 0)
stays_balanced n (Begin now sizes chosen) c command k b i may is known balance =
    go (is_among c chosen) refl
  where
    go : (x : Bool) → is_among c chosen ≡ x
        → Balanced (cond x (record k { phase = phase.Busy }) k).phase
        (cond x (record k { phase = phase.Busy }) k).failures command.retries
        (b + cond x 1 0) (i + 0)
    go true among =
        let free = among_ready n now c sizes chosen command k may among is known in
        begun k.phase k.failures command.retries b i free.0 free.1 free.3
        (has_tries n.done command k free.2) balance
    go false none = unchanged k command.retries b i balance
stays_balanced n (EndOk d) c command k b i may is known balance = go (d == c) refl
  where
    go : (x : Bool) → (d == c) ≡ x
        → Balanced (cond x (record k { phase = phase.EndedOk }) k).phase
        (cond x (record k { phase = phase.EndedOk }) k).failures command.retries (b + 0) (i + 0)
    go true here =
        let it = ran k.phase k.failures command.retries b i
        (runs_busy n c d command k may here is known) balance in
        (omega (arith, it.0), it.1)
    go false other = unchanged k command.retries b i balance
stays_balanced n (Fail d moment) c command k b i may is known balance = go (d == c) refl
  where
    go : (x : Bool) → (d == c) ≡ x
        → Balanced (cond x (record k { phase = phase.Failed moment; failures = k.failures + 1 })
        k).phase
        (cond x (record k { phase = phase.Failed moment; failures = k.failures + 1 }) k).failures
        command.retries (b + 0) (i + 0)
    go true here =
        let it = ran k.phase k.failures command.retries b i
        (runs_busy n c d command k may here is known) balance in
        (omega (arith, it.0), omega (arith, it.1))
    go false other = unchanged k command.retries b i balance
stays_balanced n (Interrupt d) c command k b i may is known balance = go (d == c) refl
  where
    go : (x : Bool) → (d == c) ≡ x
        → Balanced (cond x (record k { phase = phase.Interrupted }) k).phase
        (cond x (record k { phase = phase.Interrupted }) k).failures command.retries
        (b + 0) (i + cond x 1 0)
    go true here =
        let it = ran k.phase k.failures command.retries b i
        (runs_busy n c d command k may here is known) balance in
        (omega (arith, it.0), it.1)
    go false other = unchanged k command.retries b i balance
stays_balanced n (Cut d) c command k b i may is known balance = go (d == c) refl
  where
    go : (x : Bool) → (d == c) ≡ x
        → Balanced (cond x (record k { phase = phase.Canceled }) k).phase
        (cond x (record k { phase = phase.Canceled }) k).failures command.retries
        (b + 0) (i + 0)
    go true here =
        let it = ran k.phase k.failures command.retries b i
        (runs_busy n c d command k may here is known) balance in
        (omega (arith, it.0), it.1)
    go false other = unchanged k command.retries b i balance
stays_balanced n (Cancel d) c command k b i may is known balance = go (d == c)
  where
    go : (x : Bool) → Balanced (cond x (record k { canceled = true }) k).phase
        (cond x (record k { canceled = true }) k).failures command.retries (b + 0) (i + 0)
    go true = unchanged k command.retries b i balance
    go false = unchanged k command.retries b i balance
stays_balanced n (Stop g) c command k b i may is known balance =
    unchanged k command.retries b i balance

often : (turns : List Turn) (n m : Night) (c : ℕ) (command : Command) (k : Known) (b i : ℕ)
    → Lead n turns m → slice_get n.commands c ≡ Some command → slice_get n.known c ≡ Some k
    → Balanced k.phase k.failures command.retries b i
    → b + begins c turns ≤ 1 + command.retries + (i + interruptions c turns)
often [] n m c command k b i led is known balance =
    let all = bounded k.phase k.failures command.retries b i balance in
    let none : begins c [] ≡ 0 = refl in
    let nor : interruptions c [] ≡ 0 = refl in
    omega (arith, all, none, nor)
often (t ∷ turns) n m c command k b i led is known balance =
    let rest = often turns (after n t) m c command (turned t c k) _ _ led.1 is
    (turned_at n t c k known) (stays_balanced n t c command k b i led.0 is known balance) in
    let more = sum_by-cons (λ x. cond (begins_in c x) 1 0) t turns in
    let also = sum_by-cons (λ x. cond (interrupts_in c x) 1 0) t turns in
    omega (arith, rest, more, also)

pub bounded_begins : (n m : Night) (turns : List Turn) (c : ℕ) (command : Command) → IsFresh n
    → Lead n turns m → slice_get n.commands c ≡ Some command → length n.known ≡ length n.commands
    → begins c turns ≤ 1 + command.retries + interruptions c turns
bounded_begins n m turns c command fresh led is alike =
    let within : c < length n.known =
    (let below = slice_get_within n.commands c command is in omega (arith, alike, below)) in
    let fact = row_at n.known c within in
    let known = fact.1 ∙ ap Some (fresh c fact.0 fact.1) in
    let start : Balanced phase.Fresh 0 command.retries 0 0 = (refl, omega arith) in
    let all = often turns n m c command
    (record { phase = phase.Fresh; failures = 0; canceled = false }) 0 0 led is
    known start in
    omega (arith, all)
