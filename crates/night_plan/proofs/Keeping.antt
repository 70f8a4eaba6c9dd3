-- The pools over the turns of a night, and that cleanups begin.
use Rattle.std.proofs.Common.{◌≡◌, ◌≤◌, ◌+◌, ◌==◌, ◌||◌, ◌&&◌, ◌∙◌, ◌⊎◌, inl, inr, ℕ, suc}
use Rattle.std.proofs.Common.{zero}
use Rattle.std.proofs.Common.{Bool, true, false, cond, not, List, [], ◌∷◌, Some, length, refl, ap}
use Rattle.std.proofs.Common.{sym, subst, arith, slice_get}
use Rattle.std.proofs.lemmas.Bool.{and_parts, both_ways, cases_Bool, cases_eq, eq-eqb, eqb-true}
use Rattle.std.proofs.lemmas.Bool.{false≢true, false_from_ne_true, ne_eqb, or_left}
use Rattle.std.proofs.lemmas.List.Elements.{All-contains, recursion_from_All}
use Rattle.std.proofs.lemmas.List.Sums.{sum_by-cons, AllPass-from_list_all}
use Rattle.std.proofs.lemmas.Option.{same_Some}
use Rattle.std.specs.List.{AllByRecursion, list_all}
use Rattle.std.specs.Prelude.{All, Contains, sum_by}
use Rattle.night_plan.specs.declared.commands.Command.{Command}
use Rattle.night_plan.specs.declared.commands.Need.{Need}
use Rattle.night_plan.specs.declared.commands.When.{When}
use Rattle.night_plan.specs.declared.commands.When.TheVariants as when
use Rattle.night_plan.specs.declared.facts.Known.{Known}
use Rattle.night_plan.specs.declared.facts.Phase.{Phase}
use Rattle.night_plan.specs.declared.facts.Phase.TheVariants as phase
use Rattle.night_plan.specs.Plans.{HasNeed}
use Rattle.night_plan.specs.Nights.{Night, at, is_busy, is_ok, is_failed, is_spent, is_ended}
use Rattle.night_plan.specs.Nights.{is_canceled, is_cleanup, is_cut, is_done, runs, cleans_up}
use Rattle.night_plan.specs.Nights.{was_canceled}
use Rattle.night_plan.specs.Nights.{IsLost}
use Rattle.night_plan.specs.Nights.{IsFinal}
use Rattle.night_plan.specs.Choices.{takes_at, sum_below, in_use, taken}
use Rattle.night_plan.specs.Turns.{Turn, Begin, EndOk, Fail, Interrupt, Cut, Cancel, Stop}
use Rattle.night_plan.specs.Turns.{is_among, turned, after, May, Lead, IsFresh, begins_in, begins}
use Rattle.night_plan.specs.Turns.{IsWithin}
use Rattle.night_plan.proofs.Rows.{at_is, at_there}
use Rattle.night_plan.proofs.Final.{IsVainBy, never_why}
use Rattle.night_plan.proofs.Lasting.{turned_back}

-- ---- sums

pub sum_le : (f g h : ℕ → ℕ) → ((c : ℕ) → f c ≤ g c + h c) → (i : ℕ)
    → sum_below f i ≤ sum_below g i + sum_below h i
sum_le f g h each zero = omega arith
sum_le f g h each (suc i) =
    let rest = sum_le f g h each i in let one = each i in omega (arith, rest, one)

pub sum_zero : (i : ℕ) → sum_below (λ c. 0) i ≡ 0
sum_zero zero = refl
sum_zero (suc i) = let rest = sum_zero i in omega (arith, rest)

sum_one : (f : ℕ → ℕ) (d i : ℕ) → (sum_below (λ c. cond (d == c) (f c) 0) i ≤ f d)
    × (i ≤ d → sum_below (λ c. cond (d == c) (f c) 0) i ≡ 0)
sum_one f d zero = (omega arith, λ below. refl)
sum_one f d (suc i) =
    let rest = sum_one f d i in
    elim (cases_eq d i) [
      | inl same ↦
          let none = rest.1 (omega (arith, same)) in
          let here : ◌≡◌ {A = ℕ} (cond (d == i) (f i) 0) (f i) =
          ap (λ (b : Bool). cond {A = ℕ} b (f i) 0) (eq-eqb d i same) in
          let value = ap f same in
          (omega (arith, none, here, value), λ below. absurd (omega (arith, below, same)))
      | inr other ↦
          let none_here : ◌≡◌ {A = ℕ} (cond (d == i) (f i) 0) 0 =
          ap (λ (b : Bool). cond {A = ℕ} b (f i) 0) (ne_eqb d i other) in
          let le = rest.0 in (
            omega (arith, le, none_here),
            λ below. let none = rest.1 (omega (arith, below)) in omega (arith, none, none_here),
          )
    ]

-- What is among some commands takes no more than they take together.
sum_among : (f : ℕ → ℕ) (chosen : List ℕ) (i : ℕ)
    → sum_below (λ c. cond (is_among c chosen) (f c) 0) i ≤ sum_by f chosen
sum_among f [] i = let none = sum_zero i in omega (arith, none)
sum_among f (d ∷ chosen) i =
    let split = sum_le (λ c. cond (is_among c (d ∷ chosen)) (f c) 0)
    (λ c. cond (d == c) (f c) 0) (λ c. cond (is_among c chosen) (f c) 0)
    (λ c. either (d == c) (is_among c chosen) (f c)) i in
    let one = (sum_one f d i).0 in
    let rest = sum_among f chosen i in
    let sum = sum_by-cons f d chosen in
    omega (arith, split, one, rest, sum)
  where
    either : (a b : Bool) (x : ℕ) → cond (a || b) x 0 ≤ cond a x 0 + cond b x 0
    either true b x = omega arith
    either false b x = omega arith

-- ---- what runs

run_phase : (u : Turn) (c : ℕ) (k : Known) → is_busy (turned u c k).phase ≡ true
    → (is_busy k.phase ≡ true) ⊎ ((now : ℕ) × (sizes : List ℕ) × (chosen : List ℕ)
    × (u ≡ Begin now sizes chosen) × (is_among c chosen ≡ true))
run_phase (Begin now sizes chosen) c k busy = go (is_among c chosen) refl busy
  where
    go : (b : Bool) → is_among c chosen ≡ b
        → is_busy (cond b (record k { phase = phase.Busy }) k).phase ≡ true
        → (is_busy k.phase ≡ true) ⊎ ((x : ℕ) × (ys : List ℕ) × (zs : List ℕ)
        × (Begin now sizes chosen ≡ Begin x ys zs) × (is_among c zs ≡ true))
    go true among now_busy = inr (now, sizes, chosen, refl, among)
    go false none old = inl old
run_phase (EndOk d) c k busy = go (d == c) busy
  where
    go : (b : Bool) → is_busy (cond b (record k { phase = phase.EndedOk }) k).phase ≡ true
        → (is_busy k.phase ≡ true) ⊎ ((x : ℕ) × (ys : List ℕ) × (zs : List ℕ)
        × (EndOk d ≡ Begin x ys zs) × (is_among c zs ≡ true))
    go true never = absurd (false≢true never)
    go false old = inl old
run_phase (Fail d moment) c k busy = go (d == c) busy
  where
    go : (b : Bool) → is_busy (cond b (record k {
      phase = phase.Failed moment;
      failures = k.failures + 1;
    }) k).phase ≡ true
        → (is_busy k.phase ≡ true) ⊎ ((x : ℕ) × (ys : List ℕ) × (zs : List ℕ)
        × (Fail d moment ≡ Begin x ys zs) × (is_among c zs ≡ true))
    go true never = absurd (false≢true never)
    go false old = inl old
run_phase (Interrupt d) c k busy = go (d == c) busy
  where
    go : (b : Bool) → is_busy (cond b (record k { phase = phase.Interrupted }) k).phase ≡ true
        → (is_busy k.phase ≡ true) ⊎ ((x : ℕ) × (ys : List ℕ) × (zs : List ℕ)
        × (Interrupt d ≡ Begin x ys zs) × (is_among c zs ≡ true))
    go true never = absurd (false≢true never)
    go false old = inl old
run_phase (Cut d) c k busy = go (d == c) busy
  where
    go : (b : Bool) → is_busy (cond b (record k { phase = phase.Canceled }) k).phase ≡ true
        → (is_busy k.phase ≡ true) ⊎ ((x : ℕ) × (ys : List ℕ) × (zs : List ℕ)
        × (Cut d ≡ Begin x ys zs) × (is_among c zs ≡ true))
    go true never = absurd (false≢true never)
    go false old = inl old
run_phase (Cancel d) c k busy = go (d == c) busy
  where
    go : (b : Bool) → is_busy (cond b (record k { canceled = true }) k).phase ≡ true
        → (is_busy k.phase ≡ true) ⊎ ((x : ℕ) × (ys : List ℕ) × (zs : List ℕ)
        × (Cancel d ≡ Begin x ys zs) × (is_among c zs ≡ true))
    go true old = inl old
    go false old = inl old
run_phase (Stop g) c k busy = inl busy

-- What runs after a turn ran before, or was begun in it.
run_by : (n : Night) (t : Turn) (c : ℕ) → runs (after n t) c ≡ true
    → (runs n c ≡ true) ⊎ ((now : ℕ) × (sizes : List ℕ) × (chosen : List ℕ)
    × (t ≡ Begin now sizes chosen) × (is_among c chosen ≡ true))
run_by n t c ran =
    let it = at_there (after n t) c (λ x f. is_busy f.phase) ran in
    let old = turned_back n t c it.1 it.3 in
    elim (run_phase t c old.0 (ap (λ (k : Known). is_busy k.phase) (sym old.2) ∙ it.4)) [
      | inl busy ↦ inl (at_is n c it.0 old.0 it.2 old.1 (λ x f. is_busy f.phase) ∙ busy)
      | inr begun ↦ inr begun
    ]

-- ---- the pools

module _ (n : Night) (t : Turn) (p : ℕ) where
  fewer : ((now : ℕ) (sizes chosen : List ℕ) → t ≡ Begin now sizes chosen → ⊥)
      → in_use (after n t) p ≤ in_use n p
  fewer other =
      let split = sum_le (λ c. cond (runs (after n t) c) (takes_at (after n t) p c) 0)
      (λ c. cond (runs n c) (takes_at n p c) 0) (λ c. 0) (λ c. each c (runs (after n t) c) refl)
      (length n.commands) in
      let none = sum_zero (length n.commands) in
      omega (arith, split, none)
    where
      each : (c : ℕ) (b : Bool) → runs (after n t) c ≡ b
          → cond b (takes_at n p c) 0 ≤ cond (runs n c) (takes_at n p c) 0 + 0
      each c false is = omega arith
      each c true is = elim (run_by n t c is) [
        | inl before ↦
            let same = ap (λ (b : Bool). cond b (takes_at n p c) 0) before in omega (arith, same)
        | inr begun ↦ absurd (other begun.0 begun.1 begun.2 begun.3)
      ]

begin_more : (n : Night) (now : ℕ) (sizes chosen : List ℕ) (p : ℕ)
    → in_use (after n (Begin now sizes chosen)) p ≤ in_use n p + taken n p chosen
begin_more n now sizes chosen p =
    let split = sum_le (λ c. cond (runs (after n (Begin now sizes chosen)) c) (takes_at n p c) 0)
    (λ c. cond (runs n c) (takes_at n p c) 0) (λ c. cond (is_among c chosen) (takes_at n p c) 0)
    (λ c. each c (runs (after n (Begin now sizes chosen)) c) refl) (length n.commands) in
    let among = sum_among (takes_at n p) chosen (length n.commands) in
    omega (arith, split, among)
  where
    same_chosen : (a : ℕ) (xs ys : List ℕ) → Begin now sizes chosen ≡ Begin a xs ys → (c : ℕ)
        → is_among c ys ≡ true → is_among c chosen ≡ true
    same_chosen a xs ys same c found =
        let equal : chosen ≡ ys = cc in subst (λ zs. is_among c zs ≡ true) (sym equal) found

    each : (c : ℕ) (b : Bool) → runs (after n (Begin now sizes chosen)) c ≡ b
        → cond b (takes_at n p c) 0
        ≤ cond (runs n c) (takes_at n p c) 0 + cond (is_among c chosen) (takes_at n p c) 0
    each c false is = omega arith
    each c true is = elim (run_by n (Begin now sizes chosen) c is) [
      | inl before ↦
          let same = ap (λ (b : Bool). cond b (takes_at n p c) 0) before in omega (arith, same)
      | inr begun ↦
          let same = ap (λ (b : Bool). cond b (takes_at n p c) 0)
          (same_chosen begun.0 begun.1 begun.2 begun.3 c begun.4) in
          omega (arith, same)
    ]

pub step_kept : (n : Night) (t : Turn) (p size : ℕ) → IsWithin p size t → May n t
    → in_use n p ≤ size → in_use (after n t) p ≤ size
step_kept n (Begin now sizes chosen) p size within may kept =
    let more = begin_more n now sizes chosen p in
    let fits = may.within p in
    omega (arith, more, fits, within, kept)
step_kept n (EndOk d) p size within may kept =
    let less = fewer n (EndOk d) p (λ a xs ys e. (cc)) in omega (arith, less, kept)
step_kept n (Fail d m) p size within may kept =
    let less = fewer n (Fail d m) p (λ a xs ys e. (cc)) in omega (arith, less, kept)
step_kept n (Interrupt d) p size within may kept =
    let less = fewer n (Interrupt d) p (λ a xs ys e. (cc)) in omega (arith, less, kept)
step_kept n (Cut d) p size within may kept =
    let less = fewer n (Cut d) p (λ a xs ys e. (cc)) in omega (arith, less, kept)
step_kept n (Cancel d) p size within may kept =
    let less = fewer n (Cancel d) p (λ a xs ys e. (cc)) in omega (arith, less, kept)
step_kept n (Stop g) p size within may kept =
    let less = fewer n (Stop g) p (λ a xs ys e. (cc)) in omega (arith, less, kept)

pools_kept : (turns : List Turn) (n m : Night) (p size : ℕ) → in_use n p ≤ size → Lead n turns m
    → AllByRecursion (IsWithin p size) turns → in_use m p ≤ size
pools_kept [] n m p size kept led within = subst (λ x. in_use x p ≤ size) led kept
pools_kept (t ∷ turns) n m p size kept led within =
    pools_kept turns (after n t) m p size (step_kept n t p size within.0 led.0 kept) led.1 within.1

pub fresh_idle : (n : Night) (p : ℕ) → IsFresh n → in_use n p ≡ 0
fresh_idle n p fresh = none (length n.commands)
  where
    not_run : (c : ℕ) → runs n c ≡ false
    not_run c = elim (cases_Bool (runs n c)) [
      | inl ran ↦
          let it = at_there n c (λ x f. is_busy f.phase) ran in
          absurd (false≢true (sym (ap (λ (k : Known). is_busy k.phase) (fresh c it.1 it.3))
          ∙ it.4))
      | inr idle ↦ idle
    ]

    none : (i : ℕ) → sum_below (λ c. cond (runs n c) (takes_at n p c) 0) i ≡ 0
    none zero = refl
    none (suc i) =
        let rest = none i in
        let here = ap (λ (b : Bool). cond b (takes_at n p i) 0) (not_run i) in
        omega (arith, rest, here)

pub keeps_pools : (n m : Night) (turns : List Turn) (p size : ℕ) → IsFresh n → Lead n turns m
    → All (IsWithin p size) turns → in_use m p ≤ size
keeps_pools n m turns p size fresh led within =
    let none = fresh_idle n p fresh in
    pools_kept turns n m p size (omega (arith, none)) led
    (recursion_from_All (IsWithin p size) turns within)

-- ---- cleanups

-- A command was canceled itself, before a try of it or in one.
abbrev pub itself : Command → Known → Bool
itself command fact = fact.canceled || is_cut fact.phase

or_first : (a : Bool) → (a || false) ≡ true → a ≡ true
or_first true some = refl
or_first false never = never

abbrev pub is_begun : Phase → Bool
is_begun phase.Fresh = false
is_begun phase.Busy = true
is_begun phase.EndedOk = true
is_begun (phase.Failed last) = true
is_begun phase.Interrupted = true
is_begun phase.Canceled = true

ok_begun : (p : Phase) → is_ok p ≡ true → is_begun p ≡ true
ok_begun phase.Fresh ok = ok
ok_begun phase.Busy ok = refl
ok_begun phase.EndedOk ok = refl
ok_begun (phase.Failed last) ok = refl
ok_begun phase.Interrupted ok = refl
ok_begun phase.Canceled ok = refl

busy_begun : (p : Phase) → is_busy p ≡ true → is_begun p ≡ true
busy_begun phase.Fresh busy = busy
busy_begun phase.Busy busy = refl
busy_begun phase.EndedOk busy = refl
busy_begun (phase.Failed last) busy = refl
busy_begun phase.Interrupted busy = refl
busy_begun phase.Canceled busy = refl

failed_begun : (p : Phase) → is_failed p ≡ true → is_begun p ≡ true
failed_begun phase.Fresh failed = failed
failed_begun phase.Busy failed = refl
failed_begun phase.EndedOk failed = refl
failed_begun (phase.Failed last) failed = refl
failed_begun phase.Interrupted failed = refl
failed_begun phase.Canceled failed = refl

-- A command that was begun by the end of a turn was begun before it, or in it.
module _ (n : Night) (c : ℕ) (command : Command) (k : Known)
    (is : slice_get n.commands c ≡ Some command) (known : slice_get n.known c ≡ Some k) where
  was_busy : (d : ℕ) → runs n d ≡ true → (d == c) ≡ true → is_begun k.phase ≡ true
  was_busy d ran same = busy_begun k.phase
      (sym (at_is n c command k is known (λ x f. is_busy f.phase))
      ∙ sym (ap (runs n) (eqb-true d c same)) ∙ ran)

  begun_by : (t : Turn) → May n t → is_begun (turned t c k).phase ≡ true
      → (is_begun k.phase ≡ true) ⊎ (begins_in c t ≡ true)
  begun_by (Begin now sizes chosen) may begun = go (is_among c chosen) begun
    where
      go : (b : Bool) → is_begun (cond b (record k { phase = phase.Busy }) k).phase ≡ true
          → (is_begun k.phase ≡ true) ⊎ (b ≡ true)
      go true now_begun = inr refl
      go false old = inl old
  begun_by (EndOk d) may begun = go (d == c) refl begun
    where
      go : (b : Bool) → (d == c) ≡ b
          → is_begun (cond b (record k { phase = phase.EndedOk }) k).phase ≡ true
          → (is_begun k.phase ≡ true) ⊎ (begins_in c (EndOk d) ≡ true)
      go true here new = inl (was_busy d may here)
      go false other old = inl old
  begun_by (Fail d moment) may begun = go (d == c) refl begun
    where
      go : (b : Bool) → (d == c) ≡ b → is_begun (cond b (record k {
        phase = phase.Failed moment;
        failures = k.failures + 1;
      }) k).phase ≡ true
          → (is_begun k.phase ≡ true) ⊎ (begins_in c (Fail d moment) ≡ true)
      go true here new = inl (was_busy d may here)
      go false other old = inl old
  begun_by (Interrupt d) may begun = go (d == c) refl begun
    where
      go : (b : Bool) → (d == c) ≡ b
          → is_begun (cond b (record k { phase = phase.Interrupted }) k).phase ≡ true
          → (is_begun k.phase ≡ true) ⊎ (begins_in c (Interrupt d) ≡ true)
      go true here new = inl (was_busy d may here)
      go false other old = inl old
  begun_by (Cut d) may begun = go (d == c) refl begun
    where
      go : (b : Bool) → (d == c) ≡ b
          → is_begun (cond b (record k { phase = phase.Canceled }) k).phase ≡ true
          → (is_begun k.phase ≡ true) ⊎ (begins_in c (Cut d) ≡ true)
      go true here new = inl (was_busy d may here)
      go false other old = inl old
  begun_by (Cancel d) may begun = go (d == c) begun
    where
      go : (b : Bool) → is_begun (cond b (record k { canceled = true }) k).phase ≡ true
          → (is_begun k.phase ≡ true) ⊎ (begins_in c (Cancel d) ≡ true)
      go true old = inl old
      go false old = inl old
  begun_by (Stop g) may begun = inl begun

pub begun_among : (turns : List Turn) (n m : Night) (c : ℕ) → Lead n turns m
    → at m c (λ x f. is_begun f.phase) ≡ true
    → (at n c (λ x f. is_begun f.phase) ≡ true) ⊎ (1 ≤ begins c turns)
begun_among [] n m c led begun =
    inl (subst (λ (x : Night). at x c (λ y f. is_begun f.phase) ≡ true) (sym led) begun)
begun_among (t ∷ turns) n m c led begun =
    let split = sum_by-cons (λ x. cond (begins_in c x) 1 0) t turns in
    elim (begun_among turns (after n t) m c led.1 begun) [
      | inr later ↦ inr (omega (arith, split, later))
      | inl early ↦
          let it = at_there (after n t) c (λ x f. is_begun f.phase) early in
          let old = turned_back n t c it.1 it.3 in
          elim (begun_by n c it.0 old.0 it.2 old.1 t led.0
          (ap (λ (k : Known). is_begun k.phase) (sym old.2) ∙ it.4)) [
            | inl before ↦ inl (at_is n c it.0 old.0 it.2 old.1 (λ x f. is_begun f.phase) ∙ before)
            | inr here ↦
                let one : ◌≡◌ {A = ℕ} (cond (begins_in c t) 1 0) 1 =
                ap (λ (b : Bool). cond {A = ℕ} b 1 0) here in
                inr (omega (arith, split, one))
          ]
    ]

-- A cleanup's needs are never in vain.
no_vain : (n : Night) (c : ℕ) (need : Need) → cleans_up n c ≡ true → HasNeed n.commands c need
    → IsVainBy n c need need.when → ⊥
no_vain n c need cleanup has =
    let it = at_there n c (λ x f. is_cleanup x) cleanup in
    let parts = and_parts (not (length it.0.needs.items == 0))
    (list_all (λ x. is_ended x.when) it.0.needs.items) it.4 in
    let all = AllPass-from_list_all (λ (x : Need). is_ended x.when) it.0.needs.items parts.1 in
    let same = same_Some has.command it.0 (sym has.is ∙ it.2) in
    let listed = subst (λ (x : Command). Contains x.needs.items need) same has.listed in
    none need.when
    (All-contains (λ (x : Need). is_ended x.when ≡ true) it.0.needs.items need all listed)
  where
    none : (w : When) → is_ended w ≡ true → IsVainBy n c need w → ⊥
    none when.Well ends vain = false≢true ends
    none when.Failed ends vain = false≢true ends
    none when.Ended ends vain = vain

-- A cleanup that is final, and wasn't canceled itself, was begun.
pub final_begun : (m : Night) (c : ℕ) → cleans_up m c ≡ true → was_canceled m c ≡ false
    → IsFinal m c → at m c (λ x f. is_begun f.phase) ≡ true
final_begun m c cleanup canceled = begun_at
  where
    lost_begun : IsLost m c → at m c (λ x f. is_begun f.phase) ≡ true
    lost_begun lost = elim lost.why [
      | inl spent ↦
          let it = at_there m c (is_spent m.done) spent in
          let failed = (and_parts (is_failed it.1.phase) _ it.4).0 in
          at_is m c it.0 it.1 it.2 it.3 (λ x f. is_begun f.phase) ∙ failed_begun it.1.phase failed
      | inr (inl was) ↦ absurd (both_ways (was_canceled m c) canceled was)
      | inr (inr stop) ↦ absurd (both_ways (cleans_up m c) stop.plain cleanup)
    ]

    begun_at : IsFinal m c → at m c (λ x f. is_begun f.phase) ≡ true
    begun_at (inl ok) =
        let it = at_there m c (λ x f. is_ok f.phase) ok in
        at_is m c it.0 it.1 it.2 it.3 (λ x f. is_begun f.phase) ∙ ok_begun it.1.phase it.4
    begun_at (inr never) = elim (never_why m c never) [
      | inl lost ↦ lost_begun lost
      | inr vain ↦ absurd (no_vain m c vain.0 cleanup vain.1 vain.2)
    ]

pub fresh_not_begun : (n : Night) (c : ℕ) → IsFresh n
    → at n c (λ x f. is_begun f.phase) ≡ true → ⊥
fresh_not_begun n c fresh begun =
    let it = at_there n c (λ x f. is_begun f.phase) begun in
    false≢true (sym (ap (λ (k : Known). is_begun k.phase) (fresh c it.1 it.3)) ∙ it.4)

-- A turn that cancels a command, or ends a try of it by a cancellation.
pub canceled_turned : (t : Turn) (c : ℕ) (k : Known)
    → ((turned t c k).canceled || is_cut (turned t c k).phase) ≡ true
    → ((k.canceled || is_cut k.phase) ≡ true) ⊎ ((t ≡ Cancel c) ⊎ (t ≡ Cut c))
canceled_turned (Begin now sizes chosen) c k was = go (is_among c chosen) was
  where
    go : (b : Bool) → ((cond b (record k { phase = phase.Busy }) k).canceled
        || is_cut (cond b (record k { phase = phase.Busy }) k).phase) ≡ true
        → ((k.canceled || is_cut k.phase) ≡ true)
        ⊎ ((Begin now sizes chosen ≡ Cancel c) ⊎ (Begin now sizes chosen ≡ Cut c))
    go true some = inl (or_left k.canceled (is_cut k.phase) (or_first k.canceled some))
    go false same = inl same
canceled_turned (EndOk d) c k was = go (d == c) was
  where
    go : (b : Bool) → ((cond b (record k { phase = phase.EndedOk }) k).canceled
        || is_cut (cond b (record k { phase = phase.EndedOk }) k).phase) ≡ true
        → ((k.canceled || is_cut k.phase) ≡ true) ⊎ ((EndOk d ≡ Cancel c) ⊎ (EndOk d ≡ Cut c))
    go true some = inl (or_left k.canceled (is_cut k.phase) (or_first k.canceled some))
    go false same = inl same
canceled_turned (Fail d moment) c k was = go (d == c) was
  where
    go : (b : Bool) → ((cond b (record k {
      phase = phase.Failed moment;
      failures = k.failures + 1;
    }) k).canceled || is_cut (cond b (record k {
      phase = phase.Failed moment;
      failures = k.failures + 1;
    }) k).phase) ≡ true
        → ((k.canceled || is_cut k.phase) ≡ true)
        ⊎ ((Fail d moment ≡ Cancel c) ⊎ (Fail d moment ≡ Cut c))
    go true some = inl (or_left k.canceled (is_cut k.phase) (or_first k.canceled some))
    go false same = inl same
canceled_turned (Interrupt d) c k was = go (d == c) was
  where
    go : (b : Bool) → ((cond b (record k { phase = phase.Interrupted }) k).canceled
        || is_cut (cond b (record k { phase = phase.Interrupted }) k).phase) ≡ true
        → ((k.canceled || is_cut k.phase) ≡ true)
        ⊎ ((Interrupt d ≡ Cancel c) ⊎ (Interrupt d ≡ Cut c))
    go true some = inl (or_left k.canceled (is_cut k.phase) (or_first k.canceled some))
    go false same = inl same
canceled_turned (Cut d) c k was = go (d == c) refl was
  where
    go : (b : Bool) → (d == c) ≡ b → ((cond b (record k { phase = phase.Canceled }) k).canceled
        || is_cut (cond b (record k { phase = phase.Canceled }) k).phase) ≡ true
        → ((k.canceled || is_cut k.phase) ≡ true) ⊎ ((Cut d ≡ Cancel c) ⊎ (Cut d ≡ Cut c))
    go true here new = inr (inr (ap Cut (eqb-true d c here)))
    go false other same = inl same
canceled_turned (Cancel d) c k was = go (d == c) refl was
  where
    go : (b : Bool) → (d == c) ≡ b → ((cond b (record k { canceled = true }) k).canceled
        || is_cut (cond b (record k { canceled = true }) k).phase) ≡ true
        → ((k.canceled || is_cut k.phase) ≡ true) ⊎ ((Cancel d ≡ Cancel c) ⊎ (Cancel d ≡ Cut c))
    go true here new = inr (inl (ap Cancel (eqb-true d c here)))
    go false other same = inl same
canceled_turned (Stop g) c k was = inl was

-- What was canceled itself by the end of a night was so at the start, or was canceled in a turn.
pub canceled_by : (n : Night) (t : Turn) (c : ℕ) → at (after n t) c itself ≡ true
    → (at n c itself ≡ true) ⊎ ((t ≡ Cancel c) ⊎ (t ≡ Cut c))
canceled_by n t c was =
    let it = at_there (after n t) c itself was in
    let old = turned_back n t c it.1 it.3 in
    elim (canceled_turned t c old.0
    (ap (λ (k : Known). k.canceled || is_cut k.phase) (sym old.2) ∙ it.4)) [
      | inl before ↦ inl (at_is n c it.0 old.0 it.2 old.1 itself ∙ before)
      | inr here ↦ inr here
    ]

canceled_among : (turns : List Turn) (n m : Night) (c : ℕ) → Lead n turns m
    → at m c itself ≡ true
    → (at n c itself ≡ true) ⊎ (Contains turns (Cancel c) ⊎ Contains turns (Cut c))
canceled_among [] n m c led was = inl (subst (λ (x : Night). at x c itself ≡ true) (sym led) was)
canceled_among (t ∷ turns) n m c led was =
    elim (canceled_among turns (after n t) m c led.1 was) [
      | inl early ↦ elim (canceled_by n t c early) [
        | inl before ↦ inl before
        | inr (inl here) ↦ inr (inl (0, omega arith, here))
        | inr (inr here) ↦ inr (inr (0, omega arith, here))
      ]
      | inr (inl found) ↦ inr (inl (suc found.0, omega (arith, found.1), found.2))
      | inr (inr found) ↦ inr (inr (suc found.0, omega (arith, found.1), found.2))
    ]

-- A cleanup is canceled only by itself.
pub canceled_itself : (m : Night) (c : ℕ) → cleans_up m c ≡ true → was_canceled m c ≡ true
    → at m c itself ≡ true
canceled_itself m c cleanup was =
    let it = at_there m c (is_canceled m.done) was in
    let cleans = sym (at_is m c it.0 it.1 it.2 it.3 (λ x f. is_cleanup x)) ∙ cleanup in
    at_is m c it.0 it.1 it.2 it.3 itself ∙ go it.1.canceled (is_cut it.1.phase) (is_cleanup it.0)
    (is_done m.done it.0.group) cleans it.4
  where
    go : (a b k d : Bool) → k ≡ true → (a || (b || (not k && d))) ≡ true → (a || b) ≡ true
    go true b k d cleans canceled = refl
    go false true k d cleans canceled = refl
    go false false true d cleans never = never
    go false false false d never canceled = absurd (false≢true never)

pub fresh_not_canceled : (n : Night) (c : ℕ) → IsFresh n → at n c itself ≡ true → ⊥
fresh_not_canceled n c fresh was =
    let it = at_there n c itself was in
    false≢true (sym (ap (λ (k : Known). k.canceled || is_cut k.phase) (fresh c it.1 it.3))
    ∙ it.4)

pub cleanups_begin : (n m : Night) (turns : List Turn) (c : ℕ) → IsFresh n → Lead n turns m
    → IsFinal m c → cleans_up m c ≡ true → (Contains turns (Cancel c) → ⊥)
    → (Contains turns (Cut c) → ⊥) → 1 ≤ begins c turns
cleanups_begin n m turns c fresh led final cleanup no_cancel no_cut =
    let canceled = false_from_ne_true (was_canceled m c) (λ was.
    elim (canceled_among turns n m c led (canceled_itself m c cleanup was)) [
      | inl early ↦ fresh_not_canceled n c fresh early
      | inr (inl found) ↦ no_cancel found
      | inr (inr found) ↦ no_cut found
    ]) in
    elim (begun_among turns n m c led (final_begun m c cleanup canceled final)) [
      | inr some ↦ some
      | inl early ↦ absurd (fresh_not_begun n c fresh early)
    ]
