-- The queue of ready commands: candidates by number, sorted by their keys.
use Rattle.std.proofs.Common.{◌≡◌, ◌<◌, ◌≤◌, ◌+◌, ◌==◌, ◌∙◌, inl, inr, ℕ, suc, zero}
use Rattle.std.proofs.Common.{Bool, true, false, cond, List, [], ◌∷◌, ◌++◌, Some, length, map}
use Rattle.std.proofs.Common.{refl}
use Rattle.std.proofs.Common.{ap, sym, subst, arith, slice_get, slice_index, slice_index_or}
use Rattle.std.proofs.Common.{get_or}
use Rattle.std.proofs.Common.{length-append, zero-add}
use Rattle.std.proofs.lemmas.Bool.{cases_Bool, cases_eq, cases_lt, cases_order, eq-eqb, eqb-true}
use Rattle.std.proofs.lemmas.Bool.{le-ltb, ne_eqb}
use Rattle.std.proofs.lemmas.List.{get_or_append_left, get_or_push}
use Rattle.std.proofs.lemmas.List.Elements.{All-get_or, All-push, All-weaker}
use Rattle.std.proofs.lemmas.List.Elements.{All-from_recursion, Contains-append_left}
use Rattle.std.proofs.lemmas.List.Elements.{Contains-push}
use Rattle.std.proofs.lemmas.List.Elements.{recursion_from_All}
use Rattle.std.proofs.lemmas.List.Sorted.{All-permutation, Contains-permutation}
use Rattle.std.proofs.lemmas.List.Sorted.{IsNonDecreasingBy-from_sort, sum_by-IsPermutation}
use Rattle.std.proofs.lemmas.List.Sorted.{ties_still_rise}
use Rattle.std.proofs.lemmas.List.Sums.{sum_by-append, sum_by-cons}
use Rattle.std.proofs.lemmas.Option.{slice_get_within}
use Rattle.std.specs.List.{AllByRecursion}
use Rattle.std.specs.List.Sorted.{IsPermutation, IsSortedByKey, IsStableByKey, IsNonDecreasingBy}
use Rattle.std.specs.Ordering.{is_lt, nat_cmp}
use Rattle.std.proofs.Common.{Less, Equal, Greater}
use Rattle.std.specs.Prelude.{All, Contains}
use Rattle.night_plan.specs.declared.choices.Candidate.{Candidate}
use Rattle.night_plan.specs.declared.standings.Standing.{Standing}
use Rattle.night_plan.specs.declared.standings.Standing.TheVariants as standing
use Rattle.night_plan.specs.Nights.{Night}
use Rattle.night_plan.specs.Choices.{group_priority, comes_before}
use Rattle.night_plan.specs.Queues.{IsCandidate, times, AreCandidates, IsQueue}
use Rattle.night_plan.proofs.Ordering.{IsBefore, before_from}

-- ---- candidates by number

times_push : (c : ℕ) (queue : List Candidate) (it : Candidate)
    → times c (queue ++ it ∷ []) ≡ times c queue + cond (it.command == c) 1 0
times_push c queue it =
    sum_by-append (λ x. cond (x.command == c) 1 0) queue (it ∷ [])
    ∙ ap (λ k. times c queue + k) (zero-add (cond (it.command == c) 1 0))

none_below : (i : ℕ) (queue : List Candidate) → AllByRecursion (λ it. it.command < i) queue
    → times i queue ≡ 0
none_below i [] below = refl
none_below i (it ∷ queue) below =
    let split = sum_by-cons (λ (x : Candidate). cond (x.command == i) 1 0) it queue in
    let less = below.0 in
    let other : ◌≡◌ {A = ℕ} (cond (it.command == i) 1 0) 0 =
    ap (λ (b : Bool). cond {A = ℕ} b 1 0) (ne_eqb it.command i (λ e. omega (arith, e, less))) in
    let rest = none_below i queue below.1 in
    omega (arith, split, other, rest)

pub candidates_more : (n : Night) (all : List Standing) (i : ℕ) (queue : List Candidate)
    (it : Candidate) → AreCandidates n all i queue → IsCandidate n all it → it.command ≡ i
    → AreCandidates n all (i + 1) (queue ++ it ∷ [])
candidates_more n all i queue it are one at_i = record {
  each = All-push (IsCandidate n all) queue it are.each one;
  every = λ c below ready. elim (cases_eq c i) [
    | inl same ↦ (it, Contains-push queue it, at_i ∙ sym same)
    | inr less ↦
        let old = are.every c (omega (arith, below, less)) ready in
        (old.0, Contains-append_left queue (it ∷ []) old.0 old.1, old.2)
  ];
  below = All-push (λ x. x.command < i + 1) queue it
      (All-weaker (λ (x : Candidate). x.command < i) (λ x. x.command < i + 1)
      (λ x less. omega (arith, less)) queue are.below) (omega (arith, at_i));
  once = λ c.
      let split = times_push c queue it in
      elim (cases_Bool (it.command == c)) [
        | inl here ↦
            let same : c ≡ i = sym (eqb-true it.command c here) ∙ at_i in
            let none = none_below i queue
            (recursion_from_All (λ (x : Candidate). x.command < i) queue are.below) in
            let zero_c : times c queue ≡ 0 = ap (λ k. times k queue) same ∙ none in
            let one_c : ◌≡◌ {A = ℕ} (cond (it.command == c) 1 0) 1 =
            ap (λ (b : Bool). cond {A = ℕ} b 1 0) here in
            omega (arith, split, zero_c, one_c)
        | inr other ↦
            let old = are.once c in
            let none_c : ◌≡◌ {A = ℕ} (cond (it.command == c) 1 0) 0 =
            ap (λ (b : Bool). cond {A = ℕ} b 1 0) other in
            omega (arith, split, old, none_c)
      ];
  rise = λ k d below.
      let len = length-append queue (it ∷ []) in
      elim (cases_lt (k + 1) (length queue)) [
        | inl inside ↦
            let one = get_or_append_left queue (it ∷ []) d k (omega (arith, inside)) in
            let two = get_or_append_left queue (it ∷ []) d (k + 1) inside in
            let old = are.rise k d inside in
            let a = ap (λ (x : Candidate). x.command) one in
            let b = ap (λ (x : Candidate). x.command) two in
            omega (arith, a, b, old)
        | inr past ↦
            let last : length queue ≡ k + 1 = omega (arith, len, past, below) in
            let one = get_or_append_left queue (it ∷ []) d k (omega (arith, last)) in
            let two = get_or_push queue it d (k + 1) last in
            let less = All-get_or (λ (x : Candidate). x.command < i) queue k d
            (omega (arith, last)) are.below in
            let a = ap (λ (x : Candidate). x.command) one in
            let b = ap (λ (x : Candidate). x.command) two in
            omega (arith, a, b, less, at_i)
      ];
}

-- ---- sorted

-- A command that stands at two places is there twice.
twice : (queue : List Candidate) (a b c : ℕ) (d : Candidate) → a < b → b < length queue
    → (get_or queue a d).command ≡ c → (get_or queue b d).command ≡ c → 2 ≤ times c queue
twice [] a b c d less below one two = absurd (omega (arith, below))
twice (it ∷ queue) a zero c d less below one two = absurd (omega (arith, less))
twice (it ∷ queue) zero (suc b) c d less below one two =
    let split = sum_by-cons (λ (x : Candidate). cond (x.command == c) 1 0) it queue in
    let here : ◌≡◌ {A = ℕ} (cond (it.command == c) 1 0) 1 =
    ap (λ (b : Bool). cond {A = ℕ} b 1 0) (eq-eqb it.command c one) in
    let there = once_at queue b (omega (arith, below)) two in
    omega (arith, split, here, there)
  where
    once_at : (xs : List Candidate) (k : ℕ) → k < length xs → (get_or xs k d).command ≡ c
        → 1 ≤ times c xs
    once_at [] k never is = absurd (omega (arith, never))
    once_at (x ∷ xs) zero within is =
        let cut = sum_by-cons (λ (x : Candidate). cond (x.command == c) 1 0) x xs in
        let some : ◌≡◌ {A = ℕ} (cond (x.command == c) 1 0) 1 =
        ap (λ (b : Bool). cond {A = ℕ} b 1 0) (eq-eqb x.command c is) in
        omega (arith, cut, some)
    once_at (x ∷ xs) (suc k) within is =
        let cut = sum_by-cons (λ (x : Candidate). cond (x.command == c) 1 0) x xs in
        let rest = once_at xs k (omega (arith, within)) is in
        omega (arith, cut, rest)
twice (it ∷ queue) (suc a) (suc b) c d less below one two =
    let split = sum_by-cons (λ (x : Candidate). cond (x.command == c) 1 0) it queue in
    let rest = twice queue a b c d (omega (arith, less)) (omega (arith, below)) one two in
    omega (arith, split, rest)

map_at : (queue : List Candidate) (k : ℕ) (d : Candidate) → k < length queue
    → slice_index (map (λ it. it.command) queue) k ≡ (get_or queue k d).command
map_at [] k d never = absurd (omega (arith, never))
map_at (it ∷ queue) zero d within = refl
map_at (it ∷ queue) (suc k) d within = map_at queue k d (omega (arith, within))

map_length : (queue : List Candidate) → length (map (λ it. it.command) queue) ≡ length queue
map_length [] = refl
map_length (it ∷ queue) = ap suc (map_length queue)

map_contains : (queue : List Candidate) (it : Candidate) (k : ℕ) → k < length queue
    → get_or queue k it ≡ it → Contains (map (λ x. x.command) queue) it.command
map_contains [] it k never is = absurd (omega (arith, never))
map_contains (x ∷ queue) it zero within is =
    (0, omega arith, ap (λ (y : Candidate). y.command) is)
map_contains (x ∷ queue) it (suc k) within is =
    let rest = map_contains queue it k (omega (arith, within)) is in
    (suc rest.0, omega (arith, rest.1), rest.2)

map_all : (P : ℕ → Type 0) (queue : List Candidate) → AllByRecursion (λ it. P it.command) queue
    → AllByRecursion P (map (λ it. it.command) queue)
map_all P [] each = tt
map_all P (it ∷ queue) each = (each.0, map_all P queue each.1)

-- A lower key comes before.
lower_key : (n : Night) (all : List Standing) (one two : Candidate) → IsCandidate n all one
    → IsCandidate n all two → one.key < two.key → IsBefore n one.command two.command
lower_key n all one two is also less =
    let a = is.key in
    let b = also.key in
    let c = is.own in
    let d = also.own in
    elim (cases_order (group_priority n one.command) (group_priority n two.command)) [
      | inl same ↦ inr (same, inl (omega (arith, a, b, same, less)))
      | inr (inl lower) ↦ absurd (omega (arith, a, b, c, d, lower, less))
      | inr (inr higher) ↦ inl higher
    ]

same_key : (n : Night) (all : List Standing) (one two : Candidate) → IsCandidate n all one
    → IsCandidate n all two → one.key ≡ two.key → one.command < two.command
    → IsBefore n one.command two.command
same_key n all one two is also same less =
    let a = is.key in
    let b = also.key in
    let c = is.own in
    let d = also.own in
    elim (cases_order (group_priority n one.command) (group_priority n two.command)) [
      | inl equal ↦ inr (equal, inr (omega (arith, a, b, same, equal), less))
      | inr (inl lower) ↦ absurd (omega (arith, a, b, c, d, lower, same))
      | inr (inr higher) ↦ absurd (omega (arith, a, b, c, d, higher, same))
    ]

module _ (n : Night) (all : List Standing) (xs ys : List Candidate)
    (are : AreCandidates n all (length all) xs) (moved : IsPermutation xs ys)
    (sorted : IsSortedByKey (λ (it : Candidate). it.key) nat_cmp ys)
    (stable : IsStableByKey (λ (it : Candidate). it.key) nat_cmp xs ys)
    (by_number : IsSortedByKey (λ (it : Candidate). it.command) nat_cmp xs) where
  keys : IsNonDecreasingBy (λ (it : Candidate). it.key) ys
  keys = IsNonDecreasingBy-from_sort (λ (it : Candidate). it.key) ys sorted

  -- Those with one key stand by number.
  rising : (d : Candidate) (a b : ℕ) → a ≤ b → b < length ys
      → (get_or ys a d).key ≡ (get_or ys b d).key
      → (get_or ys a d).command ≤ (get_or ys b d).command
  rising d a zero le below same =
      let at : a ≡ 0 = omega (arith, le) in
      let e = ap (λ k. (get_or ys k d).command) at in omega (arith, e)
  rising d a (suc b) le below same = elim (cases_eq a (suc b)) [
    | inl at ↦ let e = ap (λ k. (get_or ys k d).command) at in omega (arith, e)
    | inr less ↦
        let inside : b < length ys = omega (arith, below) in
        let one = keys a b d (omega (arith, le, less)) inside in
        let two = keys b (suc b) d (omega arith) below in
        let equal : (get_or ys b d).key ≡ (get_or ys (b + 1) d).key =
        (let e = ap (λ k. (get_or ys k d).key) (let s : b + 1 ≡ suc b = omega arith in s) in
        omega (arith, one, two, same, e)) in
        let step = ties_still_rise
        (λ (it : Candidate). it.command) (λ (it : Candidate). it.key) xs ys
        by_number stable b d (omega (arith, below)) equal in
        let back = ap (λ k. (get_or ys k d).command) (let s : b + 1 ≡ suc b = omega arith in s) in
        let rest = rising d a b (omega (arith, le, less)) inside (omega (arith, one, two, same)) in
        omega (arith, step, back, rest)
  ]

  pub queue_from : IsQueue n all (map (λ it. it.command) ys)
  queue_from = record {
    ready = All-from_recursion (λ c. slice_get all c ≡ Some standing.Ready)
        (map (λ it. it.command) ys)
        (map_all (λ c. slice_get all c ≡ Some standing.Ready) ys
        (recursion_from_All (λ (it : Candidate). slice_get all it.command ≡ Some standing.Ready) ys
        (All-weaker (IsCandidate n all)
        (λ (it : Candidate). slice_get all it.command ≡ Some standing.Ready)
        (λ it is. is.ready) ys each)));
    every = λ c ready.
        let it = are.every c (slice_get_within all c standing.Ready ready) ready in
        let there = Contains-permutation xs ys it.0 moved it.1 in
        subst (Contains (map (λ x. x.command) ys)) it.2
        (map_contains ys it.0 there.0 there.1 there.2);
    order = λ a b less below.
        let d : Candidate = record { key = 0; command = 0 } in
        let len = map_length ys in
        let inside : b < length ys = omega (arith, below, len) in
        let early : a < length ys = omega (arith, less, inside) in
        let one = All-get_or (IsCandidate n all) ys a d early each in
        let two = All-get_or (IsCandidate n all) ys b d inside each in
        let key = keys a b d (omega (arith, less)) inside in
        let first : IsBefore n (get_or ys a d).command (get_or ys b d).command =
        elim (cases_eq (get_or ys a d).key (get_or ys b d).key) [
          | inl same ↦
              let up = rising d a b (omega (arith, less)) inside same in
              elim (cases_eq (get_or ys a d).command (get_or ys b d).command) [
                | inl equal ↦
                    let two_times =
                    twice ys a b (get_or ys b d).command d less inside equal refl in
                    let sum = sum_by-IsPermutation
                    (λ (it : Candidate). cond (it.command == (get_or ys b d).command) 1 0) xs ys
                    moved in
                    let once = are.once (get_or ys b d).command in
                    absurd (omega (arith, two_times, sum, once))
                | inr other ↦ same_key n all (get_or ys a d) (get_or ys b d) one two same
                    (omega (arith, up, other))
              ]
          | inr other ↦ lower_key n all (get_or ys a d) (get_or ys b d) one two
              (omega (arith, key, other))
        ] in
        subst (λ x. comes_before n x (slice_index (map (λ it. it.command) ys) b) ≡ true)
        (sym (map_at ys a d early))
        (subst (λ x. comes_before n (get_or ys a d).command x ≡ true)
        (sym (map_at ys b d inside)) (before_from n _ _ first));
  }
    where
      each : All (IsCandidate n all) ys
      each = All-permutation (IsCandidate n all) xs ys moved are.each

by_number_from : (xs : List Candidate)
    → ((k : ℕ) (d : Candidate) → k + 1 < length xs
    → (slice_index_or xs k d).command ≤ (slice_index_or xs (k + 1) d).command)
    → IsSortedByKey (λ (it : Candidate). it.command) nat_cmp xs
by_number_from xs rise k d low below =
    let up = rise k d below in
    no_less (get_or xs (k + 1) d).command (get_or xs k d).command up
  where
    no_less : (a b : ℕ) → b ≤ a → is_lt (nat_cmp a b) ≡ false
    no_less a b le = elim (cases_Bool (a == b)) [
      | inl same ↦
          ap (λ (t : Bool). is_lt (cond t Less (cond (a == b) Equal Greater))) (le-ltb a b le)
          ∙ ap (λ (t : Bool). is_lt (cond t Equal Greater)) same
      | inr other ↦
          ap (λ (t : Bool). is_lt (cond t Less (cond (a == b) Equal Greater))) (le-ltb a b le)
          ∙ ap (λ (t : Bool). is_lt (cond t Equal Greater)) other
    ]

pub queue_of : (n : Night) (all : List Standing) (xs ys : List Candidate)
    → AreCandidates n all (length all) xs → IsPermutation xs ys
    → IsSortedByKey (λ (it : Candidate). it.key) nat_cmp ys
    → IsStableByKey (λ (it : Candidate). it.key) nat_cmp xs ys
    → IsQueue n all (map (λ it. it.command) ys)
queue_of n all xs ys are moved sorted stable =
    queue_from n all xs ys are moved sorted stable (by_number_from xs are.rise)
