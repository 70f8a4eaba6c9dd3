-- Chains to which a place is added.
use Rattle.run_model.proofs.Common.{◌≡◌, ◌≢◌, ◌+◌, ◌<◌, ◌≤◌, ℕ, List, [], ◌∷◌, ◌++◌, length, Option}
use Rattle.run_model.proofs.Common.{Some, None, slice_get, get_or, set, inl, inr, refl, sym, subst}
use Rattle.run_model.proofs.Common.{ap, ◌∙◌, arith, length-append, length-set, get_or-set_same}
use Rattle.run_model.proofs.Common.{get_or-set_other, replicate, cases_lt, cases_eq}
use Rattle.run_model.proofs.Common.{get_or_append_left, get_or_push, get_or_past, length-replicate}
use Rattle.run_model.proofs.Common.{none-some, same_Some, slice_get_within, slice_get-push_left}
use Rattle.run_model.proofs.Common.{slice_get-push_last, push_cases, take}
use Rattle.std.specs.Prelude.{IfSome}
use Rattle.std.proofs.lemmas.List.{get_or-replicate}
use Rattle.run_model.specs.declared.bounds.TheConstants.{MOST_SCOPES}
use Rattle.scope_tree.specs.declared.indexes.chains.TheConstants.{CHAINS}
use Rattle.scope_tree.specs.Chains.{Places, IsLast, IsChained, head_of, hung}
use Rattle.scope_tree.proofs.Prefixes.{given_back}

-- How many places a walk along a chain has before it at most.
abbrev pub left : Option ℕ → ℕ
left None = 0
left (Some c) = c + 1

-- A place more after place n changes nothing below it.
last_below : (keys : List (Option ℕ)) (x : Option ℕ) (key n : ℕ) (o : Option ℕ) → n ≤ length keys
    → IsLast keys key n o → IsLast (keys ++ x ∷ []) key n o
last_below keys x key n None within is =
    λ t less at. is t less (sym (slice_get-push_left keys x t (omega arith)) ∙ at)
last_below keys x key n (Some c) within is = (
  is.0,
  slice_get-push_left keys x c (omega (arith, is.0)) ∙ is.1,
  λ t more less at. is.2 t more less (sym (slice_get-push_left keys x t (omega arith)) ∙ at),
)

-- A place of another key is none of this key.
last_other : (keys : List (Option ℕ)) (x : Option ℕ) (key : ℕ) (o : Option ℕ) → x ≢ Some key
    → IsLast keys key (length keys) o → IsLast (keys ++ x ∷ []) key (length (keys ++ x ∷ [])) o
last_other keys x key None other is = λ t less at. elim (push_cases keys x t (Some key) at) [
  | inl old ↦ is t (slice_get_within keys t (Some key) old) old
  | inr last ↦ other (sym last.1)
]
last_other keys x key (Some c) other is = (
  omega (arith, is.0, length-append keys (x ∷ [])),
  slice_get-push_left keys x c is.0 ∙ is.1,
  λ t more less at. elim (push_cases keys x t (Some key) at) [
    | inl old ↦ is.2 t more (slice_get_within keys t (Some key) old) old
    | inr last ↦ other (sym last.1)
  ],
)

-- The new place is the last of its key.
last_new : (keys : List (Option ℕ)) (key : ℕ)
    → IsLast (keys ++ Some key ∷ []) key (length (keys ++ Some key ∷ [])) (Some (length keys))
last_new keys key = (
  omega (arith, length-append keys (Some key ∷ [])),
  slice_get-push_last keys (Some key),
  λ t more less at. absurd (omega (arith, more, less, length-append keys (Some key ∷ []))),
)

heads_fixed : (heads : List (Option ℕ)) (key : Option ℕ) (n : ℕ)
    → length (hung heads key n) ≡ length heads
heads_fixed heads None n = refl
heads_fixed heads (Some k) n = length-set heads k (Some n)

-- The heads were lent, and are returned after a place was added to its chain.
pub heads_back : (heads lent new rest : List (Option ℕ)) (key : Option ℕ) (n n' len : ℕ)
    → lent ≡ heads → new ≡ hung lent key n' → n' ≡ n → len ≡ length heads
    → take len (new ++ rest) ≡ hung heads key n
heads_back heads lent new rest key n n' len is hung_is same size =
    let now : new ≡ hung heads key n = rw (← is, ← same) hung_is in
    given_back len new rest (omega (arith, size, ap length now, heads_fixed heads key n)) ∙ now

heads_push : (keys heads : List (Option ℕ)) (x : Option ℕ) (key : ℕ)
    → IfSome x (λ k. k < length heads)
    → IsLast keys key (length keys) (get_or heads key None)
    → IsLast (keys ++ x ∷ []) key (length (keys ++ x ∷ []))
    (get_or (hung heads x (length keys)) key None)
heads_push keys heads None key within is =
    last_other keys None key (get_or heads key None) (λ e. none-some key e) is
heads_push keys heads (Some k) key within is = elim (cases_eq key k) [
  | inl same ↦ subst (IsLast (keys ++ Some k ∷ []) key (length (keys ++ Some k ∷ [])))
      (sym (ap (λ j. get_or (set heads k (Some (length keys))) j None) same
      ∙ get_or-set_same heads k (Some (length keys)) None within))
      (subst (λ j. IsLast (keys ++ Some k ∷ []) j (length (keys ++ Some k ∷ []))
      (Some (length keys))) (sym same) (last_new keys k))
  | inr other ↦ subst (IsLast (keys ++ Some k ∷ []) key (length (keys ++ Some k ∷ [])))
      (sym (get_or-set_other heads k key (Some (length keys)) None other))
      (last_other keys (Some k) key (get_or heads key None)
      (λ e. other (sym (same_Some k key e))) is)
]

pub chained_push : (places : Places) (heads nexts : List (Option ℕ)) (capacity : ℕ) (x : Option ℕ)
    → IsChained places heads nexts capacity → length places.keys < places.capacity
    → IfSome x (λ k. k < CHAINS)
    → IsChained (record places { keys = places.keys ++ x ∷ [] })
    (hung heads x (length places.keys)) (nexts ++ head_of heads x ∷ []) capacity
chained_push places heads nexts capacity x was less within = record {
  same = omega (
    arith,
    was.same,
    length-append keys (x ∷ []),
    length-append nexts (head_of heads x ∷ []),
  );
  fixed = heads_fixed heads x (length keys) ∙ was.fixed;
  few = was.few;
  within = omega (arith, less, length-append keys (x ∷ []));
  nexts_fit = was.nexts_fit;
  head = λ key. heads_push keys heads x key
      (subst (λ n. IfSome x (λ k. k < n)) (sym was.fixed) within) (was.head key);
  next = λ t key at. elim (push_cases keys x t (Some key) at) [
    | inl old ↦ below t key old
    | inr last ↦ at_end t key last.0 last.1
  ];
}
  where
    keys : List (Option ℕ)
    keys = places.keys

    below : (t key : ℕ) → slice_get keys t ≡ Some (Some key)
        → IsLast (keys ++ x ∷ []) key t (get_or (nexts ++ head_of heads x ∷ []) t None)
    below t key old =
        let less : t < length keys = slice_get_within keys t (Some key) old in
        subst (IsLast (keys ++ x ∷ []) key t)
        (sym (get_or_append_left nexts (head_of heads x ∷ []) None t (omega (arith, was.same))))
        (last_below keys x key t (get_or nexts t None) (omega arith) (was.next t key old))

    at_end : (t key : ℕ) → t ≡ length keys → Some key ≡ x
        → IsLast (keys ++ x ∷ []) key t (get_or (nexts ++ head_of heads x ∷ []) t None)
    at_end t key last is =
        subst (IsLast (keys ++ x ∷ []) key t)
        (sym (get_or_push nexts (head_of heads x) None t (omega (arith, was.same))))
        (subst (λ o. IsLast (keys ++ x ∷ []) key t (head_of heads o)) is
        (last_below keys x key t (get_or heads key None) (omega arith)
        (subst (λ n. IsLast keys key n (get_or heads key None)) (sym last) (was.head key))))

-- No place.
get_or-same : (n i : ℕ) (x : Option ℕ) → get_or (replicate n x) i x ≡ x
get_or-same n i x = elim (cases_lt i n) [
  | inl less ↦ get_or-replicate n i x x less
  | inr more ↦ get_or_past (replicate n x) i x (omega (arith, more, length-replicate n x))
]

pub chained_none : (capacity : ℕ) (keys heads nexts : List (Option ℕ)) (next_capacity : ℕ)
    → keys ≡ [] → nexts ≡ [] → heads ≡ replicate CHAINS None → capacity ≤ MOST_SCOPES
    → next_capacity ≡ capacity
    → IsChained (record { capacity = capacity; keys = keys }) heads nexts next_capacity
chained_none capacity keys heads nexts next_capacity keys_are nexts_are heads_are few same =
    record {
      same = ap length nexts_are ∙ sym (ap length keys_are);
      fixed = ap length heads_are ∙ length-replicate {A = Option ℕ} CHAINS None;
      few = few;
      within = omega (arith, ap length keys_are);
      nexts_fit = same;
      head = λ key. subst (IsLast keys key (length keys))
          (sym (ap (λ l. get_or l key None) heads_are ∙ get_or-same CHAINS key None))
          (λ t less at. absurd (omega (arith, less, ap length keys_are)));
      next = λ t key at. absurd
          (none-some (Some key) (sym (ap (λ l. slice_get l t) keys_are) ∙ at));
    }

pub chained_pushed : (places : Places) (capacity' next_capacity next_capacity' : ℕ)
    (heads nexts keys' heads' nexts' : List (Option ℕ)) (x head : Option ℕ)
    → IsChained places heads nexts next_capacity → length places.keys < places.capacity
    → IfSome x (λ k. k < CHAINS) → capacity' ≡ places.capacity → next_capacity' ≡ next_capacity
    → keys' ≡ places.keys ++ x ∷ [] → heads' ≡ hung heads x (length places.keys)
    → nexts' ≡ nexts ++ head ∷ [] → head ≡ head_of heads x
    → IsChained (record { capacity = capacity'; keys = keys' }) heads' nexts' next_capacity'
chained_pushed places capacity' next_capacity next_capacity' heads nexts keys' heads' nexts' x head
    was less
    within same next_same k h n is =
    rw (same, next_same, k, h, n, is)
    (chained_push places heads nexts next_capacity x was less within)
