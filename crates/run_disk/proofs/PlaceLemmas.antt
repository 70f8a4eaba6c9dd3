-- The places of a list whose middle part was written over.
use Rattle.run_model.proofs.Common.{◌≡◌, ◌⊎◌, ◌<◌, ◌≤◌, ◌+◌, ◌-◌, ℕ, List, None, Some, ◌++◌}
use Rattle.run_model.proofs.Common.{length, get_or, take, drop, refl, sym, ◌∙◌, ap, inl, inr, subst}
use Rattle.run_model.proofs.Common.{arith, unwrap_or, get_or-take, get_or-drop, get_or_append_left}
use Rattle.run_model.proofs.Common.{length-take-le, length-drop, slice_get_past, slice_get-get_or}
use Rattle.run_model.proofs.Common.{cases_lt, le-leb, lt-leb, min}
use Rattle.std.proofs.lemmas.List.{get_or-append_right}
use borrow.Rule.Slice.PartMut.{put_mid, same_len_mid}
use Rattle.std.specs.Prelude.{slice_range}
use Rattle.run_disk.specs.Contents.{Puts}
use Rattle.run_disk.specs.History.{PutsOver, byte_put}

pub put_mid-before : (at n : ℕ) (xs ys : List ℕ) (i : ℕ)
    → i < at → at ≤ length xs → get_or (put_mid at n xs ys) i 0 ≡ get_or xs i 0
put_mid-before at n xs ys i below within =
    let inside : i < length (take at xs) = omega (arith, length-take-le at xs within) in
    get_or_append_left (take at xs) (ys ++ drop n (drop at xs)) 0 i inside
    ∙ get_or-take at xs i 0 below

-- the part after the prefix
get_or-from : (at n : ℕ) (xs ys : List ℕ) (j : ℕ) → at ≤ length xs
    → get_or (put_mid at n xs ys) (at + j) 0 ≡ get_or (ys ++ drop n (drop at xs)) j 0
get_or-from at n xs ys j within =
    let skips : at + j - at ≡ j = omega arith in
    get_or-append_right (take at xs) (ys ++ drop n (drop at xs)) at (at + j) 0
    (length-take-le at xs within) (omega arith)
    ∙ ap (λ i. get_or (ys ++ drop n (drop at xs)) i 0) skips

pub put_mid-inside : (at n : ℕ) (xs ys : List ℕ) (j : ℕ)
    → j < length ys → at ≤ length xs → get_or (put_mid at n xs ys) (at + j) 0 ≡ get_or ys j 0
put_mid-inside at n xs ys j below within =
    get_or-from at n xs ys j within ∙ get_or_append_left ys (drop n (drop at xs)) 0 j below

pub put_mid-behind : (at n : ℕ) (xs ys : List ℕ) (i : ℕ)
    → at + n ≤ i → at ≤ length xs → length ys ≡ n
    → get_or (put_mid at n xs ys) i 0 ≡ get_or xs i 0
put_mid-behind at n xs ys i above within whole =
    let place : at + (i - at) ≡ i = omega arith in
    let rest : at + (n + (i - at - n)) ≡ i = omega arith in
    ap (λ m. get_or (put_mid at n xs ys) m 0) (sym place)
    ∙ get_or-from at n xs ys (i - at) within
    ∙ get_or-append_right ys (drop n (drop at xs)) n (i - at) 0 whole (omega arith)
    ∙ get_or-drop n (drop at xs) (i - at - n) 0
    ∙ get_or-drop at xs (n + (i - at - n)) 0
    ∙ ap (λ m. get_or xs m 0) rest

-- a list in which these bytes replace as many of its own
pub puts_mid : (at : ℕ) (bytes xs : List ℕ) → at + length bytes ≤ length xs
    → Puts at bytes xs (put_mid at (length bytes) xs bytes)
puts_mid at bytes xs fits = record {
  outside = record {
    size = same_len_mid at (length bytes) xs bytes
        (sym (length-take-le (length bytes) (drop at xs) (omega (arith, length-drop {A = ℕ}))));
    before = λ i below. put_mid-before at (length bytes) xs bytes i below (omega arith);
    behind = λ i above. put_mid-behind at (length bytes) xs bytes i above (omega arith) refl;
  };
  inside = λ j below. put_mid-inside at (length bytes) xs bytes j below (omega arith);
}

-- bytes that don't reach a place give it nothing
pub byte_put-outside : (at : ℕ) (bytes : List ℕ) (i : ℕ) → ((i < at) ⊎ (at + length bytes ≤ i))
    → byte_put at bytes i ≡ None
byte_put-outside at bytes i (inl before) = simp (lt-leb at i before)
byte_put-outside at bytes i (inr behind) =
    simp (le-leb at i (omega arith)) (slice_get_past bytes (i - at) (omega arith))

pub byte_put-inside : (at : ℕ) (bytes : List ℕ) (i : ℕ) → at ≤ i → i < at + length bytes
    → byte_put at bytes i ≡ Some (get_or bytes (i - at) 0)
byte_put-inside at bytes i from to =
    simp (le-leb at i from) (slice_get-get_or bytes (i - at) 0 (omega arith))

-- a part of a list, and its places
pub part_size : (from n : ℕ) (xs : List ℕ) → from + n ≤ length xs
    → length (slice_range xs from (from + n)) ≡ n
part_size from n xs fits =
    let same : from + n - from ≡ n = omega arith in
    length-take-le (from + n - from) (drop from xs) (omega (arith, length-drop {A = ℕ})) ∙ same

pub part_byte : (from n : ℕ) (xs : List ℕ) (i : ℕ) → i < n
    → get_or (slice_range xs from (from + n)) i 0 ≡ get_or xs (from + i) 0
part_byte from n xs i below =
    get_or-take (from + n - from) (drop from xs) i 0 (omega arith) ∙ get_or-drop from xs i 0

-- bytes that reach no place of a window leave it as it is
pub put_nothing : (from at start skip : ℕ) (bytes old : List ℕ)
    → start ≡ at - from → skip ≡ from - at
    → ((start < length old) × (length bytes ≤ skip)) ⊎ (length old ≤ start)
    → PutsOver from at bytes old old
put_nothing from at start skip bytes old begins skips apart = record {
  size = refl;
  bytes = λ i below.
      sym (ap (λ o. unwrap_or o (get_or old i 0))
      (byte_put-outside at bytes (from + i) (aside i below apart)));
}
  where
    aside : (i : ℕ) → i < length old
        → ((start < length old) × (length bytes ≤ skip)) ⊎ (length old ≤ start)
        → (from + i < at) ⊎ (at + length bytes ≤ from + i)
    aside i below (inr late) = inl (omega (arith, begins))
    aside i below (inl early) = elim (cases_lt (from + i) at) [
      | inl before ↦ inl before
      | inr first ↦ inr (omega (arith, skips, early.1))
    ]

-- where they reach it, a part of them is put there
module _ (from at start skip count : ℕ) (bytes part old : List ℕ)
    (begins : start ≡ at - from) (skips : skip ≡ from - at)
    (reaches : start < length old) (lasts : skip < length bytes)
    (counts : count ≡ min (length old - start) (length bytes - skip))
    (whole : length part ≡ length (slice_range old start (start + count)))
    (is_part : (j : ℕ) → j < count → get_or part j 0 ≡ get_or bytes (skip + j) 0) where
  has : length part ≡ count
  has = whole ∙ part_size start count old (omega (arith, counts, reaches))

  abbrev new : List ℕ
  new = put_mid start (start + count - start) old part

  put : Puts start part old new
  put =
      let same : start + count - start ≡ length part = omega (arith, has) in
      subst (λ n. Puts start part old (put_mid start n old part)) (sym same)
      (puts_mid start part old (omega (arith, has, counts, reaches)))

  -- a place of the window, if the bytes don't reach it, and if they do
  beside : (i : ℕ) → ((i < start) ⊎ (start + length part ≤ i))
      → ((from + i < at) ⊎ (at + length bytes ≤ from + i))
      → get_or new i 0 ≡ unwrap_or (byte_put at bytes (from + i)) (get_or old i 0)
  beside i outside unreached =
      kept outside
      ∙ sym (ap (λ o. unwrap_or o (get_or old i 0))
      (byte_put-outside at bytes (from + i) unreached))
    where
      kept : ((i < start) ⊎ (start + length part ≤ i)) → get_or new i 0 ≡ get_or old i 0
      kept (inl before) = put.outside.before i before
      kept (inr behind) = put.outside.behind i behind

  inside : (i : ℕ) → start ≤ i → i < start + count
      → get_or new i 0 ≡ unwrap_or (byte_put at bytes (from + i)) (get_or old i 0)
  inside i first below =
      let place : start + (i - start) ≡ i = omega arith in
      let same : skip + (i - start) ≡ from + i - at = omega (arith, begins, skips) in
      ap (λ m. get_or new m 0) (sym place)
      ∙ put.inside (i - start) (omega (arith, has))
      ∙ is_part (i - start) (omega arith)
      ∙ ap (λ m. get_or bytes m 0) same
      ∙ sym (ap (λ o. unwrap_or o (get_or old i 0)) (byte_put-inside at bytes (from + i)
      (omega (arith, begins)) (omega (arith, begins, skips, counts))))

  pub put_part : PutsOver from at bytes old new
  put_part = record {
    size = put.outside.size;
    bytes = λ i within. elim (cases_lt i start) [
      | inl before ↦ beside i (inl before) (inl (omega (arith, begins)))
      | inr first ↦ elim (cases_lt i (start + count)) [
        | inl below ↦ inside i first below
        | inr behind ↦ beside i (inr (omega (arith, has)))
            (inr (omega (arith, begins, skips, counts)))
      ]
    ];
  }
