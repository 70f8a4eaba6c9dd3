-- Steps up and down a heap.
use Rattle.run_model.proofs.Common.{◌≡◌, ◌≢◌, ℕ, zero, suc, ◌/◌, ◌<◌, ◌≤◌, inl, inr, ap, subst}
use Rattle.run_model.proofs.Common.{◌∙◌, arith, cases_eq}
use Rattle.scope_tree.specs.Deadlines.{IsParent, IsHeap, UpTo, DownFrom}

-- Two keys change places.
pub record Swapped (k k' : ℕ → ℕ) (i j : ℕ) : Type 0 where
  pub first : k' i ≡ k j
  pub second : k' j ≡ k i
  pub other : (n : ℕ) → n ≢ i → n ≢ j → k' n ≡ k n

module _ (k k' : ℕ → ℕ) (len i p : ℕ) (above : IsParent p i) (swapped : Swapped k k' i p) where
  pub up_step : i < len → k i < k p → UpTo k len i → UpTo k' len p
  up_step within less h = record {
    rest = λ q j pair lt ne. elim (cases_eq q i) [
      | inl e ↦ (let a : k' q ≡ k p = ap k' e ∙ swapped.first in let b : k' j ≡ k j =
          swapped.other j (λ f. omega arith) ne in let c : k p ≤ k j =
          h.over p j above (subst (λ (n : ℕ). IsParent n j) e pair) lt in omega arith)
      | inr far ↦ elim (cases_eq q p) [
        | inl e ↦ (let a : k' q ≡ k i = ap k' e ∙ swapped.second in elim (cases_eq j i) [
          | inl f ↦ (let b : k' j ≡ k p = ap k' f ∙ swapped.first in omega arith)
          | inr f ↦ (let b : k' j ≡ k j = swapped.other j f ne in let c : k p ≤ k j =
              h.rest p j (subst (λ (n : ℕ). IsParent n j) e pair) lt f in omega arith)
        ])
        | inr e ↦ (let a : k' q ≡ k q = swapped.other q far e in elim (cases_eq j i) [
          | inl f ↦ absurd (e (omega arith))
          | inr f ↦ (let b : k' j ≡ k j = swapped.other j f ne in let c : k q ≤ k j =
              h.rest q j pair lt f in omega arith)
        ])
      ]
    ];
    over = λ q j up pair lt.
        let a : k' q ≡ k q = swapped.other q (λ f. omega arith) (λ f. omega arith) in
        let c : k q ≤ k p = h.rest q p up (omega (arith, within, above)) (λ f. omega arith) in
        elim (cases_eq j i) [
          | inl f ↦ (let b : k' j ≡ k p = ap k' f ∙ swapped.first in omega arith)
          | inr f ↦ (let b : k' j ≡ k j = swapped.other j f (λ g. omega arith) in
              let d : k p ≤ k j = h.rest p j pair lt f in omega arith)
        ];
  }

module _ (k k' : ℕ → ℕ) (len i c : ℕ) (below : IsParent i c) (swapped : Swapped k k' i c) where
  pub down_step : c < len → k c < k i → ((j : ℕ) → IsParent i j → j < len → k c ≤ k j)
      → DownFrom k len i → DownFrom k' len c
  down_step within less least h = record {
    rest = λ q j pair lt ne. elim (cases_eq q i) [
      | inl e ↦ (let a : k' q ≡ k c = ap k' e ∙ swapped.first in elim (cases_eq j c) [
        | inl f ↦ (let b : k' j ≡ k i = ap k' f ∙ swapped.second in omega arith)
        | inr f ↦ (let b : k' j ≡ k j = swapped.other j (λ g. omega arith) f in let d : k c ≤ k j =
            least j (subst (λ (n : ℕ). IsParent n j) e pair) lt in omega arith)
      ])
      | inr far ↦ (let a : k' q ≡ k q = swapped.other q far ne in elim (cases_eq j i) [
        | inl f ↦ (let b : k' j ≡ k c = ap k' f ∙ swapped.first in let d : k q ≤ k c =
            h.over q c (subst (λ (n : ℕ). IsParent q n) f pair) below within in omega arith)
        | inr f ↦ elim (cases_eq j c) [
          | inl g ↦ absurd (far (omega arith))
          | inr g ↦ (let b : k' j ≡ k j = swapped.other j f g in let d : k q ≤ k j =
              h.rest q j pair lt far in omega arith)
        ]
      ])
    ];
    over = λ q j up pair lt.
        let same : q ≡ i = omega arith in
        let a : k' q ≡ k c = ap k' same ∙ swapped.first in
        let b : k' j ≡ k j = swapped.other j (λ f. omega arith) (λ f. omega arith) in
        let d : k c ≤ k j = h.rest c j pair lt (λ f. omega arith) in omega arith;
  }

-- The first entry has the lowest key.
pub heap_least : (k : ℕ → ℕ) (len most j : ℕ) → j < most → IsHeap k len → j < len → k 0 ≤ k j
heap_least k len zero j below h lt = absurd (omega arith)
heap_least k len (suc most) zero below h lt = omega arith
heap_least k len (suc most) (suc j) below h lt =
    let p : ℕ = j / 2 in
    let a : k 0 ≤ k p = heap_least k len most p (omega arith) h (omega arith) in
    let b : k p ≤ k (suc j) = h p (suc j) (omega arith, omega arith) lt in
    omega arith
