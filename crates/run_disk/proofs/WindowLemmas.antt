-- A window of a disk: what a crash leaves there, and what reads return there.
use Rattle.run_model.proofs.Common.{◌≡◌, ◌<◌, ◌≤◌, ◌+◌, ◌-◌, ℕ, List, length, get_or, take, drop}
use Rattle.run_model.proofs.Common.{◌++◌, sym, ◌∙◌, ap, inl, inr, arith, unwrap_or}
use Rattle.run_model.proofs.Common.{cases_lt}
use Rattle.std.specs.Prelude.{slice_range}
use Rattle.std.proofs.lemmas.List.{ext_get_or, get_or_past, take-append-le, take_all}
use Rattle.run_disk.specs.declared.tears.Torn.{Torn}
use Rattle.run_disk.specs.declared.tears.Torn.TheVariants.{Take}
use Rattle.run_disk.specs.Writes.{Write, History, filled_up}
use Rattle.run_disk.specs.History.{IsTornImage, PutsOver, byte_after, byte_put, bytes_after}
use Rattle.run_disk.specs.History.{left_of, newest}
use Rattle.run_disk.proofs.FirstLemmas.{filled_byte, filled_size}
use Rattle.run_disk.proofs.MemoryLemmas.{now_byte, now_size}
use Rattle.run_disk.proofs.PlaceLemmas.{byte_put-inside, byte_put-outside, part_byte, part_size}

-- the bytes that a disk begins with, at a place
first_byte : (first : List ℕ) (i b : ℕ) → b ≡ 0
    → unwrap_or (byte_put 0 first i) b ≡ get_or first i 0
first_byte first i b zero = elim (cases_lt i (length first)) [
  | inl below ↦
      let same : i - 0 ≡ i = omega arith in
      ap (λ o. unwrap_or o b) (byte_put-inside 0 first i (omega arith) (omega arith))
      ∙ ap (λ j. get_or first j 0) same
  | inr past ↦
      ap (λ o. unwrap_or o b) (byte_put-outside 0 first i (inr (omega arith)))
      ∙ zero ∙ sym (get_or_past first i 0 past)
]

-- the writes of a disk were put over a window, in which its first bytes stood
module _ (torn : Torn) (h : History) (k from : ℕ) (writes : List Write) (syncs : List ℕ)
    (old new : List ℕ) (are_writes : writes ≡ h.writes) (are_syncs : syncs ≡ h.syncs)
    (begun : (i : ℕ) → i < length old → get_or old i 0 ≡ get_or h.first (from + i) 0)
    (size : length new ≡ length old)
    (bytes : (i : ℕ) → i < length old → get_or new i 0
    ≡ unwrap_or (newest (left_of torn syncs k) writes (from + i)) (get_or old i 0)) where
  pub window_byte : (i : ℕ) → i < length old → get_or new i 0 ≡ byte_after torn h k (from + i)
  window_byte i below =
      bytes i below
      ∙ ap (λ ws. unwrap_or (newest (left_of torn syncs k) ws (from + i)) (get_or old i 0))
      are_writes
      ∙ ap (λ ss. unwrap_or (newest (left_of torn ss k) h.writes (from + i)) (get_or old i 0))
      are_syncs
      ∙ ap (unwrap_or (newest (left_of torn h.syncs k) h.writes (from + i))) (begun i below)

-- over the whole disk
pub window_image : (torn : Torn) (h : History) (k : ℕ) (writes : List Write) (syncs : List ℕ)
    (old new : List ℕ) → writes ≡ h.writes → syncs ≡ h.syncs → old ≡ h.first
    → length new ≡ length old → ((i : ℕ) → i < length old → get_or new i 0
    ≡ unwrap_or (newest (left_of torn syncs k) writes (0 + i)) (get_or old i 0))
    → IsTornImage torn h k new
window_image torn h k writes syncs old new are_writes are_syncs is size bytes = record {
  size = size ∙ ap length is;
  bytes = λ i below.
      let same : 0 + i ≡ i = omega arith in
      window_byte torn h k 0 writes syncs old new are_writes are_syncs begun size bytes i
      (omega (arith, size))
      ∙ ap (byte_after torn h k) same;
}
  where
    begun : (i : ℕ) → i < length old → get_or old i 0 ≡ get_or h.first (0 + i) 0
    begun i below =
        let same : i ≡ 0 + i = omega arith in
        ap (λ xs. get_or xs i 0) is ∙ ap (λ j. get_or h.first j 0) same

-- and of a part of it: what a read gives
pub window_read : (h : History) (k at : ℕ) (writes : List Write) (syncs : List ℕ) (size : ℕ)
    (first blank old new : List ℕ) (n : ℕ) → filled_up size first ≡ h.first
    → writes ≡ h.writes → syncs ≡ h.syncs → at + n ≤ length h.first → length blank ≡ n
    → ((i : ℕ) → i < n → get_or blank i 0 ≡ 0) → PutsOver at 0 first blank old
    → length new ≡ length old → ((i : ℕ) → i < length old → get_or new i 0
    ≡ unwrap_or (newest (left_of Take syncs k) writes (at + i)) (get_or old i 0))
    → new ≡ slice_range (bytes_after h k) at (at + n)
window_read h k at writes syncs size first blank old new n is are_writes are_syncs fits blanks
    zeros put same bytes =
    let whole : at + n ≤ length (bytes_after h k) = omega (arith, now_size h k) in
    ext_get_or 0 new (slice_range (bytes_after h k) at (at + n))
    (same ∙ put.size ∙ blanks ∙ sym (part_size at n (bytes_after h k) whole))
    (λ i below.
    let within : i < n = omega (arith, same, put.size, blanks) in
    window_byte Take h k at writes syncs old new are_writes are_syncs begun same bytes i
    (omega (arith, same))
    ∙ sym (part_byte at n (bytes_after h k) i within ∙ now_byte h k (at + i) (omega arith)))
  where
    begun : (i : ℕ) → i < length old → get_or old i 0 ≡ get_or h.first (at + i) 0
    begun i below =
        let within : i < n = omega (arith, put.size, blanks) in
        let inside : at + i < size = omega (arith, filled_size size first, ap length is) in
        put.bytes i (omega (arith, blanks))
        ∙ first_byte first (at + i) (get_or blank i 0) (zeros i within)
        ∙ sym (filled_byte size first (at + i) inside)
        ∙ ap (λ xs. get_or xs (at + i) 0) is

-- a whole list that was written over
pub overwritten : (n : ℕ) (xs ys : List ℕ) → length xs ≡ n
    → take n (xs ++ drop (length xs) ys) ≡ xs
overwritten n xs ys is =
    take-append-le n xs (drop (length xs) ys) (omega (arith, is))
    ∙ take_all n xs (omega (arith, is))
