-- The bytes that a disk in memory begins with, which zeros fill up.
use Rattle.std.proofs.Common.{◌≡◌, ◌<◌, ◌-◌, ℕ, List, [], ◌++◌, length, get_or, take}
use Rattle.std.proofs.Common.{replicate, sym, ◌∙◌, ap, arith, inl, inr}
use Rattle.std.specs.List.{All}
use Rattle.std.proofs.lemmas.Bool.{cases_lt}
use Rattle.std.proofs.lemmas.List.{append-nil, take_all, get_or_past, get_or-take, length-take}
use Rattle.std.proofs.lemmas.List.{length-append, length-replicate, get_or_append_left}
use Rattle.std.proofs.lemmas.List.{get_or-append_right, get_or-replicate}
use Rattle.std.proofs.lemmas.Grind.{get_or_default_zero}
use Rattle.run_disk.specs.Writes.{filled_up}

-- bytes of the disk's size are filled up by nothing
pub filled_whole : (size : ℕ) (bytes : List ℕ) → size ≡ length bytes → filled_up size bytes ≡ bytes
filled_whole size bytes is =
    let none : size - length bytes ≡ 0 = omega (arith, is) in
    ap (λ n. take size bytes ++ replicate n 0) none ∙ append-nil (take size bytes)
    ∙ take_all size bytes (omega (arith, is))

pub filled_size : (size : ℕ) (bytes : List ℕ) → length (filled_up size bytes) ≡ size
filled_size size bytes =
    length-append (take size bytes) (replicate (size - length bytes) 0)
    ∙ omega (arith, length-take size bytes, length-replicate {A = ℕ} (size - length bytes) 0)

-- the bytes stand in their places, and zeros after them
pub filled_byte : (size : ℕ) (bytes : List ℕ) (i : ℕ) → i < size
    → get_or (filled_up size bytes) i 0 ≡ get_or bytes i 0
filled_byte size bytes i below = elim (cases_lt i (length bytes)) [
  | inl inside ↦
      get_or_append_left (take size bytes) (replicate (size - length bytes) 0) 0 i
      (omega (arith, length-take size bytes))
      ∙ get_or-take size bytes i 0 below
  | inr past ↦
      get_or-append_right (take size bytes) (replicate (size - length bytes) 0) (length bytes) i 0
      (omega (arith, length-take size bytes)) past
      ∙ get_or-replicate (size - length bytes) (i - length bytes) 0 0 (omega arith)
      ∙ sym (get_or_past bytes i 0 past)
]

-- no bytes are filled up by zeros alone
pub filled_zeros : (size : ℕ) (bytes : List ℕ) → bytes ≡ []
    → All (λ byte. byte ≡ 0) (filled_up size bytes)
filled_zeros size bytes none = λ k d below.
    get_or_default_zero (filled_up size bytes) k d below
    ∙ filled_byte size bytes k (omega (arith, filled_size size bytes))
    ∙ ap (λ xs. get_or xs k 0) none

-- a copy of the first bytes that was resized is filled up by zeros
pub filled_copy : (size len : ℕ) (first lent copy grown : List ℕ) → lent ≡ first → copy ≡ lent
    → len ≡ length lent → grown ≡ take size copy ++ replicate (size - len) 0
    → grown ≡ filled_up size first
filled_copy size len first lent copy grown same copied counts is =
    is
    ∙ ap (λ n. take size copy ++ replicate (size - n) 0) (counts ∙ ap length same)
    ∙ ap (λ xs. take size xs ++ replicate (size - length first) 0) (copied ∙ same)
