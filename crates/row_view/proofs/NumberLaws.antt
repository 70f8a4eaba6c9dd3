-- Numbers are read back as they were written.
use Rattle.run_model.proofs.Common.{◌≡◌, ℕ, ◌<◌, ◌≤◌, List, length, get_or, take, drop, Some}
use Rattle.run_model.proofs.Common.{arith, inl, inr, cases_lt, get_or-take, get_or_past}
use Rattle.run_model.proofs.Common.{length-take-le, length-take, bytes_eq-Decides, w64}
use Rattle.run_model.proofs.Common.{to_be_bytes}
use Rattle.std.proofs.lemmas.Nat.{be_bytes_8}
use Rattle.std.specs.Int.{Width, byte_len, from_be_bytes}
use Rattle.row_view.specs.Fields.{number_at}

module _ (n : ℕ) (bytes : List ℕ) (small : (i : ℕ) → get_or bytes i 0 < 256) where
  within : (i : ℕ) → i < n → get_or (take n bytes) i 0 < 256
  within i before = rw (get_or-take n bytes i 0 before) (small i)

  past : (i : ℕ) → n ≤ i → get_or (take n bytes) i 0 < 256
  past i behind =
      rw (get_or_past (take n bytes) i 0 (omega (arith, length-take n bytes))) (omega arith)

  -- The bytes at the front are bytes.
  below_256 : (i : ℕ) → get_or (take n bytes) i 0 < 256
  below_256 i = elim (cases_lt i n) [ inl before ↦ within i before | inr behind ↦ past i behind ]

-- The number whose bytes come first is read.
pub number_read :
    (w : Width) (bytes prefix : List ℕ) (n : ℕ) → prefix ≡ take (byte_len w) bytes →
    n ≡ from_be_bytes w prefix → to_be_bytes w n ≡ prefix →
    number_at w bytes ≡ Some (n, drop (byte_len w) bytes)
unfolding number_at
number_read w bytes prefix n is value back =
    rw (← is, ← value, (bytes_eq-Decides (to_be_bytes w n) prefix).1 back)

-- Eight bytes are the number that they spell.
pub number_read_8 :
    (bytes prefix : List ℕ) (n : ℕ) → ((i : ℕ) → get_or bytes i 0 < 256) → 8 ≤ length bytes →
    prefix ≡ take 8 bytes → n ≡ from_be_bytes w64 prefix →
    number_at w64 bytes ≡ Some (n, drop 8 bytes)
number_read_8 bytes prefix n small enough is value =
    let back : to_be_bytes w64 n ≡ prefix =
    be_bytes_8 prefix n
    (rw is (length-take-le 8 bytes enough)) (rw is (below_256 8 bytes small)) value
    in number_read w64 bytes prefix n is value back
