-- A crash may leave what a tearing leaves.
use Rattle.run_model.proofs.Common.{◌≡◌, ◌⊎◌, ◌<◌, ◌≤◌, ◌+◌, ℕ, false, List, None, length, get_or}
use Rattle.run_model.proofs.Common.{sym, ◌∙◌, ap, inl, inr, arith, unwrap_or, cases_lt, both_ways}
use Rattle.run_model.proofs.Common.{lt-ltb, le-leb, length-replicate, length-take, All-weaker}
use Rattle.std.proofs.lemmas.Bool.{cases_Bool}
use Rattle.run_disk.specs.declared.tears.Torn.{Torn}
use Rattle.run_disk.specs.declared.tears.Torn.TheVariants.{Keep, Take, Fill, Prefix}
use Rattle.run_disk.specs.Writes.{Write, History}
use Rattle.run_disk.specs.History.{IsImage, IsTornImage, byte_put, left_of, torn_bytes, is_synced}
use Rattle.run_disk.specs.History.{covers}
use Rattle.run_disk.proofs.PlaceLemmas.{byte_put-outside}
use Rattle.run_disk.proofs.NewestLemmas.{newest-same, list_any-false}
use Rattle.run_disk.proofs.MomentLemmas.{tears, later_left}

-- no tearing leaves more than was written
torn_bytes-short : (torn : Torn) (bytes : List ℕ) → length (torn_bytes torn bytes) ≤ length bytes
torn_bytes-short Keep bytes = omega arith
torn_bytes-short Take bytes = omega arith
torn_bytes-short (Fill value) bytes = omega (arith, length-replicate (length bytes) value)
torn_bytes-short (Prefix n) bytes = omega (arith, length-take n bytes)

-- a place that a write doesn't cover lies before its range or after it
uncovered : (i : ℕ) (w : Write) → covers i w ≡ false
    → (i < w.at) ⊎ (w.at + length w.bytes ≤ i)
uncovered i w fails = elim (cases_lt i w.at) [
  | inl before ↦ inl before
  | inr from ↦ elim (cases_lt i (w.at + length w.bytes)) [
    | inl to ↦ absurd (both_ways (covers i w) fails (simp (le-leb w.at i from)
        (lt-ltb i (w.at + length w.bytes) to)))
    | inr behind ↦ inr behind
  ]
]

-- bytes that are no more than the write's don't reach a place that it doesn't cover
not_reached : (i : ℕ) (w : Write) (bytes : List ℕ) → length bytes ≤ length w.bytes
    → ((i < w.at) ⊎ (w.at + length w.bytes ≤ i)) → byte_put w.at bytes i ≡ None
not_reached i w bytes short (inl before) = byte_put-outside w.at bytes i (inl before)
not_reached i w bytes short (inr behind) =
    byte_put-outside w.at bytes i (inr (omega (arith, short, behind)))

-- a write that doesn't tear a place gives it the same byte, however it is torn
left_same : (torn : Torn) (syncs : List ℕ) (k i : ℕ) (w : Write) → tears syncs k i w ≡ false
    → byte_put w.at (left_of torn syncs k w) i ≡ byte_put w.at (left_of Take syncs k w) i
left_same torn syncs k i w whole = elim (cases_lt w.moment k) [
  | inr later ↦ ap (λ bytes. byte_put w.at bytes i)
      (later_left torn syncs k w later ∙ sym (later_left Take syncs k w later))
  | inl made ↦ elim (cases_Bool (is_synced syncs k w.moment)) [
    | inl synced ↦ simp (lt-ltb w.moment k made, synced)
    | inr unsynced ↦
        let apart = uncovered i w (simp (lt-ltb w.moment k made, unsynced) at whole) in
        simp (lt-ltb w.moment k made, unsynced)
        (not_reached i w (torn_bytes torn w.bytes) (torn_bytes-short torn w.bytes) apart
        ∙ sym (not_reached i w w.bytes (omega arith) apart))
  ]
]

pub torn_is_image : (torn : Torn) (h : History) (k : ℕ) (x : List ℕ)
    → IsTornImage torn h k x → IsImage h k x
torn_is_image torn h k x is = record {
  size = is.size;
  bytes = λ i below synced.
      is.bytes i below ∙ ap (λ o. unwrap_or o (get_or h.first i 0))
      (newest-same (left_of torn h.syncs k) (left_of Take h.syncs k) h.writes i
      (All-weaker (λ w. tears h.syncs k i w ≡ false)
      (λ w. byte_put w.at (left_of torn h.syncs k w) i
      ≡ byte_put w.at (left_of Take h.syncs k w) i)
      (left_same torn h.syncs k i) h.writes
      (list_any-false (tears h.syncs k i) h.writes synced)));
}
