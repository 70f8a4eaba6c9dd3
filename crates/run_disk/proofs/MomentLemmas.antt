-- A later call doesn't change what a crash after an earlier one leaves.
use Rattle.run_model.proofs.Common.{◌≡◌, ◌<◌, ◌≤◌, ◌+◌, ℕ, Bool, true, false, not, ◌&&◌, ◌||◌}
use Rattle.run_model.proofs.Common.{List, [], ◌∷◌, None, ◌++◌, get_or, slice_index_or, refl, sym}
use Rattle.run_model.proofs.Common.{◌∙◌, ap, inl, inr, arith, nat_le, nat_lt, unwrap_or, list_any}
use Rattle.run_model.proofs.Common.{All, cases_lt, lt-ltb, le-ltb, All-weaker, list_any-append}
use Rattle.std.proofs.lemmas.Bool.{cases_Bool}
use Rattle.std.proofs.lemmas.List.Folds.{list_any_none}
use Rattle.run_disk.specs.declared.tears.Torn.{Torn}
use Rattle.run_disk.specs.declared.tears.Torn.TheVariants.{Take}
use Rattle.run_disk.specs.Writes.{Write, History, and_write, and_sync}
use Rattle.run_disk.specs.History.{newest, byte_put, byte_after, left_of, is_synced, is_unsynced}
use Rattle.run_disk.specs.History.{covers}
use Rattle.run_disk.proofs.NewestLemmas.{byte-push, newest-same, list_any-same}

pub and_false : (b : Bool) → (b && false) ≡ false
and_false true = refl
and_false false = refl

or_false : (b : Bool) → (b || false) ≡ b
or_false true = refl
or_false false = refl

or_true : (b : Bool) → (b || true) ≡ true
or_true true = refl
or_true false = refl

-- no bytes give a place nothing
byte_put-nothing : (at i : ℕ) → byte_put at [] i ≡ None
byte_put-nothing at i = elim (cases_Bool (nat_le at i)) [
  | inl reached ↦ simp reached
  | inr before ↦ simp before
]

-- the byte of a place once all writes are made and taken whole
abbrev pub byte_whole : History → ℕ → ℕ
byte_whole h i = unwrap_or (newest (λ w. w.bytes) h.writes i) (get_or h.first i 0)

-- of a write that was made all is left, synced or not, where writes are taken whole
take_left : (syncs : List ℕ) (k : ℕ) (w : Write) → w.moment < k → left_of Take syncs k w ≡ w.bytes
take_left syncs k w made = elim (cases_Bool (is_synced syncs k w.moment)) [
  | inl synced ↦ simp (lt-ltb w.moment k made, synced)
  | inr unsynced ↦ simp (lt-ltb w.moment k made, unsynced)
]

-- and of one that comes later nothing
pub later_left : (torn : Torn) (syncs : List ℕ) (k : ℕ) (w : Write) → k ≤ w.moment
    → left_of torn syncs k w ≡ []
later_left torn syncs k w later = simp (le-ltb w.moment k later)

-- where writes are taken whole, syncs don't matter
take_same : (one other : List ℕ) (k : ℕ) (w : Write) → left_of Take one k w ≡ left_of Take other k w
take_same one other k w = elim (cases_lt w.moment k) [
  | inl made ↦ take_left one k w made ∙ sym (take_left other k w made)
  | inr later ↦ later_left Take one k w later ∙ sym (later_left Take other k w later)
]

-- ways to leave writes under which each gives all places the same
byte_same : (one other : Write → List ℕ) (P : Write → Type 0) (h : History) (i : ℕ)
    → ((w : Write) → P w → one w ≡ other w) → All P h.writes
    → unwrap_or (newest one h.writes i) (get_or h.first i 0)
    ≡ unwrap_or (newest other h.writes i) (get_or h.first i 0)
byte_same one other P h i same all =
    ap (λ o. unwrap_or o (get_or h.first i 0)) (newest-same one other h.writes i
    (All-weaker P (λ w. byte_put w.at (one w) i ≡ byte_put w.at (other w) i)
    (λ w has. ap (λ bytes. byte_put w.at bytes i) (same w has)) h.writes all))

pub byte_after-whole : (h : History) (k i : ℕ) → All (λ w. w.moment < k) h.writes
    → byte_after Take h k i ≡ byte_whole h i
byte_after-whole h k i made =
    byte_same (left_of Take h.syncs k) (λ w. w.bytes) (λ w. w.moment < k) h i
    (take_left h.syncs k) made

-- One moment more, in which nothing was written or synced.
is_synced-quiet : (syncs : List ℕ) (k moment : ℕ) → All (λ sync. sync < k) syncs
    → is_synced syncs (k + 1) moment ≡ is_synced syncs k moment
is_synced-quiet syncs k moment made =
    list_any-same (λ sync. nat_lt moment sync && nat_lt sync (k + 1))
    (λ sync. nat_lt moment sync && nat_lt sync k) syncs
    (All-weaker (λ sync. sync < k)
    (λ sync. (nat_lt moment sync && nat_lt sync (k + 1)) ≡ (nat_lt moment sync && nat_lt sync k))
    (λ sync earlier. ap (λ b. nat_lt moment sync && b)
    (lt-ltb sync (k + 1) (omega arith) ∙ sym (lt-ltb sync k earlier)))
    syncs made)

-- a write that no sync followed covers the place
abbrev pub tears : List ℕ → ℕ → ℕ → Write → Bool
tears syncs k i w = nat_lt w.moment k && (not (is_synced syncs k w.moment) && covers i w)

pub is_unsynced-quiet : (h : History) (k i : ℕ) → All (λ w. w.moment < k) h.writes
    → All (λ sync. sync < k) h.syncs → is_unsynced h (k + 1) i ≡ is_unsynced h k i
is_unsynced-quiet h k i made synced =
    list_any-same (tears h.syncs (k + 1) i) (tears h.syncs k i) h.writes
    (All-weaker (λ w. w.moment < k) (λ w. tears h.syncs (k + 1) i w ≡ tears h.syncs k i w)
    (λ w earlier.
    let later : w.moment < k + 1 = omega arith in
    simp (
      lt-ltb w.moment (k + 1) later,
      lt-ltb w.moment k earlier,
      is_synced-quiet h.syncs k w.moment synced,
    ))
    h.writes made)

-- A write that comes later.
pub byte_after-later_write : (h : History) (w : Write) (k i : ℕ) → k ≤ w.moment
    → byte_after Take (and_write h w) k i ≡ byte_after Take h k i
byte_after-later_write h w k i later =
    let left = left_of Take h.syncs k in
    byte-push left h.writes w i (get_or h.first i 0)
    ∙ ap (λ o. unwrap_or o (byte_after Take h k i))
    (ap (λ bytes. byte_put w.at bytes i) (later_left Take h.syncs k w later)
    ∙ byte_put-nothing w.at i)

pub is_unsynced-later_write : (h : History) (w : Write) (k i : ℕ) → k ≤ w.moment
    → is_unsynced (and_write h w) k i ≡ is_unsynced h k i
is_unsynced-later_write h w k i later =
    let test = tears h.syncs k i in
    list_any-append test h.writes (w ∷ [])
    ∙ simp (le-ltb w.moment k later) (or_false (list_any test h.writes))

-- A sync that comes later.
is_synced-later : (syncs : List ℕ) (sync k moment : ℕ) → k ≤ sync
    → is_synced (syncs ++ sync ∷ []) k moment ≡ is_synced syncs k moment
is_synced-later syncs sync k moment later =
    let test = λ (s : ℕ). nat_lt moment s && nat_lt s k in
    list_any-append test syncs (sync ∷ [])
    ∙ simp (le-ltb sync k later)
    (simp (and_false (nat_lt moment sync)) (or_false (list_any test syncs)))

pub byte_after-later_sync : (h : History) (sync k i : ℕ)
    → byte_after Take (and_sync h sync) k i ≡ byte_after Take h k i
byte_after-later_sync h sync k i =
    byte_same (left_of Take (h.syncs ++ sync ∷ []) k) (left_of Take h.syncs k) (λ w. Unit {0}) h i
    (λ w any. take_same (h.syncs ++ sync ∷ []) h.syncs k w) (λ j d below. tt)

pub is_unsynced-later_sync : (h : History) (sync k i : ℕ) → k ≤ sync
    → is_unsynced (and_sync h sync) k i ≡ is_unsynced h k i
is_unsynced-later_sync h sync k i later =
    list_any-same (tears (h.syncs ++ sync ∷ []) k i) (tears h.syncs k i) h.writes
    (λ j d below. simp (is_synced-later h.syncs sync k (slice_index_or h.writes j d).moment later))

-- After a sync no write is unsynced.
pub is_unsynced-synced : (h : History) (k i : ℕ) → All (λ w. w.moment < k) h.writes
    → is_unsynced (and_sync h k) (k + 1) i ≡ false
is_unsynced-synced h k i made =
    list_any_none (tears (h.syncs ++ k ∷ []) (k + 1) i) h.writes
    (All-weaker (λ w. w.moment < k) (λ w. tears (h.syncs ++ k ∷ []) (k + 1) i w ≡ false)
    (λ w earlier. simp (followed w earlier) (and_false (nat_lt w.moment (k + 1))))
    h.writes made)
  where
    followed : (w : Write) → w.moment < k → is_synced (h.syncs ++ k ∷ []) (k + 1) w.moment ≡ true
    followed w earlier =
        let test = λ (s : ℕ). nat_lt w.moment s && nat_lt s (k + 1) in
        let next : k < k + 1 = omega arith in
        list_any-append test h.syncs (k ∷ [])
        ∙ simp (lt-ltb w.moment k earlier, lt-ltb k (k + 1) next) (or_true (list_any test h.syncs))
