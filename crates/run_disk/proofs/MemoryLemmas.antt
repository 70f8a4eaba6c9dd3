-- The reads of a disk in memory, and the effect of each call on it.
use Rattle.std.proofs.Common.{◌≡◌, ◌⊎◌, ◌<◌, ◌≤◌, ◌+◌, ◌-◌, ℕ, false, List, [], ◌∷◌, ◌++◌, Ok}
use Rattle.std.proofs.Common.{Err, length, get_or, take, drop, refl, sym, ◌∙◌, ap, subst, inl}
use Rattle.std.proofs.Common.{inr, arith, nat_le, unwrap_or, ◌^◌, Result, OnOk, OnErr}
use Rattle.std.specs.List.{All}
use Rattle.std.proofs.lemmas.Bool.{cases_lt, le-ltb, lt-leb}
use Rattle.std.proofs.lemmas.List.{get_or_past, length-take-le, length-drop, get_or-take}
use Rattle.std.proofs.lemmas.List.{ext_get_or, get_or-drop}
use Rattle.std.proofs.lemmas.List.Folds.{list_any-append}
use Rattle.std.proofs.lemmas.List.Elements.{All-nil, All-weaker, All-push}
use Rattle.std.proofs.lemmas.List.FromFn.{get_or-map-range_with_len, length-map-range_with_len}
use borrow.Rule.Slice.PartMut.{put_mid}
use Rattle.run_disk.specs.declared.tears.Torn.TheVariants.{Take}
use Rattle.run_disk.specs.Contents.{SameOutside, Puts, Follows}
use Rattle.run_disk.specs.Disk.{Begins, last_moment}
use Rattle.run_disk.specs.Calls.{Calls, Reads, Writes, Syncs}
use Rattle.run_disk.specs.Writes.{Write, History, and_write, and_sync, beginning}
use Rattle.run_disk.specs.History.{IsImage, IsLeftSince, byte_put, byte_after, bytes_after}
use Rattle.run_disk.specs.History.{is_unsynced, covers}
use Rattle.run_disk.specs.Memory.{IsKept, memory_state}
use Rattle.run_disk.proofs.ContentsLemmas.{same_all}
use Rattle.run_disk.proofs.PlaceLemmas.{puts_mid, byte_put-inside, byte_put-outside}
use Rattle.run_disk.proofs.NewestLemmas.{byte-push}
use Rattle.run_disk.proofs.MomentLemmas.{and_false, byte_whole, tears, byte_after-whole}
use Rattle.run_disk.proofs.MomentLemmas.{is_unsynced-quiet, byte_after-later_write}
use Rattle.run_disk.proofs.MomentLemmas.{is_unsynced-later_write, byte_after-later_sync}
use Rattle.run_disk.proofs.MomentLemmas.{is_unsynced-later_sync, is_unsynced-synced}

-- what reads return has the disk's size, and at each place the byte of that place
pub now_size : (h : History) (k : ℕ) → length (bytes_after h k) ≡ length h.first
now_size h k = length-map-range_with_len (byte_after Take h k) 0 (length h.first)

pub now_byte : (h : History) (k i : ℕ) → i < length h.first
    → get_or (bytes_after h k) i 0 ≡ byte_after Take h k i
now_byte h k i below =
    get_or-map-range_with_len (byte_after Take h k) 0 (length h.first) i i 0 below
    (omega arith)

-- bytes with these places are what reads return
pub are_now : (h : History) (k : ℕ) (x : List ℕ) → length x ≡ length h.first
    → ((i : ℕ) → i < length h.first → get_or x i 0 ≡ byte_after Take h k i) → x ≡ bytes_after h k
are_now h k x size bytes =
    ext_get_or 0 x (bytes_after h k) (size ∙ sym (now_size h k))
    (λ i below.
    let within : i < length h.first = omega (arith, size) in
    bytes i within ∙ sym (now_byte h k i within))

-- Each of the new contents is one of the old.
abbrev Within : (List ℕ → Type 0) → (List ℕ → Type 0) → Type 0
Within new old = (x : List ℕ) → new x → old x

-- A disk before its first call.
pub begun_kept : (bytes : List ℕ) → length bytes < 2 ^ 64 → IsKept (beginning bytes) 0 0
begun_kept bytes fits = record {
  made = All-nil (λ w. w.moment < 0);
  synced = All-nil (λ sync. sync < 0);
  failures_fit = omega arith;
  clock_fits = omega arith;
  size_fits = fits;
}

pub begun_now : (bytes : List ℕ) → bytes_after (beginning bytes) 0 ≡ bytes
begun_now bytes = sym (are_now (beginning bytes) 0 bytes refl (λ i below. refl))

pub begun : (bytes : List ℕ) → Begins bytes (memory_state (beginning bytes) 0 0)
begun bytes = record {
  honest = tt;
  rest = record {
    only = λ x is. are_now (beginning bytes) 0 x is.size
        (λ i below. is.bytes i (omega (arith, is.size)) refl);
    sure = λ i waits. absurd waits;
  };
  now = begun_now bytes;
  size = refl;
  clock = refl;
  failures = refl;
}

module _ (h : History) (clock failures : ℕ) (kept : IsKept h clock failures) where
  made_next : All (λ w. w.moment < clock + 1) h.writes
  made_next = All-weaker (λ w. w.moment < clock) (λ w. w.moment < clock + 1)
      (λ w earlier. omega arith) h.writes kept.made

  synced_next : All (λ sync. sync < clock + 1) h.syncs
  synced_next = All-weaker (λ sync. sync < clock) (λ sync. sync < clock + 1)
      (λ sync earlier. omega arith) h.syncs kept.synced

  abbrev now : List ℕ
  now = bytes_after h clock

  -- what reads give, at each place
  now_whole : (i : ℕ) → i < length h.first → get_or now i 0 ≡ byte_whole h i
  now_whole i below = now_byte h clock i below ∙ byte_after-whole h clock i kept.made

  -- A call that keeps nothing: a read, or one for which memory was refused.
  pub quiet_kept : (failed : ℕ) → clock < last_moment → failed ≤ clock + 1
      → IsKept h (clock + 1) failed
  quiet_kept failed early fit = record {
    made = made_next;
    synced = synced_next;
    failures_fit = fit;
    clock_fits = omega arith;
    size_fits = kept.size_fits;
  }

  -- it changes nothing of what reads give
  quiet_now : bytes_after h (clock + 1) ≡ now
  quiet_now = are_now h clock (bytes_after h (clock + 1)) (now_size h (clock + 1))
      (λ i below. now_byte h (clock + 1) i below ∙ byte_after-whole h (clock + 1) i made_next
      ∙ sym (byte_after-whole h clock i kept.made))

  pub quiet_images : Within (IsImage h (clock + 1)) (IsImage h clock)
  quiet_images x is = record {
    size = is.size;
    bytes = λ i below synced.
        is.bytes i below (is_unsynced-quiet h clock i kept.made kept.synced ∙ synced)
        ∙ byte_after-whole h (clock + 1) i made_next
        ∙ sym (byte_after-whole h clock i kept.made);
  }

  pub quiet_reads : (failed : ℕ)
      → Reads (memory_state h clock failures) (memory_state h (clock + 1) failed)
  quiet_reads failed = record {
    now = quiet_now;
    images = quiet_images;
    unsure = λ i waits. waits;
  }

  -- A write for which memory was refused, and such a sync.
  pub refused_writes : {T E : Type 0} (failed at : ℕ) (other : List ℕ) (e : E)
      → Writes {T = T} {E = E} at other (memory_state h clock failures)
      (memory_state h (clock + 1) failed) (Err e)
  refused_writes failed at other e = record {
    elsewhere = subst (SameOutside at (length other) now) (sym quiet_now)
        (same_all at (length other) now);
    written = tt;
    images = λ x is. (x, quiet_images x is, same_all at (length other) x);
    sure = tt;
    unsure = λ i waits. inl waits;
  }

  pub refused_syncs : {T E : Type 0} (failed : ℕ) (e : E)
      → Syncs {T = T} {E = E} (memory_state h clock failures)
      (memory_state h (clock + 1) failed) (Err e)
  refused_syncs failed e = record {
    now = quiet_now;
    images = quiet_images;
    unsure = λ i waits. waits;
    synced = tt;
  }

  -- A crash at an earlier moment leaves what it left, whatever is kept now.
  since_grows : (later : History) → ((m : ℕ) → m ≤ clock → Within (IsImage h m) (IsImage later m))
      → (t : ℕ) → Within (IsLeftSince h clock t) (IsLeftSince later (clock + 1) t)
  since_grows later same t x left =
      (left.0, left.1, omega (arith, left.2), same left.0 left.2 x left.3)

  since_adds : (later : History) → ((m : ℕ) → m ≤ clock → Within (IsImage later m) (IsImage h m))
      → (t : ℕ) (x : List ℕ) → IsLeftSince later (clock + 1) t x
      → IsLeftSince h clock t x ⊎ IsImage later (clock + 1) x
  since_adds later same t x left = elim (cases_lt clock left.0) [
    | inl last ↦
        let now : left.0 ≡ clock + 1 = omega (arith, left.2) in
        inr (subst (λ m. IsImage later m x) now left.3)
    | inr early ↦ inl (left.0, left.1, early, same left.0 early x left.3)
  ]

  -- A call after which this is kept.
  made_calls : {T E : Type 0} (later : History) (failed : ℕ) (result : Result T E)
      → clock < last_moment → length later.first ≡ length h.first
      → OnOk result ((clock < last_moment) × (failed ≡ failures))
      → OnErr result (clock < last_moment → failed ≡ failures + 1)
      → ((m : ℕ) → m ≤ clock → Within (IsImage later m) (IsImage h m))
      → ((m : ℕ) → m ≤ clock → Within (IsImage h m) (IsImage later m))
      → Calls {T = T} {E = E} (memory_state h clock failures)
      (memory_state later (clock + 1) failed) result
  made_calls later failed result early size fine fails earlier same = record {
    size = size;
    honest = λ is. is;
    honest_before = λ is. is;
    ticks = λ now. refl;
    fine = fine;
    fails = fails;
    spent = λ last. absurd (omega arith);
    nothing_else = λ t x before left. since_adds later earlier t x left;
    keeps = λ t x before left. since_grows later same t x left;
  }

  pub quiet_calls : {T E : Type 0} (result : T) → clock < last_moment
      → Calls {T = T} {E = E} (memory_state h clock failures)
      (memory_state h (clock + 1) failures) (Ok result)
  quiet_calls result early =
      made_calls h failures (Ok result) early refl (early, refl) tt
      (λ m before x is. is) (λ m before x is. is)

  pub refused_calls : {T E : Type 0} (e : E) → clock < last_moment
      → Calls {T = T} {E = E} (memory_state h clock failures)
      (memory_state h (clock + 1) (failures + 1)) (Err e)
  refused_calls e early =
      made_calls h (failures + 1) (Err e) early refl tt (λ before. refl)
      (λ m before x is. is) (λ m before x is. is)

  -- A write that was kept.
  module _ (at : ℕ) (other : List ℕ) (fits : at + length other ≤ length h.first) where
    abbrev write : Write
    write = record { moment = clock; at = at; bytes = other }

    abbrev new : List ℕ
    new = bytes_after (and_write h write) (clock + 1)

    write_earlier : (m : ℕ) → m ≤ clock → Within (IsImage (and_write h write) m) (IsImage h m)
    write_earlier m early x is = record {
      size = is.size;
      bytes = λ i below synced.
          is.bytes i below (is_unsynced-later_write h write m i early ∙ synced)
          ∙ byte_after-later_write h write m i early;
    }

    write_kept : (m : ℕ) → m ≤ clock → Within (IsImage h m) (IsImage (and_write h write) m)
    write_kept m early x is = record {
      size = is.size;
      bytes = λ i below synced.
          is.bytes i below (sym (is_unsynced-later_write h write m i early) ∙ synced)
          ∙ sym (byte_after-later_write h write m i early);
    }

    write_made : All (λ w. w.moment < clock + 1) (h.writes ++ write ∷ [])
    write_made = All-push (λ w. w.moment < clock + 1) h.writes write made_next (omega arith)

    -- a place's byte after it
    after_write : (i : ℕ) → byte_after Take (and_write h write) (clock + 1) i
        ≡ unwrap_or (byte_put at other i) (byte_whole h i)
    after_write i = byte_after-whole (and_write h write) (clock + 1) i write_made
        ∙ byte-push (λ w. w.bytes) h.writes write i (get_or h.first i 0)

    pub written_kept : (failed : ℕ) → clock < last_moment → failed ≤ clock + 1
        → IsKept (and_write h write) (clock + 1) failed
    written_kept failed early fit = record {
      made = write_made;
      synced = synced_next;
      failures_fit = fit;
      clock_fits = omega arith;
      size_fits = kept.size_fits;
    }

    -- what reads give after it
    new_byte : (i : ℕ) → i < length h.first
        → get_or new i 0 ≡ unwrap_or (byte_put at other i) (get_or now i 0)
    new_byte i below =
        now_byte (and_write h write) (clock + 1) i below ∙ after_write i
        ∙ ap (unwrap_or (byte_put at other i)) (sym (now_whole i below))

    new_outside : (i : ℕ) → ((i < at) ⊎ (at + length other ≤ i)) → get_or new i 0 ≡ get_or now i 0
    new_outside i outside = elim (cases_lt i (length h.first)) [
      | inl below ↦ new_byte i below
          ∙ ap (λ o. unwrap_or o (get_or now i 0)) (byte_put-outside at other i outside)
      | inr past ↦ get_or_past new i 0 (omega (arith, now_size (and_write h write) (clock + 1)))
          ∙ sym (get_or_past now i 0 (omega (arith, now_size h clock)))
    ]

    new_inside : (j : ℕ) → j < length other → get_or new (at + j) 0 ≡ get_or other j 0
    new_inside j below =
        let place : at + j - at ≡ j = omega arith in
        new_byte (at + j) (omega arith)
        ∙ ap (λ o. unwrap_or o (get_or now (at + j) 0))
        (byte_put-inside at other (at + j) (omega arith) (omega arith))
        ∙ ap (λ m. get_or other m 0) place

    put : Puts at other now new
    put = record {
      outside = record {
        size = now_size (and_write h write) (clock + 1) ∙ sym (now_size h clock);
        before = λ i before. new_outside i (inl before);
        behind = λ i behind. new_outside i (inr behind);
      };
      inside = new_inside;
    }

    -- an image after it comes from one before it, which has what reads gave in its range
    abbrev part : List ℕ
    part = take (length other) (drop at now)

    abbrev back : List ℕ → List ℕ
    back x = put_mid at (length other) x part

    covers_not : (i : ℕ) → ((i < at) ⊎ (at + length other ≤ i)) → covers i write ≡ false
    covers_not i (inl before) = simp (lt-leb at i before)
    covers_not i (inr behind) = simp (le-ltb i (at + length other) behind) (and_false (nat_le at i))

    is_unsynced-outside : (i : ℕ) → ((i < at) ⊎ (at + length other ≤ i))
        → is_unsynced h clock i ≡ false → is_unsynced (and_write h write) (clock + 1) i ≡ false
    is_unsynced-outside i outside synced =
        let test = tears h.syncs (clock + 1) i in
        list_any-append test h.writes (write ∷ [])
        ∙ simp (is_unsynced-quiet h clock i kept.made kept.synced ∙ synced, covers_not i outside)
        (simp (and_false))

    lent : length part ≡ length other
    lent = length-take-le (length other) (drop at now)
        (omega (arith, length-drop {A = ℕ}, now_size h clock))

    back_puts : (x : List ℕ) → length x ≡ length h.first → Puts at part x (back x)
    back_puts x size =
        subst (λ n. Puts at part x (put_mid at n x part)) lent
        (puts_mid at part x (omega (arith, lent, size)))

    -- its byte in the range, and outside
    back-inside : (x : List ℕ) → length x ≡ length h.first → (j : ℕ) → j < length other
        → get_or (back x) (at + j) 0 ≡ get_or now (at + j) 0
    back-inside x size j below =
        (back_puts x size).inside j (omega (arith, lent))
        ∙ get_or-take (length other) (drop at now) j 0 below ∙ get_or-drop at now j 0

    back_same : (x : List ℕ) → length x ≡ length h.first
        → SameOutside at (length other) (back x) x
    back_same x size =
        let same = (back_puts x size).outside in
        record {
          size = sym same.size;
          before = λ i below. sym (same.before i below);
          behind = λ i above. sym (same.behind i (omega (arith, lent)));
        }

    back-bytes : (x : List ℕ) → IsImage (and_write h write) (clock + 1) x
        → (i : ℕ) → i < length x → is_unsynced h clock i ≡ false
        → get_or (back x) i 0 ≡ byte_after Take h clock i
    back-bytes x is i below synced = elim (cases_lt i at) [
      | inl before ↦ away (inl before)
      | inr from ↦ elim (cases_lt i (at + length other)) [
        | inl to ↦
            let place : at + (i - at) ≡ i = omega arith in
            ap (λ m. get_or (back x) m 0) (sym place)
            ∙ back-inside x is.size (i - at) (omega arith)
            ∙ ap (λ m. get_or now m 0) place
            ∙ now_byte h clock i (omega (arith, is.size))
        | inr behind ↦ away (inr behind)
      ]
    ]
      where
        outside_same : ((i < at) ⊎ (at + length other ≤ i)) → get_or (back x) i 0 ≡ get_or x i 0
        outside_same (inl before) = sym ((back_same x is.size).before i before)
        outside_same (inr behind) = sym ((back_same x is.size).behind i behind)

        away : ((i < at) ⊎ (at + length other ≤ i))
            → get_or (back x) i 0 ≡ byte_after Take h clock i
        away outside =
            outside_same outside
            ∙ is.bytes i below (is_unsynced-outside i outside synced)
            ∙ after_write i
            ∙ ap (λ o. unwrap_or o (byte_whole h i)) (byte_put-outside at other i outside)
            ∙ sym (byte_after-whole h clock i kept.made)

    pub written_images : Follows (SameOutside at (length other))
        (IsImage h clock) (IsImage (and_write h write) (clock + 1))
    written_images x is =
        let same = back_same x is.size in (
          back x,
          record {
            size = sym same.size ∙ is.size;
            bytes = λ i below synced. back-bytes x is i (omega (arith, same.size)) synced;
          },
          same,
        )

    pub written_writes : {T E : Type 0} (result : T)
        → Writes {T = T} {E = E} at other (memory_state h clock failures)
        (memory_state (and_write h write) (clock + 1) failures) (Ok result)
    written_writes result = record {
      elsewhere = put.outside;
      written = put.inside;
      images = written_images;
      sure = λ i waits. absurd waits;
      unsure = tt;
    }

    pub written_calls : {T E : Type 0} (result : T) → clock < last_moment
        → Calls {T = T} {E = E} (memory_state h clock failures)
        (memory_state (and_write h write) (clock + 1) failures) (Ok result)
    written_calls result early =
        made_calls (and_write h write) failures (Ok result) early refl (early, refl) tt
        write_earlier write_kept

  -- A sync that was kept.
  sync_earlier : (m : ℕ) → m ≤ clock → Within (IsImage (and_sync h clock) m) (IsImage h m)
  sync_earlier m early x is = record {
    size = is.size;
    bytes = λ i below synced.
        is.bytes i below (is_unsynced-later_sync h clock m i early ∙ synced)
        ∙ byte_after-later_sync h clock m i;
  }

  sync_kept : (m : ℕ) → m ≤ clock → Within (IsImage h m) (IsImage (and_sync h clock) m)
  sync_kept m early x is = record {
    size = is.size;
    bytes = λ i below synced.
        is.bytes i below (sym (is_unsynced-later_sync h clock m i early) ∙ synced)
        ∙ sym (byte_after-later_sync h clock m i);
  }

  pub synced_kept : (failed : ℕ) → clock < last_moment → failed ≤ clock + 1
      → IsKept (and_sync h clock) (clock + 1) failed
  synced_kept failed early fit = record {
    made = made_next;
    synced = All-push (λ sync. sync < clock + 1) h.syncs clock synced_next (omega arith);
    failures_fit = fit;
    clock_fits = omega arith;
    size_fits = kept.size_fits;
  }

  synced_now : bytes_after (and_sync h clock) (clock + 1) ≡ now
  synced_now = are_now h clock (bytes_after (and_sync h clock) (clock + 1))
      (now_size (and_sync h clock) (clock + 1))
      (λ i below. now_byte (and_sync h clock) (clock + 1) i below
      ∙ byte_after-whole (and_sync h clock) (clock + 1) i made_next
      ∙ sym (byte_after-whole h clock i kept.made))

  -- after it a crash leaves what reads give
  synced_image : (x : List ℕ) → IsImage (and_sync h clock) (clock + 1) x
      → x ≡ bytes_after (and_sync h clock) (clock + 1)
  synced_image x is = are_now (and_sync h clock) (clock + 1) x is.size
      (λ i below. is.bytes i (omega (arith, is.size)) (is_unsynced-synced h clock i kept.made))

  synced_images : Within (IsImage (and_sync h clock) (clock + 1)) (IsImage h clock)
  synced_images x is = record {
    size = is.size;
    bytes = λ i below synced.
        ap (λ bytes. get_or bytes i 0) (synced_image x is ∙ synced_now)
        ∙ now_byte h clock i (omega (arith, is.size));
  }

  pub synced_syncs : {T E : Type 0} (result : T)
      → Syncs {T = T} {E = E} (memory_state h clock failures)
      (memory_state (and_sync h clock) (clock + 1) failures) (Ok result)
  synced_syncs result = record {
    now = synced_now;
    images = synced_images;
    unsure = λ i waits. waits;
    synced = record {
      only = λ x is i sure. ap (λ bytes. get_or bytes i 0) (synced_image x is);
    };
  }

  pub synced_calls : {T E : Type 0} (result : T) → clock < last_moment
      → Calls {T = T} {E = E} (memory_state h clock failures)
      (memory_state (and_sync h clock) (clock + 1) failures) (Ok result)
  synced_calls result early =
      made_calls (and_sync h clock) failures (Ok result) early refl (early, refl) tt
      sync_earlier sync_kept
