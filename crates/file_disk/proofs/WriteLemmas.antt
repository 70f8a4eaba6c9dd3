-- Reads, writes and syncs of a file, as the disk over it sees them.
use Rattle.std.proofs.Common.{◌≡◌, ◌⊎◌, ◌<◌, ◌≤◌, ◌+◌, ◌-◌, ◌∙◌, ◌++◌, ◌∷◌, [], ℕ, List, Result}
use Rattle.std.proofs.Common.{Ok, Err}
use Rattle.std.proofs.Common.{length-append, Some, OnErr, OnOk, Bool, true, false, arith, ap}
use Rattle.std.proofs.Common.{get_or, inl, inr}
use Rattle.std.proofs.Common.{is_ok, length, refl, slice_get, slice_range, subst, sym, take}
use Rattle.std.proofs.lemmas.Bool.{cases_lt}
use Rattle.std.proofs.lemmas.Bool.Decides.{nat_tests}
use Rattle.std.proofs.lemmas.List.{drop-drop}
use Rattle.std.proofs.lemmas.Option.{slice_get-get_or, slice_get_past, unwrap_or-slice_get}
use Rattle.std.specs.Prelude.{unwrap_or, if◌then◌else◌}
use borrow.Rule.Slice.PartMut.{put_mid}
use Rattle.file_calls.specs.declared.places.Place.{Place}
use Rattle.file_calls.specs.declared.places.Place.TheVariants.{Durable, Dirty, Lost}
use Rattle.file_calls.specs.OpenFiles.{FileState, GoesOn, IsSame, Makes, MayLeave}
use Rattle.file_calls.specs.OpenFiles.{Settles, Spoils, Writes}
use Rattle.file_calls.specs.OpenFiles.{grown, is_within, put_at, settled, written}
use Rattle.run_disk.specs.Calls.{Syncs, Writes as DiskWrites}
use Rattle.run_disk.specs.Contents.{Holds, Puts, SameOutside}
use Rattle.run_disk.proofs.ContentsLemmas.{same_all}
use Rattle.run_disk.proofs.PlaceLemmas.{part_byte, part_size, puts_mid}
use Rattle.file_disk.specs.FileDisks.{IfHonest, IsHonest, IsKept, disk_state}
use Rattle.file_disk.proofs.CallLemmas.{Leaves, same_leaves}

-- a place before or behind the written ones is as it was, and so is the end of the file if they
-- don't reach behind it
within_before : (at n i : ℕ) → i < at → is_within at n i ≡ false
within_before at n i below = grind (arith, nat_tests)

within_behind : (at n i : ℕ) → at + n ≤ i → is_within at n i ≡ false
within_behind at n i above = grind (arith, nat_tests)

grown_within : (at n size : ℕ) (end : Place) → at + n ≤ size → grown at n size end ≡ end
grown_within at n size end fits = grind (arith, nat_tests)

written_outside : (at n i : ℕ) (place : Place) → is_within at n i ≡ false
    → written at n i place ≡ place
written_outside at n i place outside = rw outside refl

written_lost : (at n i : ℕ) (place : Place) → written at n i place ≡ Lost → place ≡ Lost
written_lost at n i place = go (is_within at n i)
  where
    go : (b : Bool) → (if b then Dirty else place) ≡ Lost → place ≡ Lost
    go true lost = absurd (let e = lost in cc)
    go false lost = lost

-- what a write inside a file leaves of it
pub record Wrote (at n : ℕ) (old new : FileState) : Type 0 where
  pub same : SameOutside at n old.now new.now
  pub before : (i : ℕ) → i < at → new.place i ≡ old.place i
  pub behind : (i : ℕ) → at + n ≤ i → new.place i ≡ old.place i
  pub end : new.end ≡ old.end

-- the byte at a place, by either of two words
byte_at : (xs ys : List ℕ) (i : ℕ) → slice_get xs i ≡ slice_get ys i → get_or xs i 0 ≡ get_or ys i 0
byte_at xs ys i same =
    sym (unwrap_or-slice_get xs i 0)
    ∙ ap (λ o. unwrap_or o 0) same
    ∙ unwrap_or-slice_get ys i 0

place_at : (xs ys : List ℕ) (i : ℕ) → length xs ≡ length ys
    → (i < length ys → get_or xs i 0 ≡ get_or ys i 0) → slice_get xs i ≡ slice_get ys i
place_at xs ys i sized same = go (cases_lt i (length ys))
  where
    go : (i < length ys) ⊎ (length ys ≤ i) → slice_get xs i ≡ slice_get ys i
    go (inl below) =
        slice_get-get_or xs i 0 (omega (arith, sized))
        ∙ ap Some (same below)
        ∙ sym (slice_get-get_or ys i 0 below)
    go (inr above) =
        slice_get_past xs i (omega (arith, sized)) ∙ sym (slice_get_past ys i above)

put_is_mid : (at : ℕ) (bytes old : List ℕ)
    → put_at at bytes old ≡ put_mid at (length bytes) old bytes
put_is_mid at bytes old =
    ap (λ rest. take at old ++ (bytes ++ rest)) (sym (drop-drop (length bytes) at old))

-- the written places were changed
makes_wrote : (at : ℕ) (bytes : List ℕ) (old new : FileState) → at + length bytes ≤ length old.now
    → Makes (put_at at bytes old.now) at (length bytes)
    (grown at (length bytes) (length old.now) old.end) old new
    → Wrote at (length bytes) old new × Holds at bytes new.now
makes_wrote at bytes old new fits makes =
    let is : new.now ≡ put_mid at (length bytes) old.now bytes =
    makes.now ∙ put_is_mid at bytes old.now in
    let puts : Puts at bytes old.now new.now =
    subst (λ now. Puts at bytes old.now now) (sym is) (puts_mid at bytes old.now fits) in (
      record {
        same = puts.outside;
        before = λ i below. makes.place i
            ∙ written_outside at (length bytes) i (old.place i)
            (within_before at (length bytes) i below);
        behind = λ i above. makes.place i
            ∙ written_outside at (length bytes) i (old.place i)
            (within_behind at (length bytes) i above);
        end = makes.end_is ∙ grown_within at (length bytes) (length old.now) old.end fits;
      },
      puts.inside,
    )

spoils_wrote : (at n : ℕ) (old new : FileState) → at + n ≤ length old.now
    → length new.now ≡ length old.now
    → Spoils at n (grown at n (length old.now) old.end) old new → Wrote at n old new
spoils_wrote at n old new fits sized spoils = record {
  same = record {
    size = sized;
    before = λ i below. byte_at new.now old.now i (spoils.outside i (within_before at n i below));
    behind = λ i above. byte_at new.now old.now i (spoils.outside i (within_behind at n i above));
  };
  before = λ i below. spoils.place i
      ∙ written_outside at n i (old.place i) (within_before at n i below);
  behind = λ i above. spoils.place i
      ∙ written_outside at n i (old.place i) (within_behind at n i above);
  end = spoils.end_is ∙ grown_within at n (length old.now) old.end fits;
}

same_wrote : (at n : ℕ) (old new : FileState) → IsSame old new → Wrote at n old new
same_wrote at n old new same = record {
  same = subst (λ now. SameOutside at n old.now now) (sym same.now) (same_all at n old.now);
  before = λ i below. same.place i;
  behind = λ i above. same.place i;
  end = same.end;
}

pub wrote : {T E : Type 0} (at : ℕ) (bytes : List ℕ) (old new : FileState) (done : Result T E)
    → at + length bytes ≤ length old.now → Writes at bytes old new done
    → Wrote at (length bytes) old new × OnOk done (Holds at bytes new.now)
wrote at bytes old new (Ok a) fits writes = makes_wrote at bytes old new fits writes.made
wrote at bytes old new (Err a) fits writes = (go writes.failed, tt)
  where
    go : IsSame old new
        ⊎ Spoils at (length bytes) (grown at (length bytes) (length old.now) old.end) old new
        → Wrote at (length bytes) old new
    go (inl same) = same_wrote at (length bytes) old new same
    go (inr spoils) =
        spoils_wrote at (length bytes) old new fits (writes.size fits) spoils

-- a crash after the write leaves what one before it might have left, but for the written places
image_before : (at n : ℕ) (old new : FileState) (x : List ℕ) → at + n ≤ length old.now
    → old.end ≡ Durable → Wrote at n old new → MayLeave new x
    → (y : List ℕ) × MayLeave old y × SameOutside at n y x
image_before at n old new x fits durable wrote may =
    let part = slice_range old.now at (at + n) in
    let whole : length part ≡ n = part_size at n old.now fits in
    let size : length x ≡ length old.now =
    may.size (wrote.end ∙ durable) ∙ wrote.same.size in
    let y = put_mid at (length part) x part in
    let puts : Puts at part x y = puts_mid at part x (omega (arith, whole, size, fits)) in
    let sized : length y ≡ length old.now = puts.outside.size ∙ size in (
      y,
      record {
        bytes = λ i kept. place_at y old.now i sized (λ within.
            go part y whole puts (λ j below. part_byte at n old.now j below) i kept within
            (cases_lt i at) (cases_lt i (at + n)));
        size = λ still. sized;
      },
      record {
        size = sym puts.outside.size;
        before = λ i below. sym (puts.outside.before i below);
        behind = λ i above. sym (puts.outside.behind i (omega (arith, whole, above)));
      },
    )
  where
    go : (part y : List ℕ) → length part ≡ n → Puts at part x y
        → ((j : ℕ) → j < n → get_or part j 0 ≡ get_or old.now (at + j) 0) → (i : ℕ)
        → old.place i ≡ Durable → i < length old.now → (i < at) ⊎ (at ≤ i)
        → (i < at + n) ⊎ (at + n ≤ i) → get_or y i 0 ≡ get_or old.now i 0
    go part y whole puts bytes i kept within (inl below) either =
        puts.outside.before i below
        ∙ byte_at x new.now i (may.bytes i (wrote.before i below ∙ kept))
        ∙ wrote.same.before i below
    go part y whole puts bytes i kept within (inr from) (inr above) =
        puts.outside.behind i (omega (arith, whole, above))
        ∙ byte_at x new.now i (may.bytes i (wrote.behind i above ∙ kept))
        ∙ wrote.same.behind i above
    go part y whole puts bytes i kept within (inr from) (inl below) =
        let place : at + (i - at) ≡ i = omega (arith, from) in
        ap (λ m. get_or y m 0) (sym place)
        ∙ puts.inside (i - at) (omega (arith, whole, from, below))
        ∙ bytes (i - at) (omega (arith, from, below))
        ∙ ap (λ m. get_or old.now m 0) place

-- what a write does to the disk
pub writes_after : {T E U F : Type 0} (K L : Type 0) (made old new : FileState) (first : ℕ)
    (was is : List FileState) (size calls failures calls_new failures_new at : ℕ) (bytes : List ℕ)
    (done : Result T E) (result : Result U F)
    → IsKept K made old first was size calls failures → (K → L) → is_ok result ≡ is_ok done
    → at + length bytes ≤ size → (K → at ≤ length old.now → Writes at bytes old new done)
    → IsHonest K made
    → DiskWrites at bytes (disk_state K made old first was size calls failures)
    (disk_state L made new first is size calls_new failures_new) result
writes_after K L made old new first was is size calls failures calls_new failures_new at bytes
    done result kept on same fits writes honest =
    let sized : length old.now ≡ size = kept.sized honest in
    let within : at + length bytes ≤ length old.now = omega (arith, sized, fits) in
    let done_is = writes honest.keeps (omega (arith, within)) in
    let fact = wrote at bytes old new done within done_is in
    record {
      elsewhere = fact.0.same;
      written = moved _ done result same fact.1;
      images = λ x is. go x fact.0 within is;
      sure = sure result;
      unsure = unsure result;
    }
  where
    moved : {T E U F : Type 0} (P : Type 0) (done : Result T E) (r : Result U F)
        → is_ok r ≡ is_ok done → OnOk done P → OnOk r P
    moved P (Ok a) (Ok b) same fact = fact
    moved P (Ok a) (Err b) same fact = tt
    moved P (Err a) (Ok b) same fact = absurd (let e = same in cc)
    moved P (Err a) (Err b) same fact = tt

    go : (x : List ℕ) → Wrote at (length bytes) old new → at + length bytes ≤ length old.now
        → IfHonest (IsHonest L made) (MayLeave new x)
        → (y : List ℕ) × IfHonest (IsHonest K made) (MayLeave old y)
        × SameOutside at (length bytes) y x
    go x fact within (inl bare) = absurd (bare (record {
      keeps = on honest.keeps;
      whole = honest.whole;
      sized = honest.sized;
    }))
    go x fact within (inr here) =
        let before = image_before at (length bytes) old new x within (kept.ended honest) fact
        here.1 in
        (before.0, inr (honest, before.1), before.2)

    sure : {U F : Type 0} (r : Result U F)
        → OnOk r ((i : ℕ) → ⊥ → ⊥ × ((i < at) ⊎ (at + length bytes ≤ i)))
    sure (Ok b) = λ i never. absurd never
    sure (Err b) = tt

    unsure : {U F : Type 0} (r : Result U F)
        → OnErr r ((i : ℕ) → ⊥ → ⊥ ⊎ ((at ≤ i) × (i < at + length bytes)))
    unsure (Ok b) = tt
    unsure (Err b) = λ i never. absurd never

-- what a read, a write and a sync leave of the file
pub read_leaves : {T E : Type 0} (old new : FileState) (done : Result T E) → IsSame old new
    → Leaves old new done
read_leaves old new done same = record {
  sized = ap length same.now;
  ended = same.end;
  whole = go done;
}
  where
    go : {T E : Type 0} (r : Result T E)
        → OnOk r ((i : ℕ) → new.place i ≡ Lost → old.place i ≡ Lost)
    go (Ok a) = λ i lost. sym (same.place i) ∙ lost
    go (Err a) = tt

write_leaves : {T E : Type 0} (at : ℕ) (bytes : List ℕ) (old new : FileState)
    (done : Result T E) → at + length bytes ≤ length old.now → Writes at bytes old new done
    → Leaves old new done
write_leaves at bytes old new done fits writes =
    let fact = wrote at bytes old new done fits writes in
    record { sized = writes.size fits; ended = fact.0.end; whole = go done writes }
  where
    go : {T E : Type 0} (r : Result T E) → Writes at bytes old new r
        → OnOk r ((i : ℕ) → new.place i ≡ Lost → old.place i ≡ Lost)
    go (Ok a) is = λ i lost.
        written_lost at (length bytes) i (old.place i) (sym (is.made.place i) ∙ lost)
    go (Err a) is = tt

pub write_leaves_on : {T E : Type 0} (K : Type 0) (made old new : FileState) (first : ℕ)
    (was : List FileState) (size calls failures at : ℕ) (bytes : List ℕ) (done : Result T E)
    → IsKept K made old first was size calls failures → at + length bytes ≤ size
    → (K → at ≤ length old.now → Writes at bytes old new done) → IsHonest K made
    → Leaves old new done
write_leaves_on K made old new first was size calls failures at bytes done kept fits writes
    honest =
    let sized : length old.now ≡ size = kept.sized honest in
    write_leaves at bytes old new done (omega (arith, sized, fits))
    (writes honest.keeps (omega (arith, sized, fits)))

settled_lost : (place : Place) → settled Durable place ≡ Lost → place ≡ Lost
settled_lost Durable lost = absurd (let e = lost in cc)
settled_lost Dirty lost = absurd (let e = lost in cc)
settled_lost Lost lost = refl

pub settled_whole : (place : Place) → (place ≡ Lost → ⊥) → settled Durable place ≡ Durable
settled_whole Durable whole = refl
settled_whole Dirty whole = refl
settled_whole Lost whole = absurd (whole refl)

-- a sync leaves what a crash may leave as it is, or less of it
pub settles_less : (to : Place) (old new : FileState) (x : List ℕ) → Settles to old new
    → MayLeave new x → MayLeave old x
settles_less to old new x settles may = record {
  bytes = λ i durable.
      may.bytes i (settles.place i ∙ ap (settled to) durable)
      ∙ ap (λ now. slice_get now i) settles.now;
  size = λ durable.
      may.size (settles.end ∙ ap (settled to) durable) ∙ ap length settles.now;
}

-- what a failed sync leaves: it was made, or it wasn't
pub record Failed (old new : FileState) : Type 0 where
  pub now : new.now ≡ old.now
  pub end : old.end ≡ Durable → new.end ≡ old.end
  pub less : (x : List ℕ) → MayLeave new x → MayLeave old x

pub failed_sync : (old new : FileState) (was is : List FileState)
    → (is ≡ was ++ old ∷ []) ⊎ (IsSame old new × (is ≡ was))
    → Settles Lost old new ⊎ (is ≡ was) → Failed old new
failed_sync old new was is goes (inl settles) = record {
  now = settles.now;
  end = λ durable. settles.end ∙ ap (settled Lost) durable ∙ sym durable;
  less = λ x. settles_less Lost old new x settles;
}
failed_sync old new was is (inl next) (inr none) =
    let e : length (was ++ old ∷ []) ≡ length was = ap length (sym next ∙ none) in
    absurd (omega (arith, e, length-append was (old ∷ [])))
failed_sync old new was is (inr same) (inr none) = record {
  now = same.0.now;
  end = λ durable. same.0.end;
  less = λ x may. same_leaves new old x (record {
    now = sym same.0.now;
    place = λ i. sym (same.0.place i);
    end = sym same.0.end;
  }) may;
}

-- what a sync leaves of the file, if the end is durable
pub sync_leaves : {T E : Type 0} (old new : FileState) (was is : List FileState)
    (done : Result T E) → old.end ≡ Durable → GoesOn old new was is done
    → OnOk done (Settles Durable old new) → OnErr done (Settles Lost old new ⊎ (is ≡ was))
    → Leaves old new done
sync_leaves old new was is (Ok a) durable goes settles lost = record {
  sized = ap length settles.now;
  ended = settles.end ∙ ap (settled Durable) durable ∙ sym durable;
  whole = λ i gone. settled_lost (old.place i) (sym (settles.place i) ∙ gone);
}
sync_leaves old new was is (Err a) durable goes settles lost =
    let failed = failed_sync old new was is goes.failed lost in
    record { sized = ap length failed.now; ended = failed.end durable; whole = tt }

less : (K L : Type 0) (made old new : FileState) (x : List ℕ) → (K → L) → IsHonest K made
    → (MayLeave new x → MayLeave old x) → IfHonest (IsHonest L made) (MayLeave new x)
    → IfHonest (IsHonest K made) (MayLeave old x)
less K L made old new x on honest fewer (inl bare) =
    absurd (bare (record { keeps = on honest.keeps; whole = honest.whole; sized = honest.sized }))
less K L made old new x on honest fewer (inr here) = inr (honest, fewer here.1)

synced : (L : Type 0) (made new : FileState) → ((i : ℕ) → new.place i ≡ Durable)
    → (x : List ℕ) (i : ℕ) → L → ((j : ℕ) → made.place j ≡ Lost → ⊥) → made.end ≡ Durable
    → IfHonest (IsHonest L made) (MayLeave new x) → get_or x i 0 ≡ get_or new.now i 0
synced L made new durable x i keeps whole sized (inl bare) =
    absurd (bare (record { keeps = keeps; whole = whole; sized = sized }))
synced L made new durable x i keeps whole sized (inr here) =
    byte_at x new.now i (here.1.bytes i (durable i))

-- what a sync does to the disk
pub syncs_after : {T E U F : Type 0} (K L : Type 0) (made old new : FileState) (first : ℕ)
    (was is : List FileState) (size calls failures calls_new failures_new : ℕ)
    (done : Result T E) (result : Result U F)
    → IsKept K made old first was size calls failures → failures ≡ 0 → (K → L)
    → is_ok result ≡ is_ok done → (K → GoesOn old new was is done)
    → (K → OnOk done (Settles Durable old new))
    → (K → OnErr done (Settles Lost old new ⊎ (is ≡ was))) → IsHonest K made
    → Syncs (disk_state K made old first was size calls failures)
    (disk_state L made new first is size calls_new failures_new) result
syncs_after K L made old new first was is size calls failures calls_new failures_new
    (Ok a) (Ok b) kept fresh on same goes settles lost honest =
    let made_is = settles honest.keeps in
    record {
      now = made_is.now;
      images = λ x.
          less K L made old new x on honest (settles_less Durable old new x made_is);
      unsure = λ i never. never;
      synced = record {
        only = λ x is i sure.
            synced L made new (λ j. made_is.place j
            ∙ settled_whole (old.place j) (kept.whole honest fresh j)) x i
            (on honest.keeps) honest.whole honest.sized is;
      };
    }
syncs_after K L made old new first was is size calls failures calls_new failures_new
    (Err a) (Err b) kept fresh on same goes settles lost honest =
    let failed = failed_sync old new was is (goes honest.keeps).failed (lost honest.keeps) in
    record {
      now = failed.now;
      images = λ x. less K L made old new x on honest (failed.less x);
      unsure = λ i never. never;
      synced = tt;
    }
syncs_after K L made old new first was is size calls failures calls_new failures_new
    (Ok a) (Err b) kept fresh on same goes settles lost honest = absurd (let e = same in cc)
syncs_after K L made old new first was is size calls failures calls_new failures_new
    (Err a) (Ok b) kept fresh on same goes settles lost honest = absurd (let e = same in cc)
