-- One call of a file, as the disk over it sees it.
use Rattle.std.proofs.Common.{◌≡◌, ◌⊎◌, ◌≤◌, ◌+◌, ◌∙◌, ◌++◌, ◌∷◌, [], ℕ, List, Result, Ok, Err}
use Rattle.std.proofs.Common.{OnErr, OnOk, arith, ap, drop, inl, inr, length, length-append}
use Rattle.std.proofs.Common.{refl, slice_get, subst, suc, sym, zero}
use Rattle.file_calls.specs.declared.places.Place.TheVariants.{Lost}
use Rattle.file_calls.specs.OpenFiles.{FileState, GoesOn, IsSame, MayLeave}
use Rattle.run_disk.specs.Calls.{Calls}
use Rattle.file_disk.specs.Counts.{IsCounted, IsFresh}
use Rattle.file_disk.specs.FileDisks.{IfHonest, IsHonest, IsKept, IsLeft, disk_state}
use Rattle.file_disk.specs.Left.{HasLeft, left_of_all}

-- what was left of more states: of the earlier ones, or of the one that was added
more_left : (n : ℕ) (past : List FileState) (s : FileState) (x : List ℕ)
    → HasLeft (drop n (past ++ s ∷ [])) x → HasLeft (drop n past) x ⊎ MayLeave s x
more_left zero [] s x (inl may) = inr may
more_left zero [] s x (inr nothing) = absurd nothing
more_left zero (p ∷ past) s x (inl may) = inl (inl may)
more_left zero (p ∷ past) s x (inr left) = later (more_left zero past s x left)
  where
    later : HasLeft past x ⊎ MayLeave s x → (MayLeave p x ⊎ HasLeft past x) ⊎ MayLeave s x
    later (inl left) = inl (inr left)
    later (inr may) = inr may
more_left (suc n) [] s x left = absurd (left_of_all n [] x left)
more_left (suc n) (p ∷ past) s x left = more_left n past s x left

left_more : (n : ℕ) (past : List FileState) (s : FileState) (x : List ℕ)
    → HasLeft (drop n past) x → HasLeft (drop n (past ++ s ∷ [])) x
left_more zero [] s x left = absurd left
left_more zero (p ∷ past) s x (inl may) = inl may
left_more zero (p ∷ past) s x (inr left) = inr (left_more zero past s x left)
left_more (suc n) [] s x left = absurd left
left_more (suc n) (p ∷ past) s x left = left_more n past s x left

last_left : (n : ℕ) (past : List FileState) (s : FileState) (x : List ℕ) → n ≤ length past
    → MayLeave s x → HasLeft (drop n (past ++ s ∷ [])) x
last_left zero [] s x within may = inl may
last_left zero (p ∷ past) s x within may = inr (last_left zero past s x (omega arith) may)
last_left (suc n) [] s x within may = absurd (omega (arith, within))
last_left (suc n) (p ∷ past) s x within may = last_left n past s x (omega (arith, within)) may

-- a file as it was leaves the same
pub same_leaves : (old new : FileState) (x : List ℕ) → IsSame old new → MayLeave old x
    → MayLeave new x
same_leaves old new x same may = record {
  bytes = λ i durable.
      may.bytes i (sym (same.place i) ∙ durable) ∙ ap (λ now. slice_get now i) (sym same.now);
  size = λ durable. may.size (sym same.end ∙ durable) ∙ ap length (sym same.now);
}

-- what a call leaves of an honest disk: its size, and nothing is lost unless the call fails
pub record Leaves {T E : Type 0} (old new : FileState) (done : Result T E) : Type 0 where
  pub sized : length new.now ≡ length old.now
  pub ended : new.end ≡ old.end
  pub whole : OnOk done ((i : ℕ) → new.place i ≡ Lost → old.place i ≡ Lost)

honest_too : (K L : Type 0) (made : FileState) → (K → L) → IsHonest K made → IsHonest L made
honest_too K L made keeps honest =
    record { keeps = keeps honest.keeps; whole = honest.whole; sized = honest.sized }

-- the past after a call
later : {T E : Type 0} (old new : FileState) (was is : List FileState) (done : Result T E)
    → GoesOn old new was is done → length is ≤ length was + 1
later old new was is (Ok a) goes =
    let e : length is ≡ length (was ++ old ∷ []) = ap length goes.made in
    omega (arith, e, length-append was (old ∷ []))
later old new was is (Err a) goes = failed goes.failed
  where
    failed : (is ≡ was ++ old ∷ []) ⊎ (IsSame old new × (is ≡ was)) → length is ≤ length was + 1
    failed (inl next) =
        let e : length is ≡ length (was ++ old ∷ []) = ap length next in
        omega (arith, e, length-append was (old ∷ []))
    failed (inr same) = let e : length is ≡ length was = ap length same.1 in omega (arith, e)

-- whatever is left of the new past is left of the old one, or of the state before the call
goes_left : {T E : Type 0} (old new : FileState) (was is : List FileState) (done : Result T E)
    (n : ℕ) (x : List ℕ) → GoesOn old new was is done → HasLeft (drop n is) x
    → HasLeft (drop n was) x ⊎ MayLeave old x
goes_left old new was is (Ok a) n x goes left =
    more_left n was old x (subst (λ past. HasLeft (drop n past) x) goes.made left)
goes_left old new was is (Err a) n x goes left = failed goes.failed
  where
    failed : (is ≡ was ++ old ∷ []) ⊎ (IsSame old new × (is ≡ was))
        → HasLeft (drop n was) x ⊎ MayLeave old x
    failed (inl next) = more_left n was old x (subst (λ past. HasLeft (drop n past) x) next left)
    failed (inr same) = inl (subst (λ past. HasLeft (drop n past) x) same.1 left)

-- and the other way round
left_goes : {T E : Type 0} (old new : FileState) (was is : List FileState) (done : Result T E)
    (n : ℕ) (x : List ℕ) → GoesOn old new was is done → n ≤ length was
    → MayLeave old x ⊎ HasLeft (drop n was) x → MayLeave new x ⊎ HasLeft (drop n is) x
left_goes old new was is done n x goes within left = made done goes left
  where
    next : is ≡ was ++ old ∷ [] → MayLeave old x ⊎ HasLeft (drop n was) x
        → MayLeave new x ⊎ HasLeft (drop n is) x
    next e (inl may) = inr (subst (λ past. HasLeft (drop n past) x) (sym e)
        (last_left n was old x within may))
    next e (inr left) = inr (subst (λ past. HasLeft (drop n past) x) (sym e)
        (left_more n was old x left))

    none : IsSame old new × (is ≡ was) → MayLeave old x ⊎ HasLeft (drop n was) x
        → MayLeave new x ⊎ HasLeft (drop n is) x
    none same (inl may) = inl (same_leaves old new x same.0 may)
    none same (inr left) = inr (subst (λ past. HasLeft (drop n past) x) (sym same.1) left)

    failed : (is ≡ was ++ old ∷ []) ⊎ (IsSame old new × (is ≡ was))
        → MayLeave old x ⊎ HasLeft (drop n was) x → MayLeave new x ⊎ HasLeft (drop n is) x
    failed (inl e) = next e
    failed (inr same) = none same

    made : {T E : Type 0} (done : Result T E) → GoesOn old new was is done
        → MayLeave old x ⊎ HasLeft (drop n was) x → MayLeave new x ⊎ HasLeft (drop n is) x
    made (Ok a) goes = next goes.made
    made (Err a) goes = failed goes.failed

-- what was left before the call, or at it, has the size of the disk
left_sized : (K : Type 0) (made old : FileState) (first : ℕ) (was : List FileState)
    (size calls failures : ℕ) (x : List ℕ) → IsKept K made old first was size calls failures
    → IsHonest K made → HasLeft (drop first was) x ⊎ MayLeave old x → length x ≡ size
left_sized K made old first was size calls failures x kept honest (inl left) =
    kept.left honest x left
left_sized K made old first was size calls failures x kept honest (inr may) =
    may.size (kept.ended honest) ∙ kept.sized honest

-- the invariant after a call
pub kept_after : {T E U F : Type 0} (K L : Type 0) (made old new : FileState) (first : ℕ)
    (was is : List FileState) (size calls failures calls_new failures_new : ℕ)
    (done : Result T E) (result : Result U F)
    → IsKept K made old first was size calls failures
    → IsFresh calls failures → IsCounted done result calls failures calls_new failures_new
    → (L → K)
    → (IsHonest K made → GoesOn old new was is done)
    → (IsHonest K made → Leaves old new done)
    → IsKept L made new first is size calls_new failures_new
kept_after K L made old new first was is size calls failures calls_new failures_new
    (Ok a) (Ok b) kept fresh counted back goes leaves = record {
      size_fits = kept.size_fits;
      calls_fit = omega (arith, fresh.early, counted.ticks);
      failures_fit = omega (arith, fresh.fine, counted.fine);
      sized = λ honest. let h = honest_too L K made back honest in
          (leaves h).sized ∙ kept.sized h;
      ended = λ honest. let h = honest_too L K made back honest in
          (leaves h).ended ∙ kept.ended h;
      whole = λ honest fine i lost. let h = honest_too L K made back honest in
          kept.whole h fresh.fine i ((leaves h).whole i lost);
      later = λ honest. let h = honest_too L K made back honest in
          let n = later old new was is (Ok a) (goes h) in
          let m = kept.later h in
          omega (arith, n, m, counted.ticks);
      counted = λ honest fine. let h = honest_too L K made back honest in
          let e : length is ≡ length (was ++ old ∷ []) = ap length (goes h).made in
          let m = kept.counted h fresh.fine in
          omega (arith, e, length-append was (old ∷ []), m, counted.ticks);
      left = λ honest x left. let h = honest_too L K made back honest in
          left_sized K made old first was size calls failures x kept h
          (goes_left old new was is (Ok a) first x (goes h) left);
    }
kept_after K L made old new first was is size calls failures calls_new failures_new
    (Err a) (Err b) kept fresh counted back goes leaves = record {
      size_fits = kept.size_fits;
      calls_fit = omega (arith, fresh.early, counted.ticks);
      failures_fit = omega (arith, fresh.fine, counted.fails, counted.ticks);
      sized = λ honest. let h = honest_too L K made back honest in
          (leaves h).sized ∙ kept.sized h;
      ended = λ honest. let h = honest_too L K made back honest in
          (leaves h).ended ∙ kept.ended h;
      whole = λ honest fine i lost. absurd (omega (arith, fine, counted.fails));
      later = λ honest. let h = honest_too L K made back honest in
          let n = later old new was is (Err a) (goes h) in
          let m = kept.later h in
          omega (arith, n, m, counted.ticks);
      counted = λ honest fine. absurd (omega (arith, fine, counted.fails));
      left = λ honest x left. let h = honest_too L K made back honest in
          left_sized K made old first was size calls failures x kept h
          (goes_left old new was is (Err a) first x (goes h) left);
    }
kept_after K L made old new first was is size calls failures calls_new failures_new
    (Ok a) (Err b) kept fresh counted back goes leaves = absurd (let e = counted.same in cc)
kept_after K L made old new first was is size calls failures calls_new failures_new
    (Err a) (Ok b) kept fresh counted back goes leaves = absurd (let e = counted.same in cc)

-- what the disk does at a call
pub calls_after : {T E U F : Type 0} (K L : Type 0) (made old new : FileState) (first : ℕ)
    (was is : List FileState) (size calls failures calls_new failures_new : ℕ)
    (done : Result T E) (result : Result U F)
    → IsKept K made old first was size calls failures
    → IsFresh calls failures → IsCounted done result calls failures calls_new failures_new
    → (K → L) → (L → K)
    → (IsHonest K made → GoesOn old new was is done)
    → Calls (disk_state K made old first was size calls failures)
    (disk_state L made new first is size calls_new failures_new) result
calls_after K L made old new first was is size calls failures calls_new failures_new
    done result kept fresh counted on back goes = record {
      size = refl;
      honest = honest_too K L made on;
      honest_before = honest_too L K made back;
      ticks = λ early. counted.ticks;
      fine = on_ok result (λ fine. (fresh.early, fine)) counted.fine;
      fails = on_err result (λ fails early. fails) counted.fails;
      spent = λ spent. absurd (omega (arith, spent, fresh.early));
      nothing_else = λ t x early left. nothing_else t x left;
      keeps = λ t x early left. keeps t x early left;
    }
  where
    on_ok : {U F A B : Type 0} (r : Result U F) → (A → B) → OnOk r A → OnOk r B
    on_ok (Ok b) f fact = f fact
    on_ok (Err b) f fact = tt

    on_err : {U F A B : Type 0} (r : Result U F) → (A → B) → OnErr r A → OnErr r B
    on_err (Ok b) f fact = tt
    on_err (Err b) f fact = f fact

    from_left : IsHonest K made → (x : List ℕ) (earlier : List FileState)
        → HasLeft earlier x ⊎ MayLeave old x → IfHonest (IsHonest K made) (IsLeft old earlier x)
    from_left honest x earlier (inl left) = inr (honest, inr left)
    from_left honest x earlier (inr may) = inr (honest, inl may)

    nothing_else : (t : ℕ) (x : List ℕ)
        → IfHonest (IsHonest L made) (IsLeft new (drop (first + t) is) x)
        → IfHonest (IsHonest K made) (IsLeft old (drop (first + t) was) x)
        ⊎ IfHonest (IsHonest L made) (MayLeave new x)
    nothing_else t x (inl bare) = inl (inl (λ honest. bare (honest_too K L made on honest)))
    nothing_else t x (inr (honest, inl may)) = inr (inr (honest, may))
    nothing_else t x (inr (honest, inr left)) =
        let h = honest_too L K made back honest in
        inl (from_left h x (drop (first + t) was)
        (goes_left old new was is done (first + t) x (goes h) left))

    keeps : (t : ℕ) (x : List ℕ) → t ≤ calls
        → IfHonest (IsHonest K made) (IsLeft old (drop (first + t) was) x)
        → IfHonest (IsHonest L made) (IsLeft new (drop (first + t) is) x)
    keeps t x early (inl bare) = inl (λ honest. bare (honest_too L K made back honest))
    keeps t x early (inr (honest, left)) =
        let n = kept.counted honest fresh.fine in
        inr (
          honest_too K L made on honest,
          left_goes old new was is done (first + t) x (goes honest) (omega (arith, n, early)) left,
        )
