-- A new file, and what is done to it until its name is durable.
use Rattle.std.proofs.Common.{◌≡◌, ◌⊎◌, ◌≤◌, ◌+◌, ◌∙◌, ◌++◌, ◌∷◌, ◌&&◌, [], ℕ, List, Bool}
use Rattle.std.proofs.Common.{Option, Result, Ok, Err, IfOk, OnErr, OnOk, None, Some, true, false}
use Rattle.std.proofs.Common.{inl, inr}
use Rattle.std.proofs.Common.{arith, ap, drop, fold, is_ok, length, map, refl, subst, sym, take}
use Rattle.std.specs.Prelude.{nat_eq, replicate}
use Rattle.std.proofs.lemmas.Bool.Decides.{nat_tests}
use Rattle.std.proofs.lemmas.List.{length-replicate, replicate-append-replicate, take_all}
use Rattle.std.proofs.lemmas.List.{append-nil}
use Rattle.std.proofs.lemmas.List.Sums.{fold-append}
use Rattle.std.proofs.Math.ListN.{drop_of_length-le}
use Rattle.file_calls.proofs.NameLemmas.{may_lead-more}
use Rattle.file_calls.specs.declared.places.Place.{Place}
use Rattle.file_calls.specs.declared.places.Place.TheVariants.{Durable, Lost}
use Rattle.file_calls.specs.Folders.{AreSame, CreatesFile, FolderState, IsAlways, IsOnly}
use Rattle.file_calls.specs.Folders.{IsSameFolder, PastGoesOn}
use Rattle.file_calls.specs.Names.{IsUnused, NameStep, is_to, leads, led_by, may_by, may_lead}
use Rattle.file_calls.specs.Names.{new_step, settled_step}
use Rattle.file_calls.specs.OpenFiles.{IsIntact, MayLeave, Writes}
use Rattle.file_calls.specs.OpenFiles.{is_within, put_at}
use Rattle.store_replacement.specs.NewFiles.{IsMade, OnlyMakes}
use Rattle.store_replacement.specs.Replacements.{IsCopied, IsWhole}
use Rattle.store_replacement.proofs.CopyLemmas.{not_lost, not_lost_end, only_after, only_itself}
use Rattle.store_replacement.proofs.LeftLemmas.{after_durable, after_step, both, itself}
use Rattle.store_replacement.proofs.LeftLemmas.{keeps_created, keeps_only, keeps_removed}
use Rattle.store_replacement.proofs.LeftLemmas.{keeps_same, leads_settled}
use Rattle.store_replacement.proofs.LeftLemmas.{leaves_same, less_after, less_itself, less_kept}
use Rattle.store_replacement.proofs.LeftLemmas.{less_names, rest_is_now, same_after, same_itself}
use Rattle.store_replacement.proofs.LeftLemmas.{unused_leads}
use Rattle.store_replacement.proofs.MomentLemmas.{always_call, always_then, always_weaker}

pub makes_itself : (name : List ℕ) (s : FolderState) → OnlyMakes name s s
makes_itself name s = record {
  files = λ n used. same_itself (s.file n);
  others = λ other apart. less_itself other s;
  own = λ n led. inl led;
}

pub makes_same : (name : List ℕ) (s t u : FolderState) → OnlyMakes name s t → IsSameFolder t u
    → OnlyMakes name s u
makes_same name s t u first same = record {
  files = λ n used.
      same_after (s.file n) (t.file n) (u.file n) (first.files n used) (same.files n);
  others = λ other apart.
      less_after other s t u (first.others other apart)
      (less_kept other t u (keeps_same other t u same));
  own = λ n led. first.own n (ap (λ steps. may_lead steps name (Some n)) (sym same.steps) ∙ led);
}

-- a number that a file had isn't that of the new one
another : (steps : List NameStep) (n file : ℕ) → (IsUnused steps n → ⊥) → IsUnused steps file
    → nat_eq n file ≡ false
another steps n file used unused = go (nat_eq n file) refl
  where
    go : (b : Bool) → nat_eq n file ≡ b → nat_eq n file ≡ false
    go false is = is
    go true is =
        let e : n ≡ file = grind (arith, nat_tests, is) in
        absurd (used (subst (IsUnused steps) (sym e) unused))

-- the new file was made, and then only it was changed
pub makes_only : (name : List ℕ) (file : ℕ) (s t u : FolderState) → CreatesFile name file s t
    → IsOnly file t u → OnlyMakes name s u
makes_only name file s t u made only = record {
  files = λ n used.
      let apart = another s.steps n file used made.named.unused in
      same_after (s.file n) (t.file n) (u.file n) (made.others n apart) (only.others n apart);
  others = λ other apart.
      let kept = keeps_created name other file s t apart made in
      let unused : may_lead t.steps other (Some file) ≡ false =
      kept.now (Some file) ∙ unused_leads other file s.steps made.named.unused in
      less_after other s t u (less_kept other s t kept)
      (less_kept other t u (keeps_only other file t u only unused));
  own = λ n led.
      go n (after_step s.steps name file n
      (ap (λ steps. may_lead steps name (Some n)) (sym made.named.steps ∙ sym only.steps) ∙ led));
}
  where
    go : (n : ℕ) → (nat_eq file n ≡ true) ⊎ (may_lead s.steps name (Some n) ≡ true)
        → (may_lead s.steps name (Some n) ≡ true) ⊎ IsUnused s.steps n
    go n (inl is) =
        let e : file ≡ n = grind (arith, nat_tests, is) in
        inr (subst (IsUnused s.steps) e made.named.unused)
    go n (inr old) = inl old

pub makes_created : (name : List ℕ) (file : ℕ) (s t : FolderState) → CreatesFile name file s t
    → OnlyMakes name s t
makes_created name file s t made = makes_only name file s t t made (only_itself file t)

makes_names : (p : Place) (name : List ℕ) (s t u : FolderState) → OnlyMakes name s t
    → AreSame t u → u.steps ≡ map (settled_step p) t.steps → OnlyMakes name s u
makes_names p name s t u first same steps = record {
  files = λ n used.
      same_after (s.file n) (t.file n) (u.file n) (first.files n used) (same n);
  others = λ other apart.
      less_after other s t u (first.others other apart) (less_names p other t u same steps);
  own = λ n led.
      first.own n (leads_settled p name (Some n) t.steps
      (ap (λ all. may_lead all name (Some n)) (sym steps) ∙ led));
}

makes_removed : (name : List ℕ) (s t u : FolderState) → OnlyMakes name s t → AreSame t u
    → u.steps ≡ t.steps ++ new_step name None ∷ [] → OnlyMakes name s u
makes_removed name s t u first same gone = record {
  files = λ n used.
      same_after (s.file n) (t.file n) (u.file n) (first.files n used) (same n);
  others = λ other apart.
      less_after other s t u (first.others other apart)
      (less_kept other t u (keeps_removed name other t u apart same gone));
  own = λ n led.
      first.own n (before n (ap (λ steps. may_lead steps name (Some n)) (sym gone) ∙ led));
}
  where
    before : (n : ℕ)
        → may_lead (t.steps ++ new_step name None ∷ []) name (Some n) ≡ true
        → may_lead t.steps name (Some n) ≡ true
    before n holds =
        let all : may_by name (Some n) (may_lead t.steps name (Some n)) (new_step name None)
        ≡ true =
        sym (may_lead-more t.steps (new_step name None) name (Some n)) ∙ holds in
        let mine : (may_lead t.steps name (Some n) && true) ≡ true = rw (itself name) at all in
        (both (may_lead t.steps name (Some n)) true mine).0

-- at each moment

-- a file is created, or none
pub always_new : {F E : Type 0} (number : F → ℕ) (name : List ℕ) (was is : List FolderState)
    (s t : FolderState) (result : Result F E) → PastGoesOn s t was is result
    → IfOk result (λ file. CreatesFile name (number file) s t)
    → OnErr result (IsSameFolder s t) → IsAlways (OnlyMakes name s) was is t
always_new number name was is s t result goes made failed =
    always_call (OnlyMakes name s) was is s t result goes (makes_itself name s)
    (go number result made failed)
  where
    go : {F E : Type 0} (number : F → ℕ) (r : Result F E)
        → IfOk r (λ file. CreatesFile name (number file) s t) → OnErr r (IsSameFolder s t)
        → OnlyMakes name s t
    go number (Ok file) made failed = makes_created name (number file) s t made
    go number (Err error) made failed = makes_same name s s t (makes_itself name s) failed

pub always_makes_after : (name : List ℕ) (was mid is : List FolderState) (s t u : FolderState)
    → IsAlways (OnlyMakes name s) was mid t → IsAlways (OnlyMakes name s) mid is u
    → IsAlways (OnlyMakes name s) was is u
always_makes_after name was mid is s t u first =
    always_then (OnlyMakes name s) (OnlyMakes name s) was mid is t u first (λ v makes. makes)

pub always_makes_same : (name : List ℕ) (was is : List FolderState) (s t u : FolderState)
    → OnlyMakes name s t → IsAlways (IsSameFolder t) was is u
    → IsAlways (OnlyMakes name s) was is u
always_makes_same name was is s t u first =
    always_weaker (IsSameFolder t) (OnlyMakes name s) was is u
    (λ v. makes_same name s t v first)

pub always_makes_only : (name : List ℕ) (file : ℕ) (was is : List FolderState)
    (s t u : FolderState) → CreatesFile name file s t → IsAlways (IsOnly file t) was is u
    → IsAlways (OnlyMakes name s) was is u
always_makes_only name file was is s t u made =
    always_weaker (IsOnly file t) (OnlyMakes name s) was is u
    (λ v. makes_only name file s t v made)

pub always_makes_names : {T E : Type 0} (name : List ℕ) (was is : List FolderState)
    (s t u : FolderState) (result : Result T E) → PastGoesOn t u was is result → AreSame t u
    → OnOk result (u.steps ≡ map (settled_step Durable) t.steps)
    → OnErr result ((u.steps ≡ map (settled_step Lost) t.steps) ⊎ (u.steps ≡ t.steps))
    → OnlyMakes name s t → IsAlways (OnlyMakes name s) was is u
always_makes_names name was is s t u result goes same made failed first =
    always_call (OnlyMakes name s) was is t u result goes first (go result made failed)
  where
    either : (u.steps ≡ map (settled_step Lost) t.steps) ⊎ (u.steps ≡ t.steps)
        → OnlyMakes name s u
    either (inl steps) = makes_names Lost name s t u first same steps
    either (inr steps) = makes_same name s t u first (record { steps = steps; files = same })

    go : {T E : Type 0} (r : Result T E) → OnOk r (u.steps ≡ map (settled_step Durable) t.steps)
        → OnErr r ((u.steps ≡ map (settled_step Lost) t.steps) ⊎ (u.steps ≡ t.steps))
        → OnlyMakes name s u
    go (Ok value) made failed = makes_names Durable name s t u first same made
    go (Err error) made failed = either failed

pub always_makes_removed : {T E : Type 0} (name : List ℕ) (was is : List FolderState)
    (s t u : FolderState) (result : Result T E) → PastGoesOn t u was is result → AreSame t u
    → OnOk result (u.steps ≡ t.steps ++ new_step name None ∷ [])
    → OnErr result ((u.steps ≡ t.steps) ⊎ (u.steps ≡ t.steps ++ new_step name None ∷ []))
    → OnlyMakes name s t → IsAlways (OnlyMakes name s) was is u
always_makes_removed name was is s t u result goes same made failed first =
    always_call (OnlyMakes name s) was is t u result goes first (go result made failed)
  where
    either : (u.steps ≡ t.steps) ⊎ (u.steps ≡ t.steps ++ new_step name None ∷ [])
        → OnlyMakes name s u
    either (inl steps) = makes_same name s t u first (record { steps = steps; files = same })
    either (inr steps) = makes_removed name s t u first same steps

    go : {T E : Type 0} (r : Result T E) → OnOk r (u.steps ≡ t.steps ++ new_step name None ∷ [])
        → OnErr r ((u.steps ≡ t.steps) ⊎ (u.steps ≡ t.steps ++ new_step name None ∷ []))
        → OnlyMakes name s u
    go (Ok value) made failed = makes_removed name s t u first same made
    go (Err error) made failed = either failed

-- where the name leads

leads-more : (steps : List NameStep) (name : List ℕ) (to : Option ℕ)
    → leads (steps ++ new_step name to ∷ []) name ≡ to
leads-more steps name to =
    fold-append (led_by name) None steps (new_step name to ∷ []) ∙ rw (itself name) refl

leads_by_settled : (p : Place) (name : List ℕ) (steps : List NameStep) (before : Option ℕ)
    → fold (led_by name) before (map (settled_step p) steps) ≡ fold (led_by name) before steps
leads_by_settled p name [] before = refl
leads_by_settled p name (step ∷ steps) before =
    leads_by_settled p name steps (led_by name before step)

pub leads_created : (name : List ℕ) (file : ℕ) (s t : FolderState) → CreatesFile name file s t
    → leads t.steps name ≡ Some file
leads_created name file s t made =
    ap (λ steps. leads steps name) made.named.steps ∙ leads-more s.steps name (Some file)

-- the name leads to the new file, whatever becomes of the sync of the names
pub leads_synced : {T E : Type 0} (name : List ℕ) (file : ℕ) (s t u v : FolderState)
    (r : Result T E) → CreatesFile name file s t → u.steps ≡ t.steps
    → OnOk r (v.steps ≡ map (settled_step Durable) u.steps)
    → OnErr r ((v.steps ≡ map (settled_step Lost) u.steps) ⊎ (v.steps ≡ u.steps))
    → leads v.steps name ≡ Some file
leads_synced name file s t u v r made same durable lost = go r durable lost
  where
    led : leads u.steps name ≡ Some file
    led = ap (λ steps. leads steps name) same ∙ leads_created name file s t made

    after : (p : Place) → v.steps ≡ map (settled_step p) u.steps → leads v.steps name ≡ Some file
    after p steps =
        ap (λ steps. leads steps name) steps ∙ (leads_by_settled p name u.steps None ∙ led)

    either : (v.steps ≡ map (settled_step Lost) u.steps) ⊎ (v.steps ≡ u.steps)
        → leads v.steps name ≡ Some file
    either (inl steps) = after Lost steps
    either (inr steps) = ap (λ steps. leads steps name) steps ∙ led

    go : {T E : Type 0} (r : Result T E) → OnOk r (v.steps ≡ map (settled_step Durable) u.steps)
        → OnErr r ((v.steps ≡ map (settled_step Lost) u.steps) ⊎ (v.steps ≡ u.steps))
        → leads v.steps name ≡ Some file
    go (Ok value) durable lost = after Durable durable
    go (Err error) durable lost = either lost

pub removed_leads : {T E : Type 0} (name : List ℕ) (s t : FolderState) (r : Result T E)
    → OnOk r (t.steps ≡ s.steps ++ new_step name None ∷ [])
    → OnOk r (leads t.steps name ≡ None)
removed_leads name s t (Ok value) gone =
    ap (λ steps. leads steps name) gone ∙ leads-more s.steps name None
removed_leads name s t (Err error) gone = tt

-- the new file is whole, and the sync of its folder makes its name durable
pub made_whole : {T E : Type 0} (name bytes : List ℕ) (file : ℕ) (s t u v : FolderState)
    (r : Result T E) → CreatesFile name file s t → IsOnly file t u → IsWhole bytes (u.file file)
    → AreSame u v → OnOk r (v.steps ≡ map (settled_step Durable) u.steps)
    → OnOk r (IsMade name bytes file s v)
made_whole name bytes file s t u v (Err error) made only whole same durable = tt
made_whole name bytes file s t u v (Ok value) made only whole same durable =
    let steps : u.steps ≡ s.steps ++ new_step name (Some file) ∷ [] =
    only.steps ∙ made.named.steps in
    let all : v.steps ≡ map (settled_step Durable) (s.steps ++ new_step name (Some file) ∷ []) =
    durable ∙ ap (map (settled_step Durable)) steps in
    let one : (to : Option ℕ) → may_lead v.steps name to ≡ is_to (Some file) to =
    λ to. ap (λ it. may_lead it name to) all ∙ after_durable s.steps name file to in
    record {
      unused = made.named.unused;
      led = ap (λ it. leads it name) all
          ∙ (leads_by_settled Durable name (s.steps ++ new_step name (Some file) ∷ []) None
          ∙ leads-more s.steps name (Some file));
      left = record {
        held = one None;
        bytes = λ x may. go x may.file may.bytes (sym (one (Some may.file)) ∙ may.leads);
      };
    }
  where
    go : (x : List ℕ) (n : ℕ) → MayLeave (v.file n) x → nat_eq file n ≡ true → x ≡ bytes
    go x n may is =
        let e : n ≡ file = grind (arith, nat_tests, is) in
        let mine : MayLeave (v.file file) x = subst (λ m. MayLeave (v.file m) x) e may in
        rest_is_now (u.file file) x whole.rest
        (leaves_same (u.file file) (v.file file) x (same file) mine) ∙ whole.now

-- what is so if a call succeeds is so if the result that was made of it is Ok
pub passed_on : {T E U F : Type 0} (P : Type 0) (q : Result T E) (r : Result U F)
    → is_ok r ≡ is_ok q → OnOk q P → OnOk r P
passed_on P (Ok value) (Ok other) same p = p
passed_on P (Ok value) (Err error) same p = tt
passed_on P (Err error) (Ok other) same p = absurd (let e = same in cc)
passed_on P (Err error) (Err other) same p = tt

-- zeros are written at the end of zeros

put_last : (at : ℕ) (old part : List ℕ) → length old ≡ at → put_at at part old ≡ old ++ part
put_last at old part size =
    let whole : take at old ≡ old = take_all at old (omega (arith, size)) in
    let none : drop (at + length part) old ≡ [] =
    drop_of_length-le old (omega (arith, size)) in
    rw (whole, none, append-nil part) refl

put_zeros : (at n : ℕ) → put_at at (replicate n 0) (replicate at 0) ≡ replicate (at + n) 0
put_zeros at n =
    put_last at (replicate at 0) (replicate n 0) (length-replicate {A = ℕ} at 0)
    ∙ replicate-append-replicate {A = ℕ} at n 0

pub filled_none : (made : ℕ) (s : FolderState) → (s.file made).now ≡ [] → IsIntact (s.file made)
    → IsCopied (replicate 0 0) made s s
filled_none made s empty intact =
    record { only = only_itself made s; now = empty; intact = intact }

pub filled_next : {T E : Type 0} (at next n made : ℕ) (part : List ℕ) (s t u : FolderState)
    (value : T) → IsCopied (replicate at 0) made s t → part ≡ replicate n 0 → IsOnly made t u
    → (at ≤ length (t.file made).now
    → Writes {T = T} {E = E} at part (t.file made) (u.file made) (Ok value)) → next ≡ at + n
    → IsCopied (replicate next 0) made s u
filled_next at next n made part s t u value before zeros only writes e =
    let size : length (t.file made).now ≡ at =
    ap length before.now ∙ length-replicate {A = ℕ} at 0 in
    let reach : at ≤ length (t.file made).now = omega (arith, size) in
    let wrote = (writes reach).made in
    record {
      only = only_after made s t u before.only only;
      now = wrote.now ∙ (ap (λ it. put_at at it (t.file made).now) zeros
          ∙ (ap (put_at at (replicate n 0)) before.now
          ∙ (put_zeros at n ∙ ap (λ k. replicate k 0) (sym e))));
      intact = record {
        place = λ i lost.
            not_lost (is_within at (length part) i) ((t.file made).place i)
            (before.intact.place i) (sym (wrote.place i) ∙ lost);
        end = λ lost.
            not_lost_end _ (t.file made).end before.intact.end (sym wrote.end_is ∙ lost);
      };
    }
