-- A copy that is made under another name than the file's own.
use Rattle.std.proofs.Common.{◌≡◌, ◌∙◌, ◌∷◌, ◌&&◌, ◌||◌, [], ℕ, List, Bool, Option, None, Some}
use Rattle.std.proofs.Common.{true, false, not, arith, fold, refl, subst}
use Rattle.std.specs.Prelude.{bytes_eq, nat_eq, if◌then◌else◌}
use Rattle.std.proofs.lemmas.Bool.Decides.{nat_tests}
use Rattle.file_calls.specs.Folders.{CreatesFile, FolderState, IsAlways, IsNew, IsOldOrNew}
use Rattle.file_calls.specs.Names.{NameStep, is_durable, is_to, leads, led_by, may_by, may_lead}
use Rattle.store_replacement.specs.Replacements.{IsForCopy, KeepsName, LeavesNoMore}
use Rattle.store_replacement.proofs.CallLemmas.{always_after, always_before}
use Rattle.store_replacement.proofs.LeftLemmas.{keeps_created, less_kept, old_less, unused_leads}
use Rattle.store_replacement.proofs.MomentLemmas.{always_weaker}

-- a crash may leave a name leading where it leads

led_to : (name : List ℕ) (n : ℕ) (before : Option ℕ) (b : Bool) (step : NameStep)
    → (before ≡ Some n → b ≡ true) → led_by name before step ≡ Some n
    → may_by name (Some n) b step ≡ true
led_to name n before b step lifts = go (bytes_eq step.name name)
  where
    itself : (c : Bool) → (to : Option ℕ) → to ≡ Some n → (is_to to (Some n) || c) ≡ true
    itself c to e =
        let same : nat_eq n n ≡ true = grind (arith, nat_tests) in
        rw e (rw same refl)

    go : (of : Bool) → (if of then step.to else before) ≡ Some n
        → (if of then is_to step.to (Some n) || (b && not (is_durable step.place)) else b) ≡ true
    go true e = itself (b && not (is_durable step.place)) step.to e
    go false e = lifts e

leads_from : (name : List ℕ) (n : ℕ) (steps : List NameStep) (before : Option ℕ) (b : Bool)
    → (before ≡ Some n → b ≡ true) → fold (led_by name) before steps ≡ Some n
    → fold (may_by name (Some n)) b steps ≡ true
leads_from name n [] before b lifts led = lifts led
leads_from name n (step ∷ steps) before b lifts led =
    leads_from name n steps (led_by name before step) (may_by name (Some n) b step)
    (led_to name n before b step lifts) led

may_lead_there : (name : List ℕ) (n : ℕ) (steps : List NameStep) → leads steps name ≡ Some n
    → may_lead steps name (Some n) ≡ true
may_lead_there name n steps =
    leads_from name n steps None false (λ none. absurd (let e = none in cc))

-- the new file is another one than the open one

another_file : (to : List ℕ) (file made : ℕ) (steps : List NameStep) → leads steps to ≡ Some file
    → may_lead steps to (Some made) ≡ false → nat_eq file made ≡ false
another_file to file made steps led unused = go (nat_eq file made) refl
  where
    go : (b : Bool) → nat_eq file made ≡ b → nat_eq file made ≡ false
    go false is = is
    go true is =
        let e : file ≡ made = grind (arith, nat_tests, is) in
        let may : may_lead steps to (Some made) ≡ true =
        subst (λ n. may_lead steps to (Some n) ≡ true) e (may_lead_there to file steps led) in
        absurd (let f = unused in cc)

pub made_beside : (file made : ℕ) (from to : List ℕ) (s t : FolderState)
    → CreatesFile from made s t → bytes_eq from to ≡ false → leads s.steps to ≡ Some file
    → IsForCopy file made to t
made_beside file made from to s t creates apart led =
    let unused = unused_leads to made s.steps creates.named.unused in
    let kept = keeps_created from to made s t apart creates in
    record {
      apart = another_file to file made s.steps led unused;
      unused = kept.now (Some made) ∙ unused;
      empty = creates.empty;
      intact = creates.intact;
    }

-- at each moment

pub always_beside : (to : List ℕ) (file made : ℕ) (from : List ℕ) (was mid is : List FolderState)
    (s t u : FolderState) → CreatesFile from made s t → bytes_eq from to ≡ false
    → leads s.steps to ≡ Some file → IsAlways (KeepsName to s) was mid t
    → IsAlways (IsOldOrNew to (t.file file).now t) mid is u
    → IsAlways (IsOldOrNew to (s.file file).now s) was is u
always_beside to file made from was mid is s t u creates apart led first second =
    let unused = unused_leads to made s.steps creates.named.unused in
    let same = creates.others file (another_file to file made s.steps led unused) in
    always_before to (s.file file).now was mid is s t u
    (always_weaker (KeepsName to s) (LeavesNoMore to s) was mid t (λ v. less_kept to s v) first)
    (subst (λ new. IsAlways (IsOldOrNew to new t) mid is u) same.now second)

pub always_gone : (to new : List ℕ) (was mid is : List FolderState) (s t u : FolderState)
    → IsAlways (IsOldOrNew to new s) was mid t → IsAlways (KeepsName to t) mid is u
    → IsAlways (IsOldOrNew to new s) was is u
always_gone to new was mid is s t u first second =
    always_after to new was mid is s t u first
    (always_weaker (KeepsName to t) (LeavesNoMore to t) mid is u (λ v. less_kept to t v) second)

pub always_old_kept : (to new : List ℕ) (was is : List FolderState) (s t : FolderState)
    → IsAlways (KeepsName to s) was is t → IsAlways (IsOldOrNew to new s) was is t
always_old_kept to new was is s t =
    always_weaker (KeepsName to s) (IsOldOrNew to new s) was is t
    (λ v kept. old_less to new s v (less_kept to s v kept))

pub new_beside : (to : List ℕ) (file made : ℕ) (from : List ℕ) (s t u : FolderState)
    → CreatesFile from made s t → leads s.steps to ≡ Some file
    → IsNew to (t.file file).now u → IsNew to (s.file file).now u
new_beside to file made from s t u creates led new =
    let unused = unused_leads to made s.steps creates.named.unused in
    let same = creates.others file (another_file to file made s.steps led unused) in
    subst (λ bytes. IsNew to bytes u) same.now new
