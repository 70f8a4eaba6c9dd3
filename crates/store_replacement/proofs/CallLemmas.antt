-- One call after others, as a name sees it.
use Rattle.std.proofs.Common.{◌≡◌, ◌⊎◌, ◌∙◌, ◌++◌, ◌∷◌, [], ℕ, List, Result, Ok, Err, IfOk}
use Rattle.std.proofs.Common.{OnErr, OnOk}
use Rattle.std.proofs.Common.{None, Some, false, ap, inl, inr, map, refl, subst}
use Rattle.std.specs.Prelude.{bytes_eq}
use Rattle.file_calls.specs.declared.places.Place.TheVariants.{Durable, Lost}
use Rattle.file_calls.specs.Folders.{AreSame, CreatesFile, FolderState, IsAlways, IsNew, IsOldOrNew}
use Rattle.file_calls.specs.Folders.{IsSameFolder, PastGoesOn}
use Rattle.file_calls.specs.Names.{Renames, leads, new_step, settled_step}
use Rattle.file_calls.specs.OpenFiles.{IsAtRest}
use Rattle.store_replacement.specs.Replacements.{KeepsName, LeavesNoMore, synced}
use Rattle.store_replacement.proofs.MomentLemmas.{always_call, always_then, always_weaker}
use Rattle.store_replacement.proofs.LeftLemmas.{keeps_after, keeps_created, keeps_itself}
use Rattle.store_replacement.proofs.LeftLemmas.{keeps_removed}
use Rattle.store_replacement.proofs.LeftLemmas.{keeps_same, less_after, less_itself, less_kept}
use Rattle.store_replacement.proofs.LeftLemmas.{less_kept_synced, less_names, less_same}
use Rattle.store_replacement.proofs.LeftLemmas.{less_synced}
use Rattle.store_replacement.proofs.LeftLemmas.{new_less, old_less, old_or_new_less}
use Rattle.store_replacement.proofs.LeftLemmas.{less_old_or_new}
use Rattle.store_replacement.proofs.LeftLemmas.{renamed, renamed_synced, same_after, same_itself}

pub same_folder_itself : (s : FolderState) → IsSameFolder s s
same_folder_itself s = record { steps = refl; files = λ n. same_itself (s.file n) }

pub same_folder_after : (s t u : FolderState) → IsSameFolder s t → IsSameFolder t u
    → IsSameFolder s u
same_folder_after s t u first second = record {
  steps = second.steps ∙ first.steps;
  files = λ n. same_after (s.file n) (t.file n) (u.file n) (first.files n) (second.files n);
}

-- a call that changes nothing
pub always_same : {T E : Type 0} (was is : List FolderState) (s t : FolderState)
    (result : Result T E) → PastGoesOn s t was is result → IsSameFolder s t
    → IsAlways (IsSameFolder s) was is t
always_same was is s t result goes same =
    always_call (IsSameFolder s) was is s t result goes (same_folder_itself s) same

pub always_same_after : (was mid is : List FolderState) (s t u : FolderState)
    → IsAlways (IsSameFolder s) was mid t → IsAlways (IsSameFolder t) mid is u
    → IsAlways (IsSameFolder s) was is u
always_same_after was mid is s t u first =
    always_then (IsSameFolder s) (IsSameFolder t) was mid is t u first
    (λ v. same_folder_after s t v first.at_last)

-- a call for another name
pub always_created : {F E : Type 0} (number : F → ℕ) (other name : List ℕ)
    (was is : List FolderState) (s t : FolderState) (result : Result F E)
    → PastGoesOn s t was is result → IfOk result (λ file. CreatesFile other (number file) s t)
    → OnErr result (IsSameFolder s t) → bytes_eq other name ≡ false
    → IsAlways (KeepsName name s) was is t
always_created number other name was is s t result goes made failed apart =
    always_call (KeepsName name s) was is s t result goes (keeps_itself name s)
    (go number result made failed)
  where
    go : {F E : Type 0} (number : F → ℕ) (r : Result F E)
        → IfOk r (λ file. CreatesFile other (number file) s t)
        → OnErr r (IsSameFolder s t) → KeepsName name s t
    go number (Ok file) made failed = keeps_created other name (number file) s t apart made
    go number (Err error) made failed = keeps_same name s t failed

pub always_removed : {T E : Type 0} (other name : List ℕ) (was is : List FolderState)
    (s t : FolderState) (result : Result T E) → PastGoesOn s t was is result → AreSame s t
    → OnOk result (t.steps ≡ s.steps ++ new_step other None ∷ [])
    → OnErr result ((t.steps ≡ s.steps) ⊎ (t.steps ≡ s.steps ++ new_step other None ∷ []))
    → bytes_eq other name ≡ false → IsAlways (KeepsName name s) was is t
always_removed other name was is s t result goes same made failed apart =
    always_call (KeepsName name s) was is s t result goes (keeps_itself name s)
    (go result made failed)
  where
    gone : t.steps ≡ s.steps ++ new_step other None ∷ [] → KeepsName name s t
    gone steps = keeps_removed other name s t apart same steps

    either : (t.steps ≡ s.steps) ⊎ (t.steps ≡ s.steps ++ new_step other None ∷ [])
        → KeepsName name s t
    either (inl steps) = keeps_same name s t (record { steps = steps; files = same })
    either (inr steps) = gone steps

    go : {T E : Type 0} (r : Result T E) → OnOk r (t.steps ≡ s.steps ++ new_step other None ∷ [])
        → OnErr r ((t.steps ≡ s.steps) ⊎ (t.steps ≡ s.steps ++ new_step other None ∷ []))
        → KeepsName name s t
    go (Ok value) made failed = gone made
    go (Err error) made failed = either failed

pub always_keeps_after : (name : List ℕ) (was mid is : List FolderState) (s t u : FolderState)
    → IsAlways (KeepsName name s) was mid t → IsAlways (KeepsName name t) mid is u
    → IsAlways (KeepsName name s) was is u
always_keeps_after name was mid is s t u first =
    always_then (KeepsName name s) (KeepsName name t) was mid is t u first
    (λ v. keeps_after name s t v first.at_last)

pub always_keeps_same : (name : List ℕ) (was is : List FolderState) (s t : FolderState)
    → IsAlways (IsSameFolder s) was is t → IsAlways (KeepsName name s) was is t
always_keeps_same name was is s t =
    always_weaker (IsSameFolder s) (KeepsName name s) was is t (λ u. keeps_same name s u)

-- a sync of the names
pub always_names : {T E : Type 0} (name : List ℕ) (was is : List FolderState)
    (s t : FolderState) (result : Result T E) → PastGoesOn s t was is result → AreSame s t
    → OnOk result (t.steps ≡ map (settled_step Durable) s.steps)
    → OnErr result ((t.steps ≡ map (settled_step Lost) s.steps) ⊎ (t.steps ≡ s.steps))
    → IsAlways (LeavesNoMore name s) was is t
always_names name was is s t result goes same made failed =
    always_call (LeavesNoMore name s) was is s t result goes (less_itself name s)
    (go result made failed)
  where
    either : (t.steps ≡ map (settled_step Lost) s.steps) ⊎ (t.steps ≡ s.steps)
        → LeavesNoMore name s t
    either (inl steps) = less_names Lost name s t same steps
    either (inr steps) = less_same name s t same steps

    go : {T E : Type 0} (r : Result T E) → OnOk r (t.steps ≡ map (settled_step Durable) s.steps)
        → OnErr r ((t.steps ≡ map (settled_step Lost) s.steps) ⊎ (t.steps ≡ s.steps))
        → LeavesNoMore name s t
    go (Ok value) made failed = less_names Durable name s t same made
    go (Err error) made failed = either failed

-- a mark is left, the names are synced, and the mark is removed or left
pub always_synced : (name : List ℕ) (p0 p1 p2 p3 : List FolderState)
    (s0 s1 s2 s3 : FolderState) → IsAlways (KeepsName name s0) p0 p1 s1
    → IsAlways (LeavesNoMore name s1) p1 p2 s2 → IsAlways (KeepsName name s2) p2 p3 s3
    → IsAlways (LeavesNoMore name s0) p0 p3 s3
always_synced name p0 p1 p2 p3 s0 s1 s2 s3 first second third =
    let left = always_weaker (KeepsName name s0) (LeavesNoMore name s0) p0 p1 s1
    (λ u. less_kept name s0 u) first in
    let done = always_then (LeavesNoMore name s0) (LeavesNoMore name s1) p0 p1 p2 s1 s2 left
    (λ u. less_after name s0 s1 u left.at_last) second in
    always_then (LeavesNoMore name s0) (KeepsName name s2) p0 p2 p3 s2 s3 done
    (λ u kept. less_after name s0 s2 u done.at_last (less_kept name s2 u kept)) third

-- if the sync succeeds, a crash leaves no more than after a sync at the beginning
pub done_synced : {T E : Type 0} (name : List ℕ) (s0 s1 s2 s3 : FolderState)
    (result : Result T E) → KeepsName name s0 s1 → AreSame s1 s2
    → OnOk result (s2.steps ≡ map (settled_step Durable) s1.steps) → KeepsName name s2 s3
    → OnOk result (LeavesNoMore name (synced s0) s3)
done_synced name s0 s1 s2 s3 (Ok value) first same steps third =
    less_after name (synced s0) (synced s1) s3 (less_kept_synced name s0 s1 first)
    (less_after name (synced s1) s2 s3 (less_synced name s1 s2 same steps)
    (less_kept name s2 s3 third))
done_synced name s0 s1 s2 s3 (Err error) first same steps third = tt

-- a renaming
pub always_renamed : {T E : Type 0} (from to : List ℕ) (file : ℕ) (was is : List FolderState)
    (s t : FolderState) (result : Result T E) → PastGoesOn s t was is result → AreSame s t
    → OnOk result (Renames from to s.steps t.steps)
    → OnErr result ((t.steps ≡ s.steps) ⊎ Renames from to s.steps t.steps)
    → bytes_eq from to ≡ false → leads s.steps from ≡ Some file → IsAtRest (s.file file)
    → IsAlways (IsOldOrNew to (s.file file).now s) was is t
always_renamed from to file was is s t result goes same made failed apart led rest =
    let new = (s.file file).now in
    always_call (IsOldOrNew to new s) was is s t result goes
    (old_less to new s s (less_itself to s)) (go result made failed)
  where
    either : (t.steps ≡ s.steps) ⊎ Renames from to s.steps t.steps
        → IsOldOrNew to (s.file file).now s t
    either (inl steps) = old_less to (s.file file).now s t (less_same to s t same steps)
    either (inr renames) = renamed from to file s t apart led rest same renames

    go : {T E : Type 0} (r : Result T E) → OnOk r (Renames from to s.steps t.steps)
        → OnErr r ((t.steps ≡ s.steps) ⊎ Renames from to s.steps t.steps)
        → IsOldOrNew to (s.file file).now s t
    go (Ok value) made failed = renamed from to file s t apart led rest same made
    go (Err error) made failed = either failed

-- calls before a replacement, and calls after it
pub always_before : (name new : List ℕ) (was mid is : List FolderState) (s t u : FolderState)
    → IsAlways (LeavesNoMore name s) was mid t → IsAlways (IsOldOrNew name new t) mid is u
    → IsAlways (IsOldOrNew name new s) was is u
always_before name new was mid is s t u first =
    always_then (IsOldOrNew name new s) (IsOldOrNew name new t) was mid is t u
    (always_weaker (LeavesNoMore name s) (IsOldOrNew name new s) was mid t
    (λ v. old_less name new s v) first)
    (λ v. less_old_or_new name new s t v first.at_last)

pub always_old : (name new : List ℕ) (was is : List FolderState) (s t : FolderState)
    → IsAlways (LeavesNoMore name s) was is t → IsAlways (IsOldOrNew name new s) was is t
always_old name new was is s t =
    always_weaker (LeavesNoMore name s) (IsOldOrNew name new s) was is t
    (λ v. old_less name new s v)

pub always_less_same : (name : List ℕ) (was is : List FolderState) (s t : FolderState)
    → IsAlways (IsSameFolder s) was is t → IsAlways (LeavesNoMore name s) was is t
always_less_same name was is s t =
    always_weaker (IsSameFolder s) (LeavesNoMore name s) was is t
    (λ v same. less_kept name s v (keeps_same name s v same))

pub always_after : (name new : List ℕ) (was mid is : List FolderState) (s t u : FolderState)
    → IsAlways (IsOldOrNew name new s) was mid t → IsAlways (LeavesNoMore name t) mid is u
    → IsAlways (IsOldOrNew name new s) was is u
always_after name new was mid is s t u first =
    always_then (IsOldOrNew name new s) (LeavesNoMore name t) was mid is t u first
    (λ v. old_or_new_less name new s t v first.at_last)

pub done_renamed : {T E : Type 0} (from to : List ℕ) (file : ℕ) (s t u : FolderState)
    (result : Result T E) → AreSame s t → Renames from to s.steps t.steps
    → OnOk result (LeavesNoMore to (synced t) u) → bytes_eq from to ≡ false
    → leads s.steps from ≡ Some file → IsAtRest (s.file file)
    → OnOk result (IsNew to (s.file file).now u)
done_renamed from to file s t u (Ok value) same renames less apart led rest =
    new_less to (s.file file).now (synced t) u
    (renamed_synced from to file s t apart led rest same renames) less
done_renamed from to file s t u (Err error) same renames less apart led rest = tt

-- what was so of a folder that is as it was

pub rest_as_before : (file : ℕ) (s t : FolderState) → IsSameFolder s t → IsAtRest (s.file file)
    → IsAtRest (t.file file)
rest_as_before file s t same rest = record {
  place = λ i. (same.files file).place i ∙ rest.place i;
  end = (same.files file).end ∙ rest.end;
}

pub leads_as_before : (from : List ℕ) (file : ℕ) (s t : FolderState) → IsSameFolder s t
    → leads s.steps from ≡ Some file → leads t.steps from ≡ Some file
leads_as_before from file s t same led = ap (λ steps. leads steps from) same.steps ∙ led

pub new_as_before : (name : List ℕ) (file : ℕ) (was mid is : List FolderState)
    (s t u : FolderState) → IsAlways (IsSameFolder s) was mid t
    → IsAlways (IsOldOrNew name (t.file file).now t) mid is u
    → IsAlways (IsOldOrNew name (s.file file).now s) was is u
new_as_before name file was mid is s t u first second =
    always_before name (s.file file).now was mid is s t u
    (always_less_same name was mid s t first)
    (subst (λ new. IsAlways (IsOldOrNew name new t) mid is u) (first.at_last.files file).now second)

pub done_as_before : {T E : Type 0} (name : List ℕ) (file : ℕ) (s t u : FolderState)
    (r : Result T E) → IsSameFolder s t → OnOk r (IsNew name (t.file file).now u)
    → OnOk r (IsNew name (s.file file).now u)
done_as_before name file s t u r same done =
    subst (λ new. OnOk r (IsNew name new u)) (same.files file).now done
