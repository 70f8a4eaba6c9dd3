-- A copy of a file, and the names that differ.
use Rattle.std.proofs.Common.{◌≡◌, ◌≤◌, ◌<◌, ◌+◌, ◌∙◌, ◌++◌, [], ℕ, List, Result, Ok, Err, OnOk}
use Rattle.std.proofs.Common.{Bool}
use Rattle.std.proofs.Common.{true, false, arith, ap, drop, length, length-append, refl, sym}
use Rattle.std.proofs.Common.{take, subst}
use Rattle.std.proofs.Common.{Some, is_ok}
use Rattle.std.specs.Prelude.{◌-◌, bytes_eq, codes, nat_eq, slice_range, if◌then◌else◌}
use Rattle.std.proofs.lemmas.List.{append-nil, length-take, take_all}
use Rattle.std.proofs.lemmas.Slice.Eq.{bytes_eq-Decides}
use Rattle.std.proofs.Math.ListN.{drop_of_length-le}
use Rattle.std.proofs.Math.Seq.{take-add}
use Rattle.file_calls.specs.declared.places.Place.{Place}
use Rattle.file_calls.specs.declared.places.Place.TheVariants.{Durable, Dirty, Lost}
use Rattle.file_calls.specs.Folders.{FolderState, IsAlways, IsOnly, IsSameFolder, PastGoesOn}
use Rattle.file_calls.specs.Names.{may_lead}
use Rattle.file_calls.specs.OpenFiles.{FileState, IsAtRest, IsIntact, IsSame, Settles, Writes}
use Rattle.file_calls.specs.OpenFiles.{is_within, put_at, settled}
use Rattle.store_replacement.specs.Replacements.{IsCopied, IsForCopy, IsWhole, LeavesNoMore}
use Rattle.store_replacement.specs.Replacements.{mark_of}
use Rattle.store_replacement.proofs.MomentLemmas.{always_call, always_then, always_weaker}
use Rattle.store_replacement.proofs.LeftLemmas.{keeps_only, less_kept, same_after, same_itself}

-- a name with more after it is another name
pub longer_name : (name more : List ℕ) → 0 < length more → bytes_eq (name ++ more) name ≡ false
longer_name name more longer = go (bytes_eq (name ++ more) name) refl
  where
    go : (b : Bool) → bytes_eq (name ++ more) name ≡ b → bytes_eq (name ++ more) name ≡ false
    go false fails = fails
    go true holds =
        let e : name ++ more ≡ name = (bytes_eq-Decides (name ++ more) name).0 holds in
        let size : length (name ++ more) ≡ length name = ap length e in
        absurd (omega (arith, longer, size, length-append name more))

pub mark_is_another : (name mark : List ℕ) → mark ≡ mark_of name → bytes_eq mark name ≡ false
mark_is_another name mark is = rw is (longer_name name (codes ".failed") (omega arith))

-- what changed one file only

pub only_itself : (made : ℕ) (s : FolderState) → IsOnly made s s
only_itself made s = record { steps = refl; others = λ n apart. same_itself (s.file n) }

pub only_after : (made : ℕ) (s t u : FolderState) → IsOnly made s t → IsOnly made t u
    → IsOnly made s u
only_after made s t u first second = record {
  steps = second.steps ∙ first.steps;
  others = λ n apart.
      same_after (s.file n) (t.file n) (u.file n) (first.others n apart) (second.others n apart);
}

pub only_same : (made : ℕ) (s t : FolderState) → IsSameFolder s t → IsOnly made s t
only_same made s t same = record { steps = same.steps; others = λ n apart. same.files n }

intact_same : (s t : FileState) → IsSame s t → IsIntact s → IsIntact t
intact_same s t same intact = record {
  place = λ i lost. intact.place i (sym (same.place i) ∙ lost);
  end = λ lost. intact.end (sym same.end ∙ lost);
}

pub for_copy_same : (file made : ℕ) (to : List ℕ) (s t : FolderState) → IsSameFolder s t
    → IsForCopy file made to s → IsForCopy file made to t
for_copy_same file made to s t same is = record {
  apart = is.apart;
  unused = ap (λ steps. may_lead steps to (Some made)) same.steps ∙ is.unused;
  empty = (same.files made).now ∙ is.empty;
  intact = intact_same (s.file made) (t.file made) (same.files made) is.intact;
}

pub copied_none : (bytes : List ℕ) (file made : ℕ) (to : List ℕ) (s : FolderState)
    → IsForCopy file made to s → IsCopied (take 0 bytes) made s s
copied_none bytes file made to s is =
    record { only = only_itself made s; now = is.empty; intact = is.intact }

-- after the copy of one more part

pub not_lost : (b : Bool) (place : Place) → (place ≡ Lost → ⊥)
    → (if b then Dirty else place) ≡ Lost → ⊥
not_lost true place kept lost = let e = lost in cc
not_lost false place kept lost = kept lost

pub not_lost_end : (b : Bool) (place : Place) → (place ≡ Lost → ⊥)
    → (if b then place else Dirty) ≡ Lost → ⊥
not_lost_end true place kept lost = kept lost
not_lost_end false place kept lost = let e = lost in cc

put_after : (at n : ℕ) (bytes part : List ℕ) → at + n ≤ length bytes
    → part ≡ slice_range bytes at (at + n) → put_at at part (take at bytes) ≡ take (at + n) bytes
put_after at n bytes part fits is =
    let size = length-take at bytes in
    let whole : take at (take at bytes) ≡ take at bytes =
    take_all at (take at bytes) (omega (arith, size, fits)) in
    let none : drop (at + length part) (take at bytes) ≡ [] =
    drop_of_length-le (take at bytes) (omega (arith, size, fits)) in
    let m : (at + n) - at ≡ n = omega arith in
    let mine : part ≡ take n (drop at bytes) = is ∙ ap (λ k. take k (drop at bytes)) m in
    rw (whole, none, append-nil part, mine) (sym (take-add at n bytes))

pub copied_part : {T E : Type 0} (at n made : ℕ) (bytes part : List ℕ) (s t u : FolderState)
    (r : Result T E) → IsSameFolder s t → IsOnly made t u → (s.file made).now ≡ take at bytes
    → IsIntact (s.file made) → at + n ≤ length bytes → part ≡ slice_range bytes at (at + n)
    → (at ≤ length (t.file made).now → Writes at part (t.file made) (u.file made) r)
    → OnOk r (IsCopied (take (at + n) bytes) made s u)
copied_part at n made bytes part s t u (Err error) same only now intact fits is writes = tt
copied_part at n made bytes part s t u (Ok value) same only now intact fits is writes =
    let old : (t.file made).now ≡ take at bytes = (same.files made).now ∙ now in
    let size : length (t.file made).now ≡ length (take at bytes) = ap length old in
    let reach : at ≤ length (t.file made).now =
    omega (arith, size, fits, length-take at bytes) in
    let wrote = (writes reach).made in
    let kept = intact_same (s.file made) (t.file made) (same.files made) intact in
    record {
      only = only_after made s t u (only_same made s t same) only;
      now = wrote.now ∙ ap (put_at at part) old ∙ put_after at n bytes part fits is;
      intact = record {
        place = λ i lost.
            not_lost (is_within at (length part) i) ((t.file made).place i) (kept.place i)
            (sym (wrote.place i) ∙ lost);
        end = λ lost.
            not_lost_end _ (t.file made).end kept.end (sym wrote.end_is ∙ lost);
      };
    }

pub copied_same : {T E : Type 0} (bytes : List ℕ) (made : ℕ) (s t u : FolderState)
    (r : Result T E) → IsSameFolder s t → OnOk r (IsCopied bytes made t u)
    → OnOk r (IsCopied bytes made s u)
copied_same bytes made s t u (Err error) same second = tt
copied_same bytes made s t u (Ok value) same second = record {
  only = only_after made s t u (only_same made s t same) second.only;
  now = second.now;
  intact = second.intact;
}

-- and a sync makes it durable
settled_whole : (place : Place) → (place ≡ Lost → ⊥) → settled Durable place ≡ Durable
settled_whole Durable whole = refl
settled_whole Dirty whole = refl
settled_whole Lost whole = absurd (whole refl)

pub copied_rest : (old new : FileState) → IsIntact old → Settles Durable old new → IsAtRest new
copied_rest old new intact settles = record {
  place = λ i. settles.place i ∙ settled_whole (old.place i) (intact.place i);
  end = settles.end ∙ settled_whole old.end intact.end;
}

-- at each moment of a call that changes nothing, and of one that changes this file

pub always_only_same : {T E : Type 0} (made : ℕ) (was is : List FolderState)
    (s t : FolderState) (r : Result T E) → PastGoesOn s t was is r → IsSameFolder s t
    → IsAlways (IsOnly made s) was is t
always_only_same made was is s t r goes same =
    always_call (IsOnly made s) was is s t r goes (only_itself made s) (only_same made s t same)

pub always_only : {T E : Type 0} (made : ℕ) (was is : List FolderState) (s t : FolderState)
    (r : Result T E) → PastGoesOn s t was is r → IsOnly made s t
    → IsAlways (IsOnly made s) was is t
always_only made was is s t r goes only =
    always_call (IsOnly made s) was is s t r goes (only_itself made s) only

pub always_only_after : (made : ℕ) (was mid is : List FolderState) (s t u : FolderState)
    → IsAlways (IsOnly made s) was mid t → IsAlways (IsOnly made t) mid is u
    → IsAlways (IsOnly made s) was is u
always_only_after made was mid is s t u first =
    always_then (IsOnly made s) (IsOnly made t) was mid is t u first
    (λ v. only_after made s t v first.at_last)

-- a name that can't lead to this file keeps what a crash may leave there
pub always_less_only : (name : List ℕ) (made : ℕ) (was is : List FolderState)
    (s t : FolderState) → may_lead s.steps name (Some made) ≡ false
    → IsAlways (IsOnly made s) was is t → IsAlways (LeavesNoMore name s) was is t
always_less_only name made was is s t unused =
    always_weaker (IsOnly made s) (LeavesNoMore name s) was is t
    (λ v only. less_kept name s v (keeps_only name made s v only unused))

-- a copy of as many bytes as the file has is whole
pub copied_whole : {T E : Type 0} (size file made : ℕ) (s t u : FolderState) (r : Result T E)
    → IsSameFolder s t → size ≡ length (s.file file).now
    → OnOk r (IsCopied (take size (t.file file).now) made t u)
    → OnOk r (IsCopied (s.file file).now made s u)
copied_whole size file made s t u r same sized done =
    let e : take size (t.file file).now ≡ (s.file file).now =
    ap (take size) (same.files file).now
    ∙ take_all size (s.file file).now (omega (arith, sized)) in
    copied_same (s.file file).now made s t u r same
    (subst (λ bytes. OnOk r (IsCopied bytes made t u)) e done)

-- a copy that a sync made durable
pub copied_synced : {T E : Type 0} (bytes : List ℕ) (made : ℕ) (s t u : FolderState)
    (r : Result T E) → IsCopied bytes made s t
    → OnOk r (Settles Durable (t.file made) (u.file made)) → OnOk r (IsWhole bytes (u.file made))
copied_synced bytes made s t u (Err error) copied settles = tt
copied_synced bytes made s t u (Ok value) copied settles = record {
  now = settles.now ∙ copied.now;
  rest = copied_rest (t.file made) (u.file made) copied.intact settles;
}

-- a copy goes on
pub copied_next : (at next n file made : ℕ) (s t u : FolderState) → nat_eq file made ≡ false
    → IsCopied (take at (s.file file).now) made s t
    → ((t.file made).now ≡ take at (t.file file).now → IsIntact (t.file made)
    → IsCopied (take (at + n) (t.file file).now) made t u) → next ≡ at + n
    → IsCopied (take next (s.file file).now) made s u
copied_next at next n file made s t u apart before after e =
    let same : (t.file file).now ≡ (s.file file).now = (before.only.others file apart).now in
    let done = after (before.now ∙ ap (take at) (sym same)) before.intact in
    record {
      only = only_after made s t u before.only done.only;
      now = done.now ∙ ap (take (at + n)) same
          ∙ ap (λ k. take k (s.file file).now) (sym e);
      intact = done.intact;
    }

-- a result that was passed on as Ok was Ok
pub was_ok : {T E U F : Type 0} (P : Type 0) (q : Result T E) (r : Result U F) (v : U)
    → is_ok r ≡ is_ok q → r ≡ Ok v → OnOk q P → P
was_ok P (Ok value) r v same was p = p
was_ok P (Err error) r v same was p = absurd (let e = same in let f = was in cc)
