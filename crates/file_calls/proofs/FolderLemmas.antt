-- The files of a folder in memory, of which one is changed.
use Rattle.std.proofs.Common.{◌≡◌, ◌<◌, ◌∙◌, ℕ, List, false, true, arith, ap, get_or}
use Rattle.std.proofs.Common.{length, map}
use Rattle.std.proofs.Common.{Bool, set, subst, sym, refl, ◌⊎◌, ◌++◌, ◌∷◌, [], Result, Ok, Err}
use Rattle.std.proofs.Common.{OnErr}
use Rattle.std.proofs.Common.{inl, inr, length-append}
use Rattle.std.specs.Prelude.{nat_eq}
use Rattle.std.proofs.lemmas.Bool.Decides.{nat_tests}
use Rattle.std.proofs.lemmas.List.{get_or-map, get_or-set_other, get_or-set_same, length-map}
use Rattle.std.proofs.lemmas.List.{map-set}
use Rattle.file_calls.specs.declared.memory_files.MemoryFile.{MemoryFile}
use Rattle.file_calls.specs.declared.places.Place.TheVariants.{Lost}
use Rattle.file_calls.specs.MemoryFolders.{file_in, no_bytes, state_of}
use Rattle.file_calls.specs.OpenFiles.{FileState, GoesOn, IsSame, Settles}

pub same_if_equal : (old new : FileState) → new ≡ old → IsSame old new
same_if_equal old new e = rw e (record { now = refl; place = λ i. refl; end = refl })

-- the other files are as they were
pub other_file : (files : List MemoryFile) (i n : ℕ) (new : MemoryFile) → nat_eq n i ≡ false
    → file_in (set files i new) n ≡ file_in files n
other_file files i n new apart =
    rw (map-set state_of files i new)
    (get_or-set_other (map state_of files) i n (state_of new) no_bytes (grind (arith, nat_tests)))

-- and this one is the new one
pub this_file : (files : List MemoryFile) (i : ℕ) (new : MemoryFile) → i < length files
    → file_in (set files i new) i ≡ state_of new
this_file files i new within =
    rw (map-set state_of files i new)
    (get_or-set_same (map state_of files) i (state_of new) no_bytes
    (let size = length-map files state_of in omega (arith, size, within)))

-- what a call did to this file, which was like this when the call began
pub did_to_file : (P : FileState → FileState → Type 0) (files : List MemoryFile) (i : ℕ)
    (other begun new : MemoryFile) → i < length files
    → state_of begun ≡ state_of (get_or files i other) → P (state_of begun) (state_of new)
    → P (file_in files i) (file_in (set files i new) i)
did_to_file P files i other begun new within same did =
    let old = get_or-map state_of files i other no_bytes within in
    rw (old, this_file files i new within, ← same) did

-- a call that changed nothing
pub did_nothing : (files : List MemoryFile) (i : ℕ) (other begun new : MemoryFile)
    → i < length files → state_of begun ≡ state_of (get_or files i other)
    → IsSame (state_of begun) (state_of new) → (n : ℕ)
    → IsSame (file_in files n) (file_in (set files i new) n)
did_nothing files i other begun new within same did n = go (nat_eq n i) refl
  where
    go : (b : Bool) → nat_eq n i ≡ b → IsSame (file_in files n) (file_in (set files i new) n)
    go false apart =
        same_if_equal (file_in files n) (file_in (set files i new) n)
        (other_file files i n new apart)
    go true equal =
        let e : n ≡ i = grind (arith, nat_tests, equal) in
        subst (λ m. IsSame (file_in files m) (file_in (set files i new) m)) (sym e)
        (did_to_file IsSame files i other begun new within same did)

-- a sync that failed was made, or the file is as it was
pub lost_or_same : {T E : Type 0} (s t : FileState) (was is : List FileState) (r : Result T E)
    → GoesOn s t was is r → OnErr r (Settles Lost s t ⊎ (is ≡ was))
    → OnErr r (Settles Lost s t ⊎ IsSame s t)
lost_or_same s t was is (Ok value) goes lost = tt
lost_or_same s t was is (Err error) goes lost = go goes.failed lost
  where
    go : (is ≡ was ++ s ∷ []) ⊎ (IsSame s t × (is ≡ was)) → Settles Lost s t ⊎ (is ≡ was)
        → Settles Lost s t ⊎ IsSame s t
    go goes (inl settles) = inl settles
    go (inr same) (inr none) = inr same.0
    go (inl next) (inr none) =
        let e : length (was ++ s ∷ []) ≡ length was = ap length (sym next ∙ none) in
        absurd (omega (arith, e, length-append was (s ∷ [])))
