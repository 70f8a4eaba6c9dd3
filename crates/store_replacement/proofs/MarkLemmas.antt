-- A call that may return an error, and what the error says.
use Rattle.std.proofs.Common.{◌≡◌, ℕ, List, Result, Ok, Err, IfErr, IfOk, OnErr}
use Rattle.std.proofs.Common.{inl, inr, is_ok}
use Rattle.file_calls.specs.Folders.{CreatesFile, FolderState}
use Rattle.store_replacement.specs.Marks.{IsMarked}
use Rattle.store_replacement.proofs.NewFileLemmas.{leads_created}

-- a mark that was created is there, and of one that wasn't the folder returned why
pub marked_by : {F E : Type 0} (number : F → ℕ) (Refuses : E → Type 0) (mark : List ℕ)
    (s t : FolderState) (r : Result F E) → IfOk r (λ file. CreatesFile mark (number file) s t)
    → IfErr r Refuses → IsMarked Refuses mark t
marked_by number Refuses mark s t (Ok file) made refused =
    inl (number file, leads_created mark (number file) s t made)
marked_by number Refuses mark s t (Err error) made refused = inr (error, refused)

-- an error of a call is there, if what was made of its result isn't Ok
pub refused_by : {T E U F : Type 0} (Refuses : E → Type 0) (q : Result T E) (r : Result U F)
    → is_ok r ≡ is_ok q → IfErr q Refuses → OnErr r ((error : E) × Refuses error)
refused_by Refuses (Ok value) (Ok other) same refused = tt
refused_by Refuses (Ok value) (Err error) same refused = absurd (let e = same in cc)
refused_by Refuses (Err error) (Ok other) same refused = tt
refused_by Refuses (Err error) (Err other) same refused = (error, refused)
