-- What the making of a new file leaves.
use Rattle.std.specs.Prelude.{◌≡◌, ◌⊎◌, ℕ, List, Some, true, false, bytes_eq}
use Rattle.file_calls.specs.Folders.{FolderCall, FolderState, IsNew, ToIdentify, ToLookUp}
use Rattle.file_calls.specs.Folders.{ToRemove}
use Rattle.file_calls.specs.Names.{IsUnused, leads, may_lead}
use Rattle.file_calls.specs.OpenFiles.{IsSame}
use Rattle.store_replacement.specs.Replacements.{LeavesNoMore}

-- A new file may have been made under this name, and nothing else was done. Each file that was
-- there is as it was, and a crash leaves no more under any other name. It leaves this name leading
-- to no file, to one to which it could leave it leading before, or to the new one.
pub record OnlyMakes (name : List ℕ) (s t : FolderState) : Type 0 where
  pub files : (n : ℕ) → (IsUnused s.steps n → ⊥) → IsSame (s.file n) (t.file n)
  pub others : (other : List ℕ) → bytes_eq name other ≡ false → LeavesNoMore other s t
  pub own : (n : ℕ) → may_lead t.steps name (Some n) ≡ true
      → (may_lead s.steps name (Some n) ≡ true) ⊎ IsUnused s.steps n

-- The name leads to a new file, whose number no file had, and a crash leaves it with these bytes.
pub record IsMade (name bytes : List ℕ) (file : ℕ) (s t : FolderState) : Type 0 where
  pub unused : IsUnused s.steps file
  pub led : leads t.steps name ≡ Some file
  pub left : IsNew name bytes t

-- A name couldn't be taken from its file: the folder returned an error (Refuses) when it was asked
-- which file is open, to which one the name leads, or to remove the name.
abbrev pub IsStuck : {E : Type 0} → (Refuses : FolderCall → E → Type 0) → (name : List ℕ)
    → (file : ℕ) → Type 0
IsStuck {E} Refuses name file = ((error : E) × Refuses (ToIdentify file) error)
    ⊎ ((error : E) × Refuses (ToLookUp name) error) ⊎ ((error : E) × Refuses (ToRemove name) error)
