-- The mark of a failed sync, and what the errors of a sync mean.
use Rattle.std.specs.Prelude.{◌≡◌, ◌⊎◌, ℕ, List, Some, map}
use Rattle.std.specs.IoError.{error_kind}
use Rattle.std.specs.declared.io.Error.{Error}
use Rattle.std.specs.declared.io.ErrorKind.{ErrorKind}
use Rattle.std.specs.declared.io.ErrorKind.TheVariants as kind
use Rattle.file_calls.specs.declared.places.Place.TheVariants.{Durable}
use Rattle.file_calls.specs.Folders.{FolderState}
use Rattle.file_calls.specs.Names.{leads, settled_step}

-- A file has the mark's name.
abbrev pub IsLeft : (mark : List ℕ) → FolderState → Type 0
IsLeft mark s = (file : ℕ) × (leads s.steps mark ≡ Some file)

-- The mark was left: a file has its name, or the folder returned an error (Refuses) when a file of
-- this name was to be created. So one was there before, or the folder lets none be made.
abbrev pub IsMarked : {E : Type 0} → (Refuses : E → Type 0) → (mark : List ℕ) → FolderState
    → Type 0
IsMarked {E} Refuses mark s = IsLeft mark s ⊎ ((error : E) × Refuses error)

-- The folder returned an error (Refuses) that says that there is no such file.
abbrev pub SaysNone : (Refuses : Error → Type 0) → Type 0
SaysNone Refuses = (error : Error) × Refuses error × (error_kind error ≡ kind.NotFound)

-- An error of this kind says that the file system has no sync, or is read-only.
abbrev pub HasNoSync : ErrorKind → Type 0
HasNoSync it = (it ≡ kind.InvalidInput) ⊎ (it ≡ kind.Unsupported)
    ⊎ (it ≡ kind.ReadOnlyFilesystem)

-- An error of this kind says that a folder has no sync, or may not be read.
abbrev pub IsUnsynced : ErrorKind → Type 0
IsUnsynced it = (it ≡ kind.PermissionDenied) ⊎ HasNoSync it

-- The names in the folder were synced, or they can't be: the folder returned an error (Refuses)
-- that says so.
abbrev pub AreSettled : (Refuses : Error → Type 0) → (s t : FolderState) → Type 0
AreSettled Refuses s t = (t.steps ≡ map (settled_step Durable) s.steps)
    ⊎ ((error : Error) × Refuses error × IsUnsynced (error_kind error))
