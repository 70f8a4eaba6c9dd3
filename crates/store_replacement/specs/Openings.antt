-- What an opening of a store's file holds.
use Rattle.std.specs.Prelude.{◌⊎◌, List}
use Rattle.file_calls.specs.declared.locks.Lock.{Lock}
use Rattle.file_calls.specs.Locks.{Takes}

-- The lock was free and is held now. Or an error was returned when it was asked for (Refuses).
abbrev pub IsLocked : {E : Type 0} → (Refuses : Lock → E → Type 0) → Lock → (old new : List Lock)
    → Type 0
IsLocked {E} Refuses lock old new = Takes lock old new ⊎ ((error : E) × Refuses lock error)
