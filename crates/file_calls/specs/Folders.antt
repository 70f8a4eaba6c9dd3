-- A folder and the files in it, as contracts see them: where its names lead, what its files are,
-- and what a crash may leave under a name.
use Rattle.std.specs.Prelude.{◌≡◌, ◌⊎◌, ◌++◌, ◌∷◌, [], ℕ, List, Some, None, true, false}
use Rattle.std.specs.Prelude.{Result, OnOk, OnErr, nat_eq}
use Rattle.std.specs.List.{All}
use Rattle.file_calls.specs.Names.{Creates, NameStep, may_lead}
use Rattle.file_calls.specs.OpenFiles.{FileState, IsIntact, IsSame, MayLeave}

-- What contracts see of a folder.
pub record FolderState : Type 0 where
  -- what was done to its names, oldest first
  pub steps : List NameStep
  -- each file, by its number
  pub file : ℕ → FileState

-- A call of a folder that may return an error. The names, and the file, are those that it is about.
pub data FolderCall : Type 0 where
  -- to find the file of a name
  ToLookUp : (name : List ℕ) → FolderCall
  -- the same through a link
  ToFollow : (name : List ℕ) → FolderCall
  -- to return the identity of an open file
  ToIdentify : (file : ℕ) → FolderCall
  -- to create the file of a name
  ToCreate : (name : List ℕ) → FolderCall
  -- to remove a name
  ToRemove : (name : List ℕ) → FolderCall
  -- to sync the names in the folder of a name
  ToSync : (name : List ℕ) → FolderCall

-- A crash now may leave the name leading to a file with these bytes.
pub record MayHold (s : FolderState) (name : List ℕ) (x : List ℕ) : Type 0 where
  pub file : ℕ
  pub leads : may_lead s.steps name (Some file) ≡ true
  pub bytes : MayLeave (s.file file) x

-- A crash now leaves the name leading to some file.
abbrev pub IsHeld : FolderState → List ℕ → Type 0
IsHeld s name = may_lead s.steps name None ≡ false

-- Each file is as it was.
abbrev pub AreSame : (old new : FolderState) → Type 0
AreSame old new = (n : ℕ) → IsSame (old.file n) (new.file n)

-- Nothing has changed.
pub record IsSameFolder (old new : FolderState) : Type 0 where
  pub steps : new.steps ≡ old.steps
  pub files : AreSame old new

-- No name has changed, and no file but this one.
pub record IsOnly (file : ℕ) (old new : FolderState) : Type 0 where
  pub steps : new.steps ≡ old.steps
  pub others : (n : ℕ) → nat_eq n file ≡ false → IsSame (old.file n) (new.file n)

-- A new file was made. It has no bytes, and the name leads to it, which led nowhere before.
pub record CreatesFile (name : List ℕ) (file : ℕ) (old new : FolderState) : Type 0 where
  pub named : Creates name file old.steps new.steps
  pub others : (n : ℕ) → nat_eq n file ≡ false → IsSame (old.file n) (new.file n)
  pub empty : (new.file file).now ≡ []
  pub intact : IsIntact (new.file file)

-- The past of a folder goes on by a call: it has one more state, the one before the call. A call
-- that failed may not have been made at all.
pub record PastGoesOn {T E : Type 0} (old new : FolderState) (was is : List FolderState)
    (result : Result T E) : Type 0 where
  pub made : OnOk result (is ≡ was ++ old ∷ [])
  pub failed : OnErr result ((is ≡ was ++ old ∷ []) ⊎ (IsSameFolder old new × (is ≡ was)))

-- This was so before each call since the past was this one (was), and it is so now.
pub record IsAlways (P : FolderState → Type 0) (was is : List FolderState) (now : FolderState)
    : Type 0 where
  -- the calls since then: what the folder was before each of them
  pub more : List FolderState
  pub grown : is ≡ was ++ more
  pub before : All P more
  pub at_last : P now

-- At a moment `t` after `s`, a crash leaves the name leading to a file, if it did so at `s`. That
-- file has bytes that a crash at `s` might have left, or the new bytes, whole.
pub record IsOldOrNew (name new : List ℕ) (s t : FolderState) : Type 0 where
  pub held : IsHeld s name → IsHeld t name
  pub bytes : (x : List ℕ) → MayHold t name x → MayHold s name x ⊎ (x ≡ new)

-- A crash leaves the name leading to a file with the new bytes.
pub record IsNew (name new : List ℕ) (t : FolderState) : Type 0 where
  pub held : IsHeld t name
  pub bytes : (x : List ℕ) → MayHold t name x → x ≡ new
