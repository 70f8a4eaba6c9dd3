-- What a call leaves under a name that it isn't about, and what a replacement starts from.
use Rattle.std.specs.Prelude.{◌≡◌, ◌++◌, ℕ, List, [], Option, Some, true, false, map}
use Rattle.std.specs.Prelude.{nat_eq, codes}
use Rattle.file_calls.specs.Folders.{FolderState, IsHeld, IsOnly, MayHold}
use Rattle.file_calls.specs.Names.{may_lead, settled_step}
use Rattle.file_calls.specs.OpenFiles.{FileState, IsAtRest, IsIntact, IsSame}
use Rattle.file_calls.specs.declared.places.Place.TheVariants.{Durable}

-- A crash leaves nothing under the name that it couldn't leave there before, and takes the name's
-- file away only if it could before.
pub record LeavesNoMore (name : List ℕ) (s t : FolderState) : Type 0 where
  pub held : IsHeld s name → IsHeld t name
  pub bytes : (x : List ℕ) → MayHold t name x → MayHold s name x

-- The folder after a sync of its names.
abbrev pub synced : FolderState → FolderState
synced s = record { steps = map (settled_step Durable) s.steps; file = s.file }

-- The calls weren't about the name: a crash leaves it leading where it could before, also after a
-- sync of the names, and the files to which it may lead are as they were.
pub record KeepsName (name : List ℕ) (s t : FolderState) : Type 0 where
  pub now : (to : Option ℕ) → may_lead t.steps name to ≡ may_lead s.steps name to
  pub later : (to : Option ℕ) → may_lead (map (settled_step Durable) t.steps) name to
      ≡ may_lead (map (settled_step Durable) s.steps) name to
  pub files : (n : ℕ) → may_lead s.steps name (Some n) ≡ true → IsSame (s.file n) (t.file n)

-- The file `made` has these bytes now, nothing of it is lost, and nothing else has changed.
pub record IsCopied (bytes : List ℕ) (made : ℕ) (s t : FolderState) : Type 0 where
  pub only : IsOnly made s t
  pub now : (t.file made).now ≡ bytes
  pub intact : IsIntact (t.file made)

-- The file is at rest, and has these bytes.
pub record IsWhole (bytes : List ℕ) (s : FileState) : Type 0 where
  pub now : s.now ≡ bytes
  pub rest : IsAtRest s

-- A file was just made for a copy of another one. It is empty, and the name that the copy is to get
-- can't lead to it.
pub record IsForCopy (file made : ℕ) (to : List ℕ) (s : FolderState) : Type 0 where
  pub apart : nat_eq file made ≡ false
  pub unused : may_lead s.steps to (Some made) ≡ false
  pub empty : (s.file made).now ≡ []
  pub intact : IsIntact (s.file made)

-- The name of the mark of the store with this name.
abbrev pub mark_of : List ℕ → List ℕ
mark_of name = name ++ codes ".failed"
