-- What contracts see of the files that hold stores, and of a disk as it is opened.
use Rattle.std.specs.Prelude.{◌≡◌, ◌⊎◌, ◌++◌, ℕ, Bool, true, false, List, Option, codes}
use Rattle.run_model.specs.declared.layouts.Layout.{Layout}
use Rattle.run_model.specs.Layouts.{store_len}
use Rattle.run_disk.specs.Disk.{DiskState, IsAtRest}
use Rattle.run_journal.specs.Pairs.{AreZeros}
use Rattle.store_files.specs.declared.file_errors.FileError.{FileError}

-- What the files were asked for when they returned an error.
pub data FileCall : Type 0 where
  -- to open a file for writing
  ToOpen : FileCall
  -- to open it for reading alone
  ToRead : FileCall
  -- to open it for reading alone, even if another program has it open
  ToLook : FileCall
  -- to create it, or to empty it
  ToMake : FileCall
  -- to replace it by another one
  ToReplace : FileCall

-- The files, each of which is known by its name. An open file is a disk, which whoever opened it
-- gives back as it was left. Each of these is a step from all files to all files.
pub record FilesView (F D : Type 0) : Type 1 where
  -- the file of a name was opened for writing, as this disk
  pub opens : F → List ℕ → D → F → Type 0
  -- it was opened for reading alone
  pub shows : F → List ℕ → D → F → Type 0
  -- there is no file of a name
  pub lacks : F → List ℕ → Type 0
  -- the file of a name is this disk then, and no other file changed
  pub puts : F → List ℕ → D → F → Type 0
  -- there is no file of a name then, and no other file changed
  pub removes : F → List ℕ → F → Type 0
  -- no file changed but the one of a name
  pub remakes : F → List ℕ → F → Type 0
  -- a read of the whole disk returned these bytes, and left the disk so
  pub gives : D → List ℕ → D → Type 0
  -- this call on the file of a name returned this error
  pub refuses : FileCall → F → List ℕ → FileError → Type 0
  -- the first error of a file that was opened as this disk, if a call of it has failed
  pub notes : D → Option FileError → Type 0

-- A disk is settled: if it is honest, it is at rest. So a crash leaves what reads return, whatever
-- wrote to it before.
abbrev pub IsSettled : DiskState → Type 0
IsSettled s = s.honest → IsAtRest s

-- Whatever error may be the first one here (Given) is noted there, too (Noted).
abbrev pub AreNoted : (Given Noted : Option FileError → Type 0) → Type 0
AreNoted Given Noted = (error : Option FileError) → Given error → Noted error

-- The name of the file beside the file with this name, such as `jobs.store.renewing`.
abbrev pub beside : List ℕ → List ℕ
beside name = name ++ codes ".renewing"

-- The file with this name couldn't be made. It may be empty or missing, or it may be there, and no
-- other file changed. If it had to be new, all files are as they were, or it was made.
abbrev pub IsNotMade : {F D : Type 0} → FilesView F D → List ℕ → (only_new : Bool)
    → (f0 f1 : F) → Type 0
IsNotMade seen name true f0 f1 = (f1 ≡ f0) ⊎ seen.removes f1 name f0
IsNotMade seen name false f0 f1 = seen.remakes f0 name f1

-- The file with this name was opened (Opens), as a disk, and was given back as another one. In
-- between this was done with the files (Did).
pub record Holds {F D : Type 0} (seen : FilesView F D) (Opens : F → List ℕ → D → F → Type 0)
    (name : List ℕ) (Did : F → F → Type 0) (given left : D) (f0 f1 : F) : Type 0 where
  pub opened : F
  pub after : F
  pub opens : Opens f0 name given opened
  pub did : Did opened after
  pub closes : seen.puts after name left f1

-- In between nothing was done with the files.
abbrev pub HoldsAlone : {F D : Type 0} → FilesView F D → (F → List ℕ → D → F → Type 0) → List ℕ
    → (given left : D) → (f0 f1 : F) → Type 0
HoldsAlone seen Opens name given left f0 f1 =
    Holds seen Opens name (λ opened after. after ≡ opened) given left f0 f1

-- This disk, which is the file with the first name, replaced the file with the second name, and no
-- other file changed. Now there is no file with the first name.
pub record IsReplaced {F D : Type 0} (seen : FilesView F D) (disk : D) (from to : List ℕ)
    (f0 f1 : F) : Type 0 where
  pub bare : F
  pub gone : seen.removes f0 from bare
  pub put : seen.puts bare to disk f1

-- It wasn't replaced: the files with the two names are these disks.
pub record IsKept {F D : Type 0} (seen : FilesView F D) (disk over : D) (from to : List ℕ)
    (f0 f1 : F) : Type 0 where
  pub first : F
  pub new : seen.puts f0 from disk first
  pub old : seen.puts first to over f1

-- A reading of the whole disk returned these bytes, and left the disk like this.
pub record IsRead {F D : Type 0} (seen : FilesView F D) (bytes : List ℕ) (left : D) : Type 0 where
  pub before : D
  pub reads : seen.gives before bytes left

-- Two readings in a row returned these bytes, and left the disk like this.
pub record IsReadTwice {F D : Type 0} (seen : FilesView F D) (bytes : List ℕ) (left : D)
    : Type 0 where
  pub between : D
  pub first : IsRead seen bytes between
  pub second : seen.gives between bytes left

-- The disk has this many bytes, and is settled. If it is honest, a crash leaves zeros.
pub record IsFilled (size : ℕ) (made : DiskState) : Type 0 where
  pub sized : made.size ≡ size
  pub zeros : made.honest → (x : List ℕ) → made.images x → AreZeros x
  pub settled : IsSettled made

-- The file with this name was made, with the size of a store of this layout, and filled with zeros.
-- No other file changed. The result says whether there was no file with its name before. If a new
-- file was asked for, there was none.
pub record Makes {F D : Type 0} (state : D → DiskState) (seen : FilesView F D) (name : List ℕ)
    (layout : Layout) (only_new is_new : Bool) (made : D) (f0 f1 : F) : Type 0 where
  pub put : seen.puts f0 name made f1
  pub filled : IsFilled (store_len layout) (state made)
  pub only : only_new ≡ true → is_new ≡ true
  pub new : is_new ≡ true → seen.lacks f0 name
