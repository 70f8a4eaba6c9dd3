-- What a renewal in place does: a store is made beside another one, of what isn't finished in it,
-- and put in its place.
use Rattle.std.specs.Prelude.{◌≡◌, ◌⊎◌, ℕ, true, List, Option, None, Some, ⊤, Result, Ok, Err}
use Rattle.run_model.specs.declared.faults.Fault.TheVariants.{WrongSize}
use Rattle.run_model.specs.declared.layouts.Layout.{Layout}
use Rattle.run_model.specs.Layouts.{layout_of}
use Rattle.run_disk.specs.Disk.{DiskState}
use Rattle.book_model.specs.declared.migrations.MigrateFault.{MigrateFault}
use Rattle.console_lines.specs.declared.faults.RunFault.TheVariants.{Memory}
use Rattle.console_lines.specs.Faults.{stopped}
use Rattle.store_words.specs.declared.endings.Done.{Done}
use Rattle.store_words.specs.declared.failures.Failure.{Failure}
use Rattle.store_words.specs.declared.renewals.Kept.{Kept}
use Rattle.store_words.specs.Failures.{AnswersAlone, FailsBy, FailsOf, HasNoFile, IsUnput, Names}
use Rattle.store_files.specs.declared.file_errors.FileError.{FileError}
use Rattle.store_files.specs.declared.file_errors.FileError.TheVariants.{InUse}
use Rattle.store_files.specs.Files.{FilesView, Holds, HoldsAlone, IsKept, IsNotMade, IsReplaced}
use Rattle.store_files.specs.Files.{IsSettled, Makes, ToMake, ToOpen, ToReplace, beside}
use Rattle.store_words.specs.Stores.{DoesPrint, Remakes, renewed_line}

module _ {F D : Type 0} (state : D → DiskState) (seen : FilesView F D) where
  -- The file with this name was opened and given back, and doesn't have the size of a store.
  pub record HasNoSize (store : List ℕ) (answer : Result Done Failure) (f0 f1 : F) : Type 0 where
    pub source : D
    pub held : HoldsAlone seen seen.opens store source source f0 f1
    pub none : layout_of (state source).size ≡ None
    pub answers : FailsBy (Names (seen.notes source) store) (stopped WrongSize) answer

  -- The file of this name was had for this program alone, and taken away; or nothing was done.
  abbrev pub Clears : (name : List ℕ) → (f0 f1 : F) → Type 0
  Clears name f0 f1 =
      (f1 ≡ f0) ⊎ ((rest : D) × (opened : F) × seen.opens f0 name rest opened
      × seen.removes opened name f1)

  -- The file of this name was replaced by a new one, with the size of a store of this layout, and
  -- no other file was touched. What was there before was taken away.
  pub record MakesBeside (name : List ℕ) (layout : Layout) (given : D) (f0 f1 : F) : Type 0 where
    pub before : F
    pub cleared : Clears name f0 before
    pub makes : Makes state seen name layout true true given before f1

  -- The file of this name couldn't be replaced by a new one, and no other file was touched. Either
  -- another program has it open, and nothing was done; or the making returned this error. What was
  -- there before may be gone then, and what was made of it may be there.
  pub record LacksBeside (name : List ℕ) (error : FileError) (f0 f1 : F) : Type 0 where
    pub before : F
    pub cleared : Clears name f0 before
    pub only : IsNotMade seen name true before f1
    pub refused : (seen.refuses ToOpen f0 name InUse × (error ≡ InUse) × (f1 ≡ f0))
        ⊎ seen.refuses ToMake before name error

  -- A disk couldn't be put in the place of the file of the second name, which is the disk `over`,
  -- or isn't known to last there; and the file of the first name was taken away. The replacing
  -- returned this error.
  pub record IsNotPut (disk over : D) (from to : List ℕ) (error : FileError) (f0 f1 : F)
      : Type 0 where
    pub refused : seen.refuses ToReplace f0 to error
    pub tried : F
    pub which : IsKept seen disk over from to f0 tried ⊎ IsReplaced seen disk from to f0 tried
    pub removed : seen.removes tried from f1

  -- The file beside was taken away, and that of this name is the disk that was read.
  pub record IsNotBeside (store : List ℕ) (read : D) (f0 f1 : F) : Type 0 where
    pub bare : F
    pub removed : seen.removes f0 (beside store) bare
    pub closes : seen.puts bare store read f1

  -- A store was made in the file beside the one of this name, of what was read there. Then it was
  -- put in its place, and how much is left was printed; or it couldn't be put there, which is told.
  -- Or none was made, and the file that is to blame is printed with its first error, if one was
  -- noted of it (OfOld or OfNew).
  abbrev pub Puts : (OfOld OfNew : Option FileError → Type 0) → (store : List ℕ)
      → Result Kept MigrateFault → (read left : D)
      → Result Done Failure → (f0 f1 : F) → (w0 w1 : Option (List ℕ)) → Type 0
  Puts OfOld OfNew store (Ok kept) read left answer f0 f1 w0 w1 =
      (IsReplaced seen left (beside store) store f0 f1 × DoesPrint (renewed_line kept) answer w0 w1)
      ⊎ ((error : FileError) × IsNotPut left read (beside store) store error f0 f1
      × ((failure : Failure) × (answer ≡ Err failure) × IsUnput error store failure) × (w1 ≡ w0))
  Puts OfOld OfNew store (Err why) read left answer f0 f1 w0 w1 =
      IsNotBeside store read f0 f1
      × FailsOf (Names OfOld store) (Names OfNew (beside store)) why answer × (w1 ≡ w0)

  -- The store on the one disk was renewed to the other one, the file beside, and that put in its
  -- place.
  pub record EndsInPlace (store : List ℕ) (source given : D) (answer : Result Done Failure)
      (f0 f1 : F) (w0 w1 : Option (List ℕ)) : Type 0 where
    pub read : D
    pub left : D
    pub done : Result Kept MigrateFault
    pub remakes : Remakes state state source given done read left
    pub puts : Puts (seen.notes source) (seen.notes given) store done read left answer f0 f1 w0 w1

  -- The file of this name was opened for this program alone, and one beside it made for a store of
  -- its layout.
  pub record RenewsInPlace (store : List ℕ) (answer : Result Done Failure) (f0 f1 : F)
      (w0 w1 : Option (List ℕ)) : Type 0 where
    pub source : D
    pub layout : Layout
    pub given : D
    pub opened : F
    pub made : F
    pub opens : seen.opens f0 store source opened
    pub settled : IsSettled (state source)
    pub fits : layout_of (state source).size ≡ Some layout
    pub makes : MakesBeside (beside store) layout given opened made
    pub ends : EndsInPlace store source given answer made f1 w0 w1

  -- The file of this name was opened, and given back as it was: it has no store's size, or there
  -- was no memory for a name; or the file beside wasn't had, and no other one touched.
  abbrev pub LeavesInPlace : (store : List ℕ) → Result Done Failure → (f0 f1 : F) → Type 0
  LeavesInPlace store answer f0 f1 =
      HasNoSize store answer f0 f1
      ⊎ ((AnswersAlone {T = ⊤} (Err Memory) answer × (source : D)
      × HoldsAlone seen seen.opens store source source f0 f1)
      ⊎ ((source : D) × Holds seen seen.opens store (λ opened after.
      HasNoFile (λ error. LacksBeside (beside store) error opened after) (beside store) answer)
      source source f0 f1))

  -- The store in the file of this name was renewed in its place; or its file wasn't had, or was
  -- left as it was.
  abbrev pub DoesRenewInPlace : (store : List ℕ) → Result Done Failure → (f0 f1 : F)
      → (w0 w1 : Option (List ℕ)) → Type 0
  DoesRenewInPlace store answer f0 f1 w0 w1 =
      (HasNoFile (seen.refuses ToOpen f0 store) store answer × (f1 ≡ f0) × (w1 ≡ w0))
      ⊎ ((LeavesInPlace store answer f0 f1 × (w1 ≡ w0))
      ⊎ RenewsInPlace store answer f0 f1 w0 w1)
