-- What each subcommand does with the files that its arguments name.
use Rattle.std.specs.Prelude.{◌≡◌, ◌≢◌, ◌⊎◌, ℕ, Bool, true, List, Option, Some, ⊤, Result, Err}
use Rattle.run_model.specs.declared.faults.Fault.{Fault}
use Rattle.run_model.specs.declared.layouts.Layout.{Layout}
use Rattle.run_model.specs.declared.layouts.Layout.TheVariants.{Large}
use Rattle.run_model.specs.Layouts.{layout_of}
use Rattle.run_disk.specs.Disk.{DiskState}
use Rattle.book_model.specs.declared.migrations.MigrateFault.{MigrateFault}
use Rattle.console_lines.specs.declared.faults.RunFault.{RunFault}
use Rattle.state_views.specs.declared.views.View.{View}
use Rattle.console_lines.specs.Faults.{stopped}
use Rattle.store_files.specs.declared.file_errors.FileError.TheVariants.{InUse}
use Rattle.store_files.specs.Files.{FilesView, Holds, HoldsAlone, IsNotMade, IsSettled, Makes}
use Rattle.store_files.specs.Files.{ToLook, ToMake, ToRead}
use Rattle.store_words.specs.declared.endings.Done.{Done}
use Rattle.store_words.specs.declared.failures.Failure.{Failure}
use Rattle.store_words.specs.Failures.{AnswersOver, FailsBy, HasNoFile, Names}
use Rattle.store_words.specs.Failures.{NamesSource}
use Rattle.store_words.specs.Looks.{LookEnds}
use Rattle.store_words.specs.Sources.{Serves, ServesNot, migrated_layout}
use Rattle.store_words.specs.Stores.{AnswersMade, FormatEnds, InspectEnds, MigratesRead, Remakes}
use Rattle.store_words.specs.Stores.{migrated_line, renewed_line}

-- What a subcommand leaves of a file that it made: the disk as it left it. But if the subcommand
-- failed, and the file wasn't there before, the file is removed again.
abbrev pub IsLeft : {F D : Type 0} → FilesView F D → (is_new : Bool) → Result Done Failure
    → List ℕ → (left : D) → (f0 f1 : F) → Type 0
IsLeft seen true (Err why) name left f0 f1 = seen.removes f0 name f1
IsLeft seen _ _ name left f0 f1 = seen.puts f0 name left f1

module _ {F D : Type 0} (state : D → DiskState) (seen : FilesView F D) where
  -- ---- format

  -- The file of this name was created or emptied, and formatted.
  pub record Formats (store : List ℕ) (only_new : Bool) (answer : Result Done Failure)
      (f0 f1 : F) (w0 w1 : Option (List ℕ)) : Type 0 where
    pub made : F
    pub is_new : Bool
    pub given : D
    pub left : D
    pub done : Result ⊤ RunFault
    pub makes : Makes state seen store Large only_new is_new given f0 made
    pub formats : FormatEnds state given done left w0 w1
    pub answers : AnswersOver (Names (seen.notes given) store) done answer
    pub files : IsLeft seen is_new answer store left made f1

  abbrev pub DoesFormat : List ℕ → Bool → Result Done Failure → (f0 f1 : F)
      → (w0 w1 : Option (List ℕ)) → Type 0
  DoesFormat store only_new answer f0 f1 w0 w1 =
      (HasNoFile (seen.refuses ToMake f0 store) store answer × IsNotMade seen store only_new f0 f1
      × (w1 ≡ w0))
      ⊎ Formats store only_new answer f0 f1 w0 w1

  -- ---- inspect

  -- The file of this name was opened for reading alone, and this view of the state in it was
  -- printed. The file is the disk that was read.
  pub record Inspects (view : View) (store : List ℕ) (answer : Result Done Failure)
      (f0 f1 : F) (w0 w1 : Option (List ℕ)) : Type 0 where
    pub given : D
    pub left : D
    pub done : Result ⊤ RunFault
    pub held : HoldsAlone seen seen.shows store given left f0 f1
    pub settled : IsSettled (state given)
    pub inspects : InspectEnds view state given done left w0 w1
    pub answers : AnswersOver (Names (seen.notes given) store) done answer

  -- The file was opened for reading alone, although another program has it open, and the bytes that
  -- two reads of it returned were looked at. Or no two reads in a row agreed, and nothing was
  -- printed. The file is the disk that was read.
  pub record Looks (view : View) (store : List ℕ) (answer : Result Done Failure)
      (f0 f1 : F) (w0 w1 : Option (List ℕ)) : Type 0 where
    pub given : D
    pub left : D
    pub held : HoldsAlone seen seen.shows store given left f0 f1
    pub looks : LookEnds view state seen store given answer left w0 w1

  -- A store that another program has open was looked at, or couldn't be opened even so.
  abbrev pub LooksInUse : View → List ℕ → Result Done Failure → (f0 f1 : F)
      → (w0 w1 : Option (List ℕ)) → Type 0
  LooksInUse view store answer f0 f1 w0 w1 =
      (HasNoFile (seen.refuses ToLook f0 store) store answer × (f1 ≡ f0) × (w1 ≡ w0))
      ⊎ Looks view store answer f0 f1 w0 w1

  -- A store was inspected; or its file couldn't be opened, and the error says why. It was looked at
  -- as one in use only if the opening returned that it is.
  abbrev pub DoesInspect : View → List ℕ → Result Done Failure → (f0 f1 : F)
      → (w0 w1 : Option (List ℕ)) → Type 0
  DoesInspect view store answer f0 f1 w0 w1 =
      (HasNoFile (λ error. seen.refuses ToRead f0 store error × (error ≢ InUse)) store answer
      × (f1 ≡ f0) × (w1 ≡ w0))
      ⊎ (Inspects view store answer f0 f1 w0 w1
      ⊎ (seen.refuses ToRead f0 store InUse × LooksInUse view store answer f0 f1 w0 w1))

  -- ---- a store of another one

  -- The file of the old name was opened for reading alone, and no store can be made of the one in
  -- it. It was given back as it was read, and no other file was touched.
  pub record Spares (of : D → Option Layout) (old : List ℕ) (answer : Result Done Failure)
      (f0 f1 : F) : Type 0 where
    pub source : D
    pub read : D
    pub why : Fault
    pub held : HoldsAlone seen seen.shows old source read f0 f1
    pub settled : IsSettled (state source)
    pub none : ServesNot state (of source) source why read
    pub answers : FailsBy (NamesSource (seen.notes source) (layout_of (state source).size)
        (of source) old) (stopped why) answer

  -- The store in the file of the old name was read whole, and the file of the new name couldn't be
  -- created or emptied. The old file is the disk that was read.
  pub record MakesNone (of : D → Option Layout) (only_new : Bool) (old new : List ℕ)
      (answer : Result Done Failure) (f0 f1 : F) : Type 0 where
    pub source : D
    pub layout : Layout
    pub read : D
    pub settled : IsSettled (state source)
    pub fits : of source ≡ Some layout
    pub serves : Serves (state source) (state read)
    pub held : Holds seen seen.shows old (λ opened after.
        HasNoFile (seen.refuses ToMake opened new) new answer
        × IsNotMade seen new only_new opened after) source read f0 f1

  -- The store in the file of the old name was read whole. Then the file of the new name was created
  -- or emptied, with the layout that goes with the old store, and a store was made in it so (Ends)
  -- and its line printed; or one of the two files failed. The old file is the disk that was read.
  pub record MakesOf {K : Type 0} (of : D → Option Layout) (line : K → List ℕ)
      (Ends : (source given : D) → Result K MigrateFault → (read left : D) → Type 0)
      (only_new : Bool) (old new : List ℕ) (answer : Result Done Failure) (f0 f1 : F)
      (w0 w1 : Option (List ℕ)) : Type 0 where
    pub source : D
    pub layout : Layout
    pub looked : D
    pub is_new : Bool
    pub given : D
    pub read : D
    pub left : D
    pub done : Result K MigrateFault
    pub settled : IsSettled (state source)
    pub fits : of source ≡ Some layout
    pub serves : Serves (state source) (state looked)
    pub ends : Ends looked given done read left
    pub answers : AnswersMade line (Names (seen.notes source) old) (Names (seen.notes given) new)
        done answer w0 w1
    pub held : Holds seen seen.shows old (λ opened after. (made : F)
        × Makes state seen new layout only_new is_new given opened made
        × IsLeft seen is_new answer new left made after) source read f0 f1

  -- A store was made of another one so (Ends), with the layout that goes with it. Or nothing was
  -- printed: the old file couldn't be opened, or no store can be made of the one in it, or the new
  -- file couldn't be created or emptied.
  abbrev pub DoesMake : {K : Type 0} → (of : D → Option Layout) → (line : K → List ℕ)
      → (Ends : (source given : D) → Result K MigrateFault → (read left : D) → Type 0)
      → (only_new : Bool) → (old new : List ℕ) → Result Done Failure → (f0 f1 : F)
      → (w0 w1 : Option (List ℕ)) → Type 0
  DoesMake of line Ends only_new old new answer f0 f1 w0 w1 =
      (HasNoFile (seen.refuses ToRead f0 old) old answer × (f1 ≡ f0) × (w1 ≡ w0))
      ⊎ ((Spares of old answer f0 f1 × (w1 ≡ w0))
      ⊎ ((MakesNone of only_new old new answer f0 f1 × (w1 ≡ w0))
      ⊎ MakesOf of line Ends only_new old new answer f0 f1 w0 w1))

  -- The small store in the file of the old name was migrated to a large one.
  abbrev pub DoesMigrate : (only_new : Bool) → (old new : List ℕ) → Result Done Failure
      → (f0 f1 : F) → (w0 w1 : Option (List ℕ)) → Type 0
  DoesMigrate only_new old new answer f0 f1 w0 w1 =
      DoesMake (λ source. migrated_layout (state source).size) migrated_line
      (MigratesRead state state) only_new old new answer f0 f1 w0 w1

  -- The store in the file of the old name was renewed: the new one is of its layout.
  abbrev pub DoesRenew : (only_new : Bool) → (old new : List ℕ) → Result Done Failure
      → (f0 f1 : F) → (w0 w1 : Option (List ℕ)) → Type 0
  DoesRenew only_new old new answer f0 f1 w0 w1 =
      DoesMake (λ source. layout_of (state source).size) renewed_line (Remakes state state)
      only_new old new answer f0 f1 w0 w1
