-- What a shelf has under each name, and what each of its calls does with that.
use Rattle.std.specs.Prelude.{◌≡◌, ◌≢◌, ◌⊎◌, ◌<◌, ◌^◌, ◌-◌, ℕ, List, Bool, true, false}
use Rattle.std.specs.Prelude.{Option, Some, None, ⊤}
use Rattle.std.specs.Prelude.{nat_eq}
use Rattle.std.specs.Cmp.Lexicographic.{pointwise}
use Rattle.std.specs.String.{string_bytes}
use Rattle.run_disk.specs.Disk.{DiskState, IsAtRest}
use Rattle.run_disk.specs.MemoryDisks.{state_of}
use Rattle.store_files.specs.declared.file_errors.FileError.{FileError}
use Rattle.store_files.specs.declared.file_errors.FileError.TheVariants.{InUse}
use Rattle.store_files.specs.Files.{FileCall, FilesView, ToLook, ToMake, ToOpen, ToRead, ToReplace}
use Rattle.program_tests.specs.declared.shelves.Kept.{Kept}
use Rattle.program_tests.specs.declared.shelves.Kept.TheVariants.{File, Gone, Open}
use Rattle.program_tests.specs.declared.shelves.Shelf.{Shelf}

-- What is seen of a place: no file, one that is held, which is open, or one with these bytes.
pub data Spot : Type 0 where
  Nothing : Spot
  Held : Spot
  Lies : List ℕ → Spot

abbrev pub spot_of : Kept → Spot
spot_of Gone = Nothing
spot_of Open = Held
spot_of (File disk) = Lies (state_of disk).now

-- What two places have for a file, of which the first is its own, or the second, or none.
abbrev pub spot_of_two : (is_first is_second : Bool) → (first second : Spot) → Spot
spot_of_two true is_second first second = first
spot_of_two false true first second = second
spot_of_two false false first second = Nothing

-- What the shelf has under this name.
unfoldable pub spot_at : Shelf → List ℕ → Spot
spot_at shelf name =
    spot_of_two (pointwise nat_eq name (string_bytes shelf.first.name))
    (pointwise nat_eq name (string_bytes shelf.second.name))
    (spot_of shelf.first.kept) (spot_of shelf.second.kept)

-- Under each other name both have the same.
abbrev pub IsElsewhereSame : List ℕ → Shelf → Shelf → Type 0
IsElsewhereSame name f0 f1 =
    (other : List ℕ) → other ≢ name → spot_at f1 other ≡ spot_at f0 other

-- An opening returned this error. If it is that the file is in use, another program has the files
-- of the shelf open, or the file is open.
abbrev pub IsUsed : Shelf → List ℕ → FileError → Type 0
IsUsed shelf name error =
    error ≡ InUse → (shelf.is_used ≡ true) ⊎ (spot_at shelf name ≡ Held)

-- The file of this name had the bytes that reads give of the disk, which is honest and at rest; and
-- it is held then. No other file changed.
pub record Takes (f0 : Shelf) (name : List ℕ) (disk : DiskState) (f1 : Shelf) : Type 0 where
  pub had : spot_at f0 name ≡ Lies disk.now
  pub honest : disk.honest
  pub rest : IsAtRest disk
  pub held : spot_at f1 name ≡ Held
  pub elsewhere : IsElsewhereSame name f0 f1

-- It had these bytes, and no file changed.
pub record Shows (f0 : Shelf) (name : List ℕ) (disk : DiskState) (f1 : Shelf) : Type 0 where
  pub had : spot_at f0 name ≡ Lies disk.now
  pub honest : disk.honest
  pub rest : IsAtRest disk
  pub same : f1 ≡ f0

-- The place of this name has that then, and no other changed. If there was no file of this name,
-- the shelf may have no place for one, and is as it was.
pub record Gets (f0 : Shelf) (name : List ℕ) (spot : Spot) (f1 : Shelf) : Type 0 where
  pub has : (spot_at f1 name ≡ spot) ⊎ ((spot_at f0 name ≡ Nothing) × (f1 ≡ f0))
  pub elsewhere : IsElsewhereSame name f0 f1

-- The file of this name is gone then, and no other file changed.
pub record Loses (f0 : Shelf) (name : List ℕ) (f1 : Shelf) : Type 0 where
  pub gone : spot_at f1 name ≡ Nothing
  pub elsewhere : IsElsewhereSame name f0 f1

-- A reading of all of a disk gave what reads give of it, before and after.
pub record Gives (given : DiskState) (bytes : List ℕ) (left : DiskState) : Type 0 where
  pub bytes_are : bytes ≡ given.now
  pub same : left.now ≡ given.now

-- What is known of an error that a call on the file of this name returned: whether the file is in
-- use. Nothing is known of one that a file couldn't be made for.
abbrev pub IsRefused : FileCall → Shelf → List ℕ → FileError → Type 0
IsRefused ToOpen shelf name error = IsUsed shelf name error
IsRefused ToRead shelf name error = IsUsed shelf name error
IsRefused ToLook shelf name error = error ≡ InUse → spot_at shelf name ≡ Held
IsRefused ToMake shelf name error = ⊤
IsRefused ToReplace shelf name error = (error ≡ InUse) × (shelf.is_kept ≡ true)

-- The first error of a disk that fails after this many calls. There is none if it never fails.
abbrev pub IsBroken : (passes : ℕ) → Option FileError → Type 0
IsBroken passes (Some error) = passes < 2 ^ 64 - 1
IsBroken passes None = passes ≡ 2 ^ 64 - 1

-- The files of a shelf, over disks in these states, each of which passes this many calls.
abbrev pub shelf_view : {D : Type 0} → (D → DiskState) → (passes : D → ℕ) → FilesView Shelf D
shelf_view state passes = record {
  opens = λ shelf name disk after. Takes shelf name (state disk) after;
  shows = λ shelf name disk after. Shows shelf name (state disk) after;
  lacks = λ shelf name. spot_at shelf name ≡ Nothing;
  puts = λ shelf name disk after. Gets shelf name (Lies (state disk).now) after;
  removes = Loses;
  remakes = λ shelf name after. IsElsewhereSame name shelf after;
  gives = λ disk bytes left. Gives (state disk) bytes (state left);
  refuses = IsRefused;
  notes = λ disk error. IsBroken (passes disk) error;
}
