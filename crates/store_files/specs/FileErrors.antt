-- Why a file couldn't be opened, or why a call of it failed, as it is printed.
use Rattle.std.specs.Prelude.{ℕ, List, codes}
use Rattle.store_files.specs.declared.file_errors.FileError.{FileError}
use Rattle.store_files.specs.declared.file_errors.FileError.TheVariants.{EndedEarly, InUse}
use Rattle.store_files.specs.declared.file_errors.FileError.TheVariants.{NoMemory, NotAFile}
use Rattle.store_files.specs.declared.file_errors.FileError.TheVariants.{OtherName, System}
use Rattle.store_files.specs.declared.file_errors.FileError.TheVariants.{Unsynced}

-- The text of an error. An error of the system is printed in the system's own words.
abbrev pub error_text : FileError → List ℕ
error_text InUse = codes "in use by another program"
error_text EndedEarly = codes "it ended early"
error_text OtherName = codes "its file has another name, too"
error_text NotAFile = codes "not a file"
error_text Unsynced = codes "a sync of it failed: put a copy in its place"
error_text NoMemory = codes "no memory is left for its name"
error_text (System text) = text.bytes
