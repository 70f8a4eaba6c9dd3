-- A folder in memory, as contracts see it.
use Rattle.std.specs.Prelude.{ℕ, List, [], get_or, map}
use Rattle.file_calls.specs.declared.folder_moments.FolderMoment.{FolderMoment}
use Rattle.file_calls.specs.declared.memory_files.MemoryFile.{MemoryFile}
use Rattle.file_calls.specs.declared.places.Place.TheVariants.{Durable}
use Rattle.file_calls.specs.Folders.{FolderState}
use Rattle.file_calls.specs.MemoryFiles.{memory_state}
use Rattle.file_calls.specs.Names.{NameStep}
use Rattle.file_calls.specs.OpenFiles.{FileState}

-- The state of a file in memory.
abbrev pub state_of : MemoryFile → FileState
state_of file = memory_state file.bytes.items file.places.items file.end

-- A file that has no bytes.
abbrev pub no_bytes : FileState
no_bytes = memory_state [] [] Durable

-- The file with this number. One that was never made has no bytes.
abbrev pub file_in : List MemoryFile → ℕ → FileState
file_in files n = get_or (map state_of files) n no_bytes

-- The state of a folder with these names and files.
abbrev pub folder_state : List NameStep → List MemoryFile → FolderState
folder_state steps files = record { steps = steps; file = file_in files }

-- The state of a folder at a moment.
abbrev pub folder_at : FolderMoment → FolderState
folder_at moment = folder_state moment.names.value.steps.items moment.files.value.items
