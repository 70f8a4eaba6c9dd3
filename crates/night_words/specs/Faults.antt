-- The messages for words that ask for nothing.
use Rattle.std.specs.Prelude.{◌++◌, ℕ, List, codes}
use Rattle.std.specs.String.{string_bytes}
use Rattle.night_words.specs.declared.faults.WordsFault.{WordsFault}
use Rattle.night_words.specs.declared.faults.WordsFault.TheVariants.{Memory, Mistake, NoTree}
use Rattle.night_words.specs.declared.faults.WordsFault.TheVariants.{NotText, Phase, Place}
use Rattle.night_words.specs.declared.faults.WordsFault.TheVariants.{SameStores, Views, Workers}

-- The message that standard error gets for each fault.
abbrev pub fault_text : WordsFault → List ℕ
fault_text (Mistake text) = string_bytes text
fault_text SameStores = codes "error: OLD and NEW name the same file\n"
fault_text Workers = codes "error: --workers takes a number from 1 to 8\n"
fault_text Views =
    codes "error: inspect takes one of --tasks (or --phase, --group), --json and --tree\n"
    ++ codes "or --summary alone; --json takes --phase and --group, too\n"
fault_text NoTree = codes "error: --no-tasks goes with --tree\n"
fault_text Phase =
    codes "error: --phase takes held, ready, running, success, error or interrupted\n"
fault_text Place = codes "error: renew takes one of NEW and --in-place\n"
fault_text NotText = codes "error: a word is no text in UTF-8\n"
fault_text Memory = codes "night: fault 1 Memory\n"
