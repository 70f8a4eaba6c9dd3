use Rattle.night_words.proofs.TakenLemmas.{drive_without, format_without, inspect_without}
use Rattle.night_words.proofs.TakenLemmas.{script_without}
use Rattle.night_words.proofs.laws.a_store_stands_alone.Goals as goal

pub returns-clause-format : goal.returns-clause-format
returns-clause-format c = λ store words none. format_without words none store

pub returns-clause-script : goal.returns-clause-script
returns-clause-script c = λ store words none. script_without words none store

pub returns-clause-inspect : goal.returns-clause-inspect
returns-clause-inspect c = λ store words none. inspect_without words none store

pub returns-clause-drive : goal.returns-clause-drive
returns-clause-drive c = λ store words none. drive_without words none store
