use Rattle.night_words.proofs.TakenLemmas.{drive_alone, format_alone, inspect_alone, script_alone}
use Rattle.night_words.proofs.laws.a_store_alone_has_no_flag.Goals as goal

pub returns-clause-format : goal.returns-clause-format
returns-clause-format c = format_alone

pub returns-clause-script : goal.returns-clause-script
returns-clause-script c = script_alone

pub returns-clause-inspect : goal.returns-clause-inspect
returns-clause-inspect c = inspect_alone

pub returns-clause-drive : goal.returns-clause-drive
returns-clause-drive c = drive_alone
