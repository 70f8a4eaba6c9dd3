use Rattle.night_words.proofs.commands.script_command.Goals as goal

pub returns : goal.returns
returns c = c.with_flag.ensures _ (c.with_flag-strict.ensures _ c.store_command-store.ensures)
