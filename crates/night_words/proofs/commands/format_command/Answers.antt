use Rattle.night_words.proofs.commands.format_command.Goals as goal

pub returns : goal.returns
returns c = c.with_flag.ensures _ c.store_command-store.ensures
