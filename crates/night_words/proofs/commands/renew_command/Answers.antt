use Rattle.night_words.proofs.commands.renew_command.Goals as goal

pub returns : goal.returns
returns c =
    let new = c.with_word-new.ensures _ _ c.place_word.ensures.local
    c.place_word.ensures.rule c.store_command-old.ensures in
    c.with_flag.ensures _ (c.with_flag-to_new.ensures _ new)
