use Rattle.night_words.proofs.commands.with_flag.Goals as goal

pub returns : goal.returns
returns c = λ before is.
    c.with_word.ensures before _ c.flag_word.ensures.local c.flag_word.ensures.rule is
