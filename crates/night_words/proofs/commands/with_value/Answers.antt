use Rattle.night_words.proofs.commands.with_value.Goals as goal

pub returns : goal.returns
returns c = λ before is.
    c.with_word.ensures before _ c.value_word.ensures.local c.value_word.ensures.rule is
