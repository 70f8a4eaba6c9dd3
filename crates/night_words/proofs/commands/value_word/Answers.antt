use Rattle.std.proofs.Common.{◌∙◌, Some, ap}
use Rattle.clap.specs.Words.{Rule, rule_of}
use Rattle.night_words.proofs.commands.value_word.Goals as goal

pub returns-clause-rule : goal.returns-clause-rule
returns-clause-rule c =
    ap rule_of c.long.ensures
    ∙ ap (λ (r : Rule). record r { long = Some c.args.id.now }) c.place_word.ensures.rule
