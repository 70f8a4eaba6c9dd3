use Rattle.std.proofs.Common.{◌∙◌, Some, ap}
use Rattle.clap.specs.Words.{Rule, rule_of}
use Rattle.clap.specs.declared.builder.action.ArgAction.TheVariants.{SetTrue}
use Rattle.night_words.proofs.commands.flag_word.Goals as goal

pub returns-clause-rule : goal.returns-clause-rule
returns-clause-rule c =
    ap rule_of c.help.ensures ∙ ap rule_of c.action.ensures
    ∙ ap (λ it. rule_of (record it { action = Some SetTrue })) c.long.ensures
    ∙ ap (λ (r : Rule). record r { long = Some c.args.id.now; action = Some SetTrue })
    c.new.ensures.rule
