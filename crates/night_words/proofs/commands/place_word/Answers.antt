use Rattle.std.proofs.Common.{◌∙◌, Some, ap}
use Rattle.clap.specs.Words.{Rule, rule_of}
use Rattle.clap.specs.declared.builder.action.ArgAction.TheVariants.{Set}
use Rattle.night_words.proofs.commands.place_word.Goals as goal

pub returns-clause-rule : goal.returns-clause-rule
returns-clause-rule c =
    let is_wanted = c.args.is_wanted in
    ap rule_of c.help.ensures ∙ ap rule_of c.action.ensures
    ∙ ap (λ it. rule_of (record it { action = Some Set })) c.required.ensures
    ∙ ap (λ it. rule_of (record it { required = is_wanted; action = Some Set }))
    c.value_name.ensures
    ∙ ap (λ (r : Rule). record r { value_names = 1; required = is_wanted; action = Some Set })
    c.new.ensures.rule
