use Rattle.std.proofs.Common.{◌≡◌, ◌∙◌, ap₂}
use Rattle.std.proofs.lemmas.Result.{IfOk-at_ok, IfOk-weaker}
use Rattle.clap.specs.Words.{app_of, with_rule}
use Rattle.night_words.proofs.commands.with_word.Goals as goal

pub returns : goal.returns
returns c = λ before rule local is was.
    let command = IfOk-at_ok (λ it. app_of it ≡ before) c.in-Ok.is was in
    IfOk-weaker c.arg.result _ _ (λ it added. added.shape local ∙ ap₂ with_rule command is)
    c.arg.ensures
