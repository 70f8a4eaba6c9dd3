use Rattle.std.proofs.Common.{◌≡◌, ◌∙◌, ap, ap₂}
use Rattle.std.proofs.lemmas.Result.{IfOk-at_ok, IfOk-weaker}
use Rattle.clap.specs.Words.{App, app_of, with_subcommand}
use Rattle.night_words.proofs.LineLemmas.{third_is_false}
use Rattle.night_words.proofs.commands.with_command.Goals as goal

pub returns : goal.returns
returns c = λ before added is_plain line_is command_is.
    let line = IfOk-at_ok (λ it. app_of it ≡ before) c.in-Ok-line.is line_is in
    let command = IfOk-at_ok (λ it. app_of it ≡ added) c.in-Ok.is command_is in
    IfOk-weaker c.subcommand.result _ _ (λ it adds.
    adds.shape (third_is_false _ _ _ _ (ap (λ (a : App). a.top.is_plain) command ∙ is_plain))
    ∙ ap₂ with_subcommand line (ap (λ (a : App). a.top) command)) c.subcommand.ensures
