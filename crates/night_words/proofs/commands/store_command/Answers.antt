use Rattle.std.proofs.Common.{◌≡◌, rules}
use Rattle.clap.specs.Words.{app_of, new_app}
use Rattle.night_words.proofs.commands.store_command.Goals as goal

pub returns : goal.returns
returns c =
    let before : app_of c.after_help-command.result ≡ new_app c.args.name.now = search rules in
    c.with_word.ensures _ _ c.place_word.ensures.local c.place_word.ensures.rule before
