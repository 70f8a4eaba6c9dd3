use Rattle.std.proofs.Common.{◌≡◌, codes, rules}
use Rattle.clap.specs.Words.{app_of, new_app}
use Rattle.night_words.proofs.commands.demo_command.Goals as goal

pub returns : goal.returns
returns c =
    let before : app_of c.after_help-demo.result ≡ new_app (codes "demo") = search rules in
    c.with_flag.ensures _ before
