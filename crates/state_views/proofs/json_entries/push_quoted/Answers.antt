use Rattle.std.specs.Prelude.{◌+◌, length}
use Rattle.std.proofs.Common.{arith}
use Rattle.console_lines.proofs.Appending.{appended_then, appended_within}
use Rattle.state_views.proofs.json_entries.push_quoted.Goals as goal

pub returns : goal.returns
returns g c =
    appended_within (length c.args.word.now + 34) (appended_then _ _ _ _ _ _ _ c.push.ensures
    (appended_then _ _ _ _ _ _ _ c.push-2.ensures c.push_after.ensures))
    (omega (arith, c.requires.few))
