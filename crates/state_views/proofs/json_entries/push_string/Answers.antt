use Rattle.std.proofs.Common.{sym}
use Rattle.console_lines.proofs.Appending.{appended_then, appended_three}
use Rattle.state_views.proofs.json_entries.push_string.Goals as goal

pub returns : goal.returns
returns g c =
    rw (sym c.as_bytes.ensures.value) (appended_then _ _ _ _ _ _ _ c.push.ensures
    (appended_three _ _ _ _ _ _ _ _ _ _ c.push-2.ensures c.push_escaped.ensures c.push-3.ensures))
