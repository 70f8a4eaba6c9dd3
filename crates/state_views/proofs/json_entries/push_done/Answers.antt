use Rattle.std.specs.Prelude.{◌≡◌}
use Rattle.std.proofs.Common.{sym}
use Rattle.run_model.specs.Reasons.{reason_text}
use Rattle.console_lines.proofs.Appending.{◌followed_by◌}
use Rattle.state_views.proofs.json_entries.push_done.Goals as goal

pub returns-in-Some : goal.returns-in-Some
returns-in-Some g c =
    let word : c.as_bytes.result.now ≡ reason_text c.in-Some.ending.0 = cc in
    rw (c.in-Some.is, sym word)
    (c.push_quoted.ensures followed_by c.push_string.ensures followed_by c.push-in-Some.ensures)
