use Rattle.std.proofs.Common.{sym}
use Rattle.console_lines.proofs.Appending.{◌followed_by◌}
use Rattle.state_views.proofs.json_entries.push_store.Goals as goal

pub returns : goal.returns
returns g c =
    rw (sym c.most_scopes.ensures.value, sym c.most_tasks.ensures.value)
    (c.push_number.ensures followed_by c.push_moment.ensures followed_by c.push_layout.ensures
    followed_by c.push_number-2.ensures followed_by c.push_number-3.ensures followed_by
    c.push_number-4.ensures followed_by c.push.ensures)
