use Rattle.run_model.proofs.Common.{◌≡◌, rules}
use Rattle.console_lines.proofs.Appending.{◌followed_by◌}
use Rattle.state_views.proofs.json_entries.push_group.Goals as goal

pub returns : goal.returns
returns g c =
    let limit : c.map-limit.result ≡ c.args.look.now.limit = search rules in
    rw (← limit)
    (c.push_opened.ensures followed_by c.push_count.ensures followed_by
    c.push_number_or_null.ensures followed_by c.push_waited.ensures followed_by
    c.push_count-2.ensures followed_by c.push_error.ensures followed_by c.push.ensures)
