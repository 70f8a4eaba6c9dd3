use Rattle.run_model.proofs.Common.{◌≡◌, rules, sym}
use Rattle.state_views.specs.Entries.{kind_word}
use Rattle.console_lines.proofs.Appending.{◌followed_by◌}
use Rattle.state_views.proofs.json_entries.push_scope.Goals as goal

pub returns : goal.returns
returns g c =
    let word : c.as_bytes.result.now ≡ kind_word c.args.kind.now = cc in
    let deadline : c.map-deadline.result ≡ c.args.look.now.deadline = search rules in
    rw (sym word, ← deadline)
    (c.push_opened.ensures followed_by c.push_parent.ensures followed_by c.push_quoted.ensures
    followed_by c.push_held.ensures followed_by c.push_number_or_null.ensures followed_by
    c.push_done.ensures)
