use Rattle.run_model.proofs.Common.{◌≡◌, rules, sym}
use Rattle.console_lines.specs.Replies.{phase_word}
use Rattle.console_lines.proofs.Appending.{◌followed_by◌}
use Rattle.state_views.proofs.json_entries.push_task.Goals as goal

pub returns : goal.returns
returns g c =
    let word : c.as_bytes-4.result.now ≡ phase_word c.args.look.now.phase = cc in
    let old : c.map-old.result ≡ c.args.look.now.retry_of = search rules in
    rw (
      sym c.as_bytes.ensures.value,
      sym c.as_bytes-2.ensures.value,
      sym c.as_bytes-3.ensures.value,
      sym word,
      ← old,
    )
    (c.push_count.ensures followed_by c.push_count-2.ensures followed_by c.push_quoted.ensures
    followed_by c.push_quoted-2.ensures followed_by c.push_quoted-3.ensures followed_by
    c.push_quoted-4.ensures followed_by c.push_failure.ensures followed_by
    c.push_number_or_null.ensures followed_by c.push.ensures)
