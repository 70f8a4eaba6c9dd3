use Rattle.std.proofs.Common.{ap, ◌∙◌}
use Rattle.state_renewal.specs.Marks.{is_above_flagged, with_rows}
use Rattle.state_renewal.proofs.Needing.{needed_raised}
use Rattle.state_renewal.proofs.flags.flag_rest.Goals as goal

pub returns-clause-flags : goal.returns-clause-flags
returns-clause-flags g c =
    λ s. c.flag_above.ensures.flags s
    ∙ ap (λ rows. is_above_flagged rows c.flag_hosts.new.flags s) c.rows.ensures
    ∙ needed_raised (with_rows c.args.tree.now c.args.groups.now) c.args.flags.now
    c.flag_hosts.new.flags c.requires.live c.flag_hosts.ensures.flags s
