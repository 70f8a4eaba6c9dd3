use Rattle.std.proofs.Common.{◌+◌, sym, subst}
use Rattle.state_renewal.proofs.Hosting.{AreHosts, hosts_same, hosts_more}
use Rattle.state_renewal.proofs.flags.flag_hosts.Goals.{then-not-row, else-not-row}
use Rattle.state_renewal.proofs.flags.flag_hosts.Goals as goal

pub loop-g-preserved : goal.loop-g-preserved
loop-g-preserved g c =
    let groups = c.args.groups.now.groups in
    let before = c.args.flags.now in
    let k = c.loop-g.g in
    let row = c.group_at-row.result.now in
    let found = c.group_at-row.ensures in
    elim c.if-not-row.branch [
      | then-not-row w ↦
          subst (AreHosts groups before (k + 1)) (sym w.flags-is)
          (hosts_more groups before k c.loop-g.flags row c.loop-g.invariant found
          w.if-not-row.true (c.requires.known k row found))
      | else-not-row w ↦
          subst (AreHosts groups before (k + 1)) (sym w.flags-is)
          (hosts_same groups before k c.loop-g.flags row c.loop-g.invariant found
          w.if-not-row.false)
    ]
