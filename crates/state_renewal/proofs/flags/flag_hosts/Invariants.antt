use Rattle.state_renewal.proofs.Hosting.{AreHosts}
use Rattle.state_renewal.proofs.flags.flag_hosts.Given as goal

abbrev pub invariant-loop-g : goal.invariant-loop-g
invariant-loop-g g l = AreHosts l.groups.groups l.fn.flags l.g l.flags
