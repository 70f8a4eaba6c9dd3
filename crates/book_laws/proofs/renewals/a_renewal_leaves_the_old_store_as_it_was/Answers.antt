use Rattle.run_disk.proofs.RunLemmas.{reads_rest}
use Rattle.book_laws.proofs.renewals.a_renewal_leaves_the_old_store_as_it_was.Goals as goal

pub returns-clause-rest : goal.returns-clause-rest
returns-clause-rest g c old read given result honest rest is =
    let state = g.D.RunDisk.state in
    reads_rest (state old) (state read) (is.reads honest) rest

pub returns-clause-bytes : goal.returns-clause-bytes
returns-clause-bytes g c old read given result x honest rest is left =
    rest.only x ((is.reads honest).images x left)
