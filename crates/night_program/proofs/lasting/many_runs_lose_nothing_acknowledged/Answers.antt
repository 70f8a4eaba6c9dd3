use Rattle.night_program.proofs.RowLemmas.{runs_led}
use Rattle.night_program.proofs.lasting.many_runs_lose_nothing_acknowledged.Goals as goal
use Rattle.store_words.proofs.WordLemmas.{inspected_alone, source_alone}

pub returns-clause-runs : goal.returns-clause-runs
returns-clause-runs g c = runs_led g.D.RunDisk.state g.met.D.RunDisk.is_disk

pub returns-clause-inspect : goal.returns-clause-inspect
returns-clause-inspect g c = inspected_alone g.D.RunDisk.state g.met.D.RunDisk.is_disk

pub returns-clause-source : goal.returns-clause-source
returns-clause-source g c = source_alone g.D.RunDisk.state g.met.D.RunDisk.is_disk
