use Rattle.night_program.proofs.LastingLemmas.{crew_is_found, cut_is_found}
use Rattle.night_program.proofs.lasting.a_store_lasts_from_run_to_run.Goals as goal
use Rattle.store_words.proofs.FoundLemmas.{formatted_is_found, found_is_printed, held_is_found}

pub returns-clause-format : goal.returns-clause-format
returns-clause-format g c given left next made honest finds =
    formatted_is_found g.D.RunDisk.state given left next made (g.met.D.RunDisk.is_disk left)
    honest finds

pub returns-clause-cut : goal.returns-clause-cut
returns-clause-cut g c = cut_is_found g.D.RunDisk.state

pub returns-clause-held : goal.returns-clause-held
returns-clause-held g c = held_is_found g.D.RunDisk.state

pub returns-clause-crew : goal.returns-clause-crew
returns-clause-crew g c = crew_is_found g.D.RunDisk.state

pub returns-clause-inspect : goal.returns-clause-inspect
returns-clause-inspect g c = found_is_printed g.D.RunDisk.state
