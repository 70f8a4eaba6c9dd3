use Rattle.book_laws.proofs.ChainLemmas.{is_played, unopened_why}
use Rattle.book_laws.proofs.laws.open_and_play.Goals as goal

pub returns-in-Err-clause-stopped : goal.returns-in-Err-clause-stopped
returns-in-Err-clause-stopped g c honest rest p stores =
    c.in-Err.ensures.opens.any_moment honest rest p stores

pub returns-clause-played : goal.returns-clause-played
returns-clause-played g c honest rest p stores =
    is_played g.D.RunDisk.state c.args.disk p c.args.steps.now c.args.replies.now.items
    c.play.new.replies.items c.in-Ok.book c.play.new.self honest rest stores c.in-Ok.ensures.opens
    c.play.ensures.plays c.play.ensures.carries_on

pub returns-in-Err-clause-why : goal.returns-in-Err-clause-why
returns-in-Err-clause-why g c honest p stores =
    unopened_why g.D.RunDisk.state c.args.disk c.in-Err.stopped p
    (g.met.D.RunDisk.is_disk c.args.disk) honest c.in-Err.ensures.opens stores
