use Rattle.std.proofs.Common.{◌≤◌, subst, sym}
use Rattle.run_disk.specs.Disk.{IsAtRest}
use Rattle.book_model.proofs.NightLemmas.{opened_safe}
use Rattle.book_model.proofs.BookLemmas.{safe_on}
use Rattle.run_model.specs.declared.faults.Trouble.TheVariants.{Faulty}
use Rattle.book_laws.specs.Chains.{HasStayed, StopsFor}
use Rattle.book_laws.proofs.ChainLemmas.{lasted, over_honest, saved_state, stayed, stayed_again}
use Rattle.book_laws.proofs.ChainLemmas.{later_since, stops_later, unopened, unopened_why}
use Rattle.book_laws.proofs.ChainLemmas.{unsaved_why}
use Rattle.book_laws.proofs.laws.use_store.Goals as goal

pub returns-in-Err-clause-any_moment : goal.returns-in-Err-clause-any_moment
returns-in-Err-clause-any_moment g c honest rest p stores =
    let state = g.D.RunDisk.state in
    let before = c.args.replies.now.items in
    subst (λ (v : _). HasStayed p c.args.steps.now before v.items (state c.args.disk)
    (state c.in-Err.stopped.1)) (sym c.in-Err.ensures.unplayed)
    (unopened p c.args.steps.now before (state c.args.disk) (state c.in-Err.stopped.1)
    (c.in-Err.ensures.stopped honest rest p stores))

pub returns-in-Err-flush-clause-any_moment : goal.returns-in-Err-flush-clause-any_moment
returns-in-Err-flush-clause-any_moment g c honest rest p stores =
    let state = g.D.RunDisk.state in
    let before = c.args.replies.now.items in
    let replies = c.open_and_play.new.replies.items in
    let is = c.in-Ok.ensures.played honest rest p stores in
    let e = c.flush.ensures in
    subst (λ d. HasStayed p c.args.steps.now before replies (state c.args.disk) (state d))
    (sym c.into_disk.ensures)
    (stayed state c.args.disk p c.args.steps.now before replies c.in-Ok.book is
    c.flush.new.self honest rest e.carries_on e.flushes.saves.session)

pub returns-in-Err-open-clause-any_moment : goal.returns-in-Err-open-clause-any_moment
returns-in-Err-open-clause-any_moment g c honest rest p stores =
    let state = g.D.RunDisk.state in
    let before = c.args.replies.now.items in
    let replies = c.open_and_play.new.replies.items in
    let b = c.in-Ok.book in
    let is = c.in-Ok.ensures.played honest rest p stores in
    let e = c.flush.ensures in
    let new = c.flush.new.self in
    let over = c.into_disk-2.result in
    let is_over = c.into_disk-2.ensures in
    let safe = safe_on state is.first b is.on
    (opened_safe state c.args.disk p is.first honest rest is.opened) in
    let disk = g.met.D.RunDisk.is_disk over in
    let again = saved_state state c.args.disk p c.args.steps.now before replies b is new over disk
    honest e.carries_on is_over e.flushes.saves.session (c.in_default.ensures.stores safe) in
    let there = over_honest state c.args.disk p c.args.steps.now before replies b is new over honest
    e.carries_on is_over in
    let at_rest = subst (λ d. IsAtRest (state d)) (sym is_over)
    (c.in_default.ensures.flushes.saves.answer.rest safe) in
    stayed_again state c.args.disk p c.args.steps.now before replies b is new over
    c.in-Err-open.stopped.1 honest rest e.carries_on
    e.flushes.saves.session is_over
    (c.in-Err-open.ensures.opens.any_moment there at_rest b.session.state again)

pub returns-in-Ok-open-clause-lasts : goal.returns-in-Ok-open-clause-lasts
returns-in-Ok-open-clause-lasts g c honest rest p stores =
    let state = g.D.RunDisk.state in
    let before = c.args.replies.now.items in
    let replies = c.open_and_play.new.replies.items in
    let b = c.in-Ok.book in
    let is = c.in-Ok.ensures.played honest rest p stores in
    let e = c.flush.ensures in
    let new = c.flush.new.self in
    let over = c.into_disk-2.result in
    let is_over = c.into_disk-2.ensures in
    let safe = safe_on state is.first b is.on
    (opened_safe state c.args.disk p is.first honest rest is.opened) in
    let disk = g.met.D.RunDisk.is_disk over in
    let again = saved_state state c.args.disk p c.args.steps.now before replies b is new over disk
    honest e.carries_on is_over e.flushes.saves.session (c.in_default.ensures.stores safe) in
    let there = over_honest state c.args.disk p c.args.steps.now before replies b is new over honest
    e.carries_on is_over in
    lasted state c.args.disk p c.args.steps.now before replies b is over c.in-Ok-open.book
    c.in_default.ensures.flushes.saves.answer.was there again
    c.in-Ok-open.ensures.opens c.in-Ok-open.ensures.session

pub returns-in-Ok-open-clause-any_moment : goal.returns-in-Ok-open-clause-any_moment
returns-in-Ok-open-clause-any_moment g c honest rest p stores =
    let state = g.D.RunDisk.state in
    let before = c.args.replies.now.items in
    let replies = c.open_and_play.new.replies.items in
    let b = c.in-Ok.book in
    let is = c.in-Ok.ensures.played honest rest p stores in
    let e = c.flush.ensures in
    let new = c.flush.new.self in
    let over = c.into_disk-2.result in
    let is_over = c.into_disk-2.ensures in
    let safe = safe_on state is.first b is.on
    (opened_safe state c.args.disk p is.first honest rest is.opened) in
    let disk = g.met.D.RunDisk.is_disk over in
    let again = saved_state state c.args.disk p c.args.steps.now before replies b is new over disk
    honest e.carries_on is_over e.flushes.saves.session (c.in_default.ensures.stores safe) in
    let there = over_honest state c.args.disk p c.args.steps.now before replies b is new over honest
    e.carries_on is_over in
    let at_rest = subst (λ d. IsAtRest (state d)) (sym is_over)
    (c.in_default.ensures.flushes.saves.answer.rest safe) in
    stayed_again state c.args.disk p c.args.steps.now before replies b is new over
    c.in-Ok-open.book.journal.disk honest rest e.carries_on
    e.flushes.saves.session is_over
    (c.in-Ok-open.ensures.opens.any_moment there at_rest b.session.state again)

pub returns-in-Err-clause-why : goal.returns-in-Err-clause-why
returns-in-Err-clause-why g c honest rest p stores = c.in-Err.ensures.why honest p stores

pub returns-in-Err-flush-clause-why : goal.returns-in-Err-flush-clause-why
returns-in-Err-flush-clause-why g c honest rest p stores =
    let state = g.D.RunDisk.state in
    let is = c.in-Ok.ensures.played honest rest p stores in
    subst (λ d. StopsFor (state c.args.disk) (state d) c.in-Err-flush.trouble)
    (sym c.into_disk.ensures)
    (unsaved_why state c.args.disk p c.args.steps.now c.args.replies.now.items
    c.open_and_play.new.replies.items c.in-Ok.book is c.in-Err-flush.trouble
    c.flush.new.self c.in-Err-flush.ensures.flushes.saves.answer)

pub returns-in-Err-open-clause-why : goal.returns-in-Err-open-clause-why
returns-in-Err-open-clause-why g c honest rest p stores =
    let state = g.D.RunDisk.state in
    let before = c.args.replies.now.items in
    let replies = c.open_and_play.new.replies.items in
    let b = c.in-Ok.book in
    let is = c.in-Ok.ensures.played honest rest p stores in
    let e = c.flush.ensures in
    let new = c.flush.new.self in
    let over = c.into_disk-2.result in
    let is_over = c.into_disk-2.ensures in
    let safe = safe_on state is.first b is.on
    (opened_safe state c.args.disk p is.first honest rest is.opened) in
    let disk = g.met.D.RunDisk.is_disk over in
    let again = saved_state state c.args.disk p c.args.steps.now before replies b is new over disk
    honest e.carries_on is_over e.flushes.saves.session (c.in_default.ensures.stores safe) in
    let there = over_honest state c.args.disk p c.args.steps.now before replies b is new over honest
    e.carries_on is_over in
    let later = later_since state c.args.disk p c.args.steps.now before replies b is new
    e.carries_on in
    stops_later (state c.args.disk) (state over) (state c.in-Err-open.stopped.1)
    (Faulty c.in-Err-open.stopped.0)
    (subst (λ d. (state c.args.disk).failures ≤ (state d).failures) (sym is_over) later)
    (unopened_why state over c.in-Err-open.stopped b.session.state disk there
    c.in-Err-open.ensures.opens again)
