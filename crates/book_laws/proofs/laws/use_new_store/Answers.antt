use Rattle.run_model.specs.State.{formatted}
use Rattle.book_laws.specs.Chains.{disk_in}
use Rattle.book_laws.proofs.ChainLemmas.{format_why, new_stayed, new_store, not_formatted}
use Rattle.book_laws.proofs.ChainLemmas.{stopped_later}
use Rattle.book_laws.proofs.laws.use_new_store.Goals as goal

pub returns-in-Ok-clause-lasts : goal.returns-in-Ok-clause-lasts
returns-in-Ok-clause-lasts g c honest rest layout whole =
    let state = g.D.RunDisk.state in
    let new = c.in-Ok.disk in
    let is = c.in-Ok.ensures.formats in
    c.use_store.ensures.lasts (is.passed.honest honest) (c.in-Ok.ensures.rest honest rest)
    (formatted layout)
    (new_store state c.args.disk layout whole new (g.met.D.RunDisk.is_disk new) honest is)

pub returns-in-Ok-clause-any_moment : goal.returns-in-Ok-clause-any_moment
returns-in-Ok-clause-any_moment g c honest rest zeros layout whole =
    let state = g.D.RunDisk.state in
    let new = c.in-Ok.disk in
    let is = c.in-Ok.ensures.formats in
    new_stayed state c.args.disk layout whole new (disk_in c.use_store.result) c.args.steps.now
    c.args.replies.now.items c.use_store.new.replies.items honest rest zeros is
    (c.use_store.ensures.any_moment (is.passed.honest honest) (c.in-Ok.ensures.rest honest rest)
    (formatted layout)
    (new_store state c.args.disk layout whole new (g.met.D.RunDisk.is_disk new) honest is))

pub returns-in-Err-clause-any_moment : goal.returns-in-Err-clause-any_moment
returns-in-Err-clause-any_moment g c honest rest zeros layout whole =
    not_formatted g.D.RunDisk.state c.args.disk layout whole c.in-Err.stopped.1
    c.in-Err.stopped.0 c.args.steps.now c.args.replies.now.items honest rest zeros
    c.in-Err.ensures.formats c.in-Err.ensures.no_memory

pub returns-in-Ok-clause-why : goal.returns-in-Ok-clause-why
returns-in-Ok-clause-why g c honest rest layout whole =
    let state = g.D.RunDisk.state in
    let new = c.in-Ok.disk in
    let is = c.in-Ok.ensures.formats in
    stopped_later state (state c.args.disk) (state new) c.use_store.result
    is.passed.failures_later
    (c.use_store.ensures.why (is.passed.honest honest) (c.in-Ok.ensures.rest honest rest)
    (formatted layout)
    (new_store state c.args.disk layout whole new (g.met.D.RunDisk.is_disk new) honest is))

pub returns-in-Err-clause-why : goal.returns-in-Err-clause-why
returns-in-Err-clause-why g c honest rest layout whole =
    format_why g.D.RunDisk.state c.args.disk layout whole c.in-Err.stopped
    c.in-Err.ensures.formats c.in-Err.ensures.no_memory
