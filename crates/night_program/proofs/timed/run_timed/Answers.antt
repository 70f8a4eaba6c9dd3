use Rattle.std.proofs.Common.{ap, ◌∙◌}
use Rattle.run_model.specs.State.{State}
use Rattle.night_program.specs.Scripts.{Runs}
use Rattle.night_program.proofs.LineLemmas.{ran}
use Rattle.night_program.proofs.TimedLemmas.{ran_timed}
use Rattle.night_program.proofs.timed.run_timed.Goals as goal

pub returns-clause-runs : goal.returns-clause-runs
returns-clause-runs g c =
    let w0 = g.W.Write.contents c.args.output.now in
    let w1 = g.W.Write.contents c.run_until.new.output in
    ran_timed (λ s0 s1. Runs g.D.RunDisk.state c.args.until c.run_until.result s0 s1 w0 w1)
    _ _ _ _ _ c.args.book.now c.run_until.new.book c.new-lines.ensures
    (c.clock.ensures ∙ ap (λ (p : State). p.tree.clock) c.state.ensures.state)
    (ran g.D.RunDisk.state c.args.until c.run_until.result _ _ w0 w1 c.args.book.now
    c.run_until.new.book c.run_until.ensures.runs (c.run_until.ensures.stops c.requires))
