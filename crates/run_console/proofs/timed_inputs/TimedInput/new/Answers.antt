use Rattle.std.proofs.Common.{◌∙◌, ap}
use Rattle.run_console.specs.Timed.{timed_known}
use Rattle.run_console.proofs.TakenBytes.{begins}
use Rattle.run_console.proofs.timed_inputs.TimedInput.new.Goals as goal

pub returns : goal.returns
returns g c =
    let w = c.new.result in
    let moments = g.C.MachineTime.moments in
    let known = g.R.Read.remaining c.args.input in
    begins known (moments w.clock) w.ready.items w.is_asked w.latest w.line.items
    c.new.ensures.ready c.new.ensures.unasked c.new.ensures.line
    ∙ ap (λ l. timed_known l (moments w.clock) known) c.new.ensures.latest
    ∙ ap (λ k. timed_known c.args.latest (moments k) known) c.new.ensures.clock
