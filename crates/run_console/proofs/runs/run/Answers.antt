use Rattle.std.proofs.Common.{subst}
use Rattle.std.specs.Prelude.{Ok, Option}
use Rattle.console_lines.specs.declared.rejections.RejectedLine.{RejectedLine}
use Rattle.run_console.specs.declared.untils.Until.TheVariants.{End}
use Rattle.run_console.specs.RunProgress.{DoesRun}
use Rattle.run_console.proofs.Prefixes.{stops_begin}
use Rattle.run_console.proofs.runs.run.Goals as goal

-- A run to the end of its input has no rejected line.
pub returns-in-Ok-clause-runs : goal.returns-in-Ok-clause-runs
returns-in-Ok-clause-runs g c =
    let Does : Option RejectedLine → Type 0 = λ rejection.
    DoesRun g.D.RunDisk.state g.R.Read.remaining g.W.Write.contents End (Ok rejection)
    c.args.book.now c.run_until.new.book c.args.input.now c.run_until.new.input
    c.args.output.now c.run_until.new.output in
    subst Does c.in-Ok.ensures.runs.rejection_is c.in-Ok.ensures

pub returns-in-Err-clause-begins : goal.returns-in-Err-clause-begins
returns-in-Err-clause-begins g c = λ sound.
    stops_begin (c.in-Err.ensures.stops sound)
