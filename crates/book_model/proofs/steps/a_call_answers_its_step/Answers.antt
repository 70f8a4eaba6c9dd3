use Rattle.run_model.specs.declared.commands.Step.TheVariants as step
use Rattle.book_model.proofs.Stepping.{answers_checkpoint, answers_flush, answers_refused}
use Rattle.book_model.proofs.Stepping.{answers_sound}
use Rattle.book_model.proofs.steps.a_call_answers_its_step.Goals as goal

pub returns-clause-broken : goal.returns-clause-broken
returns-clause-broken g c = answers_refused g.D.RunDisk.state

pub returns-clause-command : goal.returns-clause-command
returns-clause-command g c old new call r =
    answers_sound g.D.RunDisk.state old new (step.Command call) r

pub returns-clause-start : goal.returns-clause-start
returns-clause-start g c old new r = answers_sound g.D.RunDisk.state old new step.Start r

pub returns-clause-finish : goal.returns-clause-finish
returns-clause-finish g c old new task outcome r =
    answers_sound g.D.RunDisk.state old new (step.Finish task outcome) r

pub returns-clause-flush : goal.returns-clause-flush
returns-clause-flush g c = answers_flush g.D.RunDisk.state

pub returns-clause-checkpoint : goal.returns-clause-checkpoint
returns-clause-checkpoint g c = answers_checkpoint g.D.RunDisk.state
