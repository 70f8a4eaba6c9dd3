use Rattle.night_plan.proofs.Working.{copy_must_stop, in_order, stand_first, stand_second}
use Rattle.night_plan.proofs.Working.{stand_third, two_taken}
use Rattle.night_plan.proofs.examples.six_commands_stand_by_the_rules.Goals as goal

pub returns-clause-at_first : goal.returns-clause-at_first
returns-clause-at_first c none well ends fails nothing one two lines =
    stand_first none well ends fails nothing one two lines

pub returns-clause-after_a_failure : goal.returns-clause-after_a_failure
returns-clause-after_a_failure c none well ends fails nothing one two lines =
    stand_second none well ends fails nothing one two lines

pub returns-clause-after_two : goal.returns-clause-after_two
returns-clause-after_two c none well ends fails nothing one two lines =
    stand_third none well ends fails nothing one two lines

pub returns-clause-order : goal.returns-clause-order
returns-clause-order c none well ends fails nothing one two lines =
    in_order none well ends fails nothing one two lines

pub returns-clause-taken : goal.returns-clause-taken
returns-clause-taken c none well ends fails nothing one two lines =
    two_taken none well ends fails nothing one two lines

pub returns-clause-stop : goal.returns-clause-stop
returns-clause-stop c none well ends fails nothing one two lines =
    copy_must_stop none well ends fails nothing one two lines
