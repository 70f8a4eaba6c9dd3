-- The rows of the examples, in short.
use Rattle.std.specs.Prelude.{◌≡◌, ℕ, false, List, [], ◌∷◌}
use Rattle.std.specs.Global.{Vec}
use Rattle.night_plan.specs.declared.commands.Command.{Command}
use Rattle.night_plan.specs.declared.commands.Need.{Need}
use Rattle.night_plan.specs.declared.commands.Take.{Take}
use Rattle.night_plan.specs.declared.commands.Way.TheVariants.{GoOn, Stop, Cancel}
use Rattle.night_plan.specs.declared.commands.Subject.TheVariants as subject
use Rattle.night_plan.specs.declared.commands.When.TheVariants as when
use Rattle.night_plan.specs.declared.facts.Phase.TheVariants.{Fresh, Busy, EndedOk, Failed}
use Rattle.night_plan.specs.declared.facts.Phase.TheVariants.{Canceled}
use Rattle.night_plan.specs.declared.standings.Standing.{Standing}
use Rattle.night_plan.specs.Standings.{Stands}
use Rattle.night_plan.specs.declared.facts.Phase.{Phase}
use Rattle.night_plan.specs.declared.facts.Known.{Known}
use Rattle.night_plan.specs.Nights.{Night}

-- A command of a group, with a priority. It has six retries, which wait 30 seconds, then twice as
-- long each time, up to ten minutes.
abbrev pub command_of : Vec Need → Vec Take → (group priority : ℕ) → Command
command_of needs takes group priority = record {
  group = group;
  priority = priority;
  needs = needs;
  takes = takes;
  retries = 6;
  wait = 30;
  factor = 2;
  cap = 600;
}

-- Four commands, the first two of group 0, and the others of group 1.
abbrev pub four_commands : Vec Need → Vec Take → List Command
four_commands needs takes =
    command_of needs takes 0 0 ∷ command_of needs takes 0 9
    ∷ command_of needs takes 1 4 ∷ command_of needs takes 1 4 ∷ []

-- A night of these commands, in which group 1 has the higher priority.
abbrev pub four_in_order : Vec Need → Vec Take → Night
four_in_order needs takes = record {
  first = 4;
  groups = record { priority = 0; way = GoOn } ∷ record { priority = 7; way = GoOn } ∷ [];
  commands = four_commands needs takes;
  known = [];
  done = [];
}

-- What is known of a command that isn't canceled.
abbrev pub known_row : Phase → (failures : ℕ) → Known
known_row phase failures = record { phase = phase; failures = failures; canceled = false }

-- The lists of needs and of takes of the six commands.
pub record AreSix (none well ends fails : Vec Need) (nothing one two : Vec Take) : Type 0 where
  pub none_is : none.items ≡ []
  pub well_is : well.items ≡ record { of = subject.Command 0; when = when.Well } ∷ []
  pub ends_is : ends.items ≡ record { of = subject.Group 1; when = when.Ended } ∷ []
  pub fails_is : fails.items ≡ record { of = subject.Command 2; when = when.Failed } ∷ []
  pub nothing_is : nothing.items ≡ []
  pub one_is : one.items ≡ record { pool = 0; amount = 1 } ∷ []
  pub two_is : two.items ≡ record { pool = 0; amount = 2 } ∷ []

-- Six commands. Group 0 stops on a failure, and a failure cancels group 1, whose priority is
-- higher. Commands 0 and 1 load, 1 after 0 and with two tapes; 2 and 3 copy; 4 cleans up after all
-- copies; and 5 tells somebody that 2 failed.
abbrev pub six : (none well ends fails : Vec Need) (nothing one two : Vec Take) → List Known → Night
six none well ends fails nothing one two known = record {
  first = 6;
  groups = record { priority = 0; way = Stop } ∷ record { priority = 7; way = Cancel } ∷ [];
  commands = command_of none one 0 0 ∷ command_of well two 0 0 ∷ command_of none one 1 0
      ∷ command_of none nothing 1 0 ∷ command_of ends nothing 0 0
      ∷ command_of fails nothing 0 0 ∷ [];
  known = known;
  done = false ∷ false ∷ [];
}

-- Nothing was begun.
abbrev pub at_first : List Known
at_first =
    known_row Fresh 0 ∷ known_row Fresh 0 ∷ known_row Fresh 0 ∷ known_row Fresh 0
    ∷ known_row Fresh 0 ∷ known_row Fresh 0 ∷ []

-- The first load ended well, a copy has failed for good, and the other one runs.
abbrev pub after_a_failure : List Known
after_a_failure =
    known_row EndedOk 0 ∷ known_row Fresh 0 ∷ known_row (Failed 100) 7 ∷ known_row Busy 0
    ∷ known_row Fresh 0 ∷ known_row Fresh 0 ∷ []

-- The other copy was canceled, and the second load has failed for good.
abbrev pub after_two_failures : List Known
after_two_failures =
    known_row EndedOk 0 ∷ known_row (Failed 200) 7 ∷ known_row (Failed 100) 7
    ∷ known_row Canceled 0 ∷ known_row Fresh 0 ∷ known_row Fresh 0 ∷ []

-- Command 5 has failed for good while the second load runs.
abbrev pub while_one_runs : List Known
while_one_runs =
    known_row EndedOk 0 ∷ known_row Busy 0 ∷ known_row (Failed 100) 7 ∷ known_row Canceled 0
    ∷ known_row EndedOk 0 ∷ known_row (Failed 150) 7 ∷ []

-- Six commands stand so.
pub record StandSo (n : Night) (now : ℕ) (s0 s1 s2 s3 s4 s5 : Standing) : Type 0 where
  pub first : Stands n now 0 s0
  pub second : Stands n now 1 s1
  pub third : Stands n now 2 s2
  pub fourth : Stands n now 3 s3
  pub fifth : Stands n now 4 s4
  pub sixth : Stands n now 5 s5
