-- The names of a plan in a night.
use Rattle.std.specs.Prelude.{ℕ, List, Option}
use Rattle.night_drive.specs.declared.names.Names.{Names}
use Rattle.drive_parts.specs.declared.plans.NightPlan.{NightPlan}

-- The names of the groups and the keys of the commands, in this night of a store.
abbrev pub names_of : NightPlan → (night : Option (List ℕ)) → Names
names_of n night = record { groups = n.groups; keys = n.keys; night = night }
