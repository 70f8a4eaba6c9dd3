-- The groups of a plan while its lines are read.
use Rattle.std.specs.Prelude.{◌≡◌, ◌++◌, ◌∷◌, List, [], Option, Some, None}
use Rattle.std.specs.List.{filter_map}
use Rattle.drive_lines.specs.declared.reports.Report.{Report}
use Rattle.drive_nights.specs.declared.untils.Until.{Until}
use Rattle.drive_parts.specs.declared.groups.GroupList.{GroupList}
use Rattle.drive_parts.specs.Additions.{group_of, name_of, untils_in}

-- These are the groups of some lines.
pub record AreGroups (reports : List Report) (l : GroupList) : Type 0 where
  pub groups : l.groups.items ≡ filter_map group_of reports
  pub names : l.names.items ≡ filter_map name_of reports
  pub untils : l.untils.items ≡ untils_in reports

-- The last of these deadlines isn't there yet.
abbrev pub LacksUntil : List (Option Until) → Type 0
LacksUntil untils = (before : List (Option Until)) × (untils ≡ before ++ None ∷ [])

-- ---- for private functions: no public contract cites what follows

-- The last group has this deadline, unless it had one, or there is none.
abbrev pub HasUntil : Until → GroupList → Option GroupList → Type 0
HasUntil until l None = LacksUntil l.untils.items → ⊥
HasUntil until l (Some m) =
    (m.groups ≡ l.groups) × (m.names ≡ l.names)
    × ((before : List (Option Until)) × (l.untils.items ≡ before ++ None ∷ [])
    × (m.untils.items ≡ before ++ Some until ∷ []))
