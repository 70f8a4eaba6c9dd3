-- The command by which a plan is growing.
use Rattle.std.specs.Prelude.{◌≡◌, ℕ, Option, Some, length}
use Rattle.night_plan.specs.Ranks.{IsKnown, TakesWithin}
use Rattle.drive_parts.specs.declared.growth.Pending.{Pending}
use Rattle.drive_parts.specs.declared.plans.NightPlan.{NightPlan}
use Rattle.drive_parts.specs.Names.{HasKey, groups_of}

-- The plan can grow by this command, which names only what exists, and which has a key of its own
-- in its group.
pub record CanGrow (n : NightPlan) (p : Pending) : Type 0 where
  pub known : IsKnown (length n.plan.groups.items) (length n.plan.commands.items)
      (length n.plan.pools.items) p.command
  pub fits : TakesWithin n.plan.pools.items p.command
  pub own : (c : ℕ) → HasKey (groups_of n.plan.commands.items) n.keys.items p.command.group p.key c
      → ⊥

-- It can, if there is such a command.
abbrev pub IsReady : NightPlan → Option Pending → Type 0
IsReady n pending = (p : Pending) → pending ≡ Some p → CanGrow n p
