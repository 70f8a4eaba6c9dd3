-- What the lines of a round come to.
use Rattle.std.specs.Prelude.{◌≡◌, ◌≤◌, ◌++◌, ◌∷◌, ℕ, List, [], Option, Some, None, length}
use Rattle.std.specs.Global.{Vec}
use Rattle.plan_lines.specs.declared.lines.PlanLine.TheVariants as line
use Rattle.run_model.specs.declared.bounds.TheConstants.{GREATEST_MOMENT}
use Rattle.drive_lines.specs.declared.reports.Report.{Report}
use Rattle.drive_lines.specs.declared.reports.Report.TheVariants as report
use Rattle.drive_parts.specs.declared.growth.Growth.{Growth}
use Rattle.drive_parts.specs.declared.heard.Counts.{Counts}
use Rattle.drive_parts.specs.declared.heard.Heard.{Heard}
use Rattle.drive_parts.specs.declared.plans.NightPlan.{NightPlan}
use Rattle.drive_parts.specs.declared.rounds.HeardDraft.{HeardDraft}
use Rattle.drive_parts.specs.declared.rounds.Round.{Round}
use Rattle.drive_parts.specs.Additions.{untils_in}
use Rattle.drive_parts.specs.Groups.{LacksUntil}
use Rattle.drive_parts.specs.Growth.{HasGrown, IsGrowing, IsWhole, MayAddCommand, MayAddDetail}
use Rattle.drive_parts.specs.Growth.{MayAddGroup, commands_after, groups_after, pools_after}
use Rattle.drive_parts.specs.Heard.{AreHeard, MayReport}

-- ---- the lines

-- How many groups, commands and pools there are after some lines.
abbrev pub counts_after : NightPlan → List Report → Counts
counts_after old reports = record {
  groups = groups_after old reports;
  commands = commands_after old reports;
  pools = length (pools_after old reports);
}

-- A line can come next in a round, after these: the plan can grow by it, or it can report a fact.
-- The last group that is new in this round gets one deadline at most. A pool can always be added.
abbrev pub MayHear : NightPlan → (living : List ℕ) → List Report → Report → Type 0
MayHear old living reports (report.Group group name) = MayAddGroup old reports name
MayHear old living reports (report.Command outline key) =
    MayAddCommand old reports outline.group key
MayHear old living reports (report.Until moment words) =
    (moment ≤ GREATEST_MOMENT) × LacksUntil (untils_in reports)
MayHear old living reports (report.Plan (line.Pool size)) = Unit {0}
MayHear old living reports (report.Plan (line.Need need)) =
    MayAddDetail old reports (report.Plan (line.Need need))
MayHear old living reports (report.Plan (line.Take take)) =
    MayAddDetail old reports (report.Plan (line.Take take))
MayHear old living reports r = MayReport (counts_after old reports) living reports r

-- ---- what was read of them

-- A draft is what these lines come to, for this plan and for these tasks, whose tries lived.
pub record IsHeard (old : NightPlan) (tasks : List ℕ) (reports : List Report) (d : HeardDraft)
    : Type 0 where
  pub growth : IsGrowing old reports d.growth
  pub heard : AreHeard reports d.heard
  pub living : d.living.items ≡ tasks

-- One more line was heard, or it can't come next.
abbrev pub Hears :
    NightPlan → (living : List ℕ) → List Report → Report → Option HeardDraft → Type 0
Hears old living reports r None = MayHear old living reports r → ⊥
Hears old living reports r (Some e) =
    MayHear old living reports r × IsHeard old living (reports ++ r ∷ []) e

-- ---- the round

-- This is exactly what the lines of a round come to: the plan as it has grown by them, and what
-- they report.
pub record IsRoundOf (old : NightPlan) (reports : List Report) (round : Round) : Type 0 where
  pub plan : HasGrown old reports round.plan
  pub heard : AreHeard reports round.heard

-- ---- for private functions: no public contract cites what follows

-- The draft of a plan that has grown, if it has.
abbrev pub draft_of : Option Growth → Heard → (living : Vec ℕ) → Option HeardDraft
draft_of None heard living = None
draft_of (Some growth) heard living =
    Some (record { growth = growth; heard = heard; living = living })

-- One more line was heard, by which the plan doesn't grow, or it can't come next.
abbrev pub HearsFact :
    NightPlan → (living : List ℕ) → List Report → Report → Option HeardDraft → Type 0
HearsFact old living reports r None =
    MayReport (counts_after old reports) living reports r → ⊥
HearsFact old living reports r (Some e) =
    MayHear old living reports r × IsHeard old living (reports ++ r ∷ []) e

-- The parts of a draft, if no command is pending.
pub record ArePartsOf (old : NightPlan) (tasks : List ℕ) (reports : List Report) (g : Growth)
    (h : Heard) (lived : List ℕ) : Type 0 where
  pub growth : IsWhole old reports g
  pub heard : AreHeard reports h
  pub living : lived ≡ tasks
