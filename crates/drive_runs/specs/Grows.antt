-- Groups by which the plan of a night has grown get what they need in a store.
use Rattle.std.specs.Prelude.{◌≡◌, ◌⊎◌, ◌<◌, ◌&&◌, ℕ, zero, suc, Bool, true, false, List, []}
use Rattle.std.specs.Prelude.{Option, Some, None, is_none, length, slice_get, unwrap_or}
use Rattle.std.specs.List.{list_all}
use Rattle.run_model.specs.declared.answers.Reply.{Reply}
use Rattle.run_model.specs.declared.commands.Step.{Step}
use Rattle.run_model.specs.State.{State}
use Rattle.run_disk.specs.Disk.{DiskState}
use Rattle.book_model.specs.Books.{BookView}
use Rattle.book_model.specs.Steps.{StepsOn}
use Rattle.drive_nights.specs.Effects.{is_taken}
use Rattle.drive_nights.specs.Names.{is_short}
use Rattle.drive_nights.specs.Openings.{growth_of, until_at}
use Rattle.drive_steps.specs.Rooms.{are_housed, last_group}
use Rattle.drive_runs.specs.declared.openings.Hindrance.{Hindrance}
use Rattle.drive_runs.specs.declared.sittings.Sitting.{Sitting}
use Rattle.drive_runs.specs.Faults.{first_fault}
use Rattle.drive_runs.specs.Opens.{hindered_by}

-- The name of group g of the plan.
abbrev pub group_at : Sitting → (g : ℕ) → List ℕ
group_at s g = unwrap_or (slice_get s.names.groups.items g) []

-- The night has no group of the store for this group of the plan, and its name leaves room for the
-- number of the night.
abbrev pub is_missing : State → Sitting → (group : List ℕ) → Bool
is_missing p s group = is_none (last_group p s.names.night group) && is_short group s.kept.night

-- The steps in which group g of the plan is added to the night.
abbrev pub growth_in : Sitting → (g : ℕ) → State → List Step
growth_in s g p = growth_of p s.kept.night (group_at s g) (until_at s.untils.items g)

-- Group g of the plan was missing. The steps in which it is added were played, and this hinders the
-- night by the replies, if anything does.
pub record WasAdded {D : Type 0} (state : D → DiskState) (s : Sitting) (g : ℕ) (old : BookView D)
    (found : Option Hindrance) (new : BookView D) : Type 0 where
  pub missing : is_missing old.session.state s (group_at s g) ≡ true
  pub replies : List Reply
  pub played : StepsOn state old (growth_in s g old.session.state) replies new
  pub found_is : found ≡ hindered_by (first_fault replies) (list_all is_taken replies)

-- Group g of the plan was added to the night, unless it wasn't missing.
abbrev pub AddsGroup : {D : Type 0} → (D → DiskState) → Sitting → (g : ℕ) → (old : BookView D)
    → Option Hindrance → (new : BookView D) → Type 0
AddsGroup state s g old found new =
    ((is_missing old.session.state s (group_at s g) ≡ false) × (found ≡ None) × (new ≡ old))
    ⊎ WasAdded state s g old found new

-- This many groups of the plan have got what they need, one after another.
abbrev pub HasGroups : {D : Type 0} → (D → DiskState) → Sitting → ℕ → (old new : BookView D)
    → Type 0
HasGroups state s zero old new = new ≡ old
HasGroups state s (suc g) old new =
    (between : BookView _) × HasGroups state s g old between × AddsGroup state s g between None new

-- A group of the plan couldn't be added, and this hinders the night. The groups before it have got
-- what they need.
pub record LacksGroup {D : Type 0} (state : D → DiskState) (s : Sitting) (old : BookView D)
    (what : Hindrance) (new : BookView D) : Type 0 where
  pub g : ℕ
  pub of_plan : g < length s.names.groups.items
  pub between : BookView D
  pub before : HasGroups state s g old between
  pub refused : AddsGroup state s g between (Some what) new

-- All groups of the plan have got what they need. This hinders the night, if there is a group for
-- which the store still has none.
pub record HasAll {D : Type 0} (state : D → DiskState) (s : Sitting) (old : BookView D)
    (found : Option Hindrance) (new : BookView D) : Type 0 where
  pub all : HasGroups state s (length s.names.groups.items) old new
  pub found_is : found ≡ hindered_by None (are_housed new.session.state s.names)

-- The groups of the plan got what they need, and this hinders the night, if anything does.
abbrev pub Grows : {D : Type 0} → (D → DiskState) → Sitting → (old : BookView D)
    → Option Hindrance → (new : BookView D) → Type 0
Grows state s old found new =
    ((what : Hindrance) × (found ≡ Some what) × LacksGroup state s old what new)
    ⊎ HasAll state s old found new
