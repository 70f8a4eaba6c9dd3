-- What is remembered of a night.
use Rattle.std.specs.Prelude.{◌≡◌, ◌<◌, ◌==◌, ℕ, Bool, true, false, List, [], find, length}
use Rattle.std.specs.Prelude.{reverse, slice_get, slice_index, unwrap_or}
use Rattle.std.specs.Option.{option_map_or}
use Rattle.night_plan.specs.declared.commands.Plan.{Plan}
use Rattle.night_drive.specs.declared.ends.Ends.{Ends}
use Rattle.drive_nights.specs.Nights.{night_text}
use Rattle.drive_parts.specs.declared.heard.Heard.{Heard}
use Rattle.drive_parts.specs.declared.heard.PoolSize.{PoolSize}
use Rattle.drive_parts.specs.declared.plans.NightPlan.{NightPlan}
use Rattle.drive_parts.specs.declared.rounds.Round.{Round}
use Rattle.drive_runs.specs.declared.sittings.Kept.{Kept}
use Rattle.drive_runs.specs.declared.sittings.Sitting.{Sitting}

-- ---- the plan

-- Two plans are the same, but one of them may want another night.
pub record IsSamePlan (n m : NightPlan) : Type 0 where
  pub plan : m.plan ≡ n.plan
  pub groups : m.groups ≡ n.groups
  pub keys : m.keys ≡ n.keys
  pub untils : m.untils ≡ n.untils
  pub all : m.all ≡ n.all

-- Two sittings are of the same night, and of the same plan with its names and deadlines.
pub record IsSameNight (s t : Sitting) : Type 0 where
  pub plan : t.plan ≡ s.plan
  pub names : t.names ≡ s.names
  pub untils : t.untils ≡ s.untils
  pub all : t.all ≡ s.all
  pub night : t.kept.night ≡ s.kept.night

-- The sitting is one of this plan.
pub record HasPlan (s : Sitting) (n : NightPlan) : Type 0 where
  pub plan : n.plan ≡ s.plan
  pub groups : n.groups ≡ s.names.groups
  pub keys : n.keys ≡ s.names.keys
  pub untils : n.untils ≡ s.untils
  pub all : n.all ≡ s.all

-- ---- what else is known

-- Two sittings are of the same night, and know the same of it but for the tries that live. (Their
-- guesses may differ, too. These only save time.)
pub record DiffersInTries (s t : Sitting) : Type 0 where
  pub same : IsSameNight s t
  pub sizes : t.kept.sizes ≡ s.kept.sizes
  pub ends : t.kept.ends ≡ s.kept.ends

-- Nothing is known of the night but its plan: no try lives, and the time now counts as the end of
-- each try of which nothing else is known.
pub record IsFresh (plan : Plan) (night now : ℕ) (kept : Kept) : Type 0 where
  pub night_is : kept.night ≡ night
  pub sizes : kept.sizes.items ≡ plan.pools.items
  pub none_ended : kept.ends.moments.items ≡ []
  pub otherwise : kept.ends.otherwise ≡ now
  pub none_lives : kept.living.items ≡ []

-- The size of a pool: the one that was reported last, or the one that was known.
abbrev pub size_now : (reported : List PoolSize) → (pool known : ℕ) → ℕ
size_now reported pool known =
    option_map_or (λ (new : PoolSize). new.size)
    (find (λ (new : PoolSize). new.pool == pool) (reverse reported)) known

-- Each pool has the size that was reported last, or the one that it had, or that of the plan.
pub record AreSizes (old : List ℕ) (reported : List PoolSize) (pools sizes : List ℕ)
    : Type 0 where
  pub sized : length sizes ≡ length pools
  pub each : (p : ℕ) → p < length pools → slice_index sizes p
      ≡ size_now reported p (unwrap_or (slice_get old p) (slice_index pools p))

-- When tries ended. If no retry waits any longer, all of them ended long ago.
abbrev pub EndedBy : (hurry : Bool) → (old new : Ends) → Type 0
EndedBy true old new = (new.moments.items ≡ []) × (new.otherwise ≡ 0)
EndedBy false old new = new ≡ old

-- What was known, with what a round reports of pools, and that no retry waits any longer, if it
-- does.
pub record HasSettings (old : Kept) (heard : Heard) (pools : List ℕ) (new : Kept)
    : Type 0 where
  pub night : new.night ≡ old.night
  pub living : new.living ≡ old.living
  pub sizes : AreSizes old.sizes.items heard.sizes.items pools new.sizes.items
  pub ends : EndedBy heard.hurry old.ends new.ends

-- ---- a sitting

-- With this sitting the night of a plan begins: nothing is known of it but the plan.
pub record IsFirstOf (plan : NightPlan) (night now : ℕ) (s : Sitting) : Type 0 where
  pub has_plan : HasPlan s plan
  pub fresh : IsFresh plan.plan night now s.kept
  pub named : s.names.night ≡ night_text night

-- With this sitting a round is played: it has the plan as it has grown in the round, and what was
-- known before with what the round sets.
pub record IsSittingOf (known : Kept) (round : Round) (s : Sitting) : Type 0 where
  pub has_plan : HasPlan s round.plan
  pub settings : HasSettings known round.heard round.plan.plan.pools.items s.kept
  pub named : s.names.night ≡ night_text s.kept.night
