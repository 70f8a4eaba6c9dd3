-- What a store has for the groups of a plan after an opening: the base of the night, and for each
-- group a scope with its deadline and a group of the store.
use Rattle.std.specs.Prelude.{◌≡◌, ◌<◌, ◌≤◌, ℕ, true, false, List, length, Option, Some, None}
use Rattle.std.specs.Prelude.{is_none, slice_get}
use Rattle.std.specs.Option.{option_map}
use Rattle.run_model.specs.declared.groups.Group.{Group}
use Rattle.run_model.specs.declared.scopes.Kind.{Kind}
use Rattle.run_model.specs.declared.scopes.Kind.TheVariants as kind
use Rattle.run_model.specs.Session.{Session}
use Rattle.run_model.specs.State.{State}
use Rattle.run_model.specs.Tasks.{has_stage, is_fresh}
use Rattle.drive_nights.specs.declared.untils.Until.{Until}
use Rattle.drive_nights.specs.Effects.{IsOpening, TakesTasks, is_kept, opened}
use Rattle.drive_nights.specs.Nights.{base_of, name_at, parent_of, top_above}
use Rattle.drive_nights.specs.Openings.{until_at}
use Rattle.drive_nights.specs.Rooms.{kept_base, last_scope, words_of}

-- ---- a deadline

-- The kind of scope s.
abbrev pub kind_at : State → ℕ → Option Kind
kind_at p s = option_map (λ row. row.kind) (slice_get p.tree.scopes s)

-- Scope s has this deadline, below scope b. If there is none, it stands right below that. Otherwise
-- the scope with the moment and the words stands between the two, and the words are kept for s.
abbrev pub HasDeadline : State → (s b : ℕ) → Option Until → Type 0
HasDeadline p s b None = parent_of p s ≡ b
HasDeadline p s b (Some until) =
    (kind_at p (parent_of p s) ≡ Some (kind.Deadline until.moment (Some until.words)))
    × (parent_of p (parent_of p s) ≡ b)
    × (words_of p (name_at p s) ≡ Some until.words)

-- ---- what the night has

-- This is the base of night n after an opening. If the night had a base that it keeps, it is that
-- one. Otherwise it has a new top below root, with the deadline of all groups together.
pub record IsBaseAfter (p q : State) (n : ℕ) (all : Option Until) (base : ℕ) : Type 0 where
  pub is : base_of q n ≡ Some base
  pub kept : (old : ℕ) → kept_base p n all ≡ Some old → base ≡ old
  pub new : kept_base p n all ≡ None → HasDeadline q (top_above q n base) 0 all

-- What a group of the plan has after an opening takes tasks. A group that keeps its scope has the
-- last one that it had. Any other one has a scope below the base, with the deadline that the plan
-- gives.
pub record HasRoom (p q : State) (n base : ℕ) (all : Option Until) (group : List ℕ)
    (until : Option Until) : Type 0 where
  pub takes : TakesTasks q n group
  pub kept : is_kept p n all group until ≡ true → last_scope p n group ≡ Some takes.scope
  pub new : is_kept p n all group until ≡ false → HasDeadline q takes.scope base until

-- ---- what stays

-- The row of a group is the same, but for its error, and for a limit that was taken away.
pub record IsSameGroup (old new : Group) : Type 0 where
  pub name : new.name ≡ old.name
  pub scope : new.scope ≡ old.scope
  pub bare : new.bare ≡ old.bare
  pub waited : new.waited ≡ old.waited
  pub limit : is_none old.limit ≡ true → is_none new.limit ≡ true

-- Each group of the store is there as before.
abbrev pub KeepsGroups : (p q : State) → Type 0
KeepsGroups p q =
    (g : ℕ) (old : Group) → slice_get p.work.groups g ≡ Some old
    → (new : Group) × (slice_get q.work.groups g ≡ Some new) × IsSameGroup old new

-- Each scope and each group of the store is there as before, and so is each task that didn't wait
-- to be started. The clock hasn't moved.
pub record KeepsRows (p q : State) : Type 0 where
  pub clock : q.tree.clock ≡ p.tree.clock
  pub scopes : (s : ℕ) → s < length p.tree.scopes
      → slice_get q.tree.scopes s ≡ slice_get p.tree.scopes s
  pub groups : KeepsGroups p q
  pub tasks : (m : ℕ) → has_stage is_fresh p.work m ≡ false
      → slice_get q.work.tasks m ≡ slice_get p.work.tasks m
  pub many : length q.work.tasks ≡ length p.work.tasks

-- ---- a law

-- The night has its base and its groups after an opening, and everything else is as it was.
pub record IsMade (p q : State) (n : ℕ) (groups : List (List ℕ)) (untils : List (Option Until))
    (all : Option Until) : Type 0 where
  pub base : ℕ
  pub based : IsBaseAfter p q n all base
  pub rooms : (g : ℕ) (group : List ℕ) → slice_get groups g ≡ Some group
      → HasRoom p q n base all group (until_at untils g)
  pub rest : KeepsRows p q

-- If no step of an opening is refused, all that the plan asks for is there after it.
abbrev pub OpeningsMakeAll : Type 0
OpeningsMakeAll =
    (s : Session) (n : ℕ) (groups : List (List ℕ)) (untils : List (Option Until))
    (all : Option Until) → 1 ≤ n → IsOpening s n groups untils all
    → IsMade s.state (opened s n groups untils all) n groups untils all
