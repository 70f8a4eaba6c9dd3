-- The seven rules by parts: what the tree alone can break, what the work alone can break, and what
-- holds between the two. That they make up the seven is a law of its own.
use Rattle.std.specs.Prelude.{◌≡◌, ◌<◌, ◌≤◌, ◌⊎◌, ◌↔◌, ℕ, true, List, length, Some, IsTrue, IsSome}
use Rattle.std.specs.Prelude.{slice_get}
use Rattle.run_model.specs.declared.bounds.TheConstants.{MOST_GROUPS}
use Rattle.run_model.specs.declared.scopes.Kind.{Kind}
use Rattle.run_model.specs.declared.scopes.Reason.TheVariants.{DeadlineExceeded}
use Rattle.run_model.specs.declared.scopes.Hit.{Hit}
use Rattle.run_model.specs.declared.scopes.Scope.{Scope}
use Rattle.run_model.specs.declared.groups.Group.{Group}
use Rattle.run_model.specs.declared.tasks.Task.{Task}
use Rattle.run_model.specs.Layouts.{most_scopes, most_tasks}
use Rattle.run_model.specs.Rows.{root}
use Rattle.run_model.specs.Rules.{AreAdmitted, AreGroupScopes, AreLinked, Owns}
use Rattle.run_model.specs.Rules.{can_be_hit, has_task_error, HasRow}
use Rattle.run_model.specs.Scopes.{is_root, own_hit, own_deadline, AreOrdered}
use Rattle.run_model.specs.State.{State, TreeState, WorkState}

-- ---- the tree

-- A row of this kind can have this hit, in a state with this count and clock. The event of the hit
-- is 1 to the count, its moment is at most the clock, and if its reason is DeadlineExceeded, its
-- moment is the row's own deadline.
pub record HitFits (count clock : ℕ) (kind : Kind) (hit : Hit) : Type 0 where
  pub can : can_be_hit kind ≡ true
  pub counted : 1 ≤ hit.event
  pub known : hit.event ≤ count
  pub past : hit.moment ≤ clock
  pub own : hit.reason ≡ DeadlineExceeded → own_deadline kind ≡ Some hit.moment

-- Root comes first and is the only row of its kind, names are distinct, parents have lower numbers,
-- hits fit, and a row whose deadline has come has a hit.
pub record AreScopeRules (count clock : ℕ) (rows : List Scope) : Type 0 where
  pub rooted : slice_get rows 0 ≡ Some root
  pub alone : (s : ℕ) (row : Scope) → slice_get rows s ≡ Some row → is_root row.kind ≡ true → s ≡ 0
  pub names : (s t : ℕ) (a b : Scope) → slice_get rows s ≡ Some a → slice_get rows t ≡ Some b
      → a.name ≡ b.name → s ≡ t
  pub ordered : AreOrdered rows
  pub hits : (s : ℕ) (row : Scope) (hit : Hit) → slice_get rows s ≡ Some row → row.hit ≡ Some hit
      → HitFits count clock row.kind hit
  pub come : (s moment : ℕ) (row : Scope) → slice_get rows s ≡ Some row
      → own_deadline row.kind ≡ Some moment → moment ≤ clock → IsSome row.hit

-- The rules of the tree: the scopes keep these rules, and are within the limits.
pub record AreTreeRules (count : ℕ) (t : TreeState) : Type 0 where
  pub few : length t.scopes ≤ most_scopes t.layout
  pub rows : AreScopeRules count t.clock t.scopes

-- ---- the work

-- The rules of the work: groups and tasks are within the limits, names of groups are distinct, the
-- group of each task exists, running tasks are admitted, a group that was waited for has no
-- unfinished task, a group has an error exactly if a task of it has, and retries name the right
-- tasks.
pub record AreWorkRules (w : WorkState) : Type 0 where
  pub few_groups : length w.groups ≤ MOST_GROUPS
  pub few_tasks : length w.tasks ≤ most_tasks w.layout
  pub names : (g h : ℕ) (a b : Group) → HasRow w.groups g a → HasRow w.groups h b → a.name ≡ b.name
      → g ≡ h
  pub known : (n : ℕ) (row : Task) → HasRow w.tasks n row → row.group < length w.groups
  pub admitted : AreAdmitted w
  pub exact : (g : ℕ) (row : Group) → HasRow w.groups g row
      → IsSome row.error ↔ IsTrue (has_task_error w g)
  pub links : AreLinked w

-- ---- between the two

-- The rules between scopes and groups: the scope of each group exists, scopes of kind Group and
-- groups that aren't bare belong together, and the scope of such a group has a hit if the group has
-- an error or was waited for.
pub record AreCrossRules (p : State) : Type 0 where
  pub known : (g : ℕ) (row : Group) → HasRow p.work.groups g row → row.scope < length p.tree.scopes
  pub owned : AreGroupScopes p
  pub ended : (g s : ℕ) (row : Group) → Owns p.work g row s → IsSome row.error ⊎ (row.waited ≡ true)
      → IsSome (own_hit p.tree.scopes s)
