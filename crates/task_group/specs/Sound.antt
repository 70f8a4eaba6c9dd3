-- The invariant of the groups between two calls.
use Rattle.std.specs.Prelude.{◌≡◌, ℕ, Bool, List, length, Option}
use Rattle.run_model.specs.declared.bounds.TheConstants.{MOST_GROUPS}
use Rattle.run_model.specs.declared.groups.Group.{Group}
use Rattle.run_model.specs.declared.layouts.Layout.{Layout}
use Rattle.run_model.specs.declared.tasks.Task.{Task}
use Rattle.run_model.specs.Layouts.{most_tasks}
use Rattle.run_model.specs.State.{WorkState}
use Rattle.run_model.specs.Tasks.{is_ready, running_count}
use Rattle.task_group.specs.declared.counts.GroupCounts.{GroupCounts}
use Rattle.task_group.specs.Flags.{AreFlagged}
use Rattle.task_group.specs.Kept.{Kept}
use Rattle.task_group.specs.Trees.{is_up}

-- The work that consists of these rows, in a store of this layout.
abbrev pub work : Layout → List Group → List Task → WorkState
work layout groups tasks = record { layout = layout; groups = groups; tasks = tasks }

-- The ready tasks are in the queue, and no others.
pub record AreQueued (w : WorkState) (flags : List Bool) : Type 0 where
  pub size : length flags ≡ most_tasks w.layout
  pub right : (n : ℕ) → is_up flags n ≡ is_ready w n

-- The counters, the lists of held tasks, the queue, the number of running tasks and the flags of
-- retried tasks agree with the rows.
pub record AreKept (w : WorkState) (counts : List GroupCounts) (next : List (Option ℕ))
    (ready : List Bool)
    (count : ℕ) (flags : List Bool) : Type 0 where
  pub seated : Kept w counts next
  pub queued : AreQueued w ready
  pub running : count ≡ running_count w.tasks
  pub flagged : AreFlagged w.tasks flags

-- The lists can grow up to the greatest numbers of groups and tasks, but not further.
pub record HasRoom (layout : Layout) (groups tasks counts next flags : ℕ) : Type 0 where
  pub group_room : groups ≡ MOST_GROUPS
  pub task_room : tasks ≡ most_tasks layout
  pub group_count_room : counts ≡ MOST_GROUPS
  pub next_room : next ≡ most_tasks layout
  pub flag_room : flags ≡ most_tasks layout
