-- The questions that two stores, one of which was renewed, answer in the same way.
use Rattle.std.specs.Prelude.{◌≡◌, ℕ, true, List}
use Rattle.std.specs.Option.{option_map}
use Rattle.run_model.specs.declared.answers.GroupLook.{GroupLook}
use Rattle.run_model.specs.declared.answers.TaskLook.{TaskLook}
use Rattle.run_model.specs.Questions.{look_of, group_look_of, task_look_of}
use Rattle.run_model.specs.Scopes.{value_of}
use Rattle.run_model.specs.State.{State}
use Rattle.run_model.specs.Tasks.{first_ready}
use Rattle.state_renewal.specs.Renewed.{new_number, Part}

-- The answer to a question about a group, with the new number of its scope.
abbrev pub group_look_renumbered : Part → GroupLook → GroupLook
group_look_renumbered part look = record look { scope = new_number part.scopes look.scope }

-- The answer to a question about a task, with the new numbers of its group and of the task that it
-- retries.
abbrev pub task_look_renumbered : Part → TaskLook → TaskLook
task_look_renumbered part look = record look {
  group = new_number part.groups look.group;
  retry_of = option_map (new_number part.tasks) look.retry_of;
}

-- State q answers every question about what goes on as state p does, by the new numbers. About a
-- scope these are its name, whether it is done, why and with which cause, its deadline, and the
-- value of every key. About a group and a task it is the whole answer. The next task to start is
-- the same, too.
pub record GoOnAlike (part : Part) (p q : State) : Type 0 where
  pub scopes : (s : ℕ) → part.scopes s ≡ true
      → look_of q (new_number part.scopes s) ≡ look_of p s
  pub values : (s : ℕ) (key : List ℕ) → part.scopes s ≡ true
      → value_of q.tree.scopes (new_number part.scopes s) key ≡ value_of p.tree.scopes s key
  pub groups : (g : ℕ) → part.groups g ≡ true
      → group_look_of q (new_number part.groups g)
      ≡ option_map (group_look_renumbered part) (group_look_of p g)
  pub tasks : (n : ℕ) → part.tasks n ≡ true
      → task_look_of q (new_number part.tasks n)
      ≡ option_map (task_look_renumbered part) (task_look_of p n)
  pub next : first_ready q.work ≡ option_map (new_number part.tasks) (first_ready p.work)
