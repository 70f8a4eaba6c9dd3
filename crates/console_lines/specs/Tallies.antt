-- How many tasks each job has, and how they ended.
use Rattle.std.specs.Prelude.{ℕ, Bool, true, false, not, ◌&&◌, List, [], ◌∷◌, map, filter, count_by}
use Rattle.std.specs.Str.{bytes_eq}
use Rattle.run_model.specs.declared.tasks.Stage.{Stage}
use Rattle.run_model.specs.declared.tasks.Stage.TheVariants as stage
use Rattle.run_model.specs.declared.tasks.Task.{Task}
use Rattle.run_model.specs.Tasks.{is_interrupted}
use Rattle.console_lines.specs.declared.tallies.TaskCounts.{TaskCounts}
use Rattle.console_lines.specs.declared.tallies.JobTally.{JobTally}

-- Finished without an error.
abbrev pub is_success : Stage → Bool
is_success stage.Success = true
is_success _ = false

-- Finished with an error.
abbrev pub is_failure : Stage → Bool
is_failure (stage.Failure error) = true
is_failure _ = false

-- How many of these tasks belong to the job, and are at such a stage.
abbrev pub tasks_at : (Stage → Bool) → List ℕ → List Task → ℕ
tasks_at test job tasks = count_by (λ task. bytes_eq job task.job && test task.stage) tasks

-- How many of these tasks belong to the job, and how many of those have ended in each way.
abbrev pub counts_of : List Task → List ℕ → TaskCounts
counts_of tasks job = record {
  total = tasks_at (λ stage. true) job tasks;
  success = tasks_at is_success job tasks;
  failure = tasks_at is_failure job tasks;
  interrupted = tasks_at is_interrupted job tasks;
}

-- The jobs of these tasks, each once, in the order of their first tasks: first the job of the first
-- task, and then the other jobs.
abbrev pub jobs_of : List Task → List (List ℕ)
jobs_of [] = []
jobs_of (task ∷ tasks) = task.job ∷ filter (λ job. not (bytes_eq task.job job)) (jobs_of tasks)

-- The counts of each job.
abbrev pub tallies_of : List Task → List JobTally
tallies_of tasks = map (λ job. record { job = job; counts = counts_of tasks job }) (jobs_of tasks)
