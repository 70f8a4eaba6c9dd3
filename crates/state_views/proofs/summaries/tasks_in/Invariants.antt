use Rattle.std.specs.Option.{option_map_or}
use Rattle.std.specs.Prelude.{◌≡◌, ◌≤◌, false}
use Rattle.run_model.specs.Questions.{task_look_of}
use Rattle.state_views.specs.Inspected.{count_below}
use Rattle.state_views.specs.Summaries.{is_in_phase}
use Rattle.state_views.proofs.summaries.tasks_in.Given as goal

-- So many of the first ones are.
abbrev pub invariant-loop-number : goal.invariant-loop-number
invariant-loop-number g l =
    (l.count ≡ count_below (λ n. option_map_or (is_in_phase l.group l.word)
    (task_look_of l.state n) false) l.number) × (l.count ≤ l.number)
