-- An event changes the part that goes on in the same way as the whole state.
use Rattle.run_model.proofs.Common.{◌≡◌, ◌+◌, ℕ, true, false, List, [], ◌∷◌, length, map, Some}
use Rattle.run_model.proofs.Common.{None, refl, ap, ◌∙◌, arith, AllByRecursion, Event}
use Rattle.run_model.proofs.Common.{IsConsistent, State, TreeState, WorkState, after_task_end}
use Rattle.run_model.proofs.Common.{step, running_tasks, after_interrupt, after_make, error_of}
use Rattle.run_model.proofs.Common.{interruption, stage_of}
use Rattle.std.specs.List.{fold}
use Rattle.run_model.specs.declared.scopes.Kind.TheVariants as kind
use Rattle.run_model.specs.declared.tasks.Stage.TheVariants as stage
use Rattle.run_model.specs.Event as event
use Rattle.run_model.specs.Step.{tree_after, work_after}
use Rattle.state_renewal.specs.Renewed.{
  new_number,
  Part,
  scope_renumbered,
  state_renumbered,
  tree_renumbered,
}
use Rattle.state_renewal.specs.Renewed.{work_renumbered}
use Rattle.state_renewal.specs.PartEvents.{event_renumbered, names_part}
use Rattle.state_renewal.proofs.Goes.{Goes, WorkGoes, hangs}
use Rattle.state_renewal.proofs.GoesStill.{work_ended}
use Rattle.state_renewal.proofs.RowsRenumbered.{length-renumbered}
use Rattle.state_renewal.proofs.Squares.{
  advance_renumbered,
  cancel_renumbered,
  derive_renumbered,
  end_renumbered,
}
use Rattle.state_renewal.proofs.Squares.{
  ended_renumbered,
  go_renumbered,
  limit_renumbered,
  make_renumbered,
  retry_renumbered,
}
use Rattle.state_renewal.proofs.Squares.{stage_renumbered, task_end_renumbered, wait_renumbered}
use Rattle.state_renewal.proofs.Works.{all_running_go, running_renumbered}

-- ---- a restart

tasks_end_renumbered : (part : Part) (e : ℕ) (w : WorkState) (ns : List ℕ) (t : TreeState)
    → WorkGoes part w → AllByRecursion (λ n. part.tasks n ≡ true) ns
    → fold (λ t n. after_task_end e (work_renumbered part w) n (Some interruption) t)
    (tree_renumbered part t) (map (new_number part.tasks) ns)
    ≡ tree_renumbered part (fold (λ t n. after_task_end e w n (Some interruption) t) t ns)
tasks_end_renumbered part e w [] t go all = refl
tasks_end_renumbered part e w (n ∷ ns) t go all =
    ap (λ u. fold (λ t n. after_task_end e (work_renumbered part w) n (Some interruption) t) u
    (map (new_number part.tasks) ns))
    (task_end_renumbered part e w n (Some interruption) t go all.0)
    ∙ tasks_end_renumbered part e w ns (after_task_end e w n (Some interruption) t) go all.1

interrupts_renumbered : (part : Part) (ns : List ℕ) (w : WorkState) → WorkGoes part w
    → AllByRecursion (λ n. part.tasks n ≡ true) ns
    → fold after_interrupt (work_renumbered part w) (map (new_number part.tasks) ns)
    ≡ work_renumbered part (fold after_interrupt w ns)
interrupts_renumbered part [] w go all = refl
interrupts_renumbered part (n ∷ ns) w go all =
    ap (λ v. fold after_interrupt v (map (new_number part.tasks) ns))
    (end_renumbered part n stage.Interrupted (Some interruption) w go all.0)
    ∙ interrupts_renumbered part ns (after_interrupt w n)
    (work_ended part n stage.Interrupted (Some interruption) w go) all.1

-- ---- all events

tree_step : (part : Part) (p : State) (e : Event) → IsConsistent p → Goes part p
    → names_part part e ≡ true
    → tree_after (p.count + 1) (state_renumbered part p) (event_renumbered part e)
    ≡ tree_renumbered part (tree_after (p.count + 1) p e)
tree_step part p (event.Derive name parent k) consistent go is =
    derive_renumbered part (p.count + 1) name parent k p.tree
    (go.scopes.later (length p.tree.scopes) (omega arith))
tree_step part p (event.Cancel s cause) consistent go is =
    cancel_renumbered part (p.count + 1) s cause p.tree is
tree_step part p (event.Advance moment) consistent go is =
    advance_renumbered part (p.count + 1) moment p.tree
tree_step part p (event.Group name parent) consistent go is =
    derive_renumbered part (p.count + 1) name parent kind.Group p.tree
    (go.scopes.later (length p.tree.scopes) (omega arith))
tree_step part p (event.Bare name s) consistent go is = refl
tree_step part p (event.SetLimit g limit) consistent go is = refl
tree_step part p (event.Go g job argument) consistent go is = refl
tree_step part p (event.TryGo g job argument) consistent go is = refl
tree_step part p (event.Retry n) consistent go is = refl
tree_step part p (event.Start n) consistent go is = refl
tree_step part p (event.Finish n outcome) consistent go is =
    task_end_renumbered part (p.count + 1) p.work n (error_of outcome) p.tree go.work is
tree_step part p (event.Wait g) consistent go is =
    ended_renumbered part (p.count + 1) p.work g None p.tree go.work.groups is
tree_step part p event.Restart consistent go is =
    ap (fold (λ t n. after_task_end (p.count + 1) (work_renumbered part p.work) n
    (Some interruption) t)
    (tree_renumbered part p.tree)) (running_renumbered part p consistent (hangs part p go).work)
    ∙ tasks_end_renumbered part (p.count + 1) p.work (running_tasks p.work) p.tree go.work
    (all_running_go part p consistent (hangs part p go).work)

work_step : (part : Part) (p : State) (e : Event) → IsConsistent p → Goes part p
    → names_part part e ≡ true
    → work_after (state_renumbered part p) (event_renumbered part e) ≡ work_renumbered part
    (work_after p e)
work_step part p (event.Derive name parent k) consistent go is = refl
work_step part p (event.Cancel s cause) consistent go is = refl
work_step part p (event.Advance moment) consistent go is = refl
work_step part p (event.Group name parent) consistent go is =
    ap (λ s. after_make name s false (work_renumbered part p.work))
    (length-renumbered part.scopes (scope_renumbered part) p.tree.scopes)
    ∙ make_renumbered part name (length p.tree.scopes) false p.work
    (go.work.groups.later (length p.work.groups) (omega arith))
work_step part p (event.Bare name s) consistent go is =
    make_renumbered part name s true p.work
    (go.work.groups.later (length p.work.groups) (omega arith))
work_step part p (event.SetLimit g limit) consistent go is = limit_renumbered part g limit p.work is
work_step part p (event.Go g job argument) consistent go is =
    go_renumbered part g job argument p.work
    (go.work.tasks.later (length p.work.tasks) (omega arith))
work_step part p (event.TryGo g job argument) consistent go is =
    go_renumbered part g job argument p.work
    (go.work.tasks.later (length p.work.tasks) (omega arith))
work_step part p (event.Retry n) consistent go is =
    retry_renumbered part n p.work (go.work.tasks.later (length p.work.tasks) (omega arith)) is
work_step part p (event.Start n) consistent go is = stage_renumbered part n stage.Running p.work is
work_step part p (event.Finish n outcome) consistent go is =
    end_renumbered part n (stage_of outcome) (error_of outcome) p.work go.work is
work_step part p (event.Wait g) consistent go is = wait_renumbered part g p.work is
work_step part p event.Restart consistent go is =
    ap (fold after_interrupt (work_renumbered part p.work))
    (running_renumbered part p consistent (hangs part p go).work)
    ∙ interrupts_renumbered part (running_tasks p.work) p.work go.work
    (all_running_go part p consistent (hangs part p go).work)

-- The state of this count, tree and work.
abbrev state_of : ℕ → TreeState → WorkState → State
state_of count tree work = record { count = count; tree = tree; work = work }

pub step_renumbered : (part : Part) (p : State) (e : Event) → IsConsistent p → Goes part p
    → names_part part e ≡ true
    → step (state_renumbered part p) (event_renumbered part e) ≡ state_renumbered part (step p e)
step_renumbered part p e consistent go is =
    ap (λ t. state_of (p.count + 1) t
    (work_after (state_renumbered part p) (event_renumbered part e)))
    (tree_step part p e consistent go is)
    ∙ ap (state_of (p.count + 1) (tree_renumbered part (tree_after (p.count + 1) p e)))
    (work_step part p e consistent go is)
