-- The tree after each event follows from the tree before it.
use Rattle.run_model.proofs.Common.{◌≡◌, ◌<◌, ℕ, Bool, true, ◌&&◌, List, [], ◌∷◌, length, Option}
use Rattle.run_model.proofs.Common.{Some, None, not, arith, option_map_or, and_parts, leb-false}
use Rattle.run_model.proofs.Common.{ltb-true, Event, State, TreeState, WorkState, running_tasks}
use Rattle.run_model.proofs.Common.{after_cancel, group_of_task, error_of, interruption, own_scope}
use Rattle.run_model.proofs.Common.{after_group_cancel, after_task_end, allowed, refusals, has_row}
use Rattle.run_model.proofs.Common.{each_fails, is_first}
use Rattle.std.specs.List.{fold}
use Rattle.run_model.specs.declared.scopes.Kind.TheVariants as kind
use Rattle.run_model.specs.Event as event
use Rattle.run_model.specs.Step.{tree_after}
use Rattle.model_laws.proofs.Follows.{TreeFollows, tree_same, tree_joins, derive_follows}
use Rattle.model_laws.proofs.Follows.{cancel_follows, advance_follows}

-- A group that ends cancels its own scope, or nothing.
pub group_end_follows : (e : ℕ) (w : WorkState) (g : ℕ) (cause : Option (List ℕ)) (t : TreeState)
    → TreeFollows e t (after_group_cancel e w g cause t)
group_end_follows e w g cause t = by_scope (own_scope w g)
  where
    by_scope : (own : Option ℕ)
        → TreeFollows e t (option_map_or (λ s. after_cancel e s cause t) own t)
    by_scope None = tree_same e t
    by_scope (Some s) = cancel_follows e s cause t

pub task_end_follows : (e : ℕ) (w : WorkState) (n : ℕ) (error : Option (List ℕ)) (t : TreeState)
    → TreeFollows e t (after_task_end e w n error t)
task_end_follows e w n None t = tree_same e t
task_end_follows e w n (Some text) t = group_end_follows e w (group_of_task w n) (Some text) t

pub task_ends_follow : (e : ℕ) (w : WorkState) (error : Option (List ℕ)) (tasks : List ℕ)
    (t : TreeState) → TreeFollows e t (fold (λ u n. after_task_end e w n error u) t tasks)
task_ends_follow e w error [] t = tree_same e t
task_ends_follow e w error (n ∷ tasks) t =
    tree_joins e t (after_task_end e w n error t) _ (task_end_follows e w n error t)
    (task_ends_follow e w error tasks (after_task_end e w n error t))

-- The parent that a derive or a group names is there.
known : (p : State) (parent : ℕ) (rest : Bool)
    → (not (not (has_row p.tree.scopes parent)) && rest) ≡ true → parent < length p.tree.scopes
known p parent rest may = ltb-true parent _ (is_first (has_row p.tree.scopes parent) rest may)

pub event_follows : (e : ℕ) (p : State) (event : Event) → allowed p event ≡ true
    → TreeFollows e p.tree (tree_after e p event)
event_follows e p (event.Derive name parent kind) may =
    let parts = and_parts _ _ may in
    derive_follows e name parent kind p.tree (known p parent _ parts.1)
event_follows e p (event.Cancel s cause) may = cancel_follows e s cause p.tree
event_follows e p (event.Advance moment) may =
    let parts = each_fails (refusals p (event.Advance moment)) may in
    let less = leb-false moment p.tree.clock parts.0 in
    advance_follows e moment p.tree (omega arith)
event_follows e p (event.Group name parent) may =
    derive_follows e name parent kind.Group p.tree (known p parent _ may)
event_follows e p (event.Bare name s) may = tree_same e p.tree
event_follows e p (event.SetLimit g limit) may = tree_same e p.tree
event_follows e p (event.Go g job argument) may = tree_same e p.tree
event_follows e p (event.TryGo g job argument) may = tree_same e p.tree
event_follows e p (event.Retry n) may = tree_same e p.tree
event_follows e p (event.Start n) may = tree_same e p.tree
event_follows e p (event.Finish n outcome) may =
    task_end_follows e p.work n (error_of outcome) p.tree
event_follows e p (event.Wait g) may = group_end_follows e p.work g None p.tree
event_follows e p event.Restart may =
    task_ends_follow e p.work (Some interruption) (running_tasks p.work) p.tree
