-- Each event whose own fields are in range leaves each row typed.
use Rattle.run_model.proofs.Common.{◌≡◌, ℕ, ◌+◌, ◌∷◌, [], ◌++◌, Bool, true, false, List, fold}
use Rattle.run_model.proofs.Common.{Option, Some, None, slice_get, refl, subst, length, list_all}
use Rattle.run_model.proofs.Common.{option_map_or, IsTrue, and_parts, same_Some, cond_some}
use Rattle.run_model.proofs.Common.{option_and_then_some, allowed, after, run, Event, reason_text}
use Rattle.run_model.proofs.Common.{is_moment, is_optional_text, is_outcome, is_recorded_kind}
use Rattle.run_model.proofs.Common.{is_row_number, is_limit, new_scope, new_group, new_task}
use Rattle.run_model.proofs.Common.{at_row, is_root, State, TreeState, WorkState, step, own_scope}
use Rattle.run_model.proofs.Common.{after_task_end, running_tasks, is_name, after_derive}
use Rattle.run_model.proofs.Common.{after_cancel, after_advance, with_hit, tick, new_hit}
use Rattle.run_model.proofs.Common.{after_make, after_limit, after_end, retried_row}
use Rattle.run_model.proofs.Common.{after_interrupt, after_wait, groups_after, with_limit}
use Rattle.run_model.proofs.Common.{with_wait, with_stage, with_error, stage_of, error_of}
use Rattle.run_model.proofs.Common.{group_of_task, interruption}
use Rattle.run_model.specs.declared.scopes.Kind.{Kind}
use Rattle.run_model.specs.declared.scopes.Kind.TheVariants as kind
use Rattle.run_model.specs.declared.scopes.Reason.TheVariants.{Canceled}
use Rattle.run_model.specs.declared.tasks.Outcome.{Outcome}
use Rattle.run_model.specs.declared.tasks.Outcome.TheVariants as outcome
use Rattle.run_model.specs.declared.tasks.Stage.{Stage}
use Rattle.run_model.specs.declared.tasks.Stage.TheVariants as stage
use Rattle.run_model.specs.declared.tasks.Task.{Task}
use Rattle.run_model.specs.Event as event
use Rattle.row_view.specs.Image.{is_kept_kind, is_kept_stage}
use Rattle.scope_tree.specs.Ranges.{has_ranges, HaveRanges}
use Rattle.scope_tree.proofs.RowRanges.{IsTypedScope, IsTypedGroup, IsTypedTask, Each, each_pushed}
use Rattle.scope_tree.proofs.RowRanges.{each_at, each_mapped, hit_typed, tick_typed, text_typed}
use Rattle.scope_tree.proofs.RowRanges.{reason_typed, error_typed, stage_typed}

pub record IsTypedTree (t : TreeState) : Type 0 where
  pub clock : IsTrue (is_moment t.clock)
  pub scopes : Each IsTypedScope t.scopes

pub record IsTypedWork (w : WorkState) : Type 0 where
  pub groups : Each IsTypedGroup w.groups
  pub tasks : Each IsTypedTask w.tasks

pub record IsTyped (p : State) : Type 0 where
  pub tree : IsTypedTree p.tree
  pub work : IsTypedWork p.work

-- ---- the tree

derived : (e : ℕ) (name : List ℕ) (parent : ℕ) (of : Kind) (t : TreeState) → IsTrue (is_name name)
    → (is_root of ≡ false → IsTrue (is_kept_kind of)) → IsTypedTree t
    → IsTypedTree (after_derive e name parent of t)
derived e name parent of t named kept typed = record {
  clock = typed.clock;
  scopes =
      each_pushed IsTypedScope t.scopes (tick e t.clock (new_scope name parent of)) typed.scopes
      (tick_typed e t.clock (new_scope name parent of)
      (record { name = named; kind = kept; cause = λ hit has. absurd (none_has hit has) }));
}
  where
    none_has : {X : Type 0} (x : X) → None ≡ Some x → ⊥
    none_has x e = absurd (cc)

cancelled : (e s : ℕ) (cause : Option (List ℕ)) (t : TreeState) → IsTrue (is_optional_text cause)
    → IsTypedTree t → IsTypedTree (after_cancel e s cause t)
cancelled e s cause t is typed = record {
  clock = typed.clock;
  scopes =
      each_at IsTypedScope (with_hit (new_hit e t.clock Canceled cause)) s t.scopes typed.scopes
      (λ row ok.
      hit_typed (new_hit e t.clock Canceled cause) row
      (text_typed cause (reason_text Canceled) is (reason_typed Canceled)) ok);
}

advanced : (e moment : ℕ) (t : TreeState) → IsTrue (is_moment moment) → IsTypedTree t
    → IsTypedTree (after_advance e moment t)
advanced e moment t is typed = record {
  clock = is;
  scopes =
      each_mapped IsTypedScope (tick e moment) t.scopes typed.scopes
      (λ row ok. tick_typed e moment row ok);
}

cancelled_in : (e : ℕ) (o : Option ℕ) (cause : Option (List ℕ)) (t : TreeState)
    → IsTrue (is_optional_text cause) → IsTypedTree t
    → IsTypedTree (option_map_or (λ s. after_cancel e s cause t) o t)
cancelled_in e None cause t is typed = typed
cancelled_in e (Some s) cause t is typed = cancelled e s cause t is typed

ended : (e : ℕ) (w : WorkState) (n : ℕ) (error : Option (List ℕ)) (t : TreeState)
    → IsTrue (is_optional_text error) → IsTypedTree t → IsTypedTree (after_task_end e w n error t)
ended e w n None t is typed = typed
ended e w n (Some text) t is typed =
    cancelled_in e (own_scope w (group_of_task w n)) (Some text) t is typed

all_ended : (e : ℕ) (w : WorkState) (ns : List ℕ) (t : TreeState) → IsTypedTree t
    → IsTypedTree (fold (λ t n. after_task_end e w n (Some interruption) t) t ns)
all_ended e w [] t typed = typed
all_ended e w (n ∷ ns) t typed =
    all_ended e w ns (after_task_end e w n (Some interruption) t)
    (ended e w n (Some interruption) t refl typed)

-- ---- the work

made : (name : List ℕ) (scope : ℕ) (bare : Bool) (w : WorkState) → IsTrue (is_name name)
    → IsTypedWork w → IsTypedWork (after_make name scope bare w)
made name scope bare w named typed = record {
  groups =
      each_pushed IsTypedGroup w.groups (new_group name scope bare) typed.groups
      (record { name = named; limit = refl; error = refl });
  tasks = typed.tasks;
}

limited : (g : ℕ) (limit : Option ℕ) (w : WorkState) → IsTrue (is_limit limit) → IsTypedWork w
    → IsTypedWork (after_limit g limit w)
limited g limit w is typed = record {
  groups =
      each_at IsTypedGroup (with_limit limit) g w.groups typed.groups
      (λ row ok. record { name = ok.name; limit = is; error = ok.error });
  tasks = typed.tasks;
}

submitted : (w : WorkState) (new : Task) → IsTypedTask new → IsTypedWork w
    → IsTypedWork (record w { tasks = w.tasks ++ new ∷ [] })
submitted w new ok typed =
    record { groups = typed.groups; tasks = each_pushed IsTypedTask w.tasks new typed.tasks ok }

retried : (n : ℕ) (w : WorkState) (o : Option Task)
    → ((row : Task) → o ≡ Some row → IsTypedTask row) → IsTypedWork w
    → IsTypedWork
    (option_map_or (λ row. record w { tasks = w.tasks ++ retried_row n row ∷ [] }) o w)
retried n w None was typed = typed
retried n w (Some row) was typed =
    let old = was row refl in
    submitted w (retried_row n row)
    (record { job = old.job; argument = old.argument; stage = refl })
    typed

staged : (n : ℕ) (to : Stage) (w : WorkState) → IsTrue (is_kept_stage to) → IsTypedWork w
    → Each IsTypedTask (at_row (with_stage to) n w.tasks)
staged n to w is typed =
    each_at IsTypedTask (with_stage to) n w.tasks typed.tasks
    (λ row ok. stage_typed to row is ok)

errors : (g : ℕ) (error : Option (List ℕ)) (w : WorkState) → IsTrue (is_optional_text error)
    → IsTypedWork w → Each IsTypedGroup (groups_after g error w.groups)
errors g None w is typed = typed.groups
errors g (Some text) w is typed =
    each_at IsTypedGroup (with_error text) g w.groups typed.groups
    (λ row ok. error_typed text row is ok)

finished : (n : ℕ) (to : Stage) (error : Option (List ℕ)) (w : WorkState)
    → IsTrue (is_kept_stage to) → IsTrue (is_optional_text error) → IsTypedWork w
    → IsTypedWork (after_end n to error w)
finished n to error w is ok typed = record {
  groups = errors (group_of_task w n) error w ok typed;
  tasks = staged n to w is typed;
}

all_interrupted : (ns : List ℕ) (w : WorkState) → IsTypedWork w
    → IsTypedWork (fold after_interrupt w ns)
all_interrupted [] w typed = typed
all_interrupted (n ∷ ns) w typed =
    all_interrupted ns (after_interrupt w n)
    (finished n stage.Interrupted (Some interruption) w refl refl typed)

waited : (g : ℕ) (w : WorkState) → IsTypedWork w → IsTypedWork (after_wait g w)
waited g w typed = record {
  groups =
      each_at IsTypedGroup with_wait g w.groups typed.groups
      (λ row ok. record { name = ok.name; limit = ok.limit; error = ok.error });
  tasks = typed.tasks;
}

-- ---- events

recorded_kept : (of : Kind) → IsTrue (is_recorded_kind of) → IsTrue (is_kept_kind of)
recorded_kept kind.Root is = is
recorded_kept kind.Cancel is = is
recorded_kept kind.Cause is = is
recorded_kept (kind.Deadline moment cause) is = is
recorded_kept (kind.Value key text) is = is
recorded_kept kind.Detached is = is
recorded_kept kind.Group is = refl

stage_by : (result : Outcome) → IsTrue (is_outcome result)
    → IsTrue (is_kept_stage (stage_of result))
stage_by outcome.Success is = refl
stage_by (outcome.Failure text) is = is

error_by : (result : Outcome) → IsTrue (is_outcome result)
    → IsTrue (is_optional_text (error_of result))
error_by outcome.Success is = refl
error_by (outcome.Failure text) is = is

tree_typed : (p : State) (event : Event) → IsTrue (has_ranges event) → IsTyped p
    → IsTypedTree (step p event).tree
tree_typed p (event.Derive name parent of) is typed =
    let last = and_parts _ (is_recorded_kind of) is in
    derived (p.count + 1) name parent of p.tree (and_parts (is_name name) _ last.0).0
    (λ other. recorded_kept of last.1) typed.tree
tree_typed p (event.Cancel s cause) is typed =
    cancelled (p.count + 1) s cause p.tree (and_parts (is_row_number s) _ is).1 typed.tree
tree_typed p (event.Advance moment) is typed = advanced (p.count + 1) moment p.tree is typed.tree
tree_typed p (event.Group name parent) is typed =
    derived (p.count + 1) name parent kind.Group p.tree (and_parts (is_name name) _ is).0
    (λ other. refl) typed.tree
tree_typed p (event.Bare name s) is typed = typed.tree
tree_typed p (event.SetLimit g limit) is typed = typed.tree
tree_typed p (event.Go g job argument) is typed = typed.tree
tree_typed p (event.TryGo g job argument) is typed = typed.tree
tree_typed p (event.Retry n) is typed = typed.tree
tree_typed p (event.Start n) is typed = typed.tree
tree_typed p (event.Finish n result) is typed =
    ended (p.count + 1) p.work n (error_of result) p.tree
    (error_by result (and_parts (is_row_number n) _ is).1) typed.tree
tree_typed p (event.Wait g) is typed =
    cancelled_in (p.count + 1) (own_scope p.work g) None p.tree refl typed.tree
tree_typed p event.Restart is typed =
    all_ended (p.count + 1) p.work (running_tasks p.work) p.tree typed.tree

work_typed : (p : State) (event : Event) → IsTrue (has_ranges event) → IsTyped p
    → IsTypedWork (step p event).work
work_typed p (event.Derive name parent of) is typed = typed.work
work_typed p (event.Cancel s cause) is typed = typed.work
work_typed p (event.Advance moment) is typed = typed.work
work_typed p (event.Group name parent) is typed =
    made name (length p.tree.scopes) _ p.work (and_parts (is_name name) _ is).0 typed.work
work_typed p (event.Bare name s) is typed =
    made name s true p.work (and_parts (is_name name) _ is).0 typed.work
work_typed p (event.SetLimit g limit) is typed =
    limited g limit p.work (and_parts (is_row_number g) _ is).1 typed.work
work_typed p (event.Go g job argument) is typed =
    let last = and_parts _ (is_name argument) is in
    submitted p.work (new_task g job argument None)
    (record {
      job = (and_parts (is_row_number g) (is_name job) last.0).1;
      argument = last.1;
      stage = refl;
    }) typed.work
work_typed p (event.TryGo g job argument) is typed =
    let last = and_parts _ (is_name argument) is in
    submitted p.work (new_task g job argument None)
    (record {
      job = (and_parts (is_row_number g) (is_name job) last.0).1;
      argument = last.1;
      stage = refl;
    }) typed.work
work_typed p (event.Retry n) is typed =
    retried n p.work (slice_get p.work.tasks n) (typed.work.tasks n) typed.work
work_typed p (event.Start n) is typed =
    record { groups = typed.work.groups; tasks = staged n stage.Running p.work refl typed.work }
work_typed p (event.Finish n result) is typed =
    let ok = (and_parts (is_row_number n) _ is).1 in
    finished n (stage_of result) (error_of result) p.work (stage_by result ok) (error_by result ok)
    typed.work
work_typed p (event.Wait g) is typed = waited g p.work typed.work
work_typed p event.Restart is typed =
    all_interrupted (running_tasks p.work) p.work typed.work

pub typed_after : (p q : State) (event : Event) → IsTrue (has_ranges event) → IsTyped p
    → after p event ≡ Some q → IsTyped q
typed_after p q event is typed led =
    let parts = cond_some (allowed p event) (step p event) q led in
    subst IsTyped parts.1
    (record { tree = tree_typed p event is typed; work = work_typed p event is typed })

pub typed_run : (events : List Event) (p q : State) → HaveRanges events → IsTyped p
    → run p events ≡ Some q → IsTyped q
typed_run [] p q is typed led = subst IsTyped (same_Some p q led) typed
typed_run (event ∷ events) p q is typed led =
    let parts = and_parts (has_ranges event) (list_all has_ranges events) is in
    option_and_then_some (λ next. run next events) (after p event) q led
    (λ next first rest.
    typed_run events next q parts.1 (typed_after p next event parts.0 typed first) rest)
