-- The part that goes on stays closed through each event that refers only to it.
use Rattle.run_model.proofs.Common.{◌≡◌, ◌+◌, ℕ, Bool, true, false, List, [], ◌∷◌, ◌++◌, length}
use Rattle.run_model.proofs.Common.{map, Option, Some, None, slice_get, inl, inr, refl, sym, subst}
use Rattle.run_model.proofs.Common.{◌∙◌, arith, option_map_or, both_ways, length-map, Event}
use Rattle.run_model.proofs.Common.{at_row, new_group, new_scope, new_task, State, TreeState}
use Rattle.run_model.proofs.Common.{WorkState, after_group_cancel, after_task_end, own_scope, step}
use Rattle.run_model.proofs.Common.{running_tasks, after_cancel, hit_due, tick, with_hit, new_hit}
use Rattle.run_model.proofs.Common.{after_end, after_interrupt, error_of, retried_row}
use Rattle.run_model.proofs.Common.{group_of_task, groups_after, interruption, stage_of}
use Rattle.run_model.proofs.Common.{with_error, with_limit, with_stage, with_wait, at_row_cases}
use Rattle.run_model.proofs.Common.{length-at_row, map_cases, push_cases}
use Rattle.std.specs.List.{fold}
use Rattle.std.proofs.lemmas.List.{length_push}
use Rattle.run_model.specs.declared.groups.Group.{Group}
use Rattle.run_model.specs.declared.scopes.Hit.{Hit}
use Rattle.run_model.specs.declared.scopes.Kind.{Kind}
use Rattle.run_model.specs.declared.scopes.Kind.TheVariants as kind
use Rattle.run_model.specs.declared.scopes.Scope.{Scope}
use Rattle.run_model.specs.declared.tasks.Stage.{Stage}
use Rattle.run_model.specs.declared.tasks.Stage.TheVariants as stage
use Rattle.run_model.specs.declared.tasks.Task.{Task}
use Rattle.run_model.specs.Event as event
use Rattle.run_model.specs.WorkChanges.{after_retry}
use Rattle.run_model.specs.declared.scopes.Reason.TheVariants.{Canceled}
use Rattle.state_renewal.specs.Renewed.{Part}
use Rattle.state_renewal.specs.PartEvents.{names_part}
use Rattle.state_renewal.proofs.Hangs.{WithGroup, WithParent, WithScope}
use Rattle.state_renewal.proofs.Goes.{Goes, GroupsGo, ScopesGo, TasksGo, WorkGoes, RowsGo}

-- ---- rows

rows_push : {X : Type 0} (goes : ℕ → Bool) (P : ℕ → X → Type 0) (rows : List X) (new : X)
    → RowsGo goes P rows → P (length rows) new → RowsGo goes P (rows ++ new ∷ [])
rows_push goes P rows new go is = record {
  later = λ n more. let long = length_push rows new in go.later n (omega (arith, more, long));
  each =
      λ n row found.
      elim (push_cases rows new n row found) [
        | inl old ↦ go.each n row old
        | inr last ↦ subst (λ k. P k row) (sym last.0) (subst (P (length rows)) (sym last.1) is)
      ];
}

rows_at : {X : Type 0} (goes : ℕ → Bool) (P : ℕ → X → Type 0) (change : X → X) (k : ℕ)
    (rows : List X) → RowsGo goes P rows → ((n : ℕ) (x : X) → P n x → P n (change x))
    → RowsGo goes P (at_row change k rows)
rows_at goes P change k rows go keeps = record {
  later =
      λ n more. let same = length-at_row change k rows in go.later n (omega (arith, more, same));
  each =
      λ n row found.
      elim (at_row_cases change k n rows row found) [
        | inl other ↦ go.each n row other.1
        | inr same ↦
            subst (P n) (sym same.changed) (keeps n same.old (go.each n same.old same.found))
      ];
}

rows_map : {X : Type 0} (goes : ℕ → Bool) (P : ℕ → X → Type 0) (change : X → X)
    (rows : List X) → RowsGo goes P rows → ((n : ℕ) (x : X) → P n x → P n (change x))
    → RowsGo goes P (map change rows)
rows_map goes P change rows go keeps = record {
  later = λ n more. let same = length-map rows change in go.later n (omega (arith, more, same));
  each =
      λ n row found.
      let old = map_cases change n rows row found in
      subst (P n) (sym old.2) (keeps n old.0 (go.each n old.0 old.1));
}

-- ---- scopes

-- What holds of a row, hit or not, holds of it once the clock has moved.
tick_is : (P : Scope → Type 0) (e clock : ℕ) (row : Scope) → P row
    → ((hit : Hit) → P (with_hit hit row)) → P (tick e clock row)
tick_is P e clock row is hit_is = by_hit (hit_due e clock row.kind)
  where
    by_hit : (o : Option Hit) → P (option_map_or (λ hit. with_hit hit row) o row)
    by_hit None = is
    by_hit (Some hit) = hit_is hit

scopes_derive : (part : Part) (e clock : ℕ) (name : List ℕ) (parent : ℕ) (k : Kind)
    (rows : List Scope) → ScopesGo part rows → part.scopes parent ≡ true
    → ScopesGo part (rows ++ tick e clock (new_scope name parent k) ∷ [])
scopes_derive part e clock name parent k rows go is =
    rows_push part.scopes (WithParent part) rows (tick e clock (new_scope name parent k)) go
    (tick_is (WithParent part (length rows)) e clock (new_scope name parent k)
    (λ below goes. is) (λ hit below goes. is))

scopes_hit : (part : Part) (hit : Hit) (s : ℕ) (rows : List Scope) → ScopesGo part rows
    → ScopesGo part (at_row (with_hit hit) s rows)
scopes_hit part hit s rows go =
    rows_at part.scopes (WithParent part) (with_hit hit) s rows go (λ n x is. is)

scopes_ended : (part : Part) (e : ℕ) (w : WorkState) (g : ℕ) (cause : Option (List ℕ))
    (t : TreeState) → ScopesGo part t.scopes
    → ScopesGo part (after_group_cancel e w g cause t).scopes
scopes_ended part e w g cause t go = by_scope (own_scope w g)
  where
    by_scope : (o : Option ℕ)
        → ScopesGo part (option_map_or (λ s. after_cancel e s cause t) o t).scopes
    by_scope None = go
    by_scope (Some s) = scopes_hit part (new_hit e t.clock Canceled cause) s t.scopes go

scopes_task : (part : Part) (e : ℕ) (w : WorkState) (n : ℕ) (error : Option (List ℕ))
    (t : TreeState) → ScopesGo part t.scopes
    → ScopesGo part (after_task_end e w n error t).scopes
scopes_task part e w n None t go = go
scopes_task part e w n (Some text) t go =
    scopes_ended part e w (group_of_task w n) (Some text) t go

scopes_tasks : (part : Part) (e : ℕ) (w : WorkState) (ns : List ℕ) (t : TreeState)
    → ScopesGo part t.scopes
    → ScopesGo part
    (fold (λ t n. after_task_end e w n (Some interruption) t) t ns).scopes
scopes_tasks part e w [] t go = go
scopes_tasks part e w (n ∷ ns) t go =
    scopes_tasks part e w ns (after_task_end e w n (Some interruption) t)
    (scopes_task part e w n (Some interruption) t go)

-- ---- groups

groups_push : (part : Part) (name : List ℕ) (s : ℕ) (b : Bool) (rows : List Group)
    → GroupsGo part rows → part.scopes s ≡ true
    → GroupsGo part (rows ++ new_group name s b ∷ [])
groups_push part name s b rows go is =
    let last = go.later (length rows) (omega arith) in
    rows_push part.groups (WithScope part) rows (new_group name s b) go
    (record {
      scope = λ goes. is;
      own = λ own goes. last;
      gone = λ gone. absurd (both_ways (part.groups (length rows)) gone last);
    })

groups_error : (part : Part) (g : ℕ) (error : Option (List ℕ)) (rows : List Group)
    → GroupsGo part rows → GroupsGo part (groups_after g error rows)
groups_error part g None rows go = go
groups_error part g (Some text) rows go =
    rows_at part.groups (WithScope part) (with_error text) g rows go
    (λ n x is. record { scope = is.scope; own = is.own; gone = is.gone })

-- ---- tasks

tasks_push : (part : Part) (new : Task) (rows : List Task) → TasksGo part rows
    → part.groups new.group ≡ true → TasksGo part (rows ++ new ∷ [])
tasks_push part new rows go is =
    rows_push part.tasks (WithGroup part) rows new go
    (go.later (length rows) (omega arith) ∙ sym is)

tasks_stage : (part : Part) (to : Stage) (n : ℕ) (rows : List Task) → TasksGo part rows
    → TasksGo part (at_row (with_stage to) n rows)
tasks_stage part to n rows go =
    rows_at part.tasks (WithGroup part) (with_stage to) n rows go (λ m x is. is)

pub work_ended : (part : Part) (n : ℕ) (to : Stage) (error : Option (List ℕ))
    (w : WorkState) → WorkGoes part w → WorkGoes part (after_end n to error w)
work_ended part n to error w go = record {
  groups = groups_error part (group_of_task w n) error w.groups go.groups;
  tasks = tasks_stage part to n w.tasks go.tasks;
}

work_interrupted : (part : Part) (ns : List ℕ) (w : WorkState) → WorkGoes part w
    → WorkGoes part (fold after_interrupt w ns)
work_interrupted part [] w go = go
work_interrupted part (n ∷ ns) w go =
    work_interrupted part ns (after_interrupt w n)
    (work_ended part n stage.Interrupted (Some interruption) w go)

work_retried : (part : Part) (n : ℕ) (w : WorkState) → part.tasks n ≡ true → WorkGoes part w
    → WorkGoes part (after_retry n w)
work_retried part n w is go = by_row (slice_get w.tasks n) refl
  where
    by_row : (o : Option Task) → slice_get w.tasks n ≡ o
        → WorkGoes part
        (option_map_or (λ row. record w { tasks = w.tasks ++ retried_row n row ∷ [] }) o w)
    by_row None at = go
    by_row (Some row) at = record {
      groups = go.groups;
      tasks =
          tasks_push part (retried_row n row) w.tasks go.tasks
          (sym (go.tasks.each n row at) ∙ is);
    }

-- ---- all events

tree_goes : (part : Part) (p : State) (e : Event) → Goes part p → names_part part e ≡ true
    → ScopesGo part (step p e).tree.scopes
tree_goes part p (event.Derive name parent k) go is =
    scopes_derive part (p.count + 1) p.tree.clock name parent k p.tree.scopes go.scopes is
tree_goes part p (event.Cancel s cause) go is =
    scopes_hit part (new_hit (p.count + 1) p.tree.clock Canceled cause) s p.tree.scopes go.scopes
tree_goes part p (event.Advance moment) go is =
    rows_map part.scopes (WithParent part) (tick (p.count + 1) moment) p.tree.scopes go.scopes
    (λ n x is. tick_is (WithParent part n) (p.count + 1) moment x is (λ hit. is))
tree_goes part p (event.Group name parent) go is =
    scopes_derive part (p.count + 1) p.tree.clock name parent kind.Group p.tree.scopes go.scopes
    is
tree_goes part p (event.Bare name s) go is = go.scopes
tree_goes part p (event.SetLimit g limit) go is = go.scopes
tree_goes part p (event.Go g job argument) go is = go.scopes
tree_goes part p (event.TryGo g job argument) go is = go.scopes
tree_goes part p (event.Retry n) go is = go.scopes
tree_goes part p (event.Start n) go is = go.scopes
tree_goes part p (event.Finish n outcome) go is =
    scopes_task part (p.count + 1) p.work n (error_of outcome) p.tree go.scopes
tree_goes part p (event.Wait g) go is =
    scopes_ended part (p.count + 1) p.work g None p.tree go.scopes
tree_goes part p event.Restart go is =
    scopes_tasks part (p.count + 1) p.work (running_tasks p.work) p.tree go.scopes

work_goes : (part : Part) (p : State) (e : Event) → Goes part p → names_part part e ≡ true
    → WorkGoes part (step p e).work
work_goes part p (event.Derive name parent k) go is = go.work
work_goes part p (event.Cancel s cause) go is = go.work
work_goes part p (event.Advance moment) go is = go.work
work_goes part p (event.Group name parent) go is = record {
  groups =
      groups_push part name (length p.tree.scopes) false p.work.groups go.work.groups
      (go.scopes.later (length p.tree.scopes) (omega arith));
  tasks = go.work.tasks;
}
work_goes part p (event.Bare name s) go is = record {
  groups = groups_push part name s true p.work.groups go.work.groups is;
  tasks = go.work.tasks;
}
work_goes part p (event.SetLimit g limit) go is = record {
  groups =
      rows_at part.groups (WithScope part) (with_limit limit) g p.work.groups go.work.groups
      (λ n x with. record { scope = with.scope; own = with.own; gone = with.gone });
  tasks = go.work.tasks;
}
work_goes part p (event.Go g job argument) go is = record {
  groups = go.work.groups;
  tasks = tasks_push part (new_task g job argument None) p.work.tasks go.work.tasks is;
}
work_goes part p (event.TryGo g job argument) go is = record {
  groups = go.work.groups;
  tasks = tasks_push part (new_task g job argument None) p.work.tasks go.work.tasks is;
}
work_goes part p (event.Retry n) go is = work_retried part n p.work is go.work
work_goes part p (event.Start n) go is = record {
  groups = go.work.groups;
  tasks = tasks_stage part stage.Running n p.work.tasks go.work.tasks;
}
work_goes part p (event.Finish n outcome) go is =
    work_ended part n (stage_of outcome) (error_of outcome) p.work go.work
work_goes part p (event.Wait g) go is = record {
  groups =
      rows_at part.groups (WithScope part) with_wait g p.work.groups go.work.groups
      (λ n x with. record { scope = with.scope; own = with.own; gone = λ goes. refl });
  tasks = go.work.tasks;
}
work_goes part p event.Restart go is =
    work_interrupted part (running_tasks p.work) p.work go.work

pub goes_still : (part : Part) (p : State) (e : Event) → Goes part p → names_part part e ≡ true
    → Goes part (step p e)
goes_still part p e go is =
    record { scopes = tree_goes part p e go is; work = work_goes part p e go is }
