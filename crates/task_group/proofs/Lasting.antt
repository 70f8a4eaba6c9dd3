-- No change undoes the end of a task or the first error of a group.
use Rattle.run_model.proofs.Common.{◌≡◌, ◌++◌, ◌∷◌, [], ℕ, true, false, List, Option, Some, None}
use Rattle.run_model.proofs.Common.{slice_get, inl, inr, refl, sym, ap, ◌∙◌, option_and_then}
use Rattle.run_model.proofs.Common.{option_map, option_or, cases_eq, slice_get_within, at_row}
use Rattle.run_model.proofs.Common.{WorkState, is_running, is_unfinished, after_wait, groups_after}
use Rattle.run_model.proofs.Common.{with_error, with_stage, with_wait, slice_get-at_row_same}
use Rattle.run_model.specs.declared.groups.Group.{Group}
use Rattle.run_model.specs.declared.tasks.Stage.{Stage}
use Rattle.run_model.specs.declared.tasks.Stage.TheVariants as stage
use Rattle.run_model.specs.declared.tasks.Task.{Task}
use Rattle.task_group.specs.Lasting.{EndsStay}
use Rattle.task_group.proofs.Words.{End, finished, limited, made, started, submitted, fresh_task}
use Rattle.task_group.proofs.Words.{group_of}
use Rattle.task_group.proofs.Ranks.{at_row_there}
use Rattle.task_group.proofs.Starts.{slice_get_left}
use Rattle.task_group.proofs.Admits.{running_unfinished}

pub stay_all : (w : WorkState) → EndsStay w w
stay_all w = record { tasks = λ n row found done. found; errors = λ g text is. is }

pub stay_both : (u v w : WorkState) → EndsStay u v → EndsStay v w → EndsStay u w
stay_both u v w a b = record {
  tasks = λ n row found done. b.tasks n row (a.tasks n row found done) done;
  errors = λ g text is. b.errors g text (a.errors g text is);
}

-- ---- rows of groups

error_row : (groups : List Group) (g : ℕ) (text : List ℕ)
    → option_and_then (λ group. group.error) (slice_get groups g) ≡ Some text
    → (row : Group) × (slice_get groups g ≡ Some row) × (row.error ≡ Some text)
error_row groups g text is = by (slice_get groups g) refl is
  where
    by : (o : Option Group) → slice_get groups g ≡ o
        → option_and_then (λ group. group.error) o ≡ Some text
        → (row : Group) × (slice_get groups g ≡ Some row) × (row.error ≡ Some text)
    by None e is = absurd cc
    by (Some row) e is = (row, e, is)

-- The row of one group is changed, and keeps an error that it has.
errors_at : (change : Group → Group) (h : ℕ) (groups : List Group)
    → ((row : Group) (text : List ℕ) → row.error ≡ Some text → (change row).error ≡ Some text)
    → (g : ℕ) (text : List ℕ)
    → option_and_then (λ group. group.error) (slice_get groups g) ≡ Some text
    → option_and_then (λ group. group.error) (slice_get (at_row change h groups) g) ≡ Some text
errors_at change h groups keeps g text is =
    let row = error_row groups g text is in
    elim (cases_eq g h) [
      | inl same ↦
          rw same
          (ap (λ (o : Option Group). option_and_then (λ group. group.error) o)
          (slice_get-at_row_same change h groups
          ∙ ap (option_map change) (ap (slice_get groups) (sym same) ∙ row.1))
          ∙ keeps row.0 text row.2)
      | inr apart ↦
          ap (λ (o : Option Group). option_and_then (λ group. group.error) o)
          (at_row_there change h groups g apart)
          ∙ is
    ]

errors_pushed : (groups : List Group) (new : Group) (g : ℕ) (text : List ℕ)
    → option_and_then (λ group. group.error) (slice_get groups g) ≡ Some text
    → option_and_then (λ group. group.error) (slice_get (groups ++ new ∷ []) g) ≡ Some text
errors_pushed groups new g text is =
    let row = error_row groups g text is in
    ap (λ (o : Option Group). option_and_then (λ group. group.error) o)
    (slice_get_left groups (new ∷ []) g (slice_get_within groups g row.0 row.1))
    ∙ is

-- ---- rows of tasks

-- The stage of a task that has not ended is changed.
tasks_at : (s : Stage) (n : ℕ) (tasks : List Task) (t : Task) → slice_get tasks n ≡ Some t
    → is_unfinished t.stage ≡ true → (m : ℕ) (row : Task) → slice_get tasks m ≡ Some row
    → is_unfinished row.stage ≡ false → slice_get (at_row (with_stage s) n tasks) m ≡ Some row
tasks_at s n tasks t here going m row found done =
    elim (cases_eq m n) [
      | inl same ↦
          (let both : Some t ≡ Some row = sym here ∙ ap (slice_get tasks) (sym same) ∙ found in
          let is : t ≡ row = cc in
          let on : is_unfinished row.stage ≡ true =
          ap (λ (r : Task). is_unfinished r.stage) (sym is) ∙ going in
          absurd cc)
      | inr apart ↦ at_row_there (with_stage s) n tasks m apart ∙ found
    ]

-- ---- each change

pub stay_make : (w : WorkState) (new : Group) → EndsStay w (made new w)
stay_make w new = record {
  tasks = λ n row found done. found;
  errors = λ g text is. errors_pushed w.groups new g text is;
}

pub stay_limit : (w : WorkState) (h : ℕ) (limit : Option ℕ) → EndsStay w (limited h limit w)
stay_limit w h limit = record {
  tasks = λ n row found done. found;
  errors =
      λ g text is.
      errors_at (λ row. record row { limit = limit }) h w.groups (λ row t e. e) g text is;
}

pub stay_wait : (w : WorkState) (h : ℕ) → EndsStay w (after_wait h w)
stay_wait w h = record {
  tasks = λ n row found done. found;
  errors = λ g text is. errors_at with_wait h w.groups (λ row t e. e) g text is;
}

pub stay_go : (w : WorkState) (g : ℕ) (job argument : List ℕ) (tried : Option ℕ)
    → EndsStay w (submitted g job argument tried w)
stay_go w g job argument tried = record {
  tasks =
      λ n row found done.
      slice_get_left w.tasks (fresh_task g job argument tried ∷ []) n
      (slice_get_within w.tasks n row found)
      ∙ found;
  errors = λ h text is. is;
}

pub stay_start : (w : WorkState) (n : ℕ) (t : Task) → slice_get w.tasks n ≡ Some t
    → is_unfinished t.stage ≡ true → EndsStay w (started n w)
stay_start w n t here going = record {
  tasks = λ m row found done. tasks_at stage.Running n w.tasks t here going m row found done;
  errors = λ g text is. is;
}

or_else_has : (o : Option (List ℕ)) (x text : List ℕ) → o ≡ Some text
    → option_or o (Some x) ≡ Some text
or_else_has None x text e = absurd cc
or_else_has (Some y) x text e = e

errors_after : (error : Option (List ℕ)) (h : ℕ) (groups : List Group) (g : ℕ) (text : List ℕ)
    → option_and_then (λ group. group.error) (slice_get groups g) ≡ Some text
    → option_and_then (λ group. group.error) (slice_get (groups_after h error groups) g)
    ≡ Some text
errors_after None h groups g text is = is
errors_after (Some x) h groups g text is =
    errors_at (with_error x) h groups (λ row t e. or_else_has row.error x t e) g text is

pub stay_end : (w : WorkState) (n : ℕ) (o : End) (t : Task) → slice_get w.tasks n ≡ Some t
    → is_running t.stage ≡ true → EndsStay w (finished n o w)
stay_end w n o t here run = record {
  tasks =
      λ m row found done.
      tasks_at o.stage n w.tasks t here (running_unfinished t.stage run) m row found done;
  errors = λ g text is. errors_after o.error (group_of w n) w.groups g text is;
}
