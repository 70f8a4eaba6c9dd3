-- The rows of tasks, the first of which are those after a restart.
use Rattle.run_model.proofs.Common.{◌≡◌, ◌<◌, ◌≤◌, ◌+◌, ◌∷◌, [], ◌&&◌, ◌||◌, ℕ, zero, suc, cond}
use Rattle.run_model.proofs.Common.{Bool, true, false, List, length, take, Some, slice_get, refl}
use Rattle.run_model.proofs.Common.{sym, ap, ◌∙◌, arith, ◌==◌, list_any, option_map, sum_by-cons}
use Rattle.run_model.proofs.Common.{at_row, is_fresh, is_running, is_unfinished, running_count}
use Rattle.run_model.proofs.Common.{with_stage, or-false}
use Rattle.run_model.specs.declared.tasks.Stage.{Stage}
use Rattle.run_model.specs.declared.tasks.Stage.TheVariants as stage
use Rattle.run_model.specs.declared.tasks.Task.{Task}
use Rattle.task_group.proofs.Ranks.{rank, rank_cons}

-- ---- one row

-- A task that runs is interrupted.
abbrev pub interrupted_row : Task → Task
interrupted_row row = cond (is_running row.stage) (with_stage stage.Interrupted row) row

ran_by : (b : Bool) (x y : Task) → b ≡ true → cond b x y ≡ x
ran_by true x y e = refl
ran_by false x y e = absurd cc

stayed_by : (b : Bool) (x y : Task) → b ≡ false → cond b x y ≡ y
stayed_by true x y e = absurd cc
stayed_by false x y e = refl

pub ran_row : (row : Task) → is_running row.stage ≡ true
    → interrupted_row row ≡ with_stage stage.Interrupted row
ran_row row e = ran_by (is_running row.stage) _ row e

pub stayed_row : (row : Task) → is_running row.stage ≡ false → interrupted_row row ≡ row
stayed_row row e = stayed_by (is_running row.stage) _ row e

-- After a restart the unfinished tasks are those that were not started.
pub unfinished_after : (g : ℕ) (row : Task)
    → ((interrupted_row row).group == g && is_unfinished (interrupted_row row).stage)
    ≡ (row.group == g && is_fresh row.stage)
unfinished_after g row = by row.stage refl
  where
    still : (s : Stage) → row.stage ≡ s → is_running s ≡ false → is_unfinished s ≡ is_fresh s
        → ((interrupted_row row).group == g && is_unfinished (interrupted_row row).stage)
        ≡ (row.group == g && is_fresh row.stage)
    still s e idle same =
        ap (λ (t : Task). t.group == g && is_unfinished t.stage)
        (stayed_row row (ap is_running e ∙ idle))
        ∙ ap (λ (x : Stage). row.group == g && is_unfinished x) e
        ∙ ap (λ (b : Bool). row.group == g && b) same
        ∙ ap (λ (x : Stage). row.group == g && is_fresh x) (sym e)

    by : (s : Stage) → row.stage ≡ s
        → ((interrupted_row row).group == g && is_unfinished (interrupted_row row).stage)
        ≡ (row.group == g && is_fresh row.stage)
    by stage.Fresh e = still stage.Fresh e refl refl
    by stage.Running e =
        ap (λ (t : Task). t.group == g && is_unfinished t.stage) (ran_row row (ap is_running e))
        ∙ ap (λ (x : Stage). row.group == g && is_fresh x) (sym e)
    by stage.Success e = still stage.Success e refl refl
    by (stage.Failure text) e = still (stage.Failure text) e refl refl
    by stage.Interrupted e = still stage.Interrupted e refl refl

-- ---- the rows

-- The first n rows are those after a restart.
abbrev pub interrupted_to : ℕ → List Task → List Task
interrupted_to zero rows = rows
interrupted_to (suc n) [] = []
interrupted_to (suc n) (row ∷ rows) = interrupted_row row ∷ interrupted_to n rows

pub to_here : (n : ℕ) (rows : List Task) → slice_get (interrupted_to n rows) n ≡ slice_get rows n
to_here zero rows = refl
to_here (suc n) [] = refl
to_here (suc n) (row ∷ rows) = to_here n rows

-- One more is interrupted.
pub to_next : (n : ℕ) (rows : List Task) (t : Task) → slice_get rows n ≡ Some t
    → is_running t.stage ≡ true
    → at_row (with_stage stage.Interrupted) n (interrupted_to n rows) ≡ interrupted_to (suc n) rows
to_next zero [] t found runs = absurd cc
to_next (suc n) [] t found runs = absurd cc
to_next zero (row ∷ rows) t found runs =
    let is : row ≡ t = cc in
    ap (λ (x : Task). x ∷ rows)
    (sym (ran_row row (ap (λ (x : Task). is_running x.stage) is ∙ runs)))
to_next (suc n) (row ∷ rows) t found runs =
    ap (λ (l : List Task). interrupted_row row ∷ l) (to_next n rows t found runs)

-- One more stays.
pub to_over : (n : ℕ) (rows : List Task) (t : Task) → slice_get rows n ≡ Some t
    → is_running t.stage ≡ false → interrupted_to n rows ≡ interrupted_to (suc n) rows
to_over zero [] t found runs = absurd cc
to_over (suc n) [] t found runs = absurd cc
to_over zero (row ∷ rows) t found runs =
    let is : row ≡ t = cc in
    ap (λ (x : Task). x ∷ rows)
    (sym (stayed_row row (ap (λ (x : Task). is_running x.stage) is ∙ runs)))
to_over (suc n) (row ∷ rows) t found runs =
    ap (λ (l : List Task). interrupted_row row ∷ l) (to_over n rows t found runs)

-- A row before the place.
pub to_before : (n m : ℕ) (rows : List Task) → m < n
    → slice_get (interrupted_to n rows) m ≡ option_map interrupted_row (slice_get rows m)
to_before zero m rows less = absurd (omega arith)
to_before (suc n) m [] less = refl
to_before (suc n) zero (row ∷ rows) less = refl
to_before (suc n) (suc m) (row ∷ rows) less = to_before n m rows (omega arith)

-- How many of the rows before the place have a property.
pub to_rank : (p q : Task → Bool) → ((row : Task) → p (interrupted_row row) ≡ q row)
    → (n m : ℕ) (rows : List Task) → m ≤ n
    → rank p (interrupted_to n rows) m ≡ rank q rows m
to_rank p q same n zero rows le = refl
to_rank p q same zero (suc m) rows le = absurd (omega arith)
to_rank p q same (suc n) (suc m) [] le = refl
to_rank p q same (suc n) (suc m) (row ∷ rows) le =
    rank_cons p (interrupted_row row) (interrupted_to n rows) m
    ∙ ap (λ (b : Bool). cond {A = ℕ} b 1 0 + rank p (interrupted_to n rows) m) (same row)
    ∙ ap (λ (k : ℕ). cond {A = ℕ} (q row) 1 0 + k) (to_rank p q same n m rows (omega arith))
    ∙ sym (rank_cons q row rows m)

none_runs : (row : Task) (b : Bool) → is_running row.stage ≡ b
    → is_running (interrupted_row row).stage ≡ false
none_runs row true e = ap (λ (t : Task). is_running t.stage) (ran_row row e)
none_runs row false e = ap (λ (t : Task). is_running t.stage) (stayed_row row e) ∙ e

-- If all rows are passed, no task is running.
pub to_none : (n : ℕ) (rows : List Task) → length rows ≤ n
    → running_count (interrupted_to n rows) ≡ 0
to_none zero [] le = refl
to_none zero (row ∷ rows) le = absurd (omega arith)
to_none (suc n) [] le = refl
to_none (suc n) (row ∷ rows) le =
    sum_by-cons (λ (t : Task). cond {A = ℕ} (is_running t.stage) 1 0) (interrupted_row row)
    (interrupted_to n rows)
    ∙ ap (λ (b : Bool). cond {A = ℕ} b 1 0 + running_count (interrupted_to n rows))
    (none_runs row (is_running row.stage) refl)
    ∙ ap (λ (k : ℕ). 0 + k) (to_none n rows (omega arith))

-- ---- a row more

or_more : (a b c : Bool) → (a || (b || c)) ≡ ((a || b) || c)
or_more true b c = refl
or_more false b c = refl

pub any_over : (p : Task → Bool) (n : ℕ) (rows : List Task) (t : Task) → slice_get rows n ≡ Some t
    → list_any p (take (suc n) rows) ≡ (list_any p (take n rows) || p t)
any_over p n [] t found = absurd cc
any_over p zero (row ∷ rows) t found =
    let is : row ≡ t = cc in or-false (p row) ∙ ap p is
any_over p (suc n) (row ∷ rows) t found =
    ap (λ (b : Bool). p row || b) (any_over p n rows t found)
    ∙ or_more (p row) (list_any p (take n rows)) (p t)
