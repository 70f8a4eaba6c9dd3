-- Rows that are tested one by one, with their numbers.
use Rattle.run_model.proofs.Common.{◌≡◌, ◌≤◌, ℕ, zero, suc, ◌+◌, Bool, true, false, ◌&&◌, List, []}
use Rattle.run_model.proofs.Common.{◌∷◌, length, drop, Option, Some, None, slice_get, refl, sym}
use Rattle.run_model.proofs.Common.{ap, ◌∙◌, add-one, is_none, is_some, same_Some, none-some}
use Rattle.std.proofs.lemmas.List.{drop_all}
use Rattle.run_model.proofs.Common.{not, ◌||◌, ◌==◌, unfinished_in, WorkState}
use Rattle.run_model.specs.declared.groups.Group.{Group}
use Rattle.run_model.specs.Rules.{has_task_error}
use Rattle.row_view.specs.WorkRows.{both_or_neither, each_passes, is_settled}
use Rattle.task_group.proofs.Admits.{eqb_apart}
use mathlib.Core.Bool.{beq}

passes_from : {X : Type 0} (test : ℕ → X → Bool) (n k : ℕ) (rows : List X) (row : X)
    → slice_get rows k ≡ Some row
    → each_passes test n (drop k rows)
    ≡ (test n row && each_passes test (n + 1) (drop (suc k) rows))
passes_from test n k [] row found = absurd (none-some row found)
passes_from test n zero (r ∷ rows) row found =
    ap (λ x. test n x && each_passes test (n + 1) rows) (same_Some r row found)
passes_from test n (suc k) (r ∷ rows) row found = passes_from test n k rows row found

-- The rest from row k on passes as all do, where row k does.
pub passes_on : {X : Type 0} (test : ℕ → X → Bool) (k : ℕ) (rows : List X) (row : X)
    → slice_get rows k ≡ Some row → test k row ≡ true
    → each_passes test (k + 1) (drop (k + 1) rows) ≡ each_passes test k (drop k rows)
passes_on test k rows row found passes =
    sym
    (passes_from test k k rows row found
    ∙ ap (λ b. b && each_passes test (k + 1) (drop (suc k) rows)) passes
    ∙ ap (λ m. each_passes test (k + 1) (drop m rows)) (sym (add-one k)))

pub fails_at : {X : Type 0} (test : ℕ → X → Bool) (k : ℕ) (rows : List X) (row : X)
    → slice_get rows k ≡ Some row → test k row ≡ false
    → each_passes test k (drop k rows) ≡ false
fails_at test k rows row found fails =
    passes_from test k k rows row found
    ∙ ap (λ b. b && each_passes test (k + 1) (drop (suc k) rows)) fails

pub passes_end : {X : Type 0} (test : ℕ → X → Bool) (k : ℕ) (rows : List X) → length rows ≤ k
    → each_passes test k (drop k rows) ≡ true
passes_end test k rows all = ap (each_passes test k) (drop_all k rows all)

pub is_new : {X : Type 0} (o : Option X) → is_some o ≡ false → is_none o ≡ true
is_new None e = refl
is_new (Some x) e = absurd (cc)

pub is_old : {X : Type 0} (o : Option X) → is_some o ≡ true → is_none o ≡ false
is_old None e = absurd (cc)
is_old (Some x) e = refl

-- A group that was waited for and isn't idle.
pub busy_row : (w : WorkState) (g n : ℕ) (row : Group) → row.waited ≡ true
    → n ≡ unfinished_in g w.tasks → (n ≡ 0 → ⊥) → false ≡ is_settled w g row
busy_row w g n row waited is busy =
    rw (waited, eqb_apart (unfinished_in g w.tasks) 0 (λ none. busy (is ∙ none))) refl

-- A group that was not waited for, or is idle.
pub settled_row : (w : WorkState) (g : ℕ) (row : Group) (some lost : Bool)
    → (not row.waited || unfinished_in g w.tasks == 0) ≡ true → some ≡ is_some row.error
    → lost ≡ has_task_error w g → beq some lost ≡ is_settled w g row
settled_row w g row some lost idle is e = rw (idle, ← is, ← e) (by some lost)
  where
    by : (a b : Bool) → beq a b ≡ both_or_neither a b
    by true true = refl
    by true false = refl
    by false true = refl
    by false false = refl
