-- The groups of which one of the first tasks ended in an error.
use Rattle.run_model.proofs.Common.{◌≡◌, ◌<◌, ◌≤◌, ℕ, ◌+◌, Bool, true, false, ◌||◌, ◌&&◌, List, []}
use Rattle.run_model.proofs.Common.{◌∷◌, ◌++◌, length, take, get_or, refl, sym, ap, ◌∙◌, add-one}
use Rattle.run_model.proofs.Common.{inl, inr, ◌==◌, slice_index_or, slice_set, replicate, list_any}
use Rattle.run_model.proofs.Common.{cases_eq, get_or-set_same, get_or-set_other, length-set}
use Rattle.run_model.proofs.Common.{length-replicate, take_all, list_any-append, ended_in_error}
use Rattle.run_model.proofs.Common.{and-false, or-false, or-true}
use Rattle.std.proofs.Math.Seq.{take-suc}
use Rattle.std.proofs.lemmas.List.{get_or-replicate}
use Rattle.run_model.specs.declared.bounds.TheConstants.{MOST_GROUPS}
use Rattle.run_model.specs.declared.tasks.Task.{Task}
use Rattle.task_group.proofs.Admits.{eqb_same, eqb_apart}

abbrev pub is_loss : ℕ → Task → Bool
is_loss g task = task.group == g && ended_in_error task.stage

-- The flags of all groups, by the first k tasks.
pub record AreLost (tasks : List Task) (k : ℕ) (lost : List Bool) : Type 0 where
  pub size : length lost ≡ MOST_GROUPS
  pub right : (g : ℕ) → g < MOST_GROUPS
      → slice_index_or lost g false ≡ list_any (is_loss g) (take k tasks)

pub lost_first : (tasks : List Task) → AreLost tasks 0 (replicate MOST_GROUPS false)
lost_first tasks = record {
  size = length-replicate MOST_GROUPS false;
  right = λ g within. get_or-replicate MOST_GROUPS g false false within;
}

any_more : (g k : ℕ) (tasks : List Task) (row : Task) → k < length tasks
    → row ≡ get_or tasks k row
    → list_any (is_loss g) (take (k + 1) tasks)
    ≡ (list_any (is_loss g) (take k tasks) || is_loss g row)
any_more g k tasks row less is =
    ap (list_any (is_loss g))
    (ap (λ m. take m tasks) (add-one k) ∙ take-suc tasks k row less
    ∙ ap (λ r. take k tasks ++ r ∷ []) (sym is))
    ∙ list_any-append (is_loss g) (take k tasks) (row ∷ [])
    ∙ ap (λ b. list_any (is_loss g) (take k tasks) || b) (or-false (is_loss g row))

pub lost_same : (tasks : List Task) (k : ℕ) (lost : List Bool) (row : Task)
    → AreLost tasks k lost → k < length tasks → row ≡ get_or tasks k row
    → ended_in_error row.stage ≡ false → AreLost tasks (k + 1) lost
lost_same tasks k lost row so less is ended = record {
  size = so.size;
  right = λ g within.
      so.right g within
      ∙ sym
      (any_more g k tasks row less is
      ∙ ap (λ b. list_any (is_loss g) (take k tasks) || b)
      (rw ended (and-false (row.group == g)))
      ∙ or-false _);
}

pub lost_more : (tasks : List Task) (k : ℕ) (lost : List Bool) (row : Task)
    → AreLost tasks k lost → k < length tasks → row ≡ get_or tasks k row
    → ended_in_error row.stage ≡ true → row.group < length lost
    → AreLost tasks (k + 1) (slice_set lost row.group true)
lost_more tasks k lost row so less is ended there = record {
  size = length-set lost row.group true ∙ so.size;
  right = λ g within.
      elim (cases_eq g row.group) [
        | inl same ↦
            ap (λ n. slice_index_or (slice_set lost row.group true) n false) same
            ∙ get_or-set_same lost row.group true false there
            ∙ sym
            (any_more g k tasks row less is
            ∙ ap (λ b. list_any (is_loss g) (take k tasks) || b)
            (rw (eqb_same row.group g (sym same), ended) refl)
            ∙ or-true _)
        | inr apart ↦
            get_or-set_other lost row.group g true false apart ∙ so.right g within
            ∙ sym
            (any_more g k tasks row less is
            ∙ ap (λ b. list_any (is_loss g) (take k tasks) || b)
            (rw (eqb_apart row.group g (λ e. apart (sym e))) refl)
            ∙ or-false _)
      ];
}

pub lost_all : (tasks : List Task) (k : ℕ) (lost : List Bool) → AreLost tasks k lost
    → length tasks ≤ k → (g : ℕ) → g < MOST_GROUPS
    → slice_index_or lost g false ≡ list_any (is_loss g) tasks
lost_all tasks k lost so all g within =
    so.right g within ∙ ap (list_any (is_loss g)) (take_all k tasks all)
