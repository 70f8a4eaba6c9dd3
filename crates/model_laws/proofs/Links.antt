-- A retry names an interrupted task with a lower number, and is the only retry of it.
use Rattle.run_model.proofs.Common.{◌≡◌, ℕ, true, false, [], ◌∷◌, ◌++◌, length, Some, slice_get}
use Rattle.run_model.proofs.Common.{inl, inr, refl, sym, ap, subst, ◌∙◌, ◌==◌, option_map_or}
use Rattle.run_model.proofs.Common.{both_ways, eq-eqb, slice_get_within, AreLinked, IsRetry}
use Rattle.run_model.proofs.Common.{HasRow, WorkState, is_retried, is_retry_of, push_cases}
use Rattle.run_model.proofs.Common.{slice_get-push_left, any_passes_from_place}
use Rattle.run_model.specs.declared.tasks.Task.{Task}
use Rattle.model_laws.proofs.Shapes.{AreAlike, alike_same, IsSameTask, task_same}

pub links_kept : (v w : WorkState) → AreAlike IsSameTask v.tasks w.tasks → AreLinked v
    → AreLinked w
links_kept v w tasks old = record {
  linked =
      λ n m row found link.
      let was = tasks.back n row found in
      let of = old.linked n m was.0 was.1 (sym was.2.retry_of ∙ link) in
      let now = tasks.forth m of.0 of.1 in (
        now.0,
        now.1,
        record {
          before = of.2.before;
          interrupted = now.2.interrupted of.2.interrupted;
          group = was.2.group ∙ of.2.group ∙ sym now.2.group;
          job = was.2.job ∙ of.2.job ∙ sym now.2.job;
          argument = was.2.argument ∙ of.2.argument ∙ sym now.2.argument;
        },
      );
  once =
      λ n k m a b found_a found_b link_a link_b.
      let x = tasks.back n a found_a in
      let y = tasks.back k b found_b in
      old.once n k m x.0 y.0 x.1 y.1 (sym x.2.retry_of ∙ link_a) (sym y.2.retry_of ∙ link_b);
}

-- A change that leaves the tasks as they are.
pub links_beside : (v w : WorkState) → w.tasks ≡ v.tasks → AreLinked v → AreLinked w
links_beside v w same old =
    links_kept v w (rw same (alike_same IsSameTask v.tasks task_same)) old

pub retried_by : (w : WorkState) (n m : ℕ) (row : Task) → HasRow w.tasks n row
    → row.retry_of ≡ Some m
    → is_retried w m ≡ true
retried_by w n m row found link =
    any_passes_from_place (is_retry_of m) w.tasks n row found
    (ap (λ o. option_map_or (λ k. k == m) o false) link ∙ eq-eqb m m refl)

-- One more task, which may be the retry of a task that wasn't retried before.
pub links_pushed : (w : WorkState) (new : Task)
    → ((m : ℕ) → new.retry_of ≡ Some m
    → (old : Task) × HasRow w.tasks m old × IsRetry (length w.tasks) new m old)
    → ((m : ℕ) → new.retry_of ≡ Some m → is_retried w m ≡ false) → AreLinked w
    → AreLinked (record w { tasks = w.tasks ++ new ∷ [] })
links_pushed w new fits fresh old = record {
  linked =
      λ n m row found link.
      elim (push_cases w.tasks new n row found) [
        | inl was ↦
            let of = old.linked n m row was link in (of.0, there m of.0 of.1, of.2)
        | inr last ↦
            let of = fits m (ap (λ r. r.retry_of) (sym last.1) ∙ link) in (
              of.0,
              there m of.0 of.1,
              subst (λ x. IsRetry n x m of.0) (sym last.1)
                  (subst (λ k. IsRetry k new m of.0) (sym last.0) of.2),
            )
      ];
  once =
      λ n k m a b found_a found_b link_a link_b.
      elim (push_cases w.tasks new n a found_a) [
        | inl x ↦
            elim (push_cases w.tasks new k b found_b) [
              | inl y ↦ old.once n k m a b x y link_a link_b
              | inr y ↦ twice n m a x link_a (ap (λ r. r.retry_of) (sym y.1) ∙ link_b)
            ]
        | inr x ↦
            elim (push_cases w.tasks new k b found_b) [
              | inl y ↦ twice k m b y link_b (ap (λ r. r.retry_of) (sym x.1) ∙ link_a)
              | inr y ↦ x.0 ∙ sym y.0
            ]
      ];
}
  where
    there : (m : ℕ) (row : Task) → HasRow w.tasks m row
        → slice_get (w.tasks ++ new ∷ []) m ≡ Some row
    there m row found =
        slice_get-push_left w.tasks new m (slice_get_within w.tasks m row found) ∙ found

    twice : {X : Type 0} (n m : ℕ) (row : Task) → HasRow w.tasks n row → row.retry_of ≡ Some m
        → new.retry_of ≡ Some m → X
    twice n m row found link again =
        absurd (both_ways (is_retried w m) (fresh m again) (retried_by w n m row found link))
