-- Living tries get new tasks.
use Rattle.std.specs.Prelude.{◌≡◌, ◌<◌, ◌+◌, ◌++◌, ◌∷◌, ℕ, zero, suc, List, [], length, take}
use Rattle.std.proofs.Common.{add-one, ap, arith, get_or, refl, sym, ◌∙◌}
use Rattle.std.proofs.Math.Seq.{take-suc}
use Rattle.drive_steps.specs.declared.reported.Begun.{Begun}
use Rattle.drive_runs.specs.declared.living.Living.{Living}
use Rattle.drive_runs.specs.Living.{with_task}
use Rattle.drive_runs.specs.Rebounds.{task_at, with_tasks}

tasks_more : (living : List Living) (begun : List Begun) (i : ℕ) (d : Living)
    → i < length living
    → with_tasks (take (suc i) living) begun
    ≡ with_tasks (take i living) begun
    ++ with_task (task_at begun i (get_or living i d).task) (get_or living i d) ∷ []
tasks_more [] begun i d less = absurd (omega (arith, less))
tasks_more (one ∷ living) [] zero d less = refl
tasks_more (one ∷ living) (begin ∷ begun) zero d less = refl
tasks_more (one ∷ living) [] (suc i) d less =
    ap (λ (l : List Living). one ∷ l) (take-suc living i d (omega (arith, less)))
tasks_more (one ∷ living) (begin ∷ begun) (suc i) d less =
    ap (λ (l : List Living). with_task begin.task one ∷ l)
    (tasks_more living begun i d (omega (arith, less)))

-- One try more has its new task.
pub tasks_then : (living : List Living) (begun : List Begun) (i task : ℕ) (one made : Living)
    (old new : List Living) → i < length living → one ≡ get_or living i one
    → task ≡ task_at begun i one.task → made ≡ with_task task one
    → old ≡ with_tasks (take i living) begun → new ≡ old ++ made ∷ []
    → new ≡ with_tasks (take (i + 1) living) begun
tasks_then living begun i task one made old new less at new_task is before then =
    then
    ∙ ap (λ (l : List Living). l ++ made ∷ []) before
    ∙ ap (λ (x : Living). with_tasks (take i living) begun ++ x ∷ [])
    (is ∙ ap (λ (n : ℕ). with_task n one) new_task
    ∙ ap (λ (x : Living). with_task (task_at begun i x.task) x) at)
    ∙ sym (tasks_more living begun i one less)
    ∙ ap (λ (n : ℕ). with_tasks (take n living) begun) (sym (add-one i))
