-- The row of a task about which a question is answered.
use Rattle.std.specs.Prelude.{◌≡◌, ◌+◌, ℕ, [], ◌∷◌, ◌++◌, take}
use Rattle.std.specs.Prelude.{Option, Some, None, slice_get}
use Rattle.std.specs.Option.{option_map}
use Rattle.std.proofs.Common.{refl, ap, sym, ◌∙◌, arith}
use Rattle.std.proofs.lemmas.List.{take_more}
use Rattle.std.proofs.lemmas.Option.{get_or_from_slice_get, slice_get_within}
use Rattle.run_model.specs.declared.answers.TaskLook.{TaskLook}
use Rattle.run_model.specs.declared.tasks.Task.{Task}
use Rattle.run_model.specs.State.{State}
use Rattle.run_model.specs.Questions.{task_look_of}
use Rattle.run_model.specs.Tasks.{is_admitted, phase_by}

-- The row of a task, by the answer to a question about it.
pub record SeenRow (p : State) (n : ℕ) (look : TaskLook) : Type 0 where
  pub row : Task
  pub more : take (n + 1) p.work.tasks ≡ take n p.work.tasks ++ row ∷ []
  pub job : row.job ≡ look.job
  pub phase : phase_by (is_admitted p.work n row) row.stage ≡ look.phase

-- What is seen of a row.
abbrev look_at : State → ℕ → Task → TaskLook
look_at p n row = record {
  group = row.group;
  job = row.job;
  argument = row.argument;
  phase = phase_by (is_admitted p.work n row) row.stage;
  retry_of = row.retry_of;
}

seen_by : (p : State) (n : ℕ) (look : TaskLook) (row : Option Task)
    → slice_get p.work.tasks n ≡ row
    → option_map (look_at p n) row ≡ Some look
    → SeenRow p n look
seen_by p n look None at h = absurd (grind (arith, h))
seen_by p n look (Some row) at h =
    let seen : look_at p n row ≡ look = cc in
    let within = slice_get_within p.work.tasks n row at in
    record {
      row = row;
      more =
          take_more p.work.tasks n row within
          ∙ ap (λ x. take n p.work.tasks ++ x ∷ [])
          (get_or_from_slice_get p.work.tasks n row row at);
      job = ap (λ x. x.job) seen;
      phase = ap (λ x. x.phase) seen;
    }

-- A task about which a question is answered has a row.
pub seen_row : (p : State) (n : ℕ) (look : TaskLook) (seen : Option TaskLook)
    → seen ≡ task_look_of p n
    → seen ≡ Some look
    → SeenRow p n look
seen_row p n look seen e h = seen_by p n look (slice_get p.work.tasks n) refl (sym e ∙ h)
