-- A task that ends with or without an error ends with the corresponding outcome.
use Rattle.run_model.proofs.Common.{◌≡◌, ℕ, List, Option, Some, None, ap, WorkState, after_end}
use Rattle.run_model.proofs.Common.{stage_of, error_of}
use Rattle.run_model.specs.declared.tasks.Stage.{Stage}
use Rattle.task_group.specs.Outcomes.{outcome_with}

pub ends_with : (n : ℕ) (error : Option (List ℕ)) (s : Stage) (w : WorkState)
    → s ≡ stage_of (outcome_with error)
    → after_end n s error w
    ≡ after_end n (stage_of (outcome_with error)) (error_of (outcome_with error)) w
ends_with n None s w is = ap (λ x. after_end n x None w) is
ends_with n (Some text) s w is = ap (λ x. after_end n x (Some text) w) is
