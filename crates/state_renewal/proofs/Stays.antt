-- Kept rows stay as they were.
use Rattle.run_model.proofs.Common.{◌≡◌, ℕ, true, is_some, ap, option_map, IsConsistent, HasRow}
use Rattle.run_model.proofs.Common.{State, first_ready}
use Rattle.run_model.specs.declared.groups.Group.{Group}
use Rattle.run_model.specs.declared.scopes.Scope.{Scope}
use Rattle.run_model.specs.declared.tasks.Task.{Task}
use Rattle.state_renewal.specs.Kept.{AnswersAlike, ScopeStays, GroupStays, TaskStays}
use Rattle.state_renewal.specs.Kept.{KeepsUnfinished}
use Rattle.state_renewal.specs.Renewed.{new_number, keeps_scope, keeps_group, keeps_task}
use Rattle.state_renewal.specs.Renewed.{kept_part, renewed}
use Rattle.state_renewal.proofs.Chains.{IsLineRenewed, both_lines, deadline_renewed, ending_renewed}
use Rattle.state_renewal.proofs.Chains.{value_renewed}
use Rattle.state_renewal.proofs.Hangs.{AreBoth, kept_hangs}
use Rattle.state_renewal.proofs.Keeps.{live_kept, unwaited_kept, task_is_kept}
use Rattle.state_renewal.proofs.RulesKept.{rules_kept, scope_stays}
use Rattle.state_renewal.proofs.Works.{first_renumbered, group_stays, phase_renumbered, task_stays}
use Rattle.state_renewal.proofs.Works.{unfinished_same, unfinished_goes}

pub kept_both : (p : State) → IsConsistent p → AreBoth (kept_part p) p
kept_both p consistent =
    record { old = consistent; new = rules_kept p consistent; hangs = kept_hangs p consistent }

answers_alike : (p : State) (s : ℕ) → IsLineRenewed (kept_part p) p.tree.scopes s
    → AnswersAlike p.tree.scopes s (renewed p).tree.scopes (new_number (keeps_scope p) s)
answers_alike p s restated =
    let same = ending_renewed (kept_part p) p.tree.scopes s restated in
    record {
      done = ap is_some same;
      reason = ap (option_map (λ hit. hit.reason)) same;
      cause = ap (option_map (λ hit. hit.cause)) same;
      deadline = deadline_renewed (kept_part p) p.tree.scopes s restated;
      values = λ key. value_renewed (kept_part p) p.tree.scopes s key restated;
    }

pub kept_scope : (p : State) (s : ℕ) (row : Scope) → IsConsistent p → HasRow p.tree.scopes s row
    → keeps_scope p s ≡ true → ScopeStays p s row
kept_scope p s row consistent found is = record {
  found = scope_stays p s row found is;
  answers =
      answers_alike p s (both_lines (kept_part p) p (kept_both p consistent) s row found is);
}

pub kept_group : (p : State) (g : ℕ) (row : Group) → IsConsistent p → HasRow p.work.groups g row
    → keeps_group p g ≡ true → GroupStays p g row
kept_group p g row consistent found is = record {
  found = group_stays p g row found is;
  unfinished = unfinished_same (kept_part p) p.work g (task_is_kept p) is;
}

pub kept_task : (p : State) (n : ℕ) (row : Task) → IsConsistent p → HasRow p.work.tasks n row
    → keeps_task p n ≡ true → TaskStays p n row
kept_task p n row consistent found is = record {
  found = task_stays p n row found is;
  phase = phase_renumbered (kept_part p) p.work n (task_is_kept p) is;
}

pub first_ready_same : (p : State) → IsConsistent p
    → first_ready (renewed p).work
    ≡ option_map (new_number (keeps_task p)) (first_ready p.work)
first_ready_same p consistent =
    first_renumbered (kept_part p) p consistent (kept_hangs p consistent).work

pub keeps_unfinished : (p : State) → IsConsistent p → KeepsUnfinished p
keeps_unfinished p consistent = record {
  scopes = live_kept p;
  groups = unwaited_kept p;
  tasks = λ n row.
      unfinished_goes (kept_part p) p n row consistent (kept_hangs p consistent).work;
}
