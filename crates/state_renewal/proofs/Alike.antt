-- Questions about what goes on have the same answers as in the old store.
use Rattle.run_model.proofs.Common.{◌≡◌, ℕ, true, List, Option, Some, None, slice_get, refl, sym}
use Rattle.run_model.proofs.Common.{ap, ◌∙◌, filter_map, option_map, group_look_of, look_of}
use Rattle.run_model.proofs.Common.{task_look_of, IsConsistent, AreOrdered, deadline_of, ending}
use Rattle.run_model.proofs.Common.{line_within, text_under, upwards, value_of, State, is_admitted}
use Rattle.run_model.proofs.Common.{phase_by, unfinished_in}
use Rattle.run_model.specs.declared.answers.Look.{Look}
use Rattle.run_model.specs.declared.answers.TaskLook.{TaskLook}
use Rattle.run_model.specs.declared.scopes.Hit.{Hit}
use Rattle.run_model.specs.declared.scopes.Scope.{Scope}
use Rattle.run_model.specs.declared.tasks.Phase.{Phase}
use Rattle.run_model.specs.declared.tasks.Task.{Task}
use Rattle.state_renewal.specs.Renewed.{
  new_number,
  Part,
  group_renumbered,
  scope_renumbered,
  state_renumbered,
}
use Rattle.state_renewal.specs.Renewed.{task_renumbered}
use Rattle.state_renewal.specs.Alike.{GoOnAlike, group_look_renumbered, task_look_renumbered}
use Rattle.state_renewal.proofs.Chains.{
  deadline_renewed,
  ending_renewed,
  line_renewed,
  scopes_renumbered,
}
use Rattle.state_renewal.proofs.Chains.{value_renewed}
use Rattle.state_renewal.proofs.Goes.{Goes, hangs}
use Rattle.state_renewal.proofs.RowsRenumbered.{renumbered_get, row_renumbered}
use Rattle.state_renewal.proofs.Works.{admitted_renumbered, first_renumbered, unfinished_same}
use Rattle.task_group.specs.Questions.{look_by}

-- ---- scopes

abbrev look : List ℕ → Option Hit → Option ℕ → Look
look name end deadline = record {
  name = name;
  done = option_map (λ hit. (hit.reason, hit.cause)) end;
  deadline = deadline;
}

looks_alike : (part : Part) (p : State) → AreOrdered p.tree.scopes
    → AreOrdered (state_renumbered part p).tree.scopes → Goes part p → (s : ℕ)
    → part.scopes s ≡ true
    → look_of (state_renumbered part p) (new_number part.scopes s) ≡ look_of p s
looks_alike part p ordered renumbered go s is =
    row_renumbered (option_map (λ row. look row.name (ending rows new) (deadline_of rows new)))
    (option_map (λ row. look row.name (ending p.tree.scopes s) (deadline_of p.tree.scopes s)))
    part.scopes (scope_renumbered part) p.tree.scopes s refl
    (λ row at.
    let restated = line_renewed part p.tree.scopes ordered renumbered go.scopes.each s row at is in
    ap (λ o. Some (look row.name o (deadline_of rows new)))
    (ending_renewed part p.tree.scopes s restated)
    ∙ ap (λ o. Some (look row.name (ending p.tree.scopes s) o))
    (deadline_renewed part p.tree.scopes s restated)) is
  where
    new : ℕ
    new = new_number part.scopes s

    rows : List Scope
    rows = scopes_renumbered part p.tree.scopes

no_value : (rows : List Scope) (s : ℕ) (key : List ℕ) → slice_get rows s ≡ None
    → value_of rows s key ≡ None
no_value rows s key at =
    ap (λ o. slice_get (filter_map (λ r. text_under key r.1.kind)
    (upwards (line_within s rows) s o)) 0) at

values_alike : (part : Part) (p : State) → AreOrdered p.tree.scopes
    → AreOrdered (state_renumbered part p).tree.scopes → Goes part p → (s : ℕ) (key : List ℕ)
    → part.scopes s ≡ true
    → value_of (state_renumbered part p).tree.scopes (new_number part.scopes s) key
    ≡ value_of p.tree.scopes s key
values_alike part p ordered renumbered go s key is = by_row (slice_get p.tree.scopes s) refl
  where
    by_row : (o : Option Scope) → slice_get p.tree.scopes s ≡ o
        → value_of (state_renumbered part p).tree.scopes (new_number part.scopes s) key
        ≡ value_of p.tree.scopes s key
    by_row None at =
        no_value (state_renumbered part p).tree.scopes (new_number part.scopes s) key
        (renumbered_get part.scopes (scope_renumbered part) p.tree.scopes s is
        ∙ ap (option_map (scope_renumbered part)) at)
        ∙ sym (no_value p.tree.scopes s key at)
    by_row (Some row) at =
        value_renewed part p.tree.scopes s key
        (line_renewed part p.tree.scopes ordered renumbered go.scopes.each s row at is)

-- ---- groups and tasks

groups_alike : (part : Part) (p : State) → Goes part p → (g : ℕ) → part.groups g ≡ true
    → group_look_of (state_renumbered part p) (new_number part.groups g)
    ≡ option_map (group_look_renumbered part) (group_look_of p g)
groups_alike part p go g is =
    ap (λ k. option_map (look_by k)
    (slice_get (state_renumbered part p).work.groups (new_number part.groups g)))
    (unfinished_same part p.work g go.work.tasks.each is)
    ∙ row_renumbered (option_map (look_by unfinished))
    (λ o. option_map (group_look_renumbered part) (option_map (look_by unfinished) o)) part.groups
    (group_renumbered part) p.work.groups g refl (λ row at. refl) is
  where
    unfinished : ℕ
    unfinished = unfinished_in g p.work.tasks

abbrev task_look : Phase → Task → TaskLook
task_look phase row = record {
  group = row.group;
  job = row.job;
  argument = row.argument;
  phase = phase;
  retry_of = row.retry_of;
}

tasks_alike : (part : Part) (p : State) → Goes part p → (n : ℕ) → part.tasks n ≡ true
    → task_look_of (state_renumbered part p) (new_number part.tasks n)
    ≡ option_map (task_look_renumbered part) (task_look_of p n)
tasks_alike part p go n is =
    row_renumbered
    (option_map (λ row. task_look
    (phase_by (is_admitted (state_renumbered part p).work (new_number part.tasks n) row) row.stage)
    row))
    (λ o. option_map (task_look_renumbered part)
    (option_map (λ row. task_look (phase_by (is_admitted p.work n row) row.stage) row) o))
    part.tasks (task_renumbered part) p.work.tasks n refl
    (λ row at.
    ap (λ b. Some (task_look (phase_by b row.stage) (task_renumbered part row)))
    (admitted_renumbered part p.work n row go.work.tasks.each at is)) is

pub alike : (part : Part) (p : State) → IsConsistent p → IsConsistent (state_renumbered part p)
    → Goes part p → GoOnAlike part p (state_renumbered part p)
alike part p consistent renumbered go = record {
  scopes = looks_alike part p consistent.numbered.ordered renumbered.numbered.ordered go;
  values = values_alike part p consistent.numbered.ordered renumbered.numbered.ordered go;
  groups = groups_alike part p go;
  tasks = tasks_alike part p go;
  next = first_renumbered part p consistent (hangs part p go).work;
}
