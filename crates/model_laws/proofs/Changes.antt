-- Rows that stay at their places, and the rules that are then left to show.
use Rattle.run_model.proofs.Common.{◌≡◌, ◌≤◌, ℕ, true, false, Some, slice_get, refl, both_ways}
use Rattle.run_model.proofs.Common.{root, at_row, IsConsistent, AreAdmitted, AreErrors, HasRow}
use Rattle.run_model.proofs.Common.{State, TreeState, WorkState, is_running, is_unfinished}
use Rattle.run_model.proofs.Common.{is_interrupted, ended_in_error, is_admitted, with_stage}
use Rattle.run_model.specs.declared.tasks.Stage.{Stage}
use Rattle.run_model.specs.declared.tasks.Task.{Task}
use Rattle.model_laws.proofs.Admission.{IsSameTerms, terms_same, admitted_stage}
use Rattle.model_laws.proofs.FirstErrors.{AreHitsKept, errors_alike, IsSameEnd, end_same, lost_at}
use Rattle.model_laws.proofs.FirstErrors.{errors_tree}
use Rattle.model_laws.proofs.Numbering.{numbered_kept}
use Rattle.model_laws.proofs.Owners.{owners_kept}
use Rattle.model_laws.proofs.RightHits.{AreRight, are_right, later_right, hits_right}
use Rattle.model_laws.proofs.RightHits.{deadlines_right}
use Rattle.model_laws.proofs.Shapes.{AreAlike, alike_same, alike_at, IsSameScope, scope_same}
use Rattle.model_laws.proofs.Shapes.{IsSameGroup, group_same, IsSameTask, task_same, stage_same}
use Rattle.model_laws.proofs.Links.{links_kept}

-- The second tree is the first one with hits that came with event e.
pub record IsHit (e : ℕ) (t u : TreeState) : Type 0 where
  pub layout : u.layout ≡ t.layout
  pub same : AreAlike IsSameScope t.scopes u.scopes
  pub rooted : slice_get u.scopes 0 ≡ Some root
  pub right : AreRight e u
  pub kept : AreHitsKept t u

pub hit_none : (e : ℕ) (t : TreeState) → slice_get t.scopes 0 ≡ Some root → AreRight e t
    → IsHit e t t
hit_none e t rooted right = record {
  layout = refl;
  same = alike_same IsSameScope t.scopes scope_same;
  rooted = rooted;
  right = right;
  kept = λ s is. is;
}

pub right_now : (p : State) (e : ℕ) → p.count ≤ e → IsConsistent p → AreRight e p.tree
right_now p e more kept =
    later_right p.count e p.tree more (are_right p kept.hits kept.deadlines)

-- No hit came.
pub hit_now : (p : State) (e : ℕ) → p.count ≤ e → IsConsistent p → IsHit e p.tree p.tree
hit_now p e more kept = hit_none e p.tree kept.numbered.rooted (right_now p e more kept)

-- Rows that keep what they name, with hits that came with event e, keep the rules where running
-- tasks stay admitted and errors exact.
pub rows_change : (p : State) (e : ℕ) (u : TreeState) (v : WorkState) → IsHit e p.tree u
    → v.layout ≡ p.work.layout → AreAlike IsSameGroup p.work.groups v.groups
    → AreAlike IsSameTask p.work.tasks v.tasks
    → AreAdmitted v → AreErrors (record { count = e; tree = u; work = v }) → IsConsistent p
    → IsConsistent (record { count = e; tree = u; work = v })
rows_change p e u v hit layout groups tasks admitted errors kept = record {
  numbered =
      numbered_kept p (record { count = e; tree = u; work = v }) hit.same groups tasks hit.rooted
      hit.layout layout kept.numbered;
  hits = hits_right e u v hit.right;
  deadlines = deadlines_right e u hit.right;
  group_scopes =
      owners_kept p (record { count = e; tree = u; work = v }) hit.same groups kept.group_scopes;
  admitted = admitted;
  errors = errors;
  links = links_kept p.work v tasks kept.links;
}

-- Only hits were added.
pub hits_change : (p : State) (e : ℕ) (u : TreeState) → IsHit e p.tree u → IsConsistent p
    → IsConsistent (record { count = e; tree = u; work = p.work })
hits_change p e u hit kept =
    rows_change p e u p.work hit refl (alike_same IsSameGroup p.work.groups group_same)
    (alike_same IsSameTask p.work.tasks task_same) kept.admitted
    (errors_tree p e u hit.kept kept.errors) kept

-- A task's stage changed, and its group did not end.
pub stage_changed : (p : State) (e n : ℕ) (stage : Stage) → p.count ≤ e
    → ((x : Task) → HasRow p.work.tasks n x → is_unfinished stage ≡ true
    → is_unfinished x.stage ≡ true)
    → ((x : Task) → HasRow p.work.tasks n x → is_running stage ≡ true
    → is_admitted p.work n x ≡ true)
    → ((x : Task) → HasRow p.work.tasks n x → ended_in_error stage ≡ ended_in_error x.stage)
    → ((x : Task) → HasRow p.work.tasks n x → is_interrupted x.stage ≡ false)
    → IsConsistent p
    → IsConsistent
    (record {
      count = e;
      tree = p.tree;
      work = record {
        layout = p.work.layout;
        groups = p.work.groups;
        tasks = at_row (with_stage stage) n p.work.tasks;
      };
    })
stage_changed p e n stage more less ready ends going kept =
    let v : WorkState =
    record p.work { tasks = at_row (with_stage stage) n p.work.tasks } in
    rows_change p e p.tree v (hit_now p e more kept) refl
    (alike_same IsSameGroup p.work.groups group_same)
    (alike_at IsSameTask (with_stage stage) n p.work.tasks task_same
    (λ x at.
    stage_same stage x
    (λ is. absurd (both_ways (is_interrupted x.stage) (going x at) is))))
    (admitted_stage p.work p.work.groups n stage
    (alike_same IsSameTerms p.work.groups terms_same) less ready kept.admitted)
    (errors_alike p e v (alike_same IsSameEnd p.work.groups end_same)
    (λ g. lost_at p.work p.work.groups n g stage ends) kept.errors) kept
