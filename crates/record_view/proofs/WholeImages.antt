-- An image has one version and one state, and a limited number of bytes.
use Rattle.run_model.proofs.Common.{◌≡◌, ℕ, List, [], ◌∷◌, ◌++◌, drop, Option, Some}
use Rattle.run_model.proofs.Common.{sym, ap, ◌∙◌, append_assoc, flat_map, same_Some}
use Rattle.run_model.proofs.Common.{append-nil, root, State}
use Rattle.run_model.specs.declared.layouts.Layout.{Layout}
use Rattle.run_model.specs.declared.scopes.Scope.{Scope}
use Rattle.run_model.specs.declared.groups.Group.{Group}
use Rattle.run_model.specs.declared.tasks.Task.{Task}
use Rattle.row_view.specs.declared.heads.ImageHead.{ImageHead}
use Rattle.row_view.specs.declared.heads.ImageVersion.{ImageVersion}
use Rattle.row_view.specs.Fields.{◌>>=◌}
use Rattle.row_view.specs.Image.{head_bytes, head_of, image_in, scope_bytes, group_bytes}
use Rattle.row_view.specs.Image.{task_bytes}
use Rattle.row_view.specs.Keeping.{IsInRange, IsImage}
use Rattle.row_view.specs.RowReading.{head_at, scope_at, group_row_at, task_at}
use Rattle.row_view.proofs.Rooted.{rooted_list}
use Rattle.row_view.proofs.RowFields.{scope_row}
use Rattle.row_view.proofs.RowCodecs.{group_row, task_row, head_field, rows_again, rows_at}

-- The state of a head and of the rows after it.
abbrev state_made : Layout → ImageHead → List Scope → List Group → List Task → State
state_made layout head scopes groups tasks = record {
  count = head.count;
  tree = record { layout = layout; clock = head.clock; scopes = root ∷ scopes };
  work = record { layout = layout; groups = groups; tasks = tasks };
}

-- The version and the state of a head and of rows, without a look at the rules.
abbrev image_at : Layout → List ℕ → Option (ImageVersion × State)
image_at layout bytes = do
  head ← head_at layout bytes
  scopes ← rows_at scope_at head.0.scopes head.1
  groups ← rows_at group_row_at head.0.groups scopes.1
  tasks ← rows_at (task_at head.0.version) head.0.tasks groups.1
  Some (head.0.version, state_made layout head.0 scopes.0 groups.0 tasks.0)

image_again :
    (version : ImageVersion) (layout : Layout) (p : State) → IsInRange version layout p →
    image_at layout (image_in version p)
    ≡ Some (
      version,
      state_made layout (head_of version p) (drop 1 p.tree.scopes) p.work.groups
          p.work.tasks,
    )
image_again version layout p ok =
    let head = head_bytes (head_of version p) in
    let scopes = flat_map scope_bytes (drop 1 p.tree.scopes) in
    let groups = flat_map group_bytes p.work.groups in
    let tasks = flat_map (task_bytes version) p.work.tasks in
    rw (
      append_assoc (head ++ scopes) groups tasks,
      append_assoc head scopes (groups ++ tasks),
      (head_field layout).again (head_of version p) (scopes ++ (groups ++ tasks)) ok.head,
      rows_again scope_row (drop 1 p.tree.scopes) (groups ++ tasks) ok.scopes,
      rows_again group_row p.work.groups tasks ok.groups,
      ← append-nil tasks,
      rows_again (task_row version) p.work.tasks [] ok.tasks,
    )

image_read :
    (version : ImageVersion) (layout : Layout) (bytes : List ℕ) (p : State) →
    IsImage version layout bytes p → image_at layout bytes ≡ Some (version, p)
image_read version layout bytes p image =
    ap (image_at layout) image.is ∙ image_again version layout p image.ranged
    ∙ ap (λ scopes. Some (
      version,
      record {
        count = p.count;
        tree = record { layout = layout; clock = p.tree.clock; scopes = scopes };
        work = record { layout = layout; groups = p.work.groups; tasks = p.work.tasks };
      },
    )) (rooted_list p.tree.scopes image.consistent.numbered.rooted)
    ∙ ap (λ l. Some (
      version,
      record {
        count = p.count;
        tree = record { layout = l; clock = p.tree.clock; scopes = p.tree.scopes };
        work = record { layout = layout; groups = p.work.groups; tasks = p.work.tasks };
      },
    )) (sym image.has_layout.tree)
    ∙ ap (λ l. Some (
      version,
      record {
        count = p.count;
        tree = p.tree;
        work = record { layout = l; groups = p.work.groups; tasks = p.work.tasks };
      },
    )) (sym image.has_layout.work)

pub one_state :
    (version other : ImageVersion) (layout : Layout) (bytes : List ℕ) (p q : State) →
    IsImage version layout bytes p → IsImage other layout bytes q →
    (version ≡ other) × (p ≡ q)
one_state version other layout bytes p q first second =
    let same : (version, p) ≡ (other, q) =
    same_Some (version, p) (other, q)
    (sym (image_read version layout bytes p first) ∙ image_read other layout bytes q second) in
    (ap (λ x. x.0) same, ap (λ x. x.1) same)
