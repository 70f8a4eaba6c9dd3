-- Rows stay within the limits, names stay distinct, and rows that others refer to exist.
use Rattle.run_model.proofs.Common.{◌≡◌, ◌<◌, ℕ, false, [], ◌∷◌, ◌++◌, length, Some, slice_get}
use Rattle.run_model.proofs.Common.{inl, inr, sym, ◌∙◌, arith, both_ways, slice_get_within}
use Rattle.run_model.proofs.Common.{most_scopes, most_tasks, root, AreNumbered, is_root, State}
use Rattle.run_model.proofs.Common.{push_cases, slice_get-push_left}
use Rattle.std.proofs.lemmas.List.{length_push}
use Rattle.run_model.specs.declared.bounds.TheConstants.{MOST_GROUPS}
use Rattle.run_model.specs.declared.groups.Group.{Group}
use Rattle.run_model.specs.declared.scopes.Scope.{Scope}
use Rattle.run_model.specs.declared.tasks.Task.{Task}
use Rattle.run_model.proofs.NameLemmas.{names_pushed}
use Rattle.model_laws.proofs.Shapes.{AreAlike, IsSameScope, IsSameGroup, IsSameTask}

-- Rows that keep their names and what they name stay numbered.
pub numbered_kept : (p q : State) → AreAlike IsSameScope p.tree.scopes q.tree.scopes
    → AreAlike IsSameGroup p.work.groups q.work.groups
    → AreAlike IsSameTask p.work.tasks q.work.tasks → slice_get q.tree.scopes 0 ≡ Some root
    → q.tree.layout ≡ p.tree.layout → q.work.layout ≡ p.work.layout
    → AreNumbered p → AreNumbered q
numbered_kept p q scopes groups tasks rooted tree_layout work_layout old = record {
  one_layout = work_layout ∙ old.one_layout ∙ sym tree_layout;
  few_scopes = rw (scopes.same_length, tree_layout) old.few_scopes;
  few_groups = rw (groups.same_length) old.few_groups;
  few_tasks = rw (tasks.same_length, work_layout) old.few_tasks;
  rooted = rooted;
  one_root =
      λ s row found root.
      let was = scopes.back s row found in old.one_root s was.0 was.1 (rw (was.2.kind) at root);
  scope_names =
      λ s t a b found_a found_b same.
      let x = scopes.back s a found_a in
      let y = scopes.back t b found_b in
      old.scope_names s t x.0 y.0 x.1 y.1 (sym x.2.name ∙ same ∙ y.2.name);
  group_names =
      λ g h a b found_a found_b same.
      let x = groups.back g a found_a in
      let y = groups.back h b found_b in
      old.group_names g h x.0 y.0 x.1 y.1 (sym x.2.name ∙ same ∙ y.2.name);
  ordered =
      λ s row found other.
      let was = scopes.back s row found in
      rw (was.2.parent) (old.ordered s was.0 was.1 (rw (was.2.kind) at other));
  scopes =
      λ g row found.
      let was = groups.back g row found in
      rw (was.2.scope, scopes.same_length) (old.scopes g was.0 was.1);
  groups =
      λ n row found.
      let was = tasks.back n row found in
      rw (was.2.group, groups.same_length) (old.groups n was.0 was.1);
}

-- ---- one row more

pub numbered_scope : (p : State) (n c : ℕ) (new : Scope)
    → length p.tree.scopes < most_scopes p.tree.layout
    → new.parent < length p.tree.scopes → is_root new.kind ≡ false
    → ((s : ℕ) (a : Scope) → slice_get p.tree.scopes s ≡ Some a → a.name ≡ new.name → ⊥)
    → AreNumbered p
    → AreNumbered
    (record {
      count = n;
      tree = record p.tree { clock = c; scopes = p.tree.scopes ++ new ∷ [] };
      work = p.work;
    })
numbered_scope p n c new room parent other free old = record {
  one_layout = old.one_layout;
  few_scopes = rw (length_push p.tree.scopes new) (omega (arith, room));
  few_groups = old.few_groups;
  few_tasks = old.few_tasks;
  rooted =
      slice_get-push_left p.tree.scopes new 0 (slice_get_within p.tree.scopes 0 root old.rooted)
      ∙ old.rooted;
  one_root =
      λ s row found is_it.
      elim (push_cases p.tree.scopes new s row found) [
        | inl was ↦ old.one_root s row was is_it
        | inr last ↦ absurd (both_ways (is_root new.kind) other (rw (last.1) at is_it))
      ];
  scope_names = names_pushed (λ row. row.name) p.tree.scopes new old.scope_names free;
  group_names = old.group_names;
  ordered =
      λ s row found not_root.
      elim (push_cases p.tree.scopes new s row found) [
        | inl was ↦ old.ordered s row was not_root
        | inr last ↦ rw (last.0, last.1) parent
      ];
  scopes =
      λ g row found. rw (length_push p.tree.scopes new) (omega (arith, old.scopes g row found));
  groups = old.groups;
}

pub numbered_group : (p : State) (n : ℕ) (new : Group) → length p.work.groups < MOST_GROUPS
    → new.scope < length p.tree.scopes
    → ((g : ℕ) (a : Group) → slice_get p.work.groups g ≡ Some a → a.name ≡ new.name → ⊥)
    → AreNumbered p
    → AreNumbered
    (record {
      count = n;
      tree = p.tree;
      work = record p.work { groups = p.work.groups ++ new ∷ [] };
    })
numbered_group p n new room scope free old = record {
  one_layout = old.one_layout;
  few_scopes = old.few_scopes;
  few_groups = rw (length_push p.work.groups new) (omega (arith, room));
  few_tasks = old.few_tasks;
  rooted = old.rooted;
  one_root = old.one_root;
  scope_names = old.scope_names;
  group_names = names_pushed (λ row. row.name) p.work.groups new old.group_names free;
  ordered = old.ordered;
  scopes =
      λ g row found.
      elim (push_cases p.work.groups new g row found) [
        | inl was ↦ old.scopes g row was
        | inr last ↦ rw (last.1) scope
      ];
  groups =
      λ n row found. rw (length_push p.work.groups new) (omega (arith, old.groups n row found));
}

pub numbered_task : (p : State) (n : ℕ) (new : Task)
    → length p.work.tasks < most_tasks p.work.layout
    → new.group < length p.work.groups → AreNumbered p
    → AreNumbered
    (record {
      count = n;
      tree = p.tree;
      work = record p.work { tasks = p.work.tasks ++ new ∷ [] };
    })
numbered_task p n new room group old = record {
  one_layout = old.one_layout;
  few_scopes = old.few_scopes;
  few_groups = old.few_groups;
  few_tasks = rw (length_push p.work.tasks new) (omega (arith, room));
  rooted = old.rooted;
  one_root = old.one_root;
  scope_names = old.scope_names;
  group_names = old.group_names;
  ordered = old.ordered;
  scopes = old.scopes;
  groups =
      λ n row found.
      elim (push_cases p.work.tasks new n row found) [
        | inl was ↦ old.groups n row was
        | inr last ↦ rw (last.1) group
      ];
}
