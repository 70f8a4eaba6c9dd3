-- A state of the small layout keeps the rules in the large one, and its image is the same.
use Rattle.run_model.proofs.Common.{◌<◌, ◌≤◌, ◌+◌, ℕ, [], length, refl, subst, arith, IsTrue}
use Rattle.run_model.proofs.Common.{lt-ltb, ltb-true, most_scopes, most_tasks, AreAdmitted}
use Rattle.run_model.proofs.Common.{AreDeadlines, AreErrors, AreGroupScopes, AreHits, AreLinked}
use Rattle.run_model.proofs.Common.{AreNumbered, HasLayout, IsConsistent, Owns, State, and_from}
use Rattle.run_model.specs.declared.groups.Group.{Group}
use Rattle.run_model.specs.declared.layouts.Layout.TheVariants.{Small, Large}
use Rattle.row_view.specs.declared.heads.ImageHead.{ImageHead}
use Rattle.row_view.specs.declared.heads.ImageVersion.TheVariants.{Two}
use Rattle.row_view.specs.Image.{head_of, image, is_kept_head}
use Rattle.row_view.specs.Keeping.{IsImage, IsInRange}
use Rattle.row_view.proofs.Codecs.{first_true, second_true}
use Rattle.book_model.specs.Meanings.{MeansIn}
use Rattle.book_model.specs.Migrations.{widened}
use Rattle.book_model.proofs.Meaning.{fresh_means}

pub widened_layout : (p : State) → HasLayout (widened p) Large
widened_layout p = record { tree = refl; work = refl }

-- ---- the rules

module _ (p : State) where
  -- A group of the widened state lives where it does in the state.
  owns : (g s : ℕ) (group : Group) → Owns (widened p).work g group s → Owns p.work g group s
  owns g s group is = record { found = is.found; not_bare = is.not_bare; scope = is.scope }

  owns_there : (g s : ℕ) (group : Group) → Owns p.work g group s → Owns (widened p).work g group s
  owns_there g s group is = record { found = is.found; not_bare = is.not_bare; scope = is.scope }

  numbered_there : HasLayout p Small → AreNumbered p → AreNumbered (widened p)
  numbered_there small n = record {
    one_layout = refl;
    few_scopes =
        let few = subst (λ l. length p.tree.scopes ≤ most_scopes l) small.tree n.few_scopes in
        omega (arith, few);
    few_groups = n.few_groups;
    few_tasks =
        let few = subst (λ l. length p.work.tasks ≤ most_tasks l) small.work n.few_tasks in
        omega (arith, few);
    rooted = n.rooted;
    one_root = n.one_root;
    scope_names = n.scope_names;
    group_names = n.group_names;
    ordered = n.ordered;
    scopes = n.scopes;
    groups = n.groups;
  }

  hits_there : AreHits p → AreHits (widened p)
  hits_there h = record {
    kinds = h.kinds;
    counted = h.counted;
    past = record { events = h.past.events; moments = h.past.moments };
  }

  deadlines_there : AreDeadlines p.tree → AreDeadlines (widened p).tree
  deadlines_there d = record { own = d.own; come = d.come }

  group_scopes_there : AreGroupScopes p → AreGroupScopes (widened p)
  group_scopes_there is = record {
    owned = λ s row found kind.
        let owner = is.owned s row found kind in
        (owner.0, owner.1, owns_there owner.0 s owner.1 owner.2, owner.3);
    once = λ s g h a b first second. is.once s g h a b (owns g s a first) (owns h s b second);
    own = λ g s group owner. is.own g s group (owns g s group owner);
  }

  admitted_there : AreAdmitted p.work → AreAdmitted (widened p).work
  admitted_there a = record { running = a.running; waited = a.waited }

  errors_there : AreErrors p → AreErrors (widened p)
  errors_there e = record {
    exact = e.exact;
    ended = λ g s row owner reported. e.ended g s row (owns g s row owner) reported;
  }

  links_there : AreLinked p.work → AreLinked (widened p).work
  links_there l = record { linked = l.linked; once = l.once }

  pub widened_rules : HasLayout p Small → IsConsistent p → IsConsistent (widened p)
  widened_rules small kept = record {
    numbered = numbered_there small kept.numbered;
    hits = hits_there kept.hits;
    deadlines = deadlines_there kept.deadlines;
    group_scopes = group_scopes_there kept.group_scopes;
    admitted = admitted_there kept.admitted;
    errors = errors_there kept.errors;
    links = links_there kept.links;
  }

-- ---- the image

-- A head that is in range of the small layout is in range of the large one.
wide_head : (head : ImageHead) → IsTrue (is_kept_head Small head)
    → IsTrue (is_kept_head Large head)
wide_head head kept =
    let but_tasks = first_true _ _ kept in
    let but_groups = first_true _ _ but_tasks in
    let scopes : head.scopes < most_scopes Small =
    ltb-true head.scopes (most_scopes Small) (second_true _ _ but_groups) in
    let tasks : head.tasks < most_tasks Small + 1 =
    ltb-true head.tasks (most_tasks Small + 1) (second_true _ _ kept) in
    and_from _ _
    (and_from _ _
    (and_from _ _ (first_true _ _ but_groups)
    (lt-ltb head.scopes (most_scopes Large) (omega (arith, scopes))))
    (second_true _ _ but_tasks))
    (lt-ltb head.tasks (most_tasks Large + 1) (omega (arith, tasks)))

widened_ranged : (p : State) → IsInRange Two Small p → IsInRange Two Large (widened p)
widened_ranged p r = record {
  head = wide_head (head_of Two p) r.head;
  scopes = r.scopes;
  groups = r.groups;
  tasks = r.tasks;
}

-- So the image of a small state means the same state, widened, in a large store.
pub widened_means : (p : State) → IsImage Two Small (image p) p
    → MeansIn Two Large (image (widened p)) [] (widened p)
widened_means p is =
    fresh_means Large (widened p) (widened_layout p) (widened_ranged p is.ranged)
    (widened_rules p is.has_layout is.consistent)
