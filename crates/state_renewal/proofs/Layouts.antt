-- A renewed state in another layout keeps the rules, if its rows fit.
use Rattle.run_model.proofs.Common.{◌≡◌, ℕ, true, length, refl, nat_le, and_parts, leb-true}
use Rattle.run_model.proofs.Common.{most_scopes, most_tasks, AreAdmitted, AreDeadlines, AreErrors}
use Rattle.run_model.proofs.Common.{AreGroupScopes, AreHits, AreLinked, AreNumbered, IsConsistent}
use Rattle.run_model.proofs.Common.{Owns, State}
use Rattle.run_model.specs.declared.groups.Group.{Group}
use Rattle.run_model.specs.declared.layouts.Layout.{Layout}
use Rattle.state_renewal.specs.Renewed.{fits_in, renewed, renewed_in}
use Rattle.state_renewal.proofs.RulesKept.{rules_kept}

module _ (layout : Layout) (p : State) where
  owns : (g s : ℕ) (group : Group) → Owns (renewed_in layout p).work g group s
      → Owns (renewed p).work g group s
  owns g s group is = record { found = is.found; not_bare = is.not_bare; scope = is.scope }

  owns_there : (g s : ℕ) (group : Group) → Owns (renewed p).work g group s
      → Owns (renewed_in layout p).work g group s
  owns_there g s group is = record { found = is.found; not_bare = is.not_bare; scope = is.scope }

  numbered_there : fits_in layout (renewed p) ≡ true → AreNumbered (renewed p)
      → AreNumbered (renewed_in layout p)
  numbered_there fits n =
      let parts = and_parts (nat_le (length (renewed p).tree.scopes) (most_scopes layout))
      (nat_le (length (renewed p).work.tasks) (most_tasks layout)) fits in
      record {
        one_layout = refl;
        few_scopes = leb-true (length (renewed p).tree.scopes) (most_scopes layout) parts.0;
        few_groups = n.few_groups;
        few_tasks = leb-true (length (renewed p).work.tasks) (most_tasks layout) parts.1;
        rooted = n.rooted;
        one_root = n.one_root;
        scope_names = n.scope_names;
        group_names = n.group_names;
        ordered = n.ordered;
        scopes = n.scopes;
        groups = n.groups;
      }

  hits_there : AreHits (renewed p) → AreHits (renewed_in layout p)
  hits_there h = record {
    kinds = h.kinds;
    counted = h.counted;
    past = record { events = h.past.events; moments = h.past.moments };
  }

  deadlines_there : AreDeadlines (renewed p).tree → AreDeadlines (renewed_in layout p).tree
  deadlines_there d = record { own = d.own; come = d.come }

  group_scopes_there : AreGroupScopes (renewed p) → AreGroupScopes (renewed_in layout p)
  group_scopes_there is = record {
    owned = λ s row found kind.
        let owner = is.owned s row found kind in
        (owner.0, owner.1, owns_there owner.0 s owner.1 owner.2, owner.3);
    once = λ s g h a b first second. is.once s g h a b (owns g s a first) (owns h s b second);
    own = λ g s group owner. is.own g s group (owns g s group owner);
  }

  admitted_there : AreAdmitted (renewed p).work → AreAdmitted (renewed_in layout p).work
  admitted_there a = record { running = a.running; waited = a.waited }

  errors_there : AreErrors (renewed p) → AreErrors (renewed_in layout p)
  errors_there e = record {
    exact = e.exact;
    ended = λ g s row owner restated. e.ended g s row (owns g s row owner) restated;
  }

  links_there : AreLinked (renewed p).work → AreLinked (renewed_in layout p).work
  links_there l = record { linked = l.linked; once = l.once }

  pub rules_there : IsConsistent p → fits_in layout (renewed p) ≡ true
      → IsConsistent (renewed_in layout p)
  rules_there rules fits =
      let kept = rules_kept p rules in
      record {
        numbered = numbered_there fits kept.numbered;
        hits = hits_there kept.hits;
        deadlines = deadlines_there kept.deadlines;
        group_scopes = group_scopes_there kept.group_scopes;
        admitted = admitted_there kept.admitted;
        errors = errors_there kept.errors;
        links = links_there kept.links;
      }
