-- Each scope of kind Group belongs to exactly one group, and each group that isn't bare keeps its
-- scope.
use Rattle.run_model.proofs.Common.{◌≡◌, ◌⊎◌, ◌<◌, ℕ, Bool, true, false, [], ◌∷◌, ◌++◌, length}
use Rattle.run_model.proofs.Common.{slice_get, inl, inr, sym, ap, ◌∙◌, arith, option_map_or}
use Rattle.run_model.proofs.Common.{both_ways, slice_get_within, has_kind, is_group_kind}
use Rattle.run_model.proofs.Common.{AreGroupScopes, Owns, HasRow, State, TreeState, WorkState}
use Rattle.run_model.proofs.Common.{push_cases, slice_get-push_left, slice_get-push_last}
use Rattle.run_model.specs.declared.groups.Group.{Group}
use Rattle.run_model.specs.declared.scopes.Kind.{Kind}
use Rattle.run_model.specs.declared.scopes.Scope.{Scope}
use Rattle.model_laws.proofs.Tests.{passing}
use Rattle.model_laws.proofs.Shapes.{AreAlike, IsSameScope, IsSameGroup}

-- ---- a scope of a kind

pub kind_row : (test : Kind → Bool) (t : TreeState) (s : ℕ) → has_kind test t s ≡ true
    → (row : Scope) × HasRow t.scopes s row × (test row.kind ≡ true)
kind_row test t s is = passing (λ row. test row.kind) (slice_get t.scopes s) is

pub row_kind : (test : Kind → Bool) (t : TreeState) (s : ℕ) (row : Scope) → HasRow t.scopes s row
    → test row.kind ≡ true → has_kind test t s ≡ true
row_kind test t s row found is =
    ap (λ o. option_map_or (λ row. test row.kind) o false) found ∙ is

-- ---- rows that keep what they are

pub owner_then : (w v : WorkState) (g s : ℕ) (group : Group)
    → AreAlike IsSameGroup w.groups v.groups → Owns w g group s
    → (new : Group) × Owns v g new s × IsSameGroup group new
owner_then w v g s group groups owns =
    let new = groups.forth g group owns.found in (
      new.0,
      record {
        found = new.1;
        not_bare = new.2.bare ∙ owns.not_bare;
        scope = new.2.scope ∙ owns.scope;
      },
      new.2,
    )

pub owner_before : (w v : WorkState) (g s : ℕ) (group : Group)
    → AreAlike IsSameGroup w.groups v.groups → Owns v g group s
    → (old : Group) × Owns w g old s × IsSameGroup old group
owner_before w v g s group groups owns =
    let old = groups.back g group owns.found in (
      old.0,
      record {
        found = old.1;
        not_bare = sym old.2.bare ∙ owns.not_bare;
        scope = sym old.2.scope ∙ owns.scope;
      },
      old.2,
    )

pub owners_kept : (p q : State) → AreAlike IsSameScope p.tree.scopes q.tree.scopes
    → AreAlike IsSameGroup p.work.groups q.work.groups → AreGroupScopes p → AreGroupScopes q
owners_kept p q scopes groups old = record {
  owned =
      λ s row found is.
      let was = scopes.back s row found in
      let own = old.owned s was.0 was.1 (rw (was.2.kind) at is) in
      let new = owner_then p.work q.work own.0 s own.1 groups own.2 in
      (own.0, new.0, new.1, new.2.name ∙ own.3 ∙ sym was.2.name);
  once =
      λ s g h a b owns_a owns_b.
      let x = owner_before p.work q.work g s a groups owns_a in
      let y = owner_before p.work q.work h s b groups owns_b in old.once s g h x.0 y.0 x.1 y.1;
  own =
      λ g s group owns.
      let x = owner_before p.work q.work g s group groups owns in
      let row = kind_row is_group_kind p.tree s (old.own g s x.0 x.1) in
      let new = scopes.forth s row.0 row.1 in
      row_kind is_group_kind q.tree s new.0 new.1 (rw (new.2.kind) row.2);
}

-- ---- one row more

kind_pushed : (test : Kind → Bool) (t : TreeState) (c s : ℕ) (new : Scope)
    → has_kind test t s ≡ true
    → has_kind test (record t { clock = c; scopes = t.scopes ++ new ∷ [] }) s ≡ true
kind_pushed test t c s new is =
    let row = kind_row test t s is in
    row_kind test (record t { clock = c; scopes = t.scopes ++ new ∷ [] }) s row.0
    (slice_get-push_left t.scopes new s (slice_get_within t.scopes s row.0 row.1) ∙ row.1) row.2

owner_pushed : (w : WorkState) (new : Group) (g s : ℕ) (group : Group) → Owns w g group s
    → Owns (record w { groups = w.groups ++ new ∷ [] }) g group s
owner_pushed w new g s group owns = record {
  found =
      slice_get-push_left w.groups new g (slice_get_within w.groups g group owns.found)
      ∙ owns.found;
  not_bare = owns.not_bare;
  scope = owns.scope;
}

-- An owner among pushed groups was there before, or is the new one.
owner_cases : (w : WorkState) (new : Group) (g s : ℕ) (group : Group)
    → Owns (record w { groups = w.groups ++ new ∷ [] }) g group s
    → Owns w g group s ⊎ ((g ≡ length w.groups) × (new.bare ≡ false) × (new.scope ≡ s))
owner_cases w new g s group owns =
    elim (push_cases w.groups new g group owns.found) [
      | inl was ↦ inl (record { found = was; not_bare = owns.not_bare; scope = owns.scope })
      | inr last ↦
          inr (
            last.0,
            ap (λ row. row.bare) (sym last.1) ∙ owns.not_bare,
            ap (λ row. row.scope) (sym last.1) ∙ owns.scope,
          )
    ]

-- A new scope that isn't a group's.
pub owners_scope : (p : State) (n c : ℕ) (new : Scope) → is_group_kind new.kind ≡ false
    → AreGroupScopes p
    → AreGroupScopes
    (record {
      count = n;
      tree = record p.tree { clock = c; scopes = p.tree.scopes ++ new ∷ [] };
      work = p.work;
    })
owners_scope p n c new other old = record {
  owned =
      λ s row found is.
      elim (push_cases p.tree.scopes new s row found) [
        | inl was ↦ old.owned s row was is
        | inr last ↦ absurd (both_ways (is_group_kind new.kind) other (rw (last.1) at is))
      ];
  once = old.once;
  own = λ g s group owns. kind_pushed is_group_kind p.tree c s new (old.own g s group owns);
}

-- A new group that is bare.
pub owners_bare : (p : State) (n : ℕ) (new : Group) → new.bare ≡ true → AreGroupScopes p
    → AreGroupScopes
    (record {
      count = n;
      tree = p.tree;
      work = record p.work { groups = p.work.groups ++ new ∷ [] };
    })
owners_bare p n new bare old = record {
  owned =
      λ s row found is.
      let own = old.owned s row found is in
      (own.0, own.1, owner_pushed p.work new own.0 s own.1 own.2, own.3);
  once =
      λ s g h a b owns_a owns_b.
      elim (owner_cases p.work new g s a owns_a) [
        | inl x ↦
            elim (owner_cases p.work new h s b owns_b) [
              | inl y ↦ old.once s g h a b x y
              | inr y ↦ absurd (both_ways new.bare y.1 bare)
            ]
        | inr x ↦ absurd (both_ways new.bare x.1 bare)
      ];
  own =
      λ g s group owns.
      elim (owner_cases p.work new g s group owns) [
        | inl x ↦ old.own g s group x
        | inr x ↦ absurd (both_ways new.bare x.1 bare)
      ];
}

-- A new group in a new scope of its own, which has its name.
pub owners_made : (p : State) (n c : ℕ) (row : Scope) (new : Group)
    → is_group_kind row.kind ≡ true → new.bare ≡ false → new.scope ≡ length p.tree.scopes
    → new.name ≡ row.name
    → ((g : ℕ) (group : Group) → HasRow p.work.groups g group → group.scope < length p.tree.scopes)
    → AreGroupScopes p
    → AreGroupScopes
    (record {
      count = n;
      tree = record p.tree { clock = c; scopes = p.tree.scopes ++ row ∷ [] };
      work = record p.work { groups = p.work.groups ++ new ∷ [] };
    })
owners_made p n c row new is not_bare scope name within old = record {
  owned =
      λ s r found group_scope.
      elim (push_cases p.tree.scopes row s r found) [
        | inl was ↦
            (let own = old.owned s r was group_scope in
            (own.0, own.1, owner_pushed p.work new own.0 s own.1 own.2, own.3))
        | inr last ↦ (
          length p.work.groups,
          new,
          record {
            found = slice_get-push_last p.work.groups new;
            not_bare = not_bare;
            scope = scope ∙ sym last.0;
          },
          name ∙ ap (λ r. r.name) (sym last.1),
        )
      ];
  once =
      λ s g h a b owns_a owns_b.
      elim (owner_cases p.work new g s a owns_a) [
        | inl x ↦
            elim (owner_cases p.work new h s b owns_b) [
              | inl y ↦ old.once s g h a b x y
              | inr y ↦ absurd (omega (arith, within g a x.found, x.scope, y.2, scope))
            ]
        | inr x ↦
            elim (owner_cases p.work new h s b owns_b) [
              | inl y ↦ absurd (omega (arith, within h b y.found, y.scope, x.2, scope))
              | inr y ↦ x.0 ∙ sym y.0
            ]
      ];
  own =
      λ g s group owns.
      elim (owner_cases p.work new g s group owns) [
        | inl x ↦ kind_pushed is_group_kind p.tree c s row (old.own g s group x)
        | inr x ↦
            row_kind is_group_kind
            (record p.tree { clock = c; scopes = p.tree.scopes ++ row ∷ [] }) s
            row
            (ap (slice_get (p.tree.scopes ++ row ∷ [])) (sym x.2 ∙ scope)
            ∙ slice_get-push_last p.tree.scopes row) is
      ];
}
