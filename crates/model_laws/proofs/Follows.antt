-- The effect of any event on a tree: the old rows stay, perhaps with a hit of this event, and there
-- may be one more row at the end.
use Rattle.run_model.proofs.Common.{◌≡◌, ◌⊎◌, ◌<◌, ◌≤◌, ℕ, nat_le, List, [], ◌∷◌, ◌++◌, length}
use Rattle.run_model.proofs.Common.{map, Option, Some, None, slice_get, inl, inr, refl, sym, subst}
use Rattle.run_model.proofs.Common.{ap, ◌∙◌, arith, option_map, option_map_or, option_or, leb-true}
use Rattle.run_model.proofs.Common.{cases_eq, same_Some, none-some, cond_some, slice_get-map}
use Rattle.run_model.proofs.Common.{slice_get_within, new_scope, at_row, TreeState, with_hit}
use Rattle.run_model.proofs.Common.{hit_due, tick, after_derive, after_cancel, after_advance}
use Rattle.run_model.proofs.Common.{new_hit, slice_get-at_row_same, slice_get-at_row_other}
use Rattle.run_model.proofs.Common.{at_row_cases, slice_get-push_left, push_cases, map_cases}
use Rattle.run_model.specs.declared.scopes.Hit.{Hit}
use Rattle.run_model.specs.declared.scopes.Kind.{Kind}
use Rattle.run_model.specs.declared.scopes.Kind.TheVariants as kind
use Rattle.run_model.specs.declared.scopes.Scope.{Scope}
use Rattle.run_model.specs.declared.scopes.Reason.TheVariants.{Canceled, DeadlineExceeded}

-- ---- hits

-- The hit came with event e, at a moment that the clock has reached.
pub record IsOf (e now : ℕ) (hit : Hit) : Type 0 where
  pub event : hit.event ≡ e
  pub moment : hit.moment ≤ now

-- The old hit stays, or there was none and the new one is of event e.
pub record HitFollows (e now : ℕ) (old new : Option Hit) : Type 0 where
  pub stays : (hit : Hit) → old ≡ Some hit → new ≡ Some hit
  pub comes : (hit : Hit) → new ≡ Some hit → (old ≡ Some hit) ⊎ IsOf e now hit

hit_same : (e now : ℕ) (own : Option Hit) → HitFollows e now own own
hit_same e now own = record { stays = λ hit had. had; comes = λ hit has. inl has }

hit_joins : (e now later : ℕ) (a b c : Option Hit) → now ≤ later → HitFollows e now a b
    → HitFollows e later b c → HitFollows e later a c
hit_joins e now later a b c less first second = record {
  stays = λ hit had. second.stays hit (first.stays hit had);
  comes = λ hit has. elim (second.comes hit has)
      [ inl had ↦ before hit (first.comes hit had) | inr new ↦ inr new ];
}
  where
    before : (hit : Hit) → (a ≡ Some hit) ⊎ IsOf e now hit → (a ≡ Some hit) ⊎ IsOf e later hit
    before hit (inl had) = inl had
    before hit (inr new) = inr (record { event = new.event; moment = omega (arith, new.moment) })

or_else_follows : (e now : ℕ) (own : Option Hit) (hit : Hit) → IsOf e now hit
    → HitFollows e now own (option_or own (Some hit))
or_else_follows e now None hit of = record {
  stays = λ h had. absurd (none-some h had);
  comes = λ h has. inr (subst (IsOf e now) (same_Some hit h has) of);
}
or_else_follows e now (Some own) hit of = hit_same e now (Some own)

-- ---- rows

-- The row is the same, apart from a hit.
pub record RowFollows (e now : ℕ) (old new : Scope) : Type 0 where
  pub kind : new.kind ≡ old.kind
  pub parent : new.parent ≡ old.parent
  pub hit : HitFollows e now old.hit new.hit

row_same : (e now : ℕ) (row : Scope) → RowFollows e now row row
row_same e now row = record { kind = refl; parent = refl; hit = hit_same e now row.hit }

row_joins : (e now later : ℕ) (a b c : Scope) → now ≤ later → RowFollows e now a b
    → RowFollows e later b c → RowFollows e later a c
row_joins e now later a b c less first second = record {
  kind = second.kind ∙ first.kind;
  parent = second.parent ∙ first.parent;
  hit = hit_joins e now later a.hit b.hit c.hit less first.hit second.hit;
}

pub with_hit_follows : (e now : ℕ) (hit : Hit) (row : Scope) → IsOf e now hit
    → RowFollows e now row (with_hit hit row)
with_hit_follows e now hit row of =
    record { kind = refl; parent = refl; hit = or_else_follows e now row.hit hit of }

due_of : (e now : ℕ) (kind : Kind) (hit : Hit) → hit_due e now kind ≡ Some hit → IsOf e now hit
due_of e now (kind.Deadline moment cause) hit due =
    let parts = cond_some (nat_le moment now) (new_hit e moment DeadlineExceeded cause) hit due in
    subst (IsOf e now) parts.1 (record { event = refl; moment = leb-true moment now parts.0 })
due_of e now kind.Root hit due = absurd (none-some hit due)
due_of e now kind.Cancel hit due = absurd (none-some hit due)
due_of e now kind.Cause hit due = absurd (none-some hit due)
due_of e now (kind.Value key text) hit due = absurd (none-some hit due)
due_of e now kind.Detached hit due = absurd (none-some hit due)
due_of e now kind.Group hit due = absurd (none-some hit due)

pub tick_follows : (e now : ℕ) (row : Scope) → RowFollows e now row (tick e now row)
tick_follows e now row = by_due (hit_due e now row.kind) (due_of e now row.kind)
  where
    by_due : (due : Option Hit) → ((hit : Hit) → due ≡ Some hit → IsOf e now hit)
        → RowFollows e now row (option_map_or (λ hit. with_hit hit row) due row)
    by_due None of = row_same e now row
    by_due (Some hit) of = with_hit_follows e now hit row (of hit refl)

-- ---- trees

-- A new row: its parent has a lower number, and it has at most a hit of event e.
pub record IsNewRow (e now s : ℕ) (row : Scope) : Type 0 where
  pub parent : row.parent < s
  pub hit : HitFollows e now None row.hit

-- Each old row is still there, apart from a hit, and every other row is new.
pub record RowsFollow (e now : ℕ) (old new : List Scope) : Type 0 where
  pub kept : (s : ℕ) (a : Scope) → slice_get old s ≡ Some a
      → (b : Scope) × (slice_get new s ≡ Some b) × RowFollows e now a b
  pub from : (s : ℕ) (b : Scope) → slice_get new s ≡ Some b
      → ((a : Scope) × (slice_get old s ≡ Some a) × RowFollows e now a b) ⊎ IsNewRow e now s b

pub rows_same : (e now : ℕ) (rows : List Scope) → RowsFollow e now rows rows
rows_same e now rows = record {
  kept = λ s a found. (a, found, row_same e now a);
  from = λ s b found. inl (b, found, row_same e now b);
}

new_row_joins : (e now later s : ℕ) (b c : Scope) → now ≤ later → IsNewRow e now s b
    → RowFollows e later b c → IsNewRow e later s c
new_row_joins e now later s b c less new follows = record {
  parent = omega (arith, new.parent, follows.parent);
  hit = hit_joins e now later None b.hit c.hit less new.hit follows.hit;
}

pub rows_join : (e now later : ℕ) (a b c : List Scope) → now ≤ later → RowsFollow e now a b
    → RowsFollow e later b c → RowsFollow e later a c
rows_join e now later a b c less first second = record {
  kept = λ s x found.
      let y = first.kept s x found in
      let z = second.kept s y.0 y.1 in
      (z.0, z.1, row_joins e now later x y.0 z.0 less y.2 z.2);
  from = λ s z found. elim (second.from s z found)
      [ inl y ↦ before s z y.0 y.2 (first.from s y.0 y.1) | inr new ↦ inr new ];
}
  where
    before : (s : ℕ) (z y : Scope) → RowFollows e later y z
        → ((x : Scope) × (slice_get a s ≡ Some x) × RowFollows e now x y) ⊎ IsNewRow e now s y
        → ((x : Scope) × (slice_get a s ≡ Some x) × RowFollows e later x z) ⊎ IsNewRow e later s z
    before s z y follows (inl x) = inl (x.0, x.1, row_joins e now later x.0 y z less x.2 follows)
    before s z y follows (inr new) = inr (new_row_joins e now later s y z less new follows)

-- The clock doesn't go back.
pub record TreeFollows (e : ℕ) (old new : TreeState) : Type 0 where
  pub clock : old.clock ≤ new.clock
  pub rows : RowsFollow e new.clock old.scopes new.scopes

pub tree_same : (e : ℕ) (t : TreeState) → TreeFollows e t t
tree_same e t = record { clock = omega arith; rows = rows_same e t.clock t.scopes }

pub tree_joins : (e : ℕ) (a b c : TreeState) → TreeFollows e a b → TreeFollows e b c
    → TreeFollows e a c
tree_joins e a b c first second = record {
  clock = omega (arith, first.clock, second.clock);
  rows = rows_join e b.clock c.clock a.scopes b.scopes c.scopes second.clock first.rows second.rows;
}

-- ---- the changes of a tree

-- A row is pushed.
pub derived : (e now : ℕ) (name : List ℕ) (parent : ℕ) (kind : Kind) (rows : List Scope)
    → parent < length rows
    → RowsFollow e now rows (rows ++ tick e now (new_scope name parent kind) ∷ [])
derived e now name parent kind rows known = record {
  kept = λ s a found.
      let there = slice_get-push_left rows new s (slice_get_within rows s a found) in
      (a, there ∙ found, row_same e now a);
  from = λ s b found. elim (push_cases rows new s b found) [
    | inl old ↦ inl (b, old, row_same e now b)
    | inr last ↦ inr (made s b last.0 last.1)
  ];
}
  where
    new : Scope
    new = tick e now (new_scope name parent kind)

    made : (s : ℕ) (b : Scope) → s ≡ length rows → b ≡ tick e now (new_scope name parent kind)
        → IsNewRow e now s b
    made s b place same =
        let follows = tick_follows e now (new_scope name parent kind) in
        subst (IsNewRow e now s) (sym same)
        (record { parent = omega (arith, known, place, follows.parent); hit = follows.hit })

-- A row is hit.
pub cancelled : (e now s : ℕ) (hit : Hit) (rows : List Scope) → IsOf e now hit
    → RowsFollow e now rows (at_row (with_hit hit) s rows)
cancelled e now s hit rows of = record {
  kept = λ n a found. elim (cases_eq n s) [
    | inl here ↦ at_it n a found here
    | inr other ↦ (a, slice_get-at_row_other change s n rows other ∙ found, row_same e now a)
  ];
  from = λ n b found. elim (at_row_cases change s n rows b found) [
    | inl other ↦ inl (b, other.1, row_same e now b)
    | inr it ↦ inl (it.old, it.found, from_old it.old b it.changed)
  ];
}
  where
    change : Scope → Scope
    change = with_hit hit

    changed : (row : Scope) → RowFollows e now row (with_hit hit row)
    changed row = with_hit_follows e now hit row of

    from_old : (old row : Scope) → row ≡ with_hit hit old → RowFollows e now old row
    from_old old row is = subst (RowFollows e now old) (sym is) (changed old)

    at_it : (n : ℕ) (a : Scope) → slice_get rows n ≡ Some a → n ≡ s
        → (b : Scope) × (slice_get (at_row (with_hit hit) s rows) n ≡ Some b) × RowFollows e now a b
    at_it n a found here = (
      with_hit hit a,
      ap (slice_get (at_row (with_hit hit) s rows)) here
          ∙ slice_get-at_row_same (with_hit hit) s rows
          ∙ ap (option_map (with_hit hit)) (ap (slice_get rows) (sym here) ∙ found),
      changed a,
    )

-- The deadlines that have come are exceeded.
pub ticked : (e now : ℕ) (rows : List Scope) → RowsFollow e now rows (map (tick e now) rows)
ticked e now rows = record {
  kept = λ s a found.
      let there = slice_get-map (tick e now) rows s in
      (tick e now a, there ∙ ap (option_map (tick e now)) found, tick_follows e now a);
  from = λ s b found.
      let old = map_cases (tick e now) s rows b found in
      inl (old.0, old.1, subst (RowFollows e now old.0) (sym old.2) (tick_follows e now old.0));
}

pub derive_follows : (e : ℕ) (name : List ℕ) (parent : ℕ) (kind : Kind) (t : TreeState)
    → parent < length t.scopes → TreeFollows e t (after_derive e name parent kind t)
derive_follows e name parent kind t known =
    record { clock = omega arith; rows = derived e t.clock name parent kind t.scopes known }

pub cancel_follows : (e s : ℕ) (cause : Option (List ℕ)) (t : TreeState)
    → TreeFollows e t (after_cancel e s cause t)
cancel_follows e s cause t = record {
  clock = omega arith;
  rows = cancelled e t.clock s hit t.scopes (record { event = refl; moment = omega arith });
}
  where
    hit : Hit
    hit = new_hit e t.clock Canceled cause

pub advance_follows : (e moment : ℕ) (t : TreeState) → t.clock ≤ moment
    → TreeFollows e t (after_advance e moment t)
advance_follows e moment t less = record { clock = less; rows = ticked e moment t.scopes }
