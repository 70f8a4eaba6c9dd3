-- The marks after one more scope was hit and its mark has spread down.
use Rattle.run_model.proofs.Common.{◌≡◌, ◌≢◌, ◌⊎◌, ℕ, zero, suc, ◌<◌, ◌≤◌, Bool, true, false, cond}
use Rattle.run_model.proofs.Common.{List, ◌||◌, length, Option, Some, None, inl, inr, refl, sym}
use Rattle.run_model.proofs.Common.{ap, subst, ◌∙◌, arith, is_some, slice_get, option_map}
use Rattle.run_model.proofs.Common.{option_and_then, option_or, cases_eq, false≢true, none-some}
use Rattle.run_model.proofs.Common.{same_Some, slice_get-map, slice_get_within, at_row, is_root}
use Rattle.run_model.proofs.Common.{is_detached, own_hit, first_hit, ending, AreOrdered, with_hit}
use Rattle.run_model.proofs.Common.{length-at_row, slice_get-at_row_same, slice_get-at_row_other}
use Rattle.run_model.proofs.Common.{row_there}
use Rattle.run_model.specs.declared.scopes.Hit.{Hit}
use Rattle.run_model.specs.declared.scopes.Scope.{Scope}
use Rattle.run_model.proofs.RowLemmas.{map-at_row}
use Rattle.model_laws.specs.Searches.{above, joined}
use Rattle.model_laws.proofs.Lines.{first_hit_up}
use Rattle.scope_tree.specs.Links.{link_of, links_of}
use Rattle.scope_tree.specs.Marks.{IsMark, AreMarked, AreKept, Struck, mark_of}
use Rattle.scope_tree.specs.Spread.{Child, Since, IsSpread}
use Rattle.scope_tree.proofs.Growing.{first_none}
use Rattle.scope_tree.proofs.Spread.{no_some}
use Rattle.model_laws.proofs.Levels.{ordered_hit}

-- A join that is none is of none.
joined_none : (up : Option (ℕ × Hit)) (s : ℕ) (own : Option Hit) → joined up s own ≡ None
    → (up ≡ None) × (own ≡ None)
joined_none up s None is = (is, refl)
joined_none up s (Some h) is = absurd (none-some _ (sym is))

module _ (rows : List Scope) (old new : List (Option ℕ)) (at : ℕ) (hit : Hit)
    (ordered : AreOrdered rows) (struck : Struck rows at hit) (were : AreMarked rows old)
    (spread : IsSpread (links_of rows) old new at) where
  abbrev pub after : List Scope
  after = at_row (with_hit hit) at rows

  ordered' : AreOrdered after
  ordered' = ordered_hit hit at rows ordered

  -- The links lead to lesser numbers.
  link_at : (s : ℕ) (row : Scope) → slice_get rows s ≡ Some row
      → slice_get (links_of rows) s ≡ Some (link_of row)
  link_at s row found = slice_get-map link_of rows s ∙ ap (option_map link_of) found

  child_of : (s p : ℕ) (row : Scope) → slice_get rows s ≡ Some row → Child (links_of rows) s p
      → link_of row ≡ Some p
  child_of s p row found child = same_Some (link_of row) (Some p) (sym (link_at s row found)
      ∙ child)

  -- A scope with a link is neither root nor detached, and its parent is the link.
  record HasUp (row : Scope) (p : ℕ) : Type 0 where
    below_root : is_root row.kind ≡ false
    joins : is_detached row.kind ≡ false
    up : row.parent ≡ p

  has_up : (row : Scope) (p : ℕ) → link_of row ≡ Some p → HasUp row p
  has_up row p is = by_kinds (is_root row.kind) (is_detached row.kind) refl refl is
    where
      by_kinds : (r d : Bool) → is_root row.kind ≡ r → is_detached row.kind ≡ d
          → cond (r || d) None (Some row.parent) ≡ Some p → HasUp row p
      by_kinds true d root joins is = absurd (none-some p is)
      by_kinds false true root joins is = absurd (none-some p is)
      by_kinds false false root joins is =
          record { below_root = root; joins = joins; up = same_Some row.parent p is }

  less_up : (s p : ℕ) (row : Scope) → slice_get rows s ≡ Some row → HasUp row p → p < s
  less_up s p row found up =
      subst (λ q. q < s) up.up (ordered s row found up.below_root)

  -- What was marked since is not above the scope that was hit.
  since_above : (most t : ℕ) → t < most → t < length rows → Since old new at t → at ≤ t
  since_above zero t less known since = absurd (omega (arith, less))
  since_above (suc most) t less known since = elim (spread.so_far.below t since) [
    | inl same ↦ omega (arith, same)
    | inr higher ↦ (let row = row_there rows t known in
        let up = has_up row.0 higher.0 (child_of t higher.0 row.0 row.1 higher.1) in
        let below = less_up t higher.0 row.0 row.1 up in
        let reached = since_above most higher.0 (omega (arith, below, less))
        (omega (arith, below, known)) higher.2 in
        omega (arith, reached, below))
  ]

  -- ---- one scope that was not done

  module _ (s : ℕ) (row : Scope) (found : slice_get rows s ≡ Some row)
      (was : mark_of old s ≡ None) (live : first_hit rows s ≡ None)
      (lesser : (t : ℕ) → t < s → mark_of old t ≡ None → IsMark after t (mark_of new t)) where
    -- no first hit before
    parts : is_detached row.kind ≡ false
        → (above (first_hit rows) None row ≡ None) × (row.hit ≡ None)
    parts joins = joined_none (above (first_hit rows) None row) s row.hit
        (ap (λ b. cond b None (joined (above (first_hit rows) None row) s row.hit)) (sym joins)
        ∙ sym (first_hit_up rows s row ordered found) ∙ live)

    -- its parent was not done either
    parent_free : (p : ℕ) → HasUp row p → mark_of old p ≡ None
    parent_free p up = by_mark (mark_of old p) refl (were.right p
        (omega (arith, less_up s p row found up, slice_get_within rows s row found)))
      where
        none : first_hit rows p ≡ None
        none = ap (first_hit rows) (sym up.up)
            ∙ ap (λ b. cond b None (first_hit rows row.parent)) (sym up.below_root)
            ∙ (parts up.joins).0

        by_mark : (m : Option ℕ) → mark_of old p ≡ m → IsMark rows p m → mark_of old p ≡ None
        by_mark None at is = at
        by_mark (Some n) at is =
            absurd (none-some is.0 (sym (ap (option_map (λ a. a.1)) none) ∙ is.1))

    -- no new mark, but from above or by the hit itself
    no_mark : s ≢ at → ((p : ℕ) → HasUp row p → mark_of new p ≡ None) → mark_of new s ≡ None
    no_mark other above_free = elim (spread.so_far.fresh s was) [
      | inl none ↦ none
      | inr marked ↦ elim (spread.so_far.below s (record { was = was; is = marked })) [
        | inl same ↦ absurd (other same)
        | inr higher ↦ (let up = has_up row higher.0 (child_of s higher.0 row found higher.1) in
            no_some at (mark_of new higher.0) (above_free higher.0 up) higher.2.is)
      ]
    ]

    row_stays : s ≢ at → slice_get after s ≡ Some row
    row_stays other = slice_get-at_row_other (with_hit hit) at s rows other ∙ found

    first_is : s ≢ at → first_hit after s
        ≡ cond (is_detached row.kind) None (joined (above (first_hit after) None row) s row.hit)
    first_is other = first_hit_up after s row ordered' (row_stays other)

    unmarked_is : first_hit after s ≡ None → mark_of new s ≡ None
        → IsMark after s (mark_of new s)
    unmarked_is none free =
        subst (IsMark after s) (sym free) (ap (option_map (λ a. a.1)) none)

    -- a detached scope
    detached_marked : is_detached row.kind ≡ true → IsMark after s (mark_of new s)
    detached_marked apart = unmarked_is
        (first_is other ∙ ap (λ b. cond b None (joined (above (first_hit after) None row) s
        row.hit))
        apart)
        (no_mark other (λ p up. absurd (false≢true (sym up.joins ∙ apart))))
      where
        other : s ≢ at
        other same = false≢true (sym (struck.joins row (ap (slice_get rows) (sym same) ∙ found))
            ∙ apart)

    -- what the hit after it is, from above
    first_joins : is_detached row.kind ≡ false → s ≢ at
        → first_hit after s ≡ above (first_hit after) None row
    first_joins joins other = first_is other
        ∙ ap (λ b. cond b None (joined (above (first_hit after) None row) s row.hit)) joins
        ∙ ap (joined (above (first_hit after) None row) s) (parts joins).1

    root_marked : is_detached row.kind ≡ false → is_root row.kind ≡ true → s ≢ at
        → IsMark after s (mark_of new s)
    root_marked joins root other = unmarked_is
        (first_joins joins other ∙ ap (λ b. cond b None (first_hit after row.parent)) root)
        (no_mark other (λ p up. absurd (false≢true (sym up.below_root ∙ root))))

    below_marked : (up : HasUp row row.parent) → s ≢ at → IsMark after s (mark_of new s)
    below_marked up other =
        let less = less_up s row.parent row found up in
        let free = parent_free row.parent up in
        let is = lesser row.parent less free in
        let first = first_joins up.joins other
        ∙ ap (λ b. cond b None (first_hit after row.parent)) up.below_root in
        elim (spread.so_far.fresh row.parent free) [
          | inl none ↦ unmarked_is
              (first ∙ first_none (first_hit after row.parent)
              (subst (IsMark after row.parent) none is))
              (no_mark other (λ p up'. ap (mark_of new) (sym up'.up) ∙ none))
          | inr marked ↦ elim (spread.so_far.fresh s was) [
            | inr here ↦ subst (IsMark after s) (sym here)
                (from_parent (ap (option_map (λ a. a.1)) first)
                (subst (IsMark after row.parent) marked is))
            | inl none ↦ absurd (not_none none (spread.down s row.parent (link_is up)
                (record { was = free; is = marked })))
          ]
        ]
      where
        link_is : HasUp row row.parent → Child (links_of rows) s row.parent
        link_is up = link_at s row found
            ∙ ap Some (ap (λ b. cond (b || is_detached row.kind) None (Some row.parent))
            up.below_root
            ∙ ap (λ b. cond b None (Some row.parent)) up.joins)

        from_parent : ending after s ≡ ending after row.parent → IsMark after row.parent (Some at)
            → IsMark after s (Some at)
        from_parent same is = (is.0, same ∙ is.1, is.2)

        not_none : mark_of new s ≡ None
            → (is_some (mark_of new s) ≡ true) ⊎ ⊥ ⊎ ((row.parent ≡ 0) × (s < 0)) → ⊥
        not_none none (inl some) = false≢true (sym (ap is_some none) ∙ some)
        not_none none (inr (inl gone)) = gone
        not_none none (inr (inr last)) = omega (arith, last.1)

    -- the scope that was hit
    hit_marked : s ≡ at → is_detached row.kind ≡ false → IsMark after s (mark_of new s)
    hit_marked same joins =
        let own = (parts joins).1 in
        let there : slice_get after s ≡ Some (with_hit hit row) =
        ap (slice_get after) same ∙ slice_get-at_row_same (with_hit hit) at rows
        ∙ ap (option_map (with_hit hit)) (ap (slice_get rows) (sym same) ∙ found) in
        let hit_is : (with_hit hit row).hit ≡ Some hit = ap (λ o. option_or o (Some hit)) own in
        let first = first_hit_up after s (with_hit hit row) ordered' there
        ∙ ap (λ b. cond b None
        (joined (above (first_hit after) None row) s (option_or row.hit (Some hit)))) joins
        ∙ ap (λ o. joined o s (option_or row.hit (Some hit))) no_up
        ∙ ap (joined None s) hit_is in
        subst (IsMark after s) (sym (marked_here (mark_of new s) refl)) (
          hit,
          ap (option_map (λ a. a.1)) first,
          ap (own_hit after) (sym same) ∙ ap (option_and_then (λ r. r.hit)) there ∙ hit_is,
        )
      where
        marked_here : (m : Option ℕ) → mark_of new s ≡ m → mark_of new s ≡ Some at
        marked_here m is = elim (spread.so_far.fresh s was) [
          | inl none ↦ absurd (false≢true (sym (ap is_some (ap (mark_of new) (sym same) ∙ none))
              ∙ spread.so_far.here))
          | inr marked ↦ marked
        ]

        no_up : above (first_hit after) None row ≡ None
        no_up = by_root (is_root row.kind) refl
          where
            by_root : (r : Bool) → is_root row.kind ≡ r → cond r None (first_hit after row.parent)
                ≡ None
            by_root true is = refl
            by_root false is =
                let up : HasUp row row.parent =
                record { below_root = is; joins = joins; up = refl } in
                let less = less_up s row.parent row found up in
                let free = parent_free row.parent up in
                elim (spread.so_far.fresh row.parent free) [
                  | inl none ↦ first_none (first_hit after row.parent)
                      (subst (IsMark after row.parent) none (lesser row.parent less free))
                  | inr marked ↦ (let reached = since_above (suc row.parent) row.parent
                      (omega arith) (omega (arith, less, slice_get_within rows s row found))
                      (record { was = free; is = marked }) in
                      absurd (omega (arith, reached, less, same)))
                ]

    free_marked : IsMark after s (mark_of new s)
    free_marked = by_detached (is_detached row.kind) refl
      where
        by_root : (r : Bool) → is_detached row.kind ≡ false → is_root row.kind ≡ r → s ≢ at
            → IsMark after s (mark_of new s)
        by_root true joins root other = root_marked joins root other
        by_root false joins root other =
            below_marked (record { below_root = root; joins = joins; up = refl }) other

        by_detached : (d : Bool) → is_detached row.kind ≡ d → IsMark after s (mark_of new s)
        by_detached true is = detached_marked is
        by_detached false is = elim (cases_eq s at) [
          | inl same ↦ hit_marked same is
          | inr other ↦ by_root (is_root row.kind) is refl other
        ]

  -- ---- all scopes

  own_stays : (n : ℕ) (h : Hit) → own_hit rows n ≡ Some h → own_hit after n ≡ Some h
  own_stays n h own = elim (cases_eq n at) [
    | inr other ↦ ap (option_and_then (λ r. r.hit))
        (slice_get-at_row_other (with_hit hit) at n rows other) ∙ own
    | inl same ↦ by_row (slice_get rows n) refl own
        (ap (slice_get after) same ∙ slice_get-at_row_same (with_hit hit) at rows
        ∙ ap (option_map (with_hit hit)) (ap (slice_get rows) (sym same)))
  ]
    where
      by_row : (o : Option Scope) → slice_get rows n ≡ o
          → option_and_then (λ r. r.hit) o ≡ Some h
          → slice_get after n ≡ option_map (with_hit hit) (slice_get rows n)
          → own_hit after n ≡ Some h
      by_row None is has there = absurd (none-some h has)
      by_row (Some r) is has there =
          ap (option_and_then (λ x. x.hit)) (there ∙ ap (option_map (with_hit hit)) is)
          ∙ ap (λ o. option_or o (Some hit)) has

  by_mark : (s : ℕ) → s < length rows
      → ((t : ℕ) → t < s → mark_of old t ≡ None → IsMark after t (mark_of new t))
      → (m : Option ℕ) → mark_of old s ≡ m → IsMark rows s m → IsMark after s (mark_of new s)
  by_mark s known lesser (Some n) was is = subst (IsMark after s) (sym (spread.so_far.kept s n was))
      (is.0, struck.stays s is.0 known is.1, own_stays n is.0 is.2)
  by_mark s known lesser None was is =
      let row = row_there rows s known in
      free_marked s row.0 row.1 was (first_none (first_hit rows s) is) lesser

  mark_right : (most s : ℕ) → s < most → s < length rows → IsMark after s (mark_of new s)
  mark_right zero s less known = absurd (omega (arith, less))
  mark_right (suc most) s less known =
      by_mark s known (λ t below free. mark_right most t (omega (arith, below, less))
      (omega (arith, below, known)))
      (mark_of old s) refl (were.right s known)

  marked_struck : AreMarked after new
  marked_struck = record {
    same = spread.so_far.same ∙ were.same ∙ sym (length-at_row (with_hit hit) at rows);
    right = λ s known. mark_right (suc s) s (omega arith)
        (omega (arith, known, length-at_row (with_hit hit) at rows));
  }

-- So the indexes of the rows stay right.
pub kept_struck : (rows : List Scope) (old new links : List (Option ℕ)) (at : ℕ) (hit : Hit)
    → AreKept rows old links → Struck rows at hit → IsSpread links old new at
    → AreKept (at_row (with_hit hit) at rows) new links
kept_struck rows old new links at hit were struck spread = record {
  ordered = ordered_hit hit at rows were.ordered;
  few = omega (arith, were.few, length-at_row (with_hit hit) at rows);
  marked = marked_struck rows old new at hit were.ordered struck were.marked
      (subst (λ l. IsSpread l old new at) were.linked spread);
  linked = were.linked ∙ sym (map-at_row link_of (with_hit hit) at rows (λ row. refl));
}

-- If the scope was marked before, no mark spreads down.
pub no_spread : (links marks : List (Option ℕ)) (at : ℕ) → is_some (mark_of marks at) ≡ true
    → IsSpread links marks marks at
no_spread links marks at here = record {
  so_far = record {
    same = refl;
    here = here;
    kept = λ t n was. was;
    fresh = λ t was. inl was;
    below = λ t since. no_some at (mark_of marks t) since.was since.is;
  };
  listed = λ p among. absurd among;
  down = λ t p child since. no_some at (mark_of marks p) since.was since.is;
}
