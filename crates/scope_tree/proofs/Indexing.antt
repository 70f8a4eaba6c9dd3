-- Rows that change, and their indexes.
use Rattle.run_model.proofs.Common.{◌≡◌, ◌<◌, ◌≤◌, ℕ, false, List, [], ◌∷◌, ◌++◌, length, take}
use Rattle.run_model.proofs.Common.{Option, inl, inr, refl, sym, subst, ap, ◌∙◌, arith}
use Rattle.run_model.proofs.Common.{none-some, length-append, cases_eq, slice_get_within, at_row}
use Rattle.run_model.proofs.Common.{option_map, slice_get, is_root, with_hit, AreOrdered}
use Rattle.run_model.proofs.Common.{length-at_row, slice_get-at_row_same, slice_get-at_row_other}
use Rattle.run_model.proofs.Common.{slice_get-push_left}
use Rattle.run_model.specs.declared.bounds.TheConstants.{MOST_SCOPES}
use Rattle.run_model.specs.declared.scopes.Hit.{Hit}
use Rattle.run_model.specs.declared.scopes.Scope.{Scope}
use Rattle.scope_tree.specs.Chains.{Places}
use Rattle.scope_tree.specs.Deadlines.{AreWaiting}
use Rattle.scope_tree.specs.Links.{AreFound}
use Rattle.scope_tree.specs.Marks.{AreMarked, AreKept, IsMark}
use Rattle.scope_tree.specs.Reaches.{AreReached, AreReaches}
use Rattle.scope_tree.specs.IndexedRows.{Numbered, IsIndexed}
use Rattle.scope_tree.specs.declared.indexes.reaches.Reach.{Reach}
use Rattle.scope_tree.proofs.Prefixes.{given_back}
use Rattle.scope_tree.proofs.Growing.{ordered_pushed, marked_pushed}
use Rattle.scope_tree.proofs.Nearing.{AreAgain, reaches_again}
use Rattle.scope_tree.proofs.Waiting.{has_deadline}

-- ---- no row

none_found : (capacity : ℕ) → AreFound [] capacity (record { capacity = capacity; keys = [] })
    (record { capacity = capacity; keys = [] })
none_found capacity = record {
  named = record { distinct = λ s t a b at other e. absurd (none-some a at); homes = refl };
  linked = refl;
  names_fit = refl;
  links_fit = refl;
}

none_wait : AreWaiting [] []
none_wait = record {
  heap = record {
    known = λ n among. absurd (omega (arith, among.1));
    few = omega arith;
    heap = λ p j parent less. absurd (omega (arith, less));
  };
  fits = omega arith;
  dues = λ n among. absurd (omega (arith, among.1));
  waits = λ n dated unhit. (let has = has_deadline [] n dated in
      absurd (none-some has.row has.found));
}

none_indexed : (capacity : ℕ) → capacity ≤ MOST_SCOPES
    → IsIndexed (record { capacity = capacity; rows = [] }) []
    (record { capacity = capacity; keys = [] }) (record { capacity = capacity; keys = [] }) [] []
    capacity capacity
none_indexed capacity most = record {
  few = omega arith;
  most = most;
  ordered = λ s row found below. absurd (none-some row found);
  marked = record { same = refl; right = λ s less. absurd (omega (arith, less)) };
  found = none_found capacity;
  waiting = none_wait;
  reached = record { same = refl; right = λ s reach found. absurd (none-some reach found) };
  marks_fit = refl;
  reaches_fit = refl;
}

pub all_empty : (capacity : ℕ) (rows : List Scope) (row_capacity : ℕ) (marks : List (Option ℕ))
    (names links : Places) (due : List ℕ) (reaches : List Reach) (m u : ℕ) → capacity ≤ MOST_SCOPES
    → rows ≡ [] → row_capacity ≡ capacity → marks ≡ []
    → names ≡ record { capacity = capacity; keys = [] }
    → links ≡ record { capacity = capacity; keys = [] } → due ≡ [] → reaches ≡ []
    → m ≡ capacity → u ≡ capacity
    → IsIndexed (record { capacity = row_capacity; rows = rows }) marks names links due reaches m u
all_empty capacity rows row_capacity marks names links due reaches m u most a b c d e f g h i =
    rw (a, b, c, d, e, f, g, h, i) (none_indexed capacity most)

-- ---- a row more

pub again_pushed : (rows : List Scope) (row : Scope) → AreAgain rows (rows ++ row ∷ [])
again_pushed rows row s at found = record {
  to = at;
  found = slice_get-push_left rows row s (slice_get_within rows s at found) ∙ found;
  kind = refl;
  parent = refl;
}

pub reaches_pushed_right : (rows : List Scope) (row : Scope) (reaches : List Reach)
    → AreOrdered rows → (is_root row.kind ≡ false → row.parent < length rows)
    → AreReached rows reaches → AreReaches (rows ++ row ∷ []) reaches
reaches_pushed_right rows row reaches ordered known were =
    reaches_again rows (rows ++ row ∷ []) reaches ordered (ordered_pushed rows row ordered known)
    (again_pushed rows row) were

pub indexed_pushed : (rows rows' : List Scope) (row : Scope) (capacity capacity' : ℕ)
    (marks marks' : List (Option ℕ)) (mark : Option ℕ) (names links names' links' : Places)
    (due due' : List ℕ) (reaches reaches' : List Reach) (m u m' u' : ℕ)
    → IsIndexed (record { capacity = capacity; rows = rows }) marks names links due reaches m u
    → length rows < capacity → (is_root row.kind ≡ false → row.parent < length rows)
    → rows' ≡ rows ++ row ∷ [] → capacity' ≡ capacity
    → IsMark (rows ++ row ∷ []) (length rows) mark → marks' ≡ marks ++ mark ∷ []
    → AreFound rows' capacity' names' links' → AreWaiting rows' due' → AreReached rows' reaches'
    → m' ≡ m → u' ≡ u
    → IsIndexed (record { capacity = capacity'; rows = rows' }) marks' names' links' due' reaches'
    m' u'
indexed_pushed rows rows' row capacity capacity' marks marks' mark names links names' links' due
    due'
    reaches reaches' m u m' u' was more known pushed same right marks_are found waiting reached
    m_is u_is =
    let ordered = ordered_pushed rows row was.ordered known in
    record {
      few = omega (arith, more, same, ap length pushed, length-append rows (row ∷ []));
      most = omega (arith, same, was.most);
      ordered = subst AreOrdered (sym pushed) ordered;
      marked = subst (λ l. AreMarked l marks') (sym pushed)
          (subst (AreMarked (rows ++ row ∷ [])) (sym marks_are)
          (marked_pushed rows row marks mark was.ordered ordered was.marked right));
      found = found;
      waiting = waiting;
      reached = reached;
      marks_fit = m_is ∙ was.marks_fit ∙ sym same;
      reaches_fit = u_is ∙ was.reaches_fit ∙ sym same;
    }

-- ---- rows that change where they stand

pub reached_hit : (hit : Hit) (s : ℕ) (rows : List Scope) (reaches : List Reach) → AreOrdered rows
    → AreOrdered (at_row (with_hit hit) s rows) → AreReached rows reaches
    → AreReached (at_row (with_hit hit) s rows) reaches
reached_hit hit s rows reaches ordered ordered' were = record {
  same = were.same ∙ sym (length-at_row (with_hit hit) s rows);
  right = reaches_again rows (at_row (with_hit hit) s rows) reaches ordered ordered' again were;
}
  where
    again : AreAgain rows (at_row (with_hit hit) s rows)
    again n row found = elim (cases_eq n s) [
      | inl here ↦ record {
        to = with_hit hit row;
        found = ap (slice_get (at_row (with_hit hit) s rows)) here
            ∙ slice_get-at_row_same (with_hit hit) s rows
            ∙ ap (option_map (with_hit hit)) (ap (slice_get rows) (sym here) ∙ found);
        kind = refl;
        parent = refl;
      }
      | inr other ↦ record {
        to = row;
        found = slice_get-at_row_other (with_hit hit) s n rows other ∙ found;
        kind = refl;
        parent = refl;
      }
    ]

-- The rows and the marks are lent to be changed, and returned.
pub kept_lent : (of : Numbered) (rows : List Scope) (marks marks' : List (Option ℕ))
    (names links : Places) (due : List ℕ) (reaches : List Reach) (m u : ℕ)
    → IsIndexed of marks names links due reaches m u → rows ≡ of.rows → marks' ≡ marks
    → AreKept rows marks' links.keys
kept_lent of rows marks marks' names links due reaches m u was rows_are marks_are =
    rw (rows_are, marks_are) (record {
      ordered = was.ordered;
      few = omega (arith, was.few, was.most);
      marked = was.marked;
      linked = was.found.linked;
    })

pub indexed_given_back : (old : Numbered) (rows scopes scope_rest : List Scope)
    (marks marks' mark_rest : List (Option ℕ)) (names links : Places) (due due' : List ℕ)
    (reaches : List Reach) (scope_len mark_len m u : ℕ)
    → IsIndexed old marks names links due reaches m u → length rows ≡ length old.rows
    → scopes ≡ rows → AreKept scopes marks' links.keys → AreFound rows old.capacity names links
    → AreWaiting rows due' → AreReached rows reaches → scope_len ≡ length scopes
    → mark_len ≡ length marks'
    → IsIndexed (record { capacity = old.capacity; rows = take scope_len (scopes ++ scope_rest) })
    (take mark_len (marks' ++ mark_rest)) names links due' reaches m u
indexed_given_back old rows scopes scope_rest marks marks' mark_rest names links due due' reaches n
    k m u was size same kept found waiting reached all_n all_k =
    let rows_back = given_back n scopes scope_rest all_n ∙ same in
    let marks_back = given_back k marks' mark_rest all_k in
    rw (rows_back, marks_back) (record {
      few = omega (arith, size, was.few);
      most = was.most;
      ordered = subst AreOrdered same kept.ordered;
      marked = subst (λ l. AreMarked l marks') same kept.marked;
      found = found;
      waiting = waiting;
      reached = reached;
      marks_fit = was.marks_fit;
      reaches_fit = was.reaches_fit;
    })

-- ---- what a caller sees

-- The rows of these fields.
abbrev pub numbered : ℕ → List Scope → Numbered
numbered capacity rows = record { capacity = capacity; rows = rows }

pub same_numbered : (capacity capacity' : ℕ) (rows rows' : List Scope) → capacity' ≡ capacity
    → rows' ≡ rows
    → numbered capacity' rows' ≡ numbered capacity rows
same_numbered capacity capacity' rows rows' a b = rw (a, b) refl

-- Rows that are lent, changed and returned are the changed rows.
pub numbered_back : (change : List Scope → List Scope) (capacity : ℕ)
    (rows lent changed rest : List Scope) (len : ℕ) → lent ≡ rows → changed ≡ change lent
    → len ≡ length changed
    → numbered capacity (take len (changed ++ rest)) ≡ numbered capacity (change rows)
numbered_back change capacity rows lent changed rest len lent_is is size =
    same_numbered capacity capacity (change rows) (take len (changed ++ rest)) refl
    (given_back len changed rest size ∙ is ∙ ap change lent_is)
