-- Questions about a scope that goes on have the same answers.
use Rattle.run_model.proofs.Common.{◌≡◌, ◌<◌, ◌==◌, ℕ, zero, suc, Bool, true, false, cond, List}
use Rattle.run_model.proofs.Common.{[], ◌∷◌, map, Option, Some, None, slice_get, refl, sym, ap}
use Rattle.run_model.proofs.Common.{subst, ◌∙◌, arith, Less, Greater, filter_map, cons_option}
use Rattle.run_model.proofs.Common.{AllByRecursion, option_map, ordering_then, is_lt, is_some}
use Rattle.run_model.proofs.Common.{nat_lt, has_kind, is_root, is_detached, line, before_detached}
use Rattle.run_model.proofs.Common.{chain, hit_at, comes_before, least_hit, first_hit, ending}
use Rattle.run_model.proofs.Common.{own_deadline, deadline_of, text_under, value_of, AreOrdered}
use Rattle.run_model.proofs.Common.{is_done, line_within, upwards, State, TreeState, HasRow}
use Rattle.std.proofs.Common.{Equal}
use Rattle.std.specs.Ordering.{nat_cmp}
use Rattle.run_model.specs.declared.scopes.Hit.{Hit}
use Rattle.run_model.specs.declared.scopes.Kind.{Kind}
use Rattle.run_model.specs.declared.scopes.Scope.{Scope}
use Rattle.run_model.specs.Scopes.{first_of, least_moment}
use Rattle.model_laws.proofs.Lines.{line_up}
use Rattle.state_renewal.specs.Renewed.{
  new_number,
  Part,
  rows_renumbered,
  scope_renumbered,
  state_renumbered,
}
use Rattle.state_renewal.specs.Renewed.{tree_renumbered}
use Rattle.state_renewal.proofs.Numbers.{less_same, same_number}
use Rattle.state_renewal.proofs.Keeps.{parent_there}
use Rattle.state_renewal.proofs.Hangs.{AreBoth, ScopesHang}
use Rattle.state_renewal.proofs.RowsRenumbered.{renumbered_get, test_renumbered}
use Rattle.model_laws.proofs.Reaches.{before_all}

-- The scopes that go on, by the new numbers.
abbrev pub scopes_renumbered : Part → List Scope → List Scope
scopes_renumbered part rows = rows_renumbered part.scopes (scope_renumbered part) rows

-- ---- the line

-- A row of a line, by the new numbers.
abbrev pub renewed_at : Part → ℕ × Scope → ℕ × Scope
renewed_at part r = (new_number part.scopes r.0, scope_renumbered part r.1)

-- All scopes of these rows go on.
abbrev pub AllGo : Part → List (ℕ × Scope) → Type 0
AllGo part rows = AllByRecursion (λ r. part.scopes r.0 ≡ true) rows

-- The line of a scope that goes on is the old one by the new numbers, and all scopes on it go on.
pub record IsLineRenewed (part : Part) (old : List Scope) (s : ℕ) : Type 0 where
  pub is : line (scopes_renumbered part old) (new_number part.scopes s)
      ≡ map (renewed_at part) (line old s)
  pub all : AllGo part (line old s)

renewed_above : (part : Part) (old : List Scope) (row : Scope) (b : Bool)
    → (b ≡ false → IsLineRenewed part old row.parent)
    → (cond b [] (line (scopes_renumbered part old) (new_number part.scopes row.parent))
    ≡ map (renewed_at part) (cond b [] (line old row.parent)))
    × AllGo part (cond b [] (line old row.parent))
renewed_above part old row true up = (refl, tt)
renewed_above part old row false up = ((up refl).is, (up refl).all)

line_renewed_below : (part : Part) (old : List Scope) → AreOrdered old
    → AreOrdered (scopes_renumbered part old) → ScopesHang part old → (t s : ℕ) (row : Scope)
    → s < t
    → slice_get old s ≡ Some row → part.scopes s ≡ true → IsLineRenewed part old s
line_renewed_below part old ordered renumbered go zero s row less found is = absurd
    (omega (arith, less))
line_renewed_below part old ordered renumbered go (suc t) s row less found is =
    let was = line_up old s row ordered found in
    let now =
    line_up (scopes_renumbered part old) (new_number part.scopes s)
    (scope_renumbered part row) renumbered
    (renumbered_get part.scopes (scope_renumbered part) old s is
    ∙ ap (option_map (scope_renumbered part)) found) in
    let above =
    renewed_above part old row (is_root row.kind)
    (λ below.
    let lower = ordered s row found below in
    let up = parent_there old ordered s row found below in
    line_renewed_below part old ordered renumbered go t row.parent up.0
    (omega (arith, less, lower)) up.1
    (go s row found below is)) in
    record {
      is =
          now
          ∙ ap (λ rest. (new_number part.scopes s, scope_renumbered part row) ∷ rest) above.0
          ∙ sym (ap (map (renewed_at part)) was);
      all = subst (AllGo part) (sym was) (is, above.1);
    }

pub line_renewed : (part : Part) (old : List Scope) → AreOrdered old
    → AreOrdered (scopes_renumbered part old) → ScopesHang part old → (s : ℕ) (row : Scope)
    → slice_get old s ≡ Some row → part.scopes s ≡ true → IsLineRenewed part old s
line_renewed part old ordered renumbered go s row found is =
    line_renewed_below part old ordered renumbered go (suc s) s row (omega arith) found is

pub both_lines : (part : Part) (p : State) → AreBoth part p → (s : ℕ) (row : Scope)
    → HasRow p.tree.scopes s row → part.scopes s ≡ true → IsLineRenewed part p.tree.scopes s
both_lines part p both s row found is =
    line_renewed part p.tree.scopes both.old.numbered.ordered both.new.numbered.ordered
    both.hangs.scopes s row found is

-- ---- the chain

cut_renewed : (part : Part) (rows : List (ℕ × Scope))
    → before_detached (map (renewed_at part) rows) ≡ map (renewed_at part) (before_detached rows)
cut_renewed part [] = refl
cut_renewed part (r ∷ rows) = by_kind (is_detached r.1.kind) (cut_renewed part rows)
  where
    by_kind : (b : Bool)
        → before_detached (map (renewed_at part) rows) ≡ map (renewed_at part)
        (before_detached rows)
        → cond b [] (renewed_at part r ∷ before_detached (map (renewed_at part) rows))
        ≡ map (renewed_at part) (cond b [] (r ∷ before_detached rows))
    by_kind true rest = refl
    by_kind false rest = ap (λ rs. renewed_at part r ∷ rs) rest

chain_renewed : (part : Part) (old : List Scope) (s : ℕ) → IsLineRenewed part old s
    → chain (scopes_renumbered part old) (new_number part.scopes s)
    ≡ map (renewed_at part) (chain old s)
chain_renewed part old s restated = ap before_detached restated.is ∙ cut_renewed part (line old s)

-- ---- the first hit

-- A hit with its scope's new number.
abbrev hit_renewed : Part → ℕ × Hit → ℕ × Hit
hit_renewed part a = (new_number part.scopes a.0, a.1)

before_same : (part : Part) (a b : ℕ × Hit) → part.scopes a.0 ≡ true → part.scopes b.0 ≡ true
    → comes_before (hit_renewed part a) (hit_renewed part b) ≡ comes_before a b
before_same part a b is_a is_b =
    ap (λ c. is_lt (ordering_then (nat_cmp a.1.event b.1.event)
    (ordering_then (nat_cmp a.1.moment b.1.moment) (cond c Less
    (cond (new_number part.scopes a.0 == new_number part.scopes b.0) Equal Greater)))))
    (less_same part.scopes a.0 b.0 is_a)
    ∙ ap (λ c. is_lt (ordering_then (nat_cmp a.1.event b.1.event)
    (ordering_then (nat_cmp a.1.moment b.1.moment)
    (cond (nat_lt a.0 b.0) Less (cond c Equal Greater)))))
    (same_number part.scopes a.0 b.0 is_a is_b)

-- There is no hit, or its scope is kept.
abbrev IsOfPart : Part → Option (ℕ × Hit) → Type 0
IsOfPart part None = Unit
IsOfPart part (Some a) = part.scopes a.0 ≡ true

-- The least of these hits, by the new numbers, is the least of them by the new numbers.
record IsLeastRenewed (part : Part) (hits : List (ℕ × Hit)) : Type 0 where
  restated : least_hit (map (hit_renewed part) hits) ≡ option_map (hit_renewed part)
      (least_hit hits)
  of_part : IsOfPart part (least_hit hits)

first_renewed : (part : Part) (o : Option (ℕ × Hit)) (a : ℕ × Hit) → IsOfPart part o
    → part.scopes a.0 ≡ true
    → (first_of (option_map (hit_renewed part) o) (hit_renewed part a) ≡ hit_renewed part
    (first_of o a))
    × (part.scopes (first_of o a).0 ≡ true)
first_renewed part None a of is = (refl, is)
first_renewed part (Some b) a of is = by_order (comes_before a b) (before_same part a b is of)
  where
    by_order : (c : Bool) → comes_before (hit_renewed part a) (hit_renewed part b) ≡ c
        → (cond (comes_before (hit_renewed part a) (hit_renewed part b)) (hit_renewed part a)
        (hit_renewed part b)
        ≡ hit_renewed part (cond c a b))
        × (part.scopes (cond c a b).0 ≡ true)
    by_order true e = (ap (λ d. cond d (hit_renewed part a) (hit_renewed part b)) e, is)
    by_order false e = (ap (λ d. cond d (hit_renewed part a) (hit_renewed part b)) e, of)

least_renewed : (part : Part) (hits : List (ℕ × Hit))
    → AllByRecursion (λ a. part.scopes a.0 ≡ true) hits → IsLeastRenewed part hits
least_renewed part [] all = record { restated = refl; of_part = tt }
least_renewed part (a ∷ hits) all =
    let rest = least_renewed part hits all.1 in
    let first = first_renewed part (least_hit hits) a rest.of_part all.0 in
    record {
      restated = ap (λ o. Some (first_of o (hit_renewed part a))) rest.restated ∙ ap Some first.0;
      of_part = first.1;
    }

hits_renewed : (part : Part) (rows : List (ℕ × Scope))
    → filter_map hit_at (map (renewed_at part) rows) ≡ map (hit_renewed part)
    (filter_map hit_at rows)
hits_renewed part [] = refl
hits_renewed part (r ∷ rows) = by_hit r.1.hit (hits_renewed part rows)
  where
    by_hit : (o : Option Hit)
        → filter_map hit_at (map (renewed_at part) rows)
        ≡ map (hit_renewed part) (filter_map hit_at rows)
        → cons_option (option_map (λ hit. (new_number part.scopes r.0, hit)) o)
        (filter_map hit_at (map (renewed_at part) rows))
        ≡ map (hit_renewed part)
        (cons_option (option_map (λ hit. (r.0, hit)) o) (filter_map hit_at rows))
    by_hit None rest = rest
    by_hit (Some hit) rest = ap (λ hits. (new_number part.scopes r.0, hit) ∷ hits) rest

hits_go : (part : Part) (rows : List (ℕ × Scope)) → AllGo part rows
    → AllByRecursion (λ a. part.scopes a.0 ≡ true) (filter_map hit_at rows)
hits_go part [] all = tt
hits_go part (r ∷ rows) all = by_hit r.1.hit (hits_go part rows all.1)
  where
    by_hit : (o : Option Hit)
        → AllByRecursion (λ a. part.scopes a.0 ≡ true) (filter_map hit_at rows)
        → AllByRecursion (λ a. part.scopes a.0 ≡ true)
        (cons_option (option_map (λ hit. (r.0, hit)) o) (filter_map hit_at rows))
    by_hit None rest = rest
    by_hit (Some hit) rest = (all.0, rest)

unreported : (part : Part) (o : Option (ℕ × Hit))
    → option_map (λ a. a.1) (option_map (hit_renewed part) o) ≡ option_map (λ a. a.1) o
unreported part None = refl
unreported part (Some a) = refl

pub ending_renewed : (part : Part) (old : List Scope) (s : ℕ) → IsLineRenewed part old s
    → ending (scopes_renumbered part old) (new_number part.scopes s) ≡ ending old s
ending_renewed part old s restated =
    let rows = chain old s in
    let all = before_all (λ r. part.scopes r.0 ≡ true) (line old s) restated.all in
    ap (λ rs. option_map (λ a. a.1) (least_hit (filter_map hit_at rs)))
    (chain_renewed part old s restated)
    ∙ ap (λ hits. option_map (λ a. a.1) (least_hit hits)) (hits_renewed part rows)
    ∙ ap (option_map (λ a. a.1))
    (least_renewed part (filter_map hit_at rows) (hits_go part rows all)).restated
    ∙ unreported part (first_hit old s)

-- ---- kinds, and what is done

pub kind_renumbered : (test : Kind → Bool) (part : Part) (t : TreeState) (s : ℕ)
    → part.scopes s ≡ true
    → has_kind test (tree_renumbered part t) (new_number part.scopes s) ≡ has_kind test t s
kind_renumbered test part t s is =
    test_renumbered (λ row. test row.kind) part.scopes (scope_renumbered part) t.scopes s
    (λ row. refl) is

not_done : (rows : List Scope) (s : ℕ) → slice_get rows s ≡ None → is_done rows s ≡ false
not_done rows s at =
    ap (λ o. is_some (option_map (λ a. a.1)
    (least_hit (filter_map hit_at (before_detached (upwards (line_within s rows) s o)))))) at

pub done_renumbered : (part : Part) (p : State) → AreBoth part p → (s : ℕ) → part.scopes s ≡ true
    → is_done (state_renumbered part p).tree.scopes (new_number part.scopes s)
    ≡ is_done p.tree.scopes s
done_renumbered part p both s is = by_row (slice_get p.tree.scopes s) refl
  where
    by_row : (o : Option Scope) → slice_get p.tree.scopes s ≡ o
        → is_done (scopes_renumbered part p.tree.scopes) (new_number part.scopes s)
        ≡ is_done p.tree.scopes s
    by_row None at =
        not_done (scopes_renumbered part p.tree.scopes) (new_number part.scopes s)
        (renumbered_get part.scopes (scope_renumbered part) p.tree.scopes s is
        ∙ ap (option_map (scope_renumbered part)) at)
        ∙ sym (not_done p.tree.scopes s at)
    by_row (Some row) at =
        ap is_some
        (ending_renewed part p.tree.scopes s (both_lines part p both s row at is))

-- ---- deadlines and values

deadlines_renewed : (part : Part) (rows : List (ℕ × Scope))
    → filter_map (λ r. own_deadline r.1.kind) (map (renewed_at part) rows)
    ≡ filter_map (λ r. own_deadline r.1.kind) rows
deadlines_renewed part [] = refl
deadlines_renewed part (r ∷ rows) =
    ap (cons_option (own_deadline r.1.kind)) (deadlines_renewed part rows)

pub deadline_renewed : (part : Part) (old : List Scope) (s : ℕ) → IsLineRenewed part old s
    → deadline_of (scopes_renumbered part old) (new_number part.scopes s)
    ≡ deadline_of old s
deadline_renewed part old s restated =
    ap (λ rs. least_moment (filter_map (λ r. own_deadline r.1.kind) rs))
    (chain_renewed part old s restated)
    ∙ ap least_moment (deadlines_renewed part (chain old s))

texts_renewed : (part : Part) (key : List ℕ) (rows : List (ℕ × Scope))
    → filter_map (λ r. text_under key r.1.kind) (map (renewed_at part) rows)
    ≡ filter_map (λ r. text_under key r.1.kind) rows
texts_renewed part key [] = refl
texts_renewed part key (r ∷ rows) =
    ap (cons_option (text_under key r.1.kind)) (texts_renewed part key rows)

pub value_renewed : (part : Part) (old : List Scope) (s : ℕ) (key : List ℕ)
    → IsLineRenewed part old s
    → value_of (scopes_renumbered part old) (new_number part.scopes s) key
    ≡ value_of old s key
value_renewed part old s key restated =
    ap (λ rs. slice_get (filter_map (λ r. text_under key r.1.kind) rs) 0) restated.is
    ∙ ap (λ texts. slice_get texts 0) (texts_renewed part key (line old s))
