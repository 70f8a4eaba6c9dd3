-- The tree that is read, and the rows of a tree that can be written.
use Rattle.run_model.proofs.Common.{◌≡◌, ◌<◌, ◌≤◌, ◌-◌, ℕ, suc, ◌+◌, ◌&&◌, nat_lt, cond, Bool}
use Rattle.run_model.proofs.Common.{true, false, List, [], ◌∷◌, ◌++◌, length, take, drop, Some}
use Rattle.run_model.proofs.Common.{None, refl, sym, ap, ◌∙◌, subst, arith}
use Rattle.run_model.proofs.Common.{length-append, length-drop, flat_map, lt-ltb, le-ltb, le-leb}
use Rattle.run_model.proofs.Common.{leb-true, ltb-true, false_from_ne_true, take_all, none-some}
use Rattle.run_model.proofs.Common.{same_Some, most_scopes, is_moment, root, is_root, own_deadline}
use Rattle.run_model.proofs.Common.{is_group_kind, TreeState}
use Rattle.run_model.specs.declared.bounds.TheConstants.{GREATEST_MOMENT}
use Rattle.run_model.specs.declared.layouts.Layout.{Layout}
use Rattle.run_model.specs.declared.scopes.Kind.{Kind}
use Rattle.run_model.specs.declared.scopes.Kind.TheVariants as kinds
use Rattle.run_model.specs.declared.scopes.Reason.{Reason}
use Rattle.run_model.specs.declared.scopes.Reason.TheVariants.{Canceled, DeadlineExceeded}
use Rattle.run_model.specs.declared.scopes.Scope.{Scope}
use Rattle.run_model.specs.RuleParts.{AreScopeRules}
use Rattle.row_view.specs.Fields.{one}
use Rattle.row_view.specs.declared.heads.ImageHead.{ImageHead}
use Rattle.row_view.specs.Image.{scope_bytes}
use Rattle.row_view.proofs.Codecs.{through, first_true, second_true}
use Rattle.row_view.proofs.Rooted.{rooted_list}
use Rattle.scope_tree.specs.Sound.{AreRooted, ArePastHits}
use Rattle.scope_tree.specs.TreeRows.{AreWritable, more_rows_at, tree_at, tree_made, has_tree_room}
use Rattle.scope_tree.specs.TreeRules.{AreTreeRows}
use Rattle.scope_tree.proofs.Followers.{more_are, rules_at_first, more_again, AreAllKept}
use Rattle.scope_tree.proofs.Sounding.{AreSound, tree_of}
use Rattle.row_view.proofs.Checked.{cond_some_by}
use Rattle.row_view.proofs.ImageLengths.{after_first}

-- ---- writing

pub not_first : (b : Bool) (s : ℕ) → (b ≡ true → suc s ≡ 0) → b ≡ false
not_first true s first = absurd (let h = first refl in omega (arith, h))
not_first false s first = refl

writable_after : (clock : ℕ) (rows : List Scope) → AreRooted rows → ArePastHits clock rows
    → AreWritable (drop 1 rows)
writable_after clock rows rooted hits s row found = record {
  below_root = not_first (is_root row.kind) s (rooted.alone (suc s) row
      (after_first rows s row found));
  can = λ hit has. (hits (suc s) row hit (after_first rows s row found) has).can;
}

-- The rows after root that are lent can be written.
pub lent_writable : (clock : ℕ) (rows lent : List Scope) → AreRooted rows → ArePastHits clock rows
    → lent ≡ rows → AreWritable (take (length lent - 1) (drop 1 lent))
lent_writable clock rows lent rooted hits same =
    subst AreWritable
    (sym (take_all (length lent - 1) (drop 1 lent) (omega (arith, length-drop 1 lent))))
    (subst (λ r. AreWritable (drop 1 r)) (sym same) (writable_after clock rows rooted hits))

-- ---- reading

group_cancels : (kind : Kind) (reason : Reason) (moment : ℕ)
    → (reason ≡ DeadlineExceeded → own_deadline kind ≡ Some moment) → is_group_kind kind ≡ true
    → reason ≡ Canceled
group_cancels kind Canceled moment own group = refl
group_cancels kinds.Group DeadlineExceeded moment own group =
    absurd (none-some moment (own refl))
group_cancels kinds.Root DeadlineExceeded moment own group = absurd (cc)
group_cancels kinds.Cancel DeadlineExceeded moment own group = absurd (cc)
group_cancels kinds.Cause DeadlineExceeded moment own group = absurd (cc)
group_cancels (kinds.Deadline m c) DeadlineExceeded moment own group = absurd (cc)
group_cancels (kinds.Value k t) DeadlineExceeded moment own group = absurd (cc)
group_cancels kinds.Detached DeadlineExceeded moment own group = absurd (cc)

past_hits : (count clock : ℕ) (rows : List Scope) → AreScopeRules count clock rows
    → ArePastHits clock rows
past_hits count clock rows rules s row hit found has =
    let fits = rules.hits s row hit found has in
    record {
      can = fits.can;
      past = fits.past;
      cancels = group_cancels row.kind hit.reason hit.moment fits.own;
    }

pub no_moment : (layout : Layout) (head : ImageHead) (bytes : List ℕ)
    → (head.clock ≤ GREATEST_MOMENT → ⊥) → tree_at layout head bytes ≡ None
unfolding tree_at
no_moment layout head bytes late =
    let past : is_moment head.clock ≡ false =
    false_from_ne_true (is_moment head.clock)
    (λ e. late (leb-true head.clock GREATEST_MOMENT e)) in
    rw past

pub too_many : (layout : Layout) (head : ImageHead) (bytes : List ℕ)
    → most_scopes layout ≤ head.scopes → tree_at layout head bytes ≡ None
unfolding tree_at
too_many layout head bytes many =
    by_clock (is_moment head.clock) (le-ltb head.scopes (most_scopes layout) many)
  where
    by_clock : (b : Bool) → nat_lt head.scopes (most_scopes layout) ≡ false
        → cond (b && nat_lt head.scopes (most_scopes layout))
        (one (more_rows_at head.count head.clock head.scopes (root ∷ []))
        (tree_made layout head) bytes) None ≡ None
    by_clock true many = rw many
    by_clock false many = refl

pub no_tree : (layout : Layout) (head : ImageHead) (first : List Scope) (bytes : List ℕ)
    → first ≡ root ∷ []
    → more_rows_at head.count head.clock head.scopes first bytes ≡ None
    → tree_at layout head bytes ≡ None
unfolding tree_at
no_tree layout head first bytes is none =
    by_room (has_tree_room layout head)
    (ap (λ f. more_rows_at head.count head.clock head.scopes f bytes) (sym is) ∙ none)
  where
    by_room : (b : Bool)
        → more_rows_at head.count head.clock head.scopes (root ∷ []) bytes ≡ None
        → cond b (one (more_rows_at head.count head.clock head.scopes (root ∷ []))
        (tree_made layout head) bytes) None ≡ None
    by_room true none = rw none
    by_room false none = refl

pub tree_read : (layout : Layout) (head : ImageHead) (now : ℕ) (first rows : List Scope)
    (bytes rest : List ℕ) → first ≡ root ∷ [] → head.scopes < most_scopes layout
    → head.clock ≤ GREATEST_MOMENT → now ≡ head.clock
    → more_rows_at head.count head.clock head.scopes first bytes ≡ Some (rows, rest)
    → tree_at layout head bytes ≡ Some (tree_of layout now rows, rest)
unfolding tree_at
tree_read layout head now first rows bytes rest is few early same read =
    rw (
      le-leb head.clock GREATEST_MOMENT early,
      lt-ltb head.scopes (most_scopes layout) few,
      ap (λ f. more_rows_at head.count head.clock head.scopes f bytes) (sym is) ∙ read,
      same,
    )

-- ---- the laws of what is read

pub tree_takes : (layout : Layout) (head : ImageHead) (bytes : List ℕ) (t : TreeState)
    (rest : List ℕ) → tree_at layout head bytes ≡ Some (t, rest)
    → AreTreeRows layout head bytes t rest
unfolding tree_at
tree_takes layout head bytes t rest e =
    let more = more_rows_at head.count head.clock head.scopes (root ∷ []) in
    let few = cond_some_by (has_tree_room layout head) (one more (tree_made layout head) bytes)
    (t, rest) e in
    let less : head.scopes < most_scopes layout =
    ltb-true head.scopes (most_scopes layout) (second_true _ _ few.0) in
    let rows = through (more bytes)
    (λ (rows : List Scope × List ℕ). Some (tree_made layout head rows.0, rows.1)) (t, rest)
    few.1 in
    let are = more_are head.count head.clock head.scopes (root ∷ []) bytes rows.0
    (rules_at_first head.count head.clock) rows.1 in
    let same : (tree_made layout head rows.0.0, rows.0.1) ≡ (t, rest) =
    same_Some (tree_made layout head rows.0.0, rows.0.1) (t, rest) rows.2 in
    let size : length rows.0.0 ≡ 1 + head.scopes =
    ap (λ r. length r) are.all ∙ length-append (root ∷ []) are.more
    ∙ ap (λ m. 1 + m) are.many in
    let behind : are.more ≡ drop 1 rows.0.0 = sym (ap (λ r. drop 1 r) are.all) in
    let P : TreeState × List ℕ → Type 0 = λ y. AreTreeRows layout head bytes y.0 y.1 in
    subst P same (record {
      has_layout = refl;
      clock = refl;
      moment = first_true _ _ few.0;
      many = omega (arith, size);
      rules = record { few = omega (arith, size, less); rows = are.rules };
      kept = subst AreAllKept behind are.kept;
      spelled = subst (λ r. bytes ≡ flat_map scope_bytes r ++ rows.0.1) behind are.spelled;
    })

-- The tree that is read is sound.
pub tree_sound : (layout : Layout) (head : ImageHead) (bytes : List ℕ) (t : TreeState)
    (rest : List ℕ) → tree_at layout head bytes ≡ Some (t, rest) → AreSound t
tree_sound layout head bytes t rest e =
    let rules = (tree_takes layout head bytes t rest e).rules in
    record {
      few = rules.few;
      rooted = record { first = rules.rows.rooted; alone = rules.rows.alone };
      ordered = rules.rows.ordered;
      hits = past_hits head.count t.clock t.scopes rules.rows;
    }

pub tree_again : (layout : Layout) (head : ImageHead) (bytes : List ℕ) (t : TreeState)
    (rest : List ℕ) → AreTreeRows layout head bytes t rest
    → tree_at layout head bytes ≡ Some (t, rest)
unfolding tree_at
tree_again layout head bytes t rest are =
    let back = drop 1 t.scopes in
    let whole : (root ∷ []) ++ back ≡ t.scopes = rooted_list t.scopes are.rules.rows.rooted in
    let many : length back ≡ head.scopes =
    let m = are.many in omega (arith, m, length-drop 1 t.scopes) in
    let few : length t.scopes ≤ most_scopes layout =
    subst (λ l. length t.scopes ≤ most_scopes l) are.has_layout are.rules.few in
    let less : head.scopes < most_scopes layout =
    let m = are.many in omega (arith, m, few) in
    let rules : AreScopeRules head.count head.clock t.scopes =
    subst (λ c. AreScopeRules head.count c t.scopes) are.clock are.rules.rows in
    let read = more_again head.count head.clock (root ∷ []) back rest
    (subst (AreScopeRules head.count head.clock) (sym whole) rules) (omega arith) are.kept in
    let here : more_rows_at head.count head.clock head.scopes (root ∷ []) bytes
    ≡ Some (t.scopes, rest) =
    ap (λ b. more_rows_at head.count head.clock head.scopes (root ∷ []) b) are.spelled
    ∙ ap (λ n. more_rows_at head.count head.clock n (root ∷ [])
    (flat_map scope_bytes back ++ rest)) (sym many)
    ∙ read ∙ ap (λ r. Some (r, rest)) whole in
    rw (
      are.moment,
      lt-ltb head.scopes (most_scopes layout) less,
      here,
      ← are.clock,
      ← are.has_layout,
    )
