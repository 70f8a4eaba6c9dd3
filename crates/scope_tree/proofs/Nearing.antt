-- The reach of a scope follows from its parent's, and no change of the rows changes it.
use Rattle.run_model.proofs.Common.{◌≡◌, ◌<◌, ℕ, zero, suc, Bool, true, false, cond, List, length}
use Rattle.run_model.proofs.Common.{Option, Some, None, slice_get, get_or, refl, sym, ap, ◌∙◌}
use Rattle.run_model.proofs.Common.{arith, [], ◌∷◌, ◌++◌, inl, inr, false≢true}
use Rattle.run_model.proofs.Common.{slice_get_within, slice_get-get_or, same_Some, slice_get_read}
use Rattle.run_model.proofs.Common.{push_cases, root, is_root, is_detached, own_deadline}
use Rattle.run_model.proofs.Common.{deadline_of, text_under, value_of, AreOrdered}
use Rattle.model_laws.proofs.Follows.{RowsFollow}
use Rattle.run_model.specs.declared.scopes.Kind.{Kind}
use Rattle.run_model.specs.declared.scopes.Kind.TheVariants as kinds
use Rattle.run_model.specs.declared.scopes.Scope.{Scope}
use Rattle.model_laws.specs.Searches.{above, earlier, nearest}
use Rattle.model_laws.proofs.Lines.{deadline_up, value_up}
use Rattle.scope_tree.specs.Reaches.{is_holder, IsReach, AreReaches, AreReached}
use Rattle.scope_tree.specs.declared.indexes.reaches.Reach.{Reach}
use Rattle.scope_tree.proofs.Searching.{value_above}

-- ---- other rows of the same kinds and parents

-- Each row is still there, with its kind and its parent.
pub record Again (new : List Scope) (s : ℕ) (row : Scope) : Type 0 where
  pub to : Scope
  pub found : slice_get new s ≡ Some to
  pub kind : to.kind ≡ row.kind
  pub parent : to.parent ≡ row.parent

abbrev pub AreAgain : List Scope → List Scope → Type 0
AreAgain old new = (s : ℕ) (row : Scope) → slice_get old s ≡ Some row → Again new s row

above_again : {X : Type 0} (f g : ℕ → X) (nothing : X) (a b : Scope) → b.kind ≡ a.kind
    → b.parent ≡ a.parent → (is_root a.kind ≡ false → f a.parent ≡ g a.parent)
    → above g nothing b ≡ above f nothing a
above_again f g nothing a b kind parent same =
    ap (λ k. cond (is_root k) nothing (g b.parent)) kind
    ∙ ap (λ p. cond (is_root a.kind) nothing (g p)) parent
    ∙ by_root (is_root a.kind) same
  where
    by_root : (r : Bool) → (r ≡ false → f a.parent ≡ g a.parent)
        → cond r nothing (g a.parent) ≡ cond r nothing (f a.parent)
    by_root true is = refl
    by_root false is = sym (is refl)

pub deadline_again : (old new : List Scope) → AreOrdered old → AreOrdered new → AreAgain old new
    → (most s : ℕ) → s < most → s < length old → deadline_of old s ≡ deadline_of new s
deadline_again old new ordered ordered' again zero s less within = absurd (omega (arith, less))
deadline_again old new ordered ordered' again (suc most) s less within =
    let a = get_or old s root in
    let found = slice_get-get_or old s root within in
    let it = again s a found in
    deadline_up old s a ordered found
    ∙ sym (deadline_up new s it.to ordered' it.found
    ∙ ap (λ k. cond (is_detached k) None (earlier (own_deadline k)
    (above (deadline_of new) None it.to))) it.kind
    ∙ ap (λ o. cond (is_detached a.kind) None (earlier (own_deadline a.kind) o))
    (above_again (deadline_of old) (deadline_of new) None a it.to it.kind it.parent
    (λ below. let up : a.parent < s = ordered s a found below in
    deadline_again old new ordered ordered' again most a.parent (omega arith) (omega arith))))

pub value_again : (key : List ℕ) (old new : List Scope) → AreOrdered old → AreOrdered new
    → AreAgain old new → (most s : ℕ) → s < most → s < length old
    → value_of old s key ≡ value_of new s key
value_again key old new ordered ordered' again zero s less within = absurd (omega (arith, less))
value_again key old new ordered ordered' again (suc most) s less within =
    let a = get_or old s root in
    let found = slice_get-get_or old s root within in
    let it = again s a found in
    value_up key old s a ordered found
    ∙ sym (value_up key new s it.to ordered' it.found
    ∙ ap (λ k. nearest (text_under key k)
    (above (λ t. value_of new t key) None it.to)) it.kind
    ∙ ap (nearest (text_under key a.kind))
    (above_again (λ t. value_of old t key) (λ t. value_of new t key) None a it.to it.kind it.parent
    (λ below. let up : a.parent < s = ordered s a found below in
    value_again key old new ordered ordered' again most a.parent (omega arith) (omega arith))))

reach_again : (old new : List Scope) (s : ℕ) (reach : Reach) → AreOrdered old → AreOrdered new
    → AreAgain old new → s < length old → IsReach old s reach → IsReach new s reach
reach_again old new s reach ordered ordered' again within was =
    let above = was.above in
    record {
      deadline = was.deadline
          ∙ deadline_again old new ordered ordered' again (suc s) s (omega arith) within;
      above = was.above;
      holds = λ row found.
          let at = slice_get-get_or old reach.holder root (omega (arith, above, within)) in
          let it = again reach.holder (get_or old reach.holder root) at in
          ap (λ (r : Scope). is_holder r.kind) (same_Some row it.to (sym found ∙ it.found))
          ∙ ap is_holder it.kind ∙ was.holds (get_or old reach.holder root) at;
      values = λ key.
          sym (value_again key old new ordered ordered' again (suc reach.holder) reach.holder
          (omega arith) (omega (arith, above, within)))
          ∙ was.values key
          ∙ value_again key old new ordered ordered' again (suc s) s (omega arith) within;
    }

-- So the reaches stay right.
pub reaches_again : (old new : List Scope) (reaches : List Reach) → AreOrdered old
    → AreOrdered new → AreAgain old new → AreReached old reaches → AreReaches new reaches
reaches_again old new reaches ordered ordered' again were s reach found =
    reach_again old new s reach ordered ordered' again
    (omega (arith, slice_get_within reaches s reach found, were.same))
    (were.right s reach found)

-- ---- from above

no_text : (key : List ℕ) (kind : Kind) → is_holder kind ≡ false → text_under key kind ≡ None
no_text key kinds.Root is = refl
no_text key kinds.Cancel is = refl
no_text key kinds.Cause is = refl
no_text key (kinds.Deadline m c) is = refl
no_text key (kinds.Value k t) is = absurd (false≢true (sym is))
no_text key kinds.Detached is = refl
no_text key kinds.Group is = refl

holds_itself : (rows : List Scope) (s : ℕ) (row : Scope) → slice_get rows s ≡ Some row
    → is_holder row.kind ≡ true → (other : Scope) → slice_get rows s ≡ Some other
    → is_holder other.kind ≡ true
holds_itself rows s row found holds other at =
    ap (λ (r : Scope). is_holder r.kind) (same_Some other row (sym at ∙ found)) ∙ holds

deadline_below : (rows : List Scope) (s : ℕ) (row : Scope) (up : Option ℕ) → AreOrdered rows
    → slice_get rows s ≡ Some row → is_root row.kind ≡ false → up ≡ deadline_of rows row.parent
    → cond (is_detached row.kind) None (earlier (own_deadline row.kind) up) ≡ deadline_of rows s
deadline_below rows s row up ordered found below is =
    sym (deadline_up rows s row ordered found
    ∙ ap (λ b. cond (is_detached row.kind) None (earlier (own_deadline row.kind)
    (cond b None (deadline_of rows row.parent)))) below
    ∙ ap (λ o. cond (is_detached row.kind) None (earlier (own_deadline row.kind) o)) (sym is))

-- A scope below root that isn't detached has the earlier of its own deadline and its parent's. It
-- is its own holder if it holds a value.
pub new_reach_is : (rows : List Scope) (s : ℕ) (row : Scope) (up reach : Reach)
    → AreOrdered rows → slice_get rows s ≡ Some row → is_root row.kind ≡ false
    → IsReach rows row.parent up
    → reach.deadline
    ≡ cond (is_detached row.kind) None (earlier (own_deadline row.kind) up.deadline)
    → reach.holder ≡ cond (is_holder row.kind) s up.holder → IsReach rows s reach
new_reach_is rows s row up reach ordered found below over deadline_is =
    by_holder (is_holder row.kind) refl
  where
    deadline : reach.deadline ≡ deadline_of rows s
    deadline = deadline_is
        ∙ deadline_below rows s row up.deadline ordered found below over.deadline

    by_holder : (b : Bool) → is_holder row.kind ≡ b → reach.holder ≡ cond b s up.holder
        → IsReach rows s reach
    by_holder true holds holder_is = record {
      deadline = deadline;
      above = omega (arith, holder_is);
      holds = λ other at. holds_itself rows s row found holds other
          (ap (slice_get rows) (sym holder_is) ∙ at);
      values = λ key. ap (λ h. value_of rows h key) holder_is;
    }
    by_holder false holds holder_is =
        let less : row.parent < s = ordered s row found below in
        let above = over.above in
        record {
          deadline = deadline;
          above = omega (arith, holder_is, less, above);
          holds = λ other at. over.holds other (ap (slice_get rows) (sym holder_is) ∙ at);
          values = λ key. ap (λ h. value_of rows h key) holder_is ∙ over.values key
              ∙ value_above rows s row key ordered found (no_text key row.kind holds) below;
        }

-- ---- the lists

pub reaches_pushed : (rows : List Scope) (reaches reaches' : List Reach) (n : ℕ) (reach : Reach)
    → AreReaches rows reaches → IsReach rows n reach → n ≡ length reaches
    → reaches' ≡ reaches ++ reach ∷ [] → AreReaches rows reaches'
reaches_pushed rows reaches reaches' n reach were is last pushed s other found =
    elim (push_cases reaches reach s other (ap (λ l. slice_get l s) (sym pushed) ∙ found)) [
      | inl old ↦ were s other old
      | inr new ↦ rw (new.0, new.1, ← last) is
    ]

pub follows_again : (e now : ℕ) (old new : List Scope) → RowsFollow e now old new
    → AreAgain old new
follows_again e now old new follows s row found =
    let it = follows.kept s row found in
    record { to = it.0; found = it.1; kind = it.2.kind; parent = it.2.parent }

-- The reach of an existing scope.
pub reach_at : (rows : List Scope) (reaches : List Reach) (s : ℕ) (reach : Reach)
    → AreReached rows reaches → s < length rows → reach ≡ get_or reaches s reach
    → IsReach rows s reach
reach_at rows reaches s reach reached known is =
    reached.right s reach
    (slice_get_read reaches (length reaches) s reach refl (omega (arith, reached.same, known)) is)

-- The change of the rows by an event leaves the reaches right.
pub reached_follow : (e now : ℕ) (old new : List Scope) (reaches : List Reach)
    → RowsFollow e now old new → AreOrdered old → AreOrdered new → length new ≡ length old
    → AreReached old reaches → AreReached new reaches
reached_follow e now old new reaches follows ordered ordered' size were = record {
  same = were.same ∙ sym size;
  right = reaches_again old new reaches ordered ordered' (follows_again e now old new follows) were;
}
