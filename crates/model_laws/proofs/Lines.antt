-- Each search upwards is one step from the parent.
use Rattle.run_model.proofs.Common.{◌≡◌, ◌<◌, ℕ, zero, suc, Bool, true, false, cond, List, [], ◌∷◌}
use Rattle.run_model.proofs.Common.{Option, Some, None, slice_get, refl, ap, ◌∙◌, arith}
use Rattle.run_model.proofs.Common.{filter_map, cons_option, option_map, is_root, is_detached}
use Rattle.run_model.proofs.Common.{upwards, line_within, line, before_detached, chain, hit_at}
use Rattle.run_model.proofs.Common.{least_hit, first_hit, own_deadline, deadline_of, text_under}
use Rattle.run_model.proofs.Common.{value_of, AreOrdered}
use Rattle.run_model.specs.declared.scopes.Hit.{Hit}
use Rattle.run_model.specs.declared.scopes.Scope.{Scope}
use Rattle.run_model.specs.Scopes.{least_moment}
use Rattle.model_laws.specs.Searches.{above, line_from, chain_from, joined, first_hit_from}
use Rattle.model_laws.specs.Searches.{earlier, deadline_from, nearest, value_from}

-- ---- the line

-- From a row two walks go on in the same way, if they do from lower numbers.
upwards_alike : (rows : List Scope) → AreOrdered rows → (f g : ℕ → List (ℕ × Scope)) (s : ℕ)
    (found : Option Scope) → slice_get rows s ≡ found → ((t : ℕ) → t < s → f t ≡ g t)
    → upwards f s found ≡ upwards g s found
upwards_alike rows ordered f g s None at alike = refl
upwards_alike rows ordered f g s (Some row) at alike =
    ap (λ rest. (s, row) ∷ rest)
    (by_root (is_root row.kind) (λ e. alike row.parent (ordered s row at e)))
  where
    by_root : (b : Bool) → (b ≡ false → f row.parent ≡ g row.parent)
        → cond b [] (f row.parent) ≡ cond b [] (g row.parent)
    by_root true same = refl
    by_root false same = same refl

-- More steps than the number of the scope tell no more.
line_enough : (rows : List Scope) → AreOrdered rows → (k m s : ℕ) → s < k → s < m
    → line_within k rows s ≡ line_within m rows s
line_enough rows ordered zero m s short long = absurd (omega arith)
line_enough rows ordered (suc k) zero s short long = absurd (omega arith)
line_enough rows ordered (suc k) (suc m) s short long =
    upwards_alike rows ordered (line_within k rows) (line_within m rows) s (slice_get rows s) refl
    (λ t less. line_enough rows ordered k m t (omega arith) (omega arith))

pub line_up : (rows : List Scope) (s : ℕ) (row : Scope) → AreOrdered rows
    → slice_get rows s ≡ Some row → line rows s ≡ line_from rows s row
line_up rows s row ordered found =
    ap (upwards (line_within s rows) s) found
    ∙ upwards_alike rows ordered (line_within s rows) (line rows) s (Some row) found
    (λ t less. line_enough rows ordered s (suc t) t less (omega arith))

-- ---- what is read off the line

-- What is read off that which is above is above that which is read off.
read_above : {X Y : Type 0} (read : X → Y) (answer : ℕ → X) (nothing : X) (row : Scope)
    → read (above answer nothing row) ≡ above (λ s. read (answer s)) (read nothing) row
read_above read answer nothing row = by_root (is_root row.kind)
  where
    by_root : (b : Bool) → read (cond b nothing (answer row.parent))
        ≡ cond b (read nothing) (read (answer row.parent))
    by_root true = refl
    by_root false = refl

pub chain_up : (rows : List Scope) (s : ℕ) (row : Scope) → AreOrdered rows
    → slice_get rows s ≡ Some row → chain rows s ≡ chain_from rows s row
chain_up rows s row ordered found =
    ap before_detached (line_up rows s row ordered found)
    ∙ ap (λ rest. cond (is_detached row.kind) [] ((s, row) ∷ rest))
    (read_above before_detached (line rows) [] row)

least_joined : (own : Option Hit) (s : ℕ) (hits : List (ℕ × Hit))
    → least_hit (cons_option (option_map (λ hit. (s, hit)) own) hits)
    ≡ joined (least_hit hits) s own
least_joined None s hits = refl
least_joined (Some hit) s hits = refl

least_earlier : (own : Option ℕ) (moments : List ℕ)
    → least_moment (cons_option own moments) ≡ earlier own (least_moment moments)
least_earlier None moments = refl
least_earlier (Some moment) moments = refl

first_nearest : (own : Option (List ℕ)) (texts : List (List ℕ))
    → slice_get (cons_option own texts) 0 ≡ nearest own (slice_get texts 0)
first_nearest None texts = refl
first_nearest (Some text) texts = refl

pub first_hit_up : (rows : List Scope) (s : ℕ) (row : Scope) → AreOrdered rows
    → slice_get rows s ≡ Some row → first_hit rows s ≡ first_hit_from rows s row
first_hit_up rows s row ordered found =
    ap read (chain_up rows s row ordered found) ∙ by_detached (is_detached row.kind)
  where
    read : List (ℕ × Scope) → Option (ℕ × Hit)
    read line = least_hit (filter_map hit_at line)

    by_detached : (b : Bool)
        → read (cond b [] ((s, row) ∷ above (chain rows) [] row))
        ≡ cond b None (joined (above (first_hit rows) None row) s row.hit)
    by_detached true = refl
    by_detached false =
        least_joined row.hit s (filter_map hit_at (above (chain rows) [] row))
        ∙ ap (λ up. joined up s row.hit) (read_above read (chain rows) [] row)

pub deadline_up : (rows : List Scope) (s : ℕ) (row : Scope) → AreOrdered rows
    → slice_get rows s ≡ Some row → deadline_of rows s ≡ deadline_from rows row
deadline_up rows s row ordered found =
    ap read (chain_up rows s row ordered found) ∙ by_detached (is_detached row.kind)
  where
    read : List (ℕ × Scope) → Option ℕ
    read line = least_moment (filter_map (λ r. own_deadline r.1.kind) line)

    by_detached : (b : Bool)
        → read (cond b [] ((s, row) ∷ above (chain rows) [] row))
        ≡ cond b None (earlier (own_deadline row.kind) (above (deadline_of rows) None row))
    by_detached true = refl
    by_detached false =
        least_earlier (own_deadline row.kind)
        (filter_map (λ r. own_deadline r.1.kind) (above (chain rows) [] row))
        ∙ ap (earlier (own_deadline row.kind)) (read_above read (chain rows) [] row)

pub value_up : (key : List ℕ) (rows : List Scope) (s : ℕ) (row : Scope) → AreOrdered rows
    → slice_get rows s ≡ Some row → value_of rows s key ≡ value_from rows row key
value_up key rows s row ordered found =
    ap read (line_up rows s row ordered found)
    ∙ first_nearest (text_under key row.kind)
    (filter_map (λ r. text_under key r.1.kind) (above (line rows) [] row))
    ∙ ap (nearest (text_under key row.kind)) (read_above read (line rows) [] row)
  where
    read : List (ℕ × Scope) → Option (List ℕ)
    read line = slice_get (filter_map (λ r. text_under key r.1.kind) line) 0
