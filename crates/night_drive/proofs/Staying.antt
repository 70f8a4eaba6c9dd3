-- The night of each scope and of each group stays, where scopes change in nothing but their hits,
-- and groups in nothing but limits, errors and whether they were waited for.
use Rattle.std.proofs.Common.{◌≡◌, ◌∙◌, ◌&&◌, ℕ, zero, suc, Bool, true, false, cond, List, [], ◌∷◌}
use Rattle.std.proofs.Common.{Option, Some, None, slice_get, map, codes, refl, sym, ap}
use Rattle.std.proofs.lemmas.Option.{slice_get-map}
use Rattle.std.specs.List.{cons_option, filter_map}
use Rattle.std.specs.Option.{option_map, option_map_or}
use Rattle.run_model.proofs.RowLemmas.{map-at_row}
use Rattle.run_model.specs.declared.groups.Group.{Group}
use Rattle.run_model.specs.declared.scopes.Hit.{Hit}
use Rattle.run_model.specs.declared.scopes.Scope.{Scope}
use Rattle.run_model.specs.Rows.{at_row}
use Rattle.run_model.specs.Scopes.{is_root, line_within, text_under, upwards}
use Rattle.run_model.specs.State.{State, TreeState, WorkState}
use Rattle.run_model.specs.Step.{after_group_cancel, after_task_end, own_scope}
use Rattle.run_model.specs.TreeChanges.{after_advance, after_cancel, hit_due, tick, with_hit}
use Rattle.run_model.specs.WorkChanges.{group_of_task, groups_after, with_error}
use Rattle.night_drive.specs.Names.{belongs, is_same, night_of}
use Rattle.night_drive.specs.Seen.{is_owned}

-- ---- rows without what may change

abbrev pub unhit : Scope → Scope
unhit row = record row { hit = None }

abbrev pub unmarked : Group → Group
unmarked row = record row { limit = None; waited = false; error = None }

-- Of each scope everything but its hit is the same.
abbrev pub KeepsScopes : (old new : List Scope) → Type 0
KeepsScopes old new =
    (s : ℕ) → option_map unhit (slice_get new s) ≡ option_map unhit (slice_get old s)

-- Of each group its name and its scope are the same.
abbrev pub KeepsGroups : (old new : List Group) → Type 0
KeepsGroups old new =
    (g : ℕ) → option_map unmarked (slice_get new g) ≡ option_map unmarked (slice_get old g)

-- Lists that are the same once each row is stripped are so row by row.
pub row_by_row : {X : Type 0} (strip : X → X) (old new : List X) → map strip new ≡ map strip old
    → (n : ℕ) → option_map strip (slice_get new n) ≡ option_map strip (slice_get old n)
row_by_row strip old new same n =
    sym (slice_get-map strip new n) ∙ ap (λ rows. slice_get rows n) same
    ∙ slice_get-map strip old n

-- ---- the night of a scope

-- The texts under a key that these rows hold.
abbrev texts_in : List ℕ → List (ℕ × Scope) → List (List ℕ)
texts_in key rows = filter_map (λ r. text_under key r.1.kind) rows

texts_without : (key : List ℕ) (s : ℕ) (f : ℕ → List (ℕ × Scope)) (o : Option Scope)
    → texts_in key (upwards f s o) ≡ texts_in key (upwards f s (option_map unhit o))
texts_without key s f None = refl
texts_without key s f (Some row) = refl

texts_upwards : (key : List ℕ) (s : ℕ) (f g : ℕ → List (ℕ × Scope))
    → ((t : ℕ) → texts_in key (f t) ≡ texts_in key (g t)) → (o : Option Scope)
    → texts_in key (upwards f s o) ≡ texts_in key (upwards g s o)
texts_upwards key s f g same None = refl
texts_upwards key s f g same (Some row) =
    ap (cons_option (text_under key row.kind)) (by_root (is_root row.kind))
  where
    by_root : (b : Bool) → texts_in key (cond b [] (f row.parent))
        ≡ texts_in key (cond b [] (g row.parent))
    by_root true = refl
    by_root false = same row.parent

texts_within : (old new : List Scope) → KeepsScopes old new → (key : List ℕ) (most s : ℕ)
    → texts_in key (line_within most new s) ≡ texts_in key (line_within most old s)
texts_within old new kept key zero s = refl
texts_within old new kept key (suc most) s =
    let f : ℕ → List (ℕ × Scope) = line_within most new in
    texts_without key s f (slice_get new s)
    ∙ ap (λ o. texts_in key (upwards f s o)) (kept s)
    ∙ sym (texts_without key s f (slice_get old s))
    ∙ texts_upwards key s f (line_within most old) (texts_within old new kept key most)
    (slice_get old s)

pub night_stays : (p q : State) → KeepsScopes p.tree.scopes q.tree.scopes → (s : ℕ)
    → night_of q s ≡ night_of p s
night_stays p q kept s =
    ap (λ texts. slice_get texts 0)
    (texts_within p.tree.scopes q.tree.scopes kept (codes "night") (suc s) s)

-- ---- the night of a group

pub owned_stays : (p q : State) → KeepsScopes p.tree.scopes q.tree.scopes
    → KeepsGroups p.work.groups q.work.groups → (night : Option (List ℕ)) (group : List ℕ) (g : ℕ)
    → is_owned q night group g ≡ is_owned p night group g
owned_stays p q scopes groups night group g =
    without (slice_get q.work.groups g)
    ∙ ap (λ o. option_map_or test o false) (groups g)
    ∙ sym (without (slice_get p.work.groups g)) ∙ by_row (slice_get p.work.groups g)
  where
    test : Group → Bool
    test row = belongs group row.name && is_same (night_of q row.scope) night

    without : (o : Option Group)
        → option_map_or test o false ≡ option_map_or test (option_map unmarked o) false
    without None = refl
    without (Some row) = refl

    by_row : (o : Option Group) → option_map_or test o false
        ≡ option_map_or (λ row. belongs group row.name && is_same (night_of p row.scope) night) o
        false
    by_row None = refl
    by_row (Some row) =
        ap (λ n. belongs group row.name && is_same n night) (night_stays p q scopes row.scope)

-- ---- what leaves nights as they are

pub same_scopes : (rows : List Scope) → KeepsScopes rows rows
same_scopes rows s = refl

pub same_groups : (rows : List Group) → KeepsGroups rows rows
same_groups rows g = refl

pub cancel_keeps : (e s : ℕ) (cause : Option (List ℕ)) (t : TreeState)
    → KeepsScopes t.scopes (after_cancel e s cause t).scopes
cancel_keeps e s cause t =
    row_by_row unhit t.scopes (after_cancel e s cause t).scopes
    (map-at_row unhit _ s t.scopes (λ row. refl))

-- A deadline that has come changes nothing but the hit.
pub tick_unhit : (row : Scope) (o : Option Hit)
    → unhit (option_map_or (λ hit. with_hit hit row) o row) ≡ unhit row
tick_unhit row None = refl
tick_unhit row (Some hit) = refl

ticks_unhit : (e clock : ℕ) (rows : List Scope)
    → map unhit (map (tick e clock) rows) ≡ map unhit rows
ticks_unhit e clock [] = refl
ticks_unhit e clock (row ∷ rows) =
    ap (λ x. x ∷ map unhit (map (tick e clock) rows)) (tick_unhit row (hit_due e clock row.kind))
    ∙ ap (λ xs. unhit row ∷ xs) (ticks_unhit e clock rows)

pub advance_keeps : (e moment : ℕ) (t : TreeState)
    → KeepsScopes t.scopes (after_advance e moment t).scopes
advance_keeps e moment t =
    row_by_row unhit t.scopes (map (tick e moment) t.scopes) (ticks_unhit e moment t.scopes)

pub group_end_keeps : (e : ℕ) (w : WorkState) (g : ℕ) (cause : Option (List ℕ)) (t : TreeState)
    → KeepsScopes t.scopes (after_group_cancel e w g cause t).scopes
group_end_keeps e w g cause t = by_scope (own_scope w g)
  where
    by_scope : (o : Option ℕ)
        → KeepsScopes t.scopes (option_map_or (λ s. after_cancel e s cause t) o t).scopes
    by_scope None = same_scopes t.scopes
    by_scope (Some s) = cancel_keeps e s cause t

pub task_end_keeps : (e : ℕ) (w : WorkState) (n : ℕ) (error : Option (List ℕ)) (t : TreeState)
    → KeepsScopes t.scopes (after_task_end e w n error t).scopes
task_end_keeps e w n None t = same_scopes t.scopes
task_end_keeps e w n (Some text) t = group_end_keeps e w (group_of_task w n) (Some text) t

pub error_keeps : (g : ℕ) (error : Option (List ℕ)) (groups : List Group)
    → KeepsGroups groups (groups_after g error groups)
error_keeps g None groups = same_groups groups
error_keeps g (Some text) groups =
    row_by_row unmarked groups (at_row (with_error text) g groups)
    (map-at_row unmarked (with_error text) g groups (λ row. refl))
