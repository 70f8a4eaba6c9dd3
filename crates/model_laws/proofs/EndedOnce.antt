-- A group that has ended cancels nothing more.
use Rattle.run_model.proofs.Common.{◌≡◌, ◌⊎◌, ℕ, zero, suc, Bool, true, false, List, [], ◌∷◌}
use Rattle.run_model.proofs.Common.{Option, Some, None, slice_get, refl, sym, ap, subst, ◌∙◌}
use Rattle.run_model.proofs.Common.{option_map, option_map_or, option_and_then, option_or, IsSome}
use Rattle.run_model.proofs.Common.{both_ways, same_Some, at_row, own_hit, State, TreeState, step}
use Rattle.run_model.proofs.Common.{own_scope, after_group_cancel, with_hit, after_cancel, new_hit}
use Rattle.run_model.specs.declared.groups.Group.{Group}
use Rattle.run_model.specs.declared.scopes.Hit.{Hit}
use Rattle.run_model.specs.declared.scopes.Scope.{Scope}
use Rattle.run_model.specs.Event as event
use Rattle.run_model.specs.declared.scopes.Reason.TheVariants.{Canceled}
use Rattle.model_laws.specs.GroupEnds.{HasGroupEnded}
use Rattle.model_laws.specs.Restarts.{hosts_running, hit_restarted, restart_hit, scope_restarted}
use Rattle.model_laws.proofs.Ends.{owner_found}
use Rattle.model_laws.proofs.Interrupts.{restarted}
use Rattle.model_laws.proofs.RightHits.{own_hit_of}

at_row_same : {X : Type 0} (change : X → X) (n : ℕ) (rows : List X)
    → ((x : X) → slice_get rows n ≡ Some x → change x ≡ x) → at_row change n rows ≡ rows
at_row_same change n [] same = refl
at_row_same change zero (row ∷ rows) same = ap (λ r. r ∷ rows) (same row refl)
at_row_same change (suc n) (row ∷ rows) same =
    ap (λ rs. row ∷ rs) (at_row_same change n rows same)

had_one : {X : Type 0} (o : Option X) (x : X) → IsSome o → option_or o (Some x) ≡ o
had_one None x is = absurd (both_ways false refl is)
had_one (Some y) x is = refl

-- A scope that was hit stays as it is.
hit_before : (e s : ℕ) (cause : Option (List ℕ)) (t : TreeState) → IsSome (own_hit t.scopes s)
    → after_cancel e s cause t ≡ t
hit_before e s cause t is =
    ap (λ rows. record t { scopes = rows })
    (at_row_same (with_hit (new_hit e t.clock Canceled cause)) s t.scopes
    (λ row found.
    ap (λ o. record row { hit = o })
    (had_one row.hit (new_hit e t.clock Canceled cause)
    (rw (own_hit_of t.scopes s row found) at is))))

-- The own scope of a group that has ended was hit.
own_hit_before : (p : State) (g s : ℕ) → own_scope p.work g ≡ Some s → HasGroupEnded p g
    → IsSome (own_hit p.tree.scopes s)
own_hit_before p g s own end =
    let owner = owner_found p.work g s (slice_get p.work.groups g) refl own in
    let same : end.row ≡ owner.0 = same_Some end.row owner.0 (sym end.found ∙ owner.1.found) in
    let P : Group → Type 0 = λ row. IsSome row.error ⊎ (row.waited ≡ true) in
    end.kept.errors.ended g s owner.0 owner.1 (subst P same end.ended)

ended_by : (p : State) (g e : ℕ) (cause : Option (List ℕ)) (o : Option ℕ)
    → own_scope p.work g ≡ o → HasGroupEnded p g
    → option_map_or (λ s. after_cancel e s cause p.tree) o p.tree ≡ p.tree
ended_by p g e cause None own end = refl
ended_by p g e cause (Some s) own end =
    hit_before e s cause p.tree (own_hit_before p g s own end)

-- A group that has ended cancels nothing.
pub ended_once : (p : State) (g e : ℕ) (cause : Option (List ℕ)) → HasGroupEnded p g
    → after_group_cancel e p.work g cause p.tree ≡ p.tree
ended_once p g e cause end = ended_by p g e cause (own_scope p.work g) refl end

hit_restarted_before : (hosting : Bool) (new : Hit) (o : Option Hit) → IsSome o
    → hit_restarted hosting new o ≡ o
hit_restarted_before hosting new None is = absurd (both_ways false refl is)
hit_restarted_before hosting new (Some hit) is = refl

restarted_before : (p : State) (s : ℕ) (o : Option Scope)
    → IsSome (option_and_then (λ row. row.hit) o) → option_map (scope_restarted p s) o ≡ o
restarted_before p s None is = refl
restarted_before p s (Some row) is =
    ap (λ hit. Some (record row { hit = hit }))
    (hit_restarted_before (hosts_running p.work s) (restart_hit p) row.hit is)

-- A restart changes nothing of its scope.
pub ended_before : (p : State) (g s : ℕ) → HasGroupEnded p g → own_scope p.work g ≡ Some s
    → slice_get (step p event.Restart).tree.scopes s ≡ slice_get p.tree.scopes s
ended_before p g s end own =
    (restarted p).scopes s
    ∙ restarted_before p s (slice_get p.tree.scopes s) (own_hit_before p g s own end)
