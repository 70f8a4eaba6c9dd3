-- What is chosen after the deadline of its group is a cleanup.
use Rattle.std.proofs.Common.{◌≡◌, ◌∙◌, ◌&&◌, ◌||◌, ℕ, zero, suc, ◌+◌, not, Bool, true, false, cond}
use Rattle.std.proofs.Common.{List, [], ◌∷◌, Option, Some, None, IsSome, nat_le, map, slice_get}
use Rattle.std.proofs.Common.{ap, refl, sym, inl, inr}
use Rattle.std.proofs.Math.Bool.{or-true}
use Rattle.std.proofs.lemmas.Bool.{leb-true}
use Rattle.std.proofs.lemmas.List.Elements.{All-contains}
use Rattle.std.proofs.lemmas.Option.{same_Some, slice_get-map}
use Rattle.std.specs.Option.{option_map, option_map_or, option_or}
use Rattle.run_model.specs.declared.scopes.Hit.{Hit}
use Rattle.run_model.specs.declared.scopes.Kind.{Kind}
use Rattle.run_model.specs.declared.scopes.Kind.TheVariants as kind
use Rattle.run_model.specs.declared.scopes.Scope.{Scope}
use Rattle.run_model.specs.Event as event
use Rattle.run_model.specs.Rules.{AreDeadlines}
use Rattle.run_model.specs.Scopes.{own_deadline}
use Rattle.run_model.specs.State.{State, TreeState}
use Rattle.run_model.specs.Step.{step}
use Rattle.run_model.specs.TreeChanges.{hit_due, tick, with_hit}
use Rattle.night_plan.proofs.Rows.{at_is, at_there}
use Rattle.night_plan.specs.declared.commands.Command.{Command}
use Rattle.night_plan.specs.Nights.{IsReady, Night, is_busy, is_canceled, is_cleanup, is_cut}
use Rattle.night_plan.specs.Nights.{is_done}
use Rattle.night_plan.specs.Nights.{is_ok, was_canceled}
use Rattle.night_drive.specs.PlanTurns.{night_in}
use Rattle.night_drive.specs.Seen.{is_over}
use Rattle.night_drive.specs.Turns.{has_come, of_last}
use Rattle.night_drive.proofs.Hitting.{advance_stops, others_leave_groups}
use Rattle.drive_steps.specs.Deadlines.{NoneBeginsTooLate}

-- ---- deadlines that have come are exceeded already

map_same : {X : Type 0} (f : X → X) (xs : List X)
    → ((i : ℕ) (x : X) → slice_get xs i ≡ Some x → f x ≡ x) → map f xs ≡ xs
map_same f [] each = refl
map_same f (x ∷ xs) each =
    ap (λ y. y ∷ map f xs) (each zero x refl)
    ∙ ap (λ ys. x ∷ ys) (map_same f xs (λ i y at. each (suc i) y at))

-- A scope that was hit stays as it is.
hit_stays : (row : Scope) (hit : Hit) (o : Option Hit) → row.hit ≡ o → IsSome o
    → with_hit hit row ≡ row
hit_stays row hit None is some = cc
hit_stays row hit (Some old) is some =
    ap (λ (o : Option Hit). record row { hit = option_or o (Some hit) }) is
    ∙ ap (λ (o : Option Hit). record row { hit = o }) (sym is)

tick_same : (t : TreeState) → AreDeadlines t → (e s : ℕ) (row : Scope)
    → slice_get t.scopes s ≡ Some row → tick e t.clock row ≡ row
tick_same t are e s row found = by_kind row.kind refl
  where
    by_come : (moment : ℕ) (hit : Hit) (b : Bool) → nat_le moment t.clock ≡ b
        → own_deadline row.kind ≡ Some moment
        → option_map_or (λ h. with_hit h row) (cond b (Some hit) None) row ≡ row
    by_come moment hit true come is =
        hit_stays row hit row.hit refl
        (are.come s moment row found is (leb-true moment t.clock come))
    by_come moment hit false come is = refl

    by_kind : (k : Kind) → row.kind ≡ k
        → option_map_or (λ h. with_hit h row) (hit_due e t.clock k) row ≡ row
    by_kind (kind.Deadline moment cause) is =
        by_come moment _ (nat_le moment t.clock) refl (ap own_deadline is)
    by_kind kind.Root is = refl
    by_kind kind.Cancel is = refl
    by_kind kind.Cause is = refl
    by_kind (kind.Value key text) is = refl
    by_kind kind.Detached is = refl
    by_kind kind.Group is = refl

-- So a clock that stands still changes no scope.
clock_stands : (p : State) → AreDeadlines p.tree
    → (step p (event.Advance p.tree.clock)).tree ≡ p.tree
clock_stands p are =
    ap (λ (scopes : List Scope). record p.tree { scopes = scopes })
    (map_same (tick (p.count + 1) p.tree.clock) p.tree.scopes
    (λ s row found. tick_same p.tree are (p.count + 1) s row found))

over_by_now : (p : State) → AreDeadlines p.tree → (night : Option (List ℕ)) (group : List ℕ)
    → of_last p night group (has_come p p.tree.clock) ≡ true → is_over p night group ≡ true
over_by_now p are night group come =
    sym (others_leave_groups p (event.Advance p.tree.clock) night group (clock_stands p are))
    ∙ advance_stops p p.tree.clock night group
    ∙ ap (λ b. is_over p night group || b) come ∙ or-true (is_over p night group)

-- ---- the choice

pub none_begins_too_late : NoneBeginsTooLate
none_begins_too_late p ends plan names sizes chosen c command group key consistent is listed called
    come =
    by_cleanup (is_cleanup command) refl
    (All-contains (IsReady (night_in p ends plan names) p.tree.clock) chosen c is.ready listed)
  where
    n : Night
    n = night_in p ends plan names

    over : is_done n.done command.group ≡ true
    over =
        ap (λ (o : Option Bool). option_map_or (λ b. b) o false)
        (slice_get-map (is_over p names.night) names.groups.items command.group
        ∙ ap (option_map (is_over p names.night)) called.group_is)
        ∙ over_by_now p consistent.deadlines names.night group come

    by_cleanup : (b : Bool) → is_cleanup command ≡ b → IsReady n p.tree.clock c → b ≡ true
    by_cleanup true is ready = refl
    by_cleanup false is ready =
        let at = at_there n c (λ x fact. not (is_busy fact.phase) && not (is_ok fact.phase))
        ready.may.idle in
        let same : at.0 ≡ command =
        same_Some at.0 command (sym at.2 ∙ called.is) in
        let canceled : was_canceled n c ≡ true =
        at_is n c at.0 at.1 at.2 at.3 (is_canceled n.done)
        ∙ ap (λ (x : Command). is_canceled n.done x at.1) same
        ∙ ap (λ b. at.1.canceled
        || (is_cut at.1.phase || (not b && is_done n.done command.group))) is
        ∙ ap (λ b. at.1.canceled || (is_cut at.1.phase || b)) over
        ∙ ap (λ b. at.1.canceled || b) (or-true (is_cut at.1.phase))
        ∙ or-true at.1.canceled in
        absurd (ready.may.free (record { idle = ready.may.idle; why = inr (inl canceled) }))
