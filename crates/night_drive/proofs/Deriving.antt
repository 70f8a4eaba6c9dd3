-- Which groups are done once there is a scope more, and once a task has ended.
use Rattle.std.proofs.Common.{◌≡◌, ◌<◌, ◌∙◌, ◌&&◌, ℕ, suc, ◌+◌, Bool, true, false, cond}
use Rattle.std.proofs.Common.{List, [], ◌∷◌, ◌++◌, Option, Some, None, slice_get, length, codes}
use Rattle.std.proofs.Common.{inl, inr, is_some, refl, sym, ap, arith}
use Rattle.std.proofs.Math.Bool.{or-false}
use Rattle.std.specs.Option.{option_map, option_map_or}
use Rattle.run_model.proofs.RowLemmas.{push_cases, slice_get-push_last, slice_get-push_left}
use Rattle.run_model.specs.Allowed.{takes_cause}
use Rattle.run_model.specs.declared.scopes.Hit.{Hit}
use Rattle.run_model.specs.declared.scopes.Kind.{Kind}
use Rattle.run_model.specs.declared.scopes.Kind.TheVariants as kind
use Rattle.run_model.specs.declared.scopes.Scope.{Scope}
use Rattle.run_model.specs.declared.tasks.Outcome.TheVariants as outcome
use Rattle.run_model.specs.Event.{Event}
use Rattle.run_model.specs.Event as event
use Rattle.run_model.specs.Rows.{new_scope}
use Rattle.run_model.specs.Rules.{AreNumbered}
use Rattle.run_model.specs.Scopes.{AreOrdered, is_done, line}
use Rattle.run_model.specs.Scopes.{before_detached, hit_at, least_hit}
use Rattle.run_model.specs.State.{State}
use Rattle.run_model.specs.Step.{step}
use Rattle.run_model.specs.TreeChanges.{after_cancel, hit_due, tick}
use Rattle.std.specs.List.{filter_map}
use Rattle.model_laws.proofs.Lines.{first_hit_up, value_up}
use Rattle.night_drive.specs.Names.{belongs, is_same, night_of}
use Rattle.night_drive.specs.Searches.{last_below}
use Rattle.night_drive.specs.Seen.{is_over, is_scope}
use Rattle.night_drive.specs.Turns.{DerivesStandLast, FinishesStop, GroupsLeaveGroups, WaitsStop}
use Rattle.night_drive.proofs.Hitting.{cancel_stops}
use Rattle.night_drive.proofs.Leaving.{line_pushed, night_pushed}
use Rattle.night_drive.proofs.Searching.{last_alike_below, last_within}
use Rattle.night_drive.proofs.Staying.{tick_unhit}

-- The rows of q are those of p, and this one after them. Its parent was there before.
record HasOneMore (p q : State) (new : Scope) : Type 0 where
  pub numbered : AreNumbered p
  pub pushed : q.tree.scopes ≡ p.tree.scopes ++ new ∷ []
  pub below : new.parent < length p.tree.scopes

length_pushed : {X : Type 0} (xs : List X) (x : X) → length (xs ++ x ∷ []) ≡ suc (length xs)
length_pushed [] x = refl
length_pushed (y ∷ xs) x = ap suc (length_pushed xs x)

-- The new row is the last one.
new_at : (p q : State) (new : Scope) → q.tree.scopes ≡ p.tree.scopes ++ new ∷ []
    → slice_get q.tree.scopes (length p.tree.scopes) ≡ Some new
new_at p q new pushed =
    ap (λ (rows : List Scope). slice_get rows (length p.tree.scopes)) pushed
    ∙ slice_get-push_last p.tree.scopes new

ordered_more : (p q : State) (new : Scope) → HasOneMore p q new → AreOrdered q.tree.scopes
ordered_more p q new more s row found not_root =
    elim (push_cases p.tree.scopes new s row
    (ap (λ (rows : List Scope). slice_get rows s) (sym more.pushed) ∙ found)) [
      | inl old ↦ more.numbered.ordered s row old not_root
      | inr last ↦
          let same : row.parent ≡ new.parent = ap (λ (r : Scope). r.parent) last.1 in
          let below : new.parent < length p.tree.scopes = more.below in
          omega (arith, same, last.0, below)
    ]

-- ---- the scopes that were there

-- A line with a hit before the first detached row.
abbrev is_hit : List (ℕ × Scope) → Bool
is_hit rows = is_some (option_map (λ a. a.1) (least_hit (filter_map hit_at (before_detached rows))))

done_left : (p q : State) (new : Scope) → AreNumbered p
    → q.tree.scopes ≡ p.tree.scopes ++ new ∷ [] → (s : ℕ) → s < length p.tree.scopes
    → is_done q.tree.scopes s ≡ is_done p.tree.scopes s
done_left p q new numbered pushed s less =
    ap (λ rows. is_hit (line rows s)) pushed
    ∙ ap is_hit (line_pushed p.tree.scopes new numbered.ordered (suc s) s less)

scope_left : (p q : State) (new : Scope) → AreNumbered p
    → q.tree.scopes ≡ p.tree.scopes ++ new ∷ [] → (night : Option (List ℕ)) (group : List ℕ)
    (s : ℕ) → s < length p.tree.scopes
    → is_scope q night group s ≡ is_scope p night group s
scope_left p q new numbered pushed night group s less =
    ap (λ o. option_map_or (λ row. takes_cause row.kind
    && (belongs group row.name && is_same (night_of q s) night)) o false)
    (ap (λ (rows : List Scope). slice_get rows s) pushed
    ∙ slice_get-push_left p.tree.scopes new s less)
    ∙ ap (λ n. option_map_or (λ row. takes_cause row.kind
    && (belongs group row.name && is_same n night)) (slice_get p.tree.scopes s) false)
    (night_pushed p q new numbered.ordered pushed s less)

-- A group is done if the new scope is, where that belongs to it. Otherwise it stays as it is.
over_more : (p q : State) (new : Scope) → AreNumbered p
    → q.tree.scopes ≡ p.tree.scopes ++ new ∷ [] → (night : Option (List ℕ)) (group : List ℕ)
    → is_over q night group
    ≡ cond (is_scope q night group (length p.tree.scopes))
    (is_done q.tree.scopes (length p.tree.scopes)) (is_over p night group)
over_more p q new numbered pushed night group =
    ap (λ n. option_map_or (is_done q.tree.scopes) (last_below (is_scope q night group) n) false)
    (ap length pushed ∙ length_pushed p.tree.scopes new)
    ∙ by_new (is_scope q night group (length p.tree.scopes))
  where
    most : ℕ
    most = length p.tree.scopes

    same : last_below (is_scope q night group) most ≡ last_below (is_scope p night group) most
    same =
        last_alike_below (is_scope q night group) (is_scope p night group) (length p.tree.scopes)
        (scope_left p q new numbered pushed night group)

    by_last : (o : Option ℕ) → last_below (is_scope p night group) (length p.tree.scopes) ≡ o
        → option_map_or (is_done q.tree.scopes) o false
        ≡ option_map_or (is_done p.tree.scopes) o false
    by_last None is = refl
    by_last (Some s) is =
        done_left p q new numbered pushed s
        (last_within (is_scope p night group) (length p.tree.scopes) s is)

    by_new : (b : Bool)
        → option_map_or (is_done q.tree.scopes)
        (cond b (Some most) (last_below (is_scope q night group) most)) false
        ≡ cond b (is_done q.tree.scopes most) (is_over p night group)
    by_new true = refl
    by_new false =
        ap (λ o. option_map_or (is_done q.tree.scopes) o false) same
        ∙ by_last (last_below (is_scope p night group) (length p.tree.scopes)) refl

-- ---- the new scope

-- A scope of another kind belongs to no group.
not_its : (p q : State) (new : Scope) → AreNumbered p
    → q.tree.scopes ≡ p.tree.scopes ++ new ∷ [] → takes_cause new.kind ≡ false
    → (night : Option (List ℕ)) (group : List ℕ)
    → is_over q night group ≡ is_over p night group
not_its p q new numbered pushed other night group =
    over_more p q new numbered pushed night group
    ∙ ap (λ b. cond b (is_done q.tree.scopes most) (is_over p night group))
    (ap (λ o. option_map_or (λ row. takes_cause row.kind
    && (belongs group row.name && is_same (night_of q most) night)) o false) (new_at p q new pushed)
    ∙ ap (λ b. b && (belongs group new.name && is_same (night_of q most) night)) other)
  where
    most : ℕ
    most = length p.tree.scopes

-- A scope that takes a cause is of the night of its parent, and done if that is.
its_own : (p q : State) (name : List ℕ) (parent : ℕ)
    → HasOneMore p q (new_scope name parent kind.Cause) → (night : Option (List ℕ))
    (group : List ℕ)
    → is_over q night group
    ≡ cond (belongs group name && is_same (night_of p parent) night)
    (is_done p.tree.scopes parent) (is_over p night group)
its_own p q name parent more night group =
    over_more p q new more.numbered more.pushed night group
    ∙ ap (λ o. cond (option_map_or (λ row. takes_cause row.kind
    && (belongs group row.name && is_same (night_of q most) night)) o false)
    (is_done q.tree.scopes most) (is_over p night group)) at
    ∙ ap (λ n. cond (belongs group name && is_same n night) (is_done q.tree.scopes most)
    (is_over p night group)) of_night
    ∙ ap (λ b. cond (belongs group name && is_same (night_of p parent) night) b
    (is_over p night group)) done
  where
    new : Scope
    new = new_scope name parent kind.Cause

    most : ℕ
    most = length p.tree.scopes

    at : slice_get q.tree.scopes (length p.tree.scopes)
        ≡ Some (new_scope name parent kind.Cause)
    at = new_at p q (new_scope name parent kind.Cause) more.pushed

    ordered : AreOrdered q.tree.scopes
    ordered = ordered_more p q (new_scope name parent kind.Cause) more

    of_night : night_of q (length p.tree.scopes) ≡ night_of p parent
    of_night =
        value_up (codes "night") q.tree.scopes (length p.tree.scopes)
        (new_scope name parent kind.Cause) ordered at
        ∙ night_pushed p q (new_scope name parent kind.Cause) more.numbered.ordered more.pushed
        parent more.below

    done : is_done q.tree.scopes (length p.tree.scopes) ≡ is_done p.tree.scopes parent
    done =
        ap (λ (o : Option (ℕ × Hit)). is_some (option_map (λ a. a.1) o))
        (first_hit_up q.tree.scopes (length p.tree.scopes) (new_scope name parent kind.Cause)
        ordered at)
        ∙ done_left p q (new_scope name parent kind.Cause) more.numbered more.pushed parent
        more.below

pub derives_stand_last : DerivesStandLast
derives_stand_last p name parent k night group numbered below = by_kind k
  where
    other : (k : Kind) → takes_cause k ≡ false
        → is_over (step p (event.Derive name parent k)) night group ≡ is_over p night group
    other k lacks =
        let row : Scope = new_scope name parent k in
        let new : Scope = tick (p.count + 1) p.tree.clock row in
        not_its p (step p (event.Derive name parent k)) new numbered refl
        (ap (λ (r : Scope). takes_cause r.kind)
        (tick_unhit row (hit_due (p.count + 1) p.tree.clock k))
        ∙ lacks) night group

    by_kind : (k : Kind)
        → is_over (step p (event.Derive name parent k)) night group
        ≡ cond (takes_cause k && (belongs group name && is_same (night_of p parent) night))
        (is_done p.tree.scopes parent) (is_over p night group)
    by_kind kind.Cause =
        its_own p (step p (event.Derive name parent kind.Cause)) name parent
        (record { numbered = numbered; pushed = refl; below = below }) night group
    by_kind kind.Root = other kind.Root refl
    by_kind kind.Cancel = other kind.Cancel refl
    by_kind (kind.Deadline moment cause) = other (kind.Deadline moment cause) refl
    by_kind (kind.Value key text) = other (kind.Value key text) refl
    by_kind kind.Detached = other kind.Detached refl
    by_kind kind.Group = other kind.Group refl

pub groups_leave_groups : GroupsLeaveGroups
groups_leave_groups p name parent night group numbered =
    not_its p (step p (event.Group name parent)) (new_scope name parent kind.Group) numbered refl
    refl night group

-- ---- a task's end

pub finishes_stop : FinishesStop
finishes_stop p n s outcome.Success night group own = sym (or-false (is_over p night group))
finishes_stop p n s (outcome.Failure text) night group own =
    ap (λ o. is_over (record p {
      tree = option_map_or (λ s. after_cancel (p.count + 1) s (Some text) p.tree) o p.tree;
    }) night group) own
    ∙ cancel_stops p s (Some text) night group

-- ---- a wait

pub waits_stop : WaitsStop
waits_stop p g s night group own =
    ap (λ o. is_over (record p {
      tree = option_map_or (λ s. after_cancel (p.count + 1) s None p.tree) o p.tree;
    }) night group) own
    ∙ cancel_stops p s None night group
