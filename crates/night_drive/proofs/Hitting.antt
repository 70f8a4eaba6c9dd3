-- Which groups are done once scopes were hit.
use Rattle.std.proofs.Common.{◌≡◌, ◌∙◌, ◌&&◌, ◌||◌, ◌==◌, ℕ, zero, suc, ◌+◌, Bool, true, false}
use Rattle.std.proofs.Common.{cond, List, [], ◌∷◌, map, length, Option, Some, None, slice_get, inl}
use Rattle.std.proofs.Common.{inr, refl, sym, ap, arith, nat_le, is_some}
use Rattle.std.proofs.Math.Bool.{or-false, or-true}
use Rattle.std.proofs.lemmas.Bool.{cases_eq, eq-eqb, ne_eqb}
use Rattle.std.proofs.lemmas.Bool.Decides.{nat_tests}
use Rattle.std.proofs.lemmas.List.{length-map}
use Rattle.std.proofs.lemmas.Option.{slice_get-map}
use Rattle.std.specs.List.{cons_option, filter_map, list_any}
use Rattle.std.specs.Option.{option_map, option_map_or, option_or}
use Rattle.std.specs.Prelude.{min}
use Rattle.run_model.proofs.RowLemmas.{length-at_row}
use Rattle.run_model.specs.Allowed.{takes_cause}
use Rattle.run_model.specs.declared.scopes.Hit.{Hit}
use Rattle.run_model.specs.declared.scopes.Kind.{Kind}
use Rattle.run_model.specs.declared.scopes.Kind.TheVariants as kind
use Rattle.run_model.specs.declared.scopes.Reason.TheVariants.{Canceled, DeadlineExceeded}
use Rattle.run_model.specs.declared.scopes.Scope.{Scope}
use Rattle.run_model.specs.declared.tasks.Outcome.TheVariants as outcome
use Rattle.run_model.specs.Event as event
use Rattle.run_model.specs.Scopes.{before_detached, chain, is_detached, is_done, is_root}
use Rattle.run_model.specs.Scopes.{least_moment, lesser, line, line_within, own_deadline, upwards}
use Rattle.run_model.specs.State.{State, TreeState}
use Rattle.run_model.specs.Step.{step}
use Rattle.run_model.specs.TreeChanges.{after_cancel, hit_due, new_hit, tick, with_hit}
use Rattle.model_laws.proofs.Folds.{at_key_reads, changed_if}
use Rattle.model_laws.proofs.Reaches.{done_exactly}
use Rattle.model_laws.specs.Hits.{has_hit}
use Rattle.night_drive.specs.Names.{belongs, is_same, night_of}
use Rattle.night_drive.specs.Searches.{last_below}
use Rattle.night_drive.specs.Seen.{is_over, is_scope}
use Rattle.night_drive.specs.Turns.{AdvancesStop, BareFinishesLeaveScopes, CancelsStop}
use Rattle.night_drive.specs.Turns.{OthersLeaveGroups, has_come}
use Rattle.night_drive.proofs.Searching.{last_alike}
use Rattle.night_drive.proofs.Staying.{KeepsScopes, advance_keeps, cancel_keeps, night_stays}
use Rattle.night_drive.proofs.Staying.{tick_unhit, unhit}

-- ---- chains

-- The rows of a line, each changed by its number.
abbrev changed : (ℕ → Scope → Scope) → ℕ × Scope → ℕ × Scope
changed change r = (r.0, change r.0 r.1)

-- The change is one of hits alone.
abbrev OnlyHits : (ℕ → Scope → Scope) → Type 0
OnlyHits change = (n : ℕ) (row : Scope) → unhit (change n row) ≡ unhit row

-- The new rows are the old ones, changed.
abbrev AreChanged : (ℕ → Scope → Scope) → (old new : List Scope) → Type 0
AreChanged change old new = (s : ℕ) → slice_get new s ≡ option_map (change s) (slice_get old s)

upwards_changed : (change : ℕ → Scope → Scope) → OnlyHits change → (s : ℕ)
    (f g : ℕ → List (ℕ × Scope)) → ((t : ℕ) → f t ≡ map (changed change) (g t))
    → (o : Option Scope)
    → upwards f s (option_map (change s) o) ≡ map (changed change) (upwards g s o)
upwards_changed change only s f g same None = refl
upwards_changed change only s f g same (Some row) =
    let new : Scope = change s row in
    let of_kind : new.kind ≡ row.kind = ap (λ (r : Scope). r.kind) (only s row) in
    let below : new.parent ≡ row.parent = ap (λ (r : Scope). r.parent) (only s row) in
    ap (λ k. (s, new) ∷ cond (is_root k) [] (f new.parent)) of_kind
    ∙ ap (λ t. (s, new) ∷ cond (is_root row.kind) [] (f t)) below
    ∙ ap (λ rows. (s, new) ∷ rows) (by_root (is_root row.kind))
  where
    by_root : (b : Bool)
        → cond b [] (f row.parent) ≡ map (changed change) (cond b [] (g row.parent))
    by_root true = refl
    by_root false = same row.parent

line_changed : (change : ℕ → Scope → Scope) → OnlyHits change → (old new : List Scope)
    → AreChanged change old new → (most s : ℕ)
    → line_within most new s ≡ map (changed change) (line_within most old s)
line_changed change only old new are zero s = refl
line_changed change only old new are (suc most) s =
    ap (λ o. upwards (line_within most new) s o) (are s)
    ∙ upwards_changed change only s (line_within most new) (line_within most old)
    (line_changed change only old new are most) (slice_get old s)

before_changed : (change : ℕ → Scope → Scope) → OnlyHits change → (rows : List (ℕ × Scope))
    → before_detached (map (changed change) rows)
    ≡ map (changed change) (before_detached rows)
before_changed change only [] = refl
before_changed change only (r ∷ rows) =
    let rest = before_detached (map (changed change) rows) in
    ap (λ k. cond (is_detached k) [] (changed change r ∷ rest))
    (ap (λ (x : Scope). x.kind) (only r.0 r.1))
    ∙ by_detached (is_detached r.1.kind) (before_changed change only rows)
  where
    by_detached : (b : Bool)
        → before_detached (map (changed change) rows)
        ≡ map (changed change) (before_detached rows)
        → cond b [] (changed change r ∷ before_detached (map (changed change) rows))
        ≡ map (changed change) (cond b [] (r ∷ before_detached rows))
    by_detached true same = refl
    by_detached false same = ap (λ xs. changed change r ∷ xs) same

chain_changed : (change : ℕ → Scope → Scope) → OnlyHits change → (old new : List Scope)
    → AreChanged change old new → (s : ℕ) → chain new s ≡ map (changed change) (chain old s)
chain_changed change only old new are s =
    ap before_detached (line_changed change only old new are (suc s) s)
    ∙ before_changed change only (line old s)

-- ---- done

-- The change hits the rows that pass the test, and no others.
abbrev Hits : (ℕ → Scope → Scope) → (ℕ → Scope → Bool) → Type 0
Hits change test =
    (n : ℕ) (row : Scope) → is_some (change n row).hit ≡ (is_some row.hit || test n row)

or_swap : (a b c d : Bool) → ((a || b) || (c || d)) ≡ ((a || c) || (b || d))
or_swap true b c d = refl
or_swap false true c d = sym (or-true c)
or_swap false false c d = refl

hits_changed : (change : ℕ → Scope → Scope) (test : ℕ → Scope → Bool) → Hits change test
    → (rows : List (ℕ × Scope))
    → has_hit (map (changed change) rows)
    ≡ (has_hit rows || list_any (λ r. test r.0 r.1) rows)
hits_changed change test hits [] = refl
hits_changed change test hits (r ∷ rows) =
    ap (λ b. b || has_hit (map (changed change) rows)) (hits r.0 r.1)
    ∙ ap (λ b. (is_some r.1.hit || test r.0 r.1) || b) (hits_changed change test hits rows)
    ∙ or_swap (is_some r.1.hit) (test r.0 r.1) (has_hit rows) (list_any (λ r. test r.0 r.1) rows)

done_changed : (change : ℕ → Scope → Scope) (test : ℕ → Scope → Bool) → OnlyHits change
    → Hits change test → (old new : List Scope) → AreChanged change old new → (s : ℕ)
    → is_done new s ≡ (is_done old s || list_any (λ r. test r.0 r.1) (chain old s))
done_changed change test only hits old new are s =
    done_exactly new s ∙ ap has_hit (chain_changed change only old new are s)
    ∙ hits_changed change test hits (chain old s)
    ∙ ap (λ b. b || list_any (λ r. test r.0 r.1) (chain old s)) (sym (done_exactly old s))

-- ---- the last scope of a group

scope_stays : (p q : State) → KeepsScopes p.tree.scopes q.tree.scopes
    → (night : Option (List ℕ)) (group : List ℕ) (s : ℕ)
    → is_scope q night group s ≡ is_scope p night group s
scope_stays p q kept night group s =
    without (slice_get q.tree.scopes s)
    ∙ ap (λ o. option_map_or test o false) (kept s)
    ∙ sym (without (slice_get p.tree.scopes s))
    ∙ ap (λ n. option_map_or (λ row. takes_cause row.kind
    && (belongs group row.name && is_same n night)) (slice_get p.tree.scopes s) false)
    (night_stays p q kept s)
  where
    test : Scope → Bool
    test row = takes_cause row.kind && (belongs group row.name && is_same (night_of q s) night)

    without : (o : Option Scope)
        → option_map_or test o false ≡ option_map_or test (option_map unhit o) false
    without None = refl
    without (Some row) = refl

over_changed : (p q : State) (change : ℕ → Scope → Scope) (test : ℕ → Scope → Bool)
    → OnlyHits change → Hits change test → AreChanged change p.tree.scopes q.tree.scopes
    → KeepsScopes p.tree.scopes q.tree.scopes → length q.tree.scopes ≡ length p.tree.scopes
    → (night : Option (List ℕ)) (group : List ℕ)
    → is_over q night group
    ≡ (is_over p night group
    || option_map_or (λ s. list_any (λ r. test r.0 r.1) (chain p.tree.scopes s))
    (last_below (is_scope p night group) (length p.tree.scopes)) false)
over_changed p q change test only hits are kept size night group =
    ap (λ n. option_map_or (is_done q.tree.scopes) (last_below (is_scope q night group) n) false)
    size
    ∙ ap (λ o. option_map_or (is_done q.tree.scopes) o false)
    (last_alike (is_scope q night group) (is_scope p night group)
    (scope_stays p q kept night group) (length p.tree.scopes))
    ∙ by_last (last_below (is_scope p night group) (length p.tree.scopes))
  where
    by_last : (o : Option ℕ)
        → option_map_or (is_done q.tree.scopes) o false
        ≡ (option_map_or (is_done p.tree.scopes) o false
        || option_map_or (λ s. list_any (λ r. test r.0 r.1) (chain p.tree.scopes s)) o false)
    by_last None = refl
    by_last (Some s) = done_changed change test only hits p.tree.scopes q.tree.scopes are s

-- ---- a cancel

eqb_sym : (a b : ℕ) → (a == b) ≡ (b == a)
eqb_sym a b = elim (cases_eq a b) [
  | inl same ↦ eq-eqb a b same ∙ sym (eq-eqb b a (sym same))
  | inr other ↦ ne_eqb a b other ∙ sym (ne_eqb b a (λ it. other (sym it)))
]

cancel_only : (hit : Hit) (s : ℕ) → OnlyHits (λ n. changed_if (with_hit hit) (s == n))
cancel_only hit s n row = by (s == n)
  where
    by : (b : Bool) → unhit (changed_if (with_hit hit) b row) ≡ unhit row
    by true = refl
    by false = refl

cancel_hits : (hit : Hit) (s : ℕ)
    → Hits (λ n. changed_if (with_hit hit) (s == n)) (λ n row. n == s)
cancel_hits hit s n row = by (s == n) ∙ ap (λ b. is_some row.hit || b) (eqb_sym s n)
  where
    some : (o : Option Hit) → is_some (option_or o (Some hit)) ≡ (is_some o || true)
    some None = refl
    some (Some own) = refl

    by : (b : Bool) → is_some (changed_if (with_hit hit) b row).hit ≡ (is_some row.hit || b)
    by true = some row.hit
    by false = sym (or-false (is_some row.hit))

pub cancel_stops : CancelsStop
cancel_stops p s cause night group =
    let hit : Hit = new_hit (p.count + 1) p.tree.clock Canceled cause in
    over_changed p (step p (event.Cancel s cause)) (λ n. changed_if (with_hit hit) (s == n))
    (λ n row. n == s) (cancel_only hit s) (cancel_hits hit s)
    (at_key_reads (with_hit hit) (Some s) p.tree.scopes)
    (cancel_keeps (p.count + 1) s cause p.tree)
    (length-at_row (with_hit hit) s p.tree.scopes) night group

-- ---- a clock that moves

-- A deadline of this kind has come at this moment.
abbrev due : ℕ → Option ℕ → Bool
due moment o = option_map_or (λ deadline. nat_le deadline moment) o false

tick_hits : (e moment : ℕ) → Hits (λ n. tick e moment) (λ n row. due moment (own_deadline row.kind))
tick_hits e moment n row = by_kind row.kind
  where
    hit_by : (b : Bool) (hit : Hit) (own : Option Hit)
        → is_some (option_map_or (λ hit. with_hit hit row) (cond b (Some hit) None) row).hit
        ≡ (is_some row.hit || b)
    hit_by true hit own = some row.hit
      where
        some : (o : Option Hit) → is_some (option_or o (Some hit)) ≡ (is_some o || true)
        some None = refl
        some (Some own) = refl
    hit_by false hit own = sym (or-false (is_some row.hit))

    by_kind : (k : Kind)
        → is_some (option_map_or (λ hit. with_hit hit row) (hit_due e moment k) row).hit
        ≡ (is_some row.hit || due moment (own_deadline k))
    by_kind (kind.Deadline deadline cause) =
        hit_by (nat_le deadline moment) (new_hit e deadline DeadlineExceeded cause) row.hit
    by_kind kind.Root = sym (or-false (is_some row.hit))
    by_kind kind.Cancel = sym (or-false (is_some row.hit))
    by_kind kind.Cause = sym (or-false (is_some row.hit))
    by_kind (kind.Value key text) = sym (or-false (is_some row.hit))
    by_kind kind.Detached = sym (or-false (is_some row.hit))
    by_kind kind.Group = sym (or-false (is_some row.hit))

due-min : (a b moment : ℕ) → nat_le (min a b) moment ≡ (nat_le a moment || nat_le b moment)
due-min a b moment = grind (arith, nat_tests)

due_least : (moment : ℕ) (own : Option ℕ) (rest : List ℕ) (b : Bool)
    → b ≡ due moment (least_moment rest)
    → (due moment own || b) ≡ due moment (least_moment (cons_option own rest))
due_least moment None rest b same = same
due_least moment (Some a) rest b same =
    ap (λ x. nat_le a moment || x) same ∙ by_least (least_moment rest)
  where
    by_least : (o : Option ℕ) → (nat_le a moment || due moment o) ≡ due moment (lesser a o)
    by_least None = or-false (nat_le a moment)
    by_least (Some c) = sym (due-min a c moment)

-- One of the deadlines has come exactly if the earliest one has.
due_any : (moment : ℕ) (rows : List (ℕ × Scope))
    → list_any (λ r. due moment (own_deadline r.1.kind)) rows
    ≡ due moment (least_moment (filter_map (λ r. own_deadline r.1.kind) rows))
due_any moment [] = refl
due_any moment (r ∷ rows) =
    due_least moment (own_deadline r.1.kind) (filter_map (λ r. own_deadline r.1.kind) rows)
    (list_any (λ r. due moment (own_deadline r.1.kind)) rows) (due_any moment rows)

pub advance_stops : AdvancesStop
advance_stops p moment night group =
    let e : ℕ = p.count + 1 in
    over_changed p (step p (event.Advance moment)) (λ n. tick e moment)
    (λ n row. due moment (own_deadline row.kind))
    (λ n row. tick_unhit row (hit_due e moment row.kind)) (tick_hits e moment)
    (slice_get-map (tick e moment) p.tree.scopes) (advance_keeps e moment p.tree)
    (length-map p.tree.scopes (tick e moment)) night group
    ∙ ap (λ b. is_over p night group || b)
    (by_last (last_below (is_scope p night group) (length p.tree.scopes)))
  where
    by_last : (o : Option ℕ)
        → option_map_or
        (λ s. list_any (λ r. due moment (own_deadline r.1.kind)) (chain p.tree.scopes s)) o false
        ≡ option_map_or (has_come p moment) o false
    by_last None = refl
    by_last (Some s) = due_any moment (chain p.tree.scopes s)

-- ---- all other events

pub others_leave_groups : OthersLeaveGroups
others_leave_groups p e night group same =
    ap (λ (t : TreeState). is_over (record p { tree = t }) night group) same

pub bare_finishes : BareFinishesLeaveScopes
bare_finishes p n outcome.Success bare = refl
bare_finishes p n (outcome.Failure text) bare =
    ap (λ o. option_map_or (λ s. after_cancel (p.count + 1) s (Some text) p.tree) o p.tree) bare
