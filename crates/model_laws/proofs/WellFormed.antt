-- Every event keeps a state well formed.
use Rattle.run_model.proofs.Common.{◌≡◌, ◌⊎◌, ◌+◌, ◌<◌, ℕ, zero, suc, true, false, List, [], ◌∷◌}
use Rattle.run_model.proofs.Common.{Some, slice_get, inl, inr, sym, subst, ap, ◌∙◌, arith}
use Rattle.run_model.proofs.Common.{option_and_then, same_Some, none-some, option_and_then_some}
use Rattle.run_model.proofs.Common.{true≢false, Event, root, State, TreeState, formatted, is_root}
use Rattle.run_model.proofs.Common.{own_hit, AreOrdered, step, allowed, after, run, IsConsistent}
use Rattle.run_model.specs.declared.layouts.Layout.{Layout}
use Rattle.run_model.specs.declared.scopes.Hit.{Hit}
use Rattle.run_model.specs.declared.scopes.Scope.{Scope}
use Rattle.run_model.specs.Rules.{ArePast, IsWellFormed}
use Rattle.model_laws.proofs.RunLemmas.{after_allowed, after_step, run_keeps}
use Rattle.model_laws.proofs.Follows.{IsOf, RowFollows, IsNewRow, RowsFollow, TreeFollows}
use Rattle.model_laws.proofs.Steps.{event_follows}

-- ---- order

pub ordered_follow : (e now : ℕ) (old new : List Scope) → RowsFollow e now old new
    → AreOrdered old → AreOrdered new
ordered_follow e now old new follows ordered s row found below_root =
    by_row (follows.from s row found)
  where
    by_row : ((a : Scope) × (slice_get old s ≡ Some a) × RowFollows e now a row)
        ⊎ IsNewRow e now s row
        → row.parent < s
    by_row (inl a) =
        let same_kind : is_root a.0.kind ≡ false = ap is_root (sym a.2.kind) ∙ below_root in
        let less : a.0.parent < s = ordered s a.0 a.1 same_kind in
        omega (arith, a.2.parent)
    by_row (inr made) = made.parent

-- ---- hits

-- A hit was there before, or is of event e.
pub own_hit_follows : (e now : ℕ) (old new : List Scope) → RowsFollow e now old new → (s : ℕ)
    (hit : Hit) → own_hit new s ≡ Some hit → (own_hit old s ≡ Some hit) ⊎ IsOf e now hit
own_hit_follows e now old new follows s hit has =
    option_and_then_some (λ row. row.hit) (slice_get new s) hit has
    (λ row found own. by_row row own (follows.from s row found))
  where
    by_row : (row : Scope) → row.hit ≡ Some hit
        → ((a : Scope) × (slice_get old s ≡ Some a) × RowFollows e now a row) ⊎ IsNewRow e now s row
        → (own_hit old s ≡ Some hit) ⊎ IsOf e now hit
    by_row row own (inl a) =
        elim (a.2.hit.comes hit own)
        [ inl had ↦ inl (ap (option_and_then (λ x. x.hit)) a.1 ∙ had) | inr of ↦ inr of ]
    by_row row own (inr made) =
        elim (made.hit.comes hit own)
        [ inl had ↦ absurd (none-some hit had) | inr of ↦ inr of ]

pub past_follows : (e n : ℕ) (old new : TreeState) → n < e → TreeFollows e old new → ArePast old n
    → ArePast new e
past_follows e n old new less follows past = record {
  events = λ s hit has. elim (came s hit has)
      [ inl had ↦ omega (arith, less, past.events s hit had) | inr of ↦ omega (arith, of.event) ];
  moments = λ s hit has. elim (came s hit has)
      [ inl had ↦ omega (arith, follows.clock, past.moments s hit had) | inr of ↦ of.moment ];
}
  where
    came : (s : ℕ) (hit : Hit) → own_hit new.scopes s ≡ Some hit
        → (own_hit old.scopes s ≡ Some hit) ⊎ IsOf e new.clock hit
    came = own_hit_follows e new.clock old.scopes new.scopes follows.rows

-- ---- states

pub well_formed_step : (p : State) (event : Event) → IsWellFormed p → allowed p event ≡ true
    → IsWellFormed (step p event)
well_formed_step p event good may =
    let e : ℕ = p.count + 1 in
    let new : TreeState = (step p event).tree in
    let follows = event_follows e p event may in
    record {
      ordered = ordered_follow e new.clock p.tree.scopes new.scopes follows.rows good.ordered;
      past = past_follows e p.count p.tree new (omega arith) follows good.past;
    }

pub well_formed_after : (p q : State) (event : Event) → IsWellFormed p → after p event ≡ Some q
    → IsWellFormed q
well_formed_after p q event good came =
    subst IsWellFormed (after_step p q event came)
    (well_formed_step p event good (after_allowed p q event came))

pub well_formed_run : (p q : State) (events : List Event) → IsWellFormed p
    → run p events ≡ Some q → IsWellFormed q
well_formed_run = run_keeps IsWellFormed well_formed_after

-- ---- root alone, and consistent states

pub well_formed_consistent : (p : State) → IsConsistent p → IsWellFormed p
well_formed_consistent p consistent =
    record { ordered = consistent.numbered.ordered; past = consistent.hits.past }

root_ordered : AreOrdered (root ∷ [])
root_ordered zero row found below_root =
    absurd (true≢false (ap (λ r. is_root r.kind) (same_Some root row found) ∙ below_root))
root_ordered (suc s) row found below_root = absurd (none-some row found)

pub root_not_hit : (s : ℕ) (hit : Hit) → own_hit (root ∷ []) s ≡ Some hit → ⊥
root_not_hit zero hit has = none-some hit has
root_not_hit (suc s) hit has = none-some hit has

pub well_formed_root : (layout : Layout) → IsWellFormed (formatted layout)
well_formed_root layout = record {
  ordered = root_ordered;
  past = record {
    events = λ s hit has. absurd (root_not_hit s hit has);
    moments = λ s hit has. absurd (root_not_hit s hit has);
  };
}
