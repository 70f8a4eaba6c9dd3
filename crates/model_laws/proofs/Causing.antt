-- The kinds of scope that a command can cancel, and those that take a cause.
use Rattle.run_model.proofs.Common.{◌≡◌, ℕ, true, false, List, Option, Some, None, slice_get, inl}
use Rattle.run_model.proofs.Common.{inr, refl, ap, option_map, option_map_or, not-false, State}
use Rattle.run_model.proofs.Common.{allowed, is_cancellable, refusals, takes_cause, each_fails}
use Rattle.std.proofs.Common.{IsSomeAnd}
use Rattle.run_model.specs.declared.scopes.Kind.{Kind}
use Rattle.run_model.specs.declared.scopes.Kind.TheVariants as kind
use Rattle.run_model.specs.declared.scopes.Scope.{Scope}
use Rattle.run_model.specs.Event as event
use Rattle.model_laws.specs.Decided.{scope_kind, IsCancelledByCommand}

only_cause : (k : Kind) → takes_cause k ≡ true → k ≡ kind.Cause
only_cause kind.Root e = cc
only_cause kind.Cancel e = cc
only_cause kind.Cause e = refl
only_cause (kind.Deadline moment cause) e = cc
only_cause (kind.Value key text) e = cc
only_cause kind.Detached e = cc
only_cause kind.Group e = cc

only_three : (k : Kind) → is_cancellable k ≡ true → IsCancelledByCommand k
only_three kind.Root e = cc
only_three kind.Cancel e = inl refl
only_three kind.Cause e = inr (inl refl)
only_three (kind.Deadline moment cause) e = inr (inr refl)
only_three (kind.Value key text) e = cc
only_three kind.Detached e = cc
only_three kind.Group e = cc

cause_row : (o : Option Scope) → option_map_or (λ row. takes_cause row.kind) o false ≡ true
    → option_map (λ row. row.kind) o ≡ Some kind.Cause
cause_row None e = cc
cause_row (Some row) e = ap (λ (k : Kind). Some k) (only_cause row.kind e)

cancelled_row : (o : Option Scope) → option_map_or (λ row. is_cancellable row.kind) o false ≡ true
    → IsSomeAnd (option_map (λ row. row.kind) o) IsCancelledByCommand
cancelled_row None e = cc
cancelled_row (Some row) e = only_three row.kind e

pub cause_scope : (p : State) (s : ℕ) (text : List ℕ)
    → allowed p (event.Cancel s (Some text)) ≡ true → scope_kind p s ≡ Some kind.Cause
cause_scope p s text may =
    let parts = each_fails (refusals p (event.Cancel s (Some text))) may in
    cause_row (slice_get p.tree.scopes s) (not-false _ parts.1.1.0)

pub cancelled_scope : (p : State) (s : ℕ) (cause : Option (List ℕ))
    → allowed p (event.Cancel s cause) ≡ true → IsSomeAnd (scope_kind p s) IsCancelledByCommand
cancelled_scope p s cause may =
    let parts = each_fails (refusals p (event.Cancel s cause)) may in
    cancelled_row (slice_get p.tree.scopes s) (not-false _ parts.1.0)
