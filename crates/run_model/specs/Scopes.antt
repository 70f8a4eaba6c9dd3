-- The facts of a scope in the rows: whether it is done and why, its deadline, its values.
use Rattle.std.specs.Prelude.{◌≡◌, ◌<◌, ℕ, zero, suc, Bool, true, false, if◌then◌else◌, List, []}
use Rattle.std.specs.Prelude.{◌∷◌, Option, Some, None, slice_get, is_some, min}
use Rattle.std.specs.List.{filter_map}
use Rattle.std.specs.Option.{option_map, option_and_then}
use Rattle.std.specs.Ordering.{nat_cmp, ordering_then, is_lt}
use Rattle.std.specs.Str.{bytes_eq}
use Rattle.run_model.specs.declared.scopes.Kind.{Kind}
use Rattle.run_model.specs.declared.scopes.Kind.TheVariants as kind
use Rattle.run_model.specs.declared.scopes.Hit.{Hit}
use Rattle.run_model.specs.declared.scopes.Reason.{Reason}
use Rattle.run_model.specs.declared.scopes.Scope.{Scope}

-- The kind of root. No other scope has it.
abbrev pub is_root : Kind → Bool
is_root kind.Root = true
is_root _ = false

-- The kind of a group's own scope.
abbrev pub is_group_kind : Kind → Bool
is_group_kind kind.Group = true
is_group_kind _ = false

-- The kind of a scope that isn't done when its parent is.
abbrev pub is_detached : Kind → Bool
is_detached kind.Detached = true
is_detached _ = false

-- ---- the scopes above a scope

-- A list of rows with their numbers: this row, and then those above it. Nothing is above root.
abbrev pub upwards : (ℕ → List (ℕ × Scope)) → ℕ → Option Scope → List (ℕ × Scope)
upwards above s None = []
upwards above s (Some row) = (s, row) ∷ (if is_root row.kind then [] else above row.parent)

-- The row of a scope and those above it, but at most this many rows.
abbrev pub line_within : ℕ → List Scope → ℕ → List (ℕ × Scope)
line_within zero rows s = []
line_within (suc most) rows s = upwards (line_within most rows) s (slice_get rows s)

-- The line of a scope is its row, followed by those above it, up to root. Each parent has a lower
-- number than its child, so there can't be more rows above a scope than its number says.
abbrev pub line : List Scope → ℕ → List (ℕ × Scope)
line rows s = line_within (suc s) rows s

-- The rows before the first detached one.
abbrev pub before_detached : List (ℕ × Scope) → List (ℕ × Scope)
before_detached [] = []
before_detached (r ∷ rs) = if is_detached r.1.kind then [] else r ∷ before_detached rs

-- The chain of a scope is its line up to the first detached scope, which isn't included.
abbrev pub chain : List Scope → ℕ → List (ℕ × Scope)
chain rows s = before_detached (line rows s)

-- ---- done, reason and cause

-- The first cancellation of a scope itself.
abbrev pub own_hit : List Scope → ℕ → Option Hit
own_hit rows s = option_and_then (λ row. row.hit) (slice_get rows s)

-- The hit of a row, with the number of the row.
abbrev pub hit_at : ℕ × Scope → Option (ℕ × Hit)
hit_at r = option_map (λ hit. (r.0, hit)) r.1.hit

-- Hits are ordered by event, then by moment, and then by the number of the scope.
abbrev pub comes_before : ℕ × Hit → ℕ × Hit → Bool
comes_before a b =
    is_lt (ordering_then (nat_cmp a.1.event b.1.event)
    (ordering_then (nat_cmp a.1.moment b.1.moment) (nat_cmp a.0 b.0)))

-- The first of two hits, one of which may be missing.
abbrev pub first_of : Option (ℕ × Hit) → ℕ × Hit → ℕ × Hit
first_of None a = a
first_of (Some b) a = if comes_before a b then a else b

-- The first one of these hits.
abbrev pub least_hit : List (ℕ × Hit) → Option (ℕ × Hit)
least_hit [] = None
least_hit (a ∷ hits) = Some (first_of (least_hit hits) a)

-- The first hit on the chain of a scope, which is the one that made the scope done.
abbrev pub first_hit : List Scope → ℕ → Option (ℕ × Hit)
first_hit rows s = least_hit (filter_map hit_at (chain rows s))

-- The hit that made a scope done, without the number of the scope that was hit.
abbrev pub ending : List Scope → ℕ → Option Hit
ending rows s = option_map (λ a. a.1) (first_hit rows s)

-- A scope is done if a scope on its chain was hit.
abbrev pub is_done : List Scope → ℕ → Bool
is_done rows s = is_some (ending rows s)

-- The reason why a scope is done; none while it is live.
abbrev pub reason_of : List Scope → ℕ → Option Reason
reason_of rows s = option_map (λ hit. hit.reason) (ending rows s)

-- The cause of a done scope; none while it is live.
abbrev pub cause_of : List Scope → ℕ → Option (List ℕ)
cause_of rows s = option_map (λ hit. hit.cause) (ending rows s)

-- ---- deadlines and values

-- The deadline that a scope of this kind has by itself.
abbrev pub own_deadline : Kind → Option ℕ
own_deadline (kind.Deadline moment cause) = Some moment
own_deadline _ = None

-- The earlier of two moments, one of which may be missing.
abbrev pub lesser : ℕ → Option ℕ → Option ℕ
lesser a None = Some a
lesser a (Some b) = Some (min a b)

-- The earliest of these moments; none if there are none.
abbrev pub least_moment : List ℕ → Option ℕ
least_moment [] = None
least_moment (a ∷ rest) = lesser a (least_moment rest)

-- The deadline of a scope is the earliest one on its chain.
abbrev pub deadline_of : List Scope → ℕ → Option ℕ
deadline_of rows s = least_moment (filter_map (λ r. own_deadline r.1.kind) (chain rows s))

-- The text that a scope of this kind holds under a key.
abbrev pub text_under : List ℕ → Kind → Option (List ℕ)
text_under key (kind.Value k text) = if bytes_eq key k then Some text else None
text_under key _ = None

-- The value of a key at a scope is the nearest one on its line, also beyond detached scopes.
abbrev pub value_of : List Scope → ℕ → List ℕ → Option (List ℕ)
value_of rows s key = slice_get (filter_map (λ r. text_under key r.1.kind) (line rows s)) 0

-- ---- order

-- Each scope except root was derived from a scope with a lower number.
abbrev pub AreOrdered : List Scope → Type 0
AreOrdered rows =
    (s : ℕ) (row : Scope) → slice_get rows s ≡ Some row → is_root row.kind ≡ false → row.parent < s
