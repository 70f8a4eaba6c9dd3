-- What stays the same of a scope that is done.
use Rattle.std.specs.Prelude.{◌≡◌, ◌⊎◌, ◌<◌, ℕ, List, Option, Some, length}
use Rattle.run_model.specs.declared.scopes.Hit.{Hit}
use Rattle.run_model.specs.declared.scopes.Scope.{Scope}
use Rattle.run_model.specs.declared.scopes.Kind.{Kind}
use Rattle.run_model.specs.Event.{Event}
use Rattle.run_model.specs.Rows.{at_row}
use Rattle.run_model.specs.State.{State, TreeState}
use Rattle.run_model.specs.Scopes.{own_hit, ending, AreOrdered}
use Rattle.run_model.specs.TreeChanges.{with_hit, after_derive, after_cancel, after_advance}
use Rattle.run_model.specs.Allowed.{after, run}
use Rattle.run_model.specs.Rules.{IsWellFormed}

-- The event of each hit comes before event e.
abbrev pub AreEarlier : List Scope → ℕ → Type 0
AreEarlier rows e = (s : ℕ) (hit : Hit) → own_hit rows s ≡ Some hit → hit.event < e

-- Each hit has an earlier event than this hit, or is equal to it. Equal hits occur when one restart
-- ends several groups.
abbrev pub AreLevel : List Scope → Hit → Type 0
AreLevel rows hit = (s : ℕ) (h : Hit) → own_hit rows s ≡ Some h
    → (h.event < hit.event) ⊎ (h ≡ hit)

-- Each scope that was done is still done by the same hit, and so for the same reason and with the
-- same cause.
abbrev pub EndingsStay : List Scope → List Scope → Type 0
EndingsStay old new = (s : ℕ) (hit : Hit) → ending old s ≡ Some hit → ending new s ≡ Some hit

-- If each hit of a tree comes before event e, this change of the tree by event e leaves the endings
-- as they were.
abbrev pub KeepsEndings : ℕ → (TreeState → TreeState) → TreeState → Type 0
KeepsEndings e change t = AreOrdered t.scopes → AreEarlier t.scopes e
    → EndingsStay t.scopes (change t).scopes

-- A derive under an existing parent leaves the endings as they were.
abbrev pub DerivesKeepEndings : Type 0
DerivesKeepEndings = (e : ℕ) (name : List ℕ) (parent : ℕ) (kind : Kind) (t : TreeState)
    → parent < length t.scopes → KeepsEndings e (after_derive e name parent kind) t

-- A cancellation leaves the endings as they were.
abbrev pub CancelsKeepEndings : Type 0
CancelsKeepEndings = (e s : ℕ) (cause : Option (List ℕ)) (t : TreeState)
    → KeepsEndings e (after_cancel e s cause) t

-- An advance of the clock leaves the endings as they were.
abbrev pub AdvancesKeepEndings : Type 0
AdvancesKeepEndings = (e moment : ℕ) (t : TreeState) → KeepsEndings e (after_advance e moment) t

-- A hit that is equal to the earlier ones, or later, leaves the endings as they were.
abbrev pub LevelHitsKeepEndings : Type 0
LevelHitsKeepEndings = (hit : Hit) (s : ℕ) (rows : List Scope) → AreOrdered rows
    → AreLevel rows hit → EndingsStay rows (at_row (with_hit hit) s rows)

-- Each event that a well formed state allows leaves the endings as they were.
abbrev pub EndingsStayThroughEvents : Type 0
EndingsStayThroughEvents = (p q : State) (event : Event) → IsWellFormed p
    → after p event ≡ Some q → EndingsStay p.tree.scopes q.tree.scopes

-- Each run from a well formed state leaves the endings as they were.
abbrev pub EndingsStayThroughRuns : Type 0
EndingsStayThroughRuns = (p q : State) (events : List Event) → IsWellFormed p
    → run p events ≡ Some q → EndingsStay p.tree.scopes q.tree.scopes
