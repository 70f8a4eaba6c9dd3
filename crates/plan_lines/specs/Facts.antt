-- What a line says of a command, a group or a pool, among the facts.
use Rattle.std.specs.Prelude.{◌≡◌, ◌<◌, ◌≤◌, ℕ, Bool, true, false, List, Some, length}
use Rattle.std.specs.Prelude.{slice_get, slice_set}
use Rattle.night_plan.specs.declared.facts.Known.{Known}
use Rattle.night_plan.specs.declared.facts.Facts.{Facts}
use Rattle.night_plan.specs.declared.facts.Phase.{Phase}
use Rattle.night_plan.specs.declared.facts.Phase.TheVariants as phase
use Rattle.plan_lines.specs.declared.lines.PlanLine.{PlanLine}
use Rattle.plan_lines.specs.declared.lines.PlanLine.TheVariants as line

-- What is known of one command changes, if there is a row for it.
abbrev pub ChangesAt : Bool → ℕ → (Known → Known) → List Known → List Known → Type 0
ChangesAt true c f old new =
    (k : Known) × (slice_get old c ≡ Some k) × (new ≡ slice_set old c (f k))
ChangesAt false c f old new = (length old ≤ c) × (new ≡ old)

-- One value is set, if there is a row for it.
abbrev pub SetsAt : {A : Type 0} → Bool → ℕ → A → List A → List A → Type 0
SetsAt true i v old new = (i < length old) × (new ≡ slice_set old i v)
SetsAt false i v old new = (length old ≤ i) × (new ≡ old)

-- A cancel, a phase and a failure, of a command.
abbrev pub with_cancel : Known → Known
with_cancel k = record k { canceled = true }

abbrev pub with_phase : Phase → Known → Known
with_phase p k = record k { phase = p }

abbrev pub with_failure : (moment failures : ℕ) → Known → Known
with_failure moment failures k = record k { phase = phase.Failed moment; failures = failures }

-- A line was noted among the facts, and nothing else has changed; or it says nothing of what is
-- there, and nothing has changed.
abbrev pub Notes : Bool → PlanLine → Facts → Facts → Type 0
Notes ok (line.Size p s) old new =
    SetsAt ok p s old.sizes.items new.sizes.items × (new.known ≡ old.known) × (new.done ≡ old.done)
Notes ok (line.Done g) old new =
    SetsAt ok g true old.done.items new.done.items × (new.known ≡ old.known)
    × (new.sizes ≡ old.sizes)
Notes ok (line.Cancel c) old new =
    ChangesAt ok c with_cancel old.known.items new.known.items × (new.done ≡ old.done)
    × (new.sizes ≡ old.sizes)
Notes ok (line.Stands c p) old new =
    ChangesAt ok c (with_phase p) old.known.items new.known.items × (new.done ≡ old.done)
    × (new.sizes ≡ old.sizes)
Notes ok (line.Failed c moment failures) old new =
    ChangesAt ok c (with_failure moment failures) old.known.items new.known.items
    × (new.done ≡ old.done) × (new.sizes ≡ old.sizes)
Notes ok _ old new = (ok ≡ false) × (new ≡ old)
