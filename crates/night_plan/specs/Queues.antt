-- The ready commands in order, and what is left of the pools.
use Rattle.std.specs.Prelude.{◌≡◌, ◌<◌, ◌≤◌, ◌+◌, ◌-◌, ◌*◌, ◌⊎◌, ◌==◌, ℕ, true, cond, List, Option}
use Rattle.std.specs.Prelude.{Some, None, All, Contains, length, slice_get, slice_index}
use Rattle.std.specs.Prelude.{slice_index_or, sum_by}
use Rattle.std.specs.Prelude.{min}
use Rattle.std.specs.Option.{option_map_or}
use Rattle.night_plan.specs.declared.choices.Candidate.{Candidate}
use Rattle.night_plan.specs.declared.standings.Standing.{Standing}
use Rattle.night_plan.specs.declared.standings.Standing.TheVariants as standing
use Rattle.night_plan.specs.Nights.{Night}
use Rattle.night_plan.specs.Choices.{IsFull, before, comes_before, in_use, taken, AreInOrder}
use Rattle.night_plan.specs.Choices.{group_priority, own_priority}

-- Of the pools this is left, after the busy commands and some others.
abbrev pub IsLeft : Night → List ℕ → List ℕ → List ℕ → Type 0
IsLeft n sizes chosen left =
    (p : ℕ) → slice_index left p ≡ slice_index sizes p - in_use n p - taken n p chosen

-- A command's key is lower if its group's priority is higher, or at the same its own.
pub record IsCandidate (n : Night) (all : List Standing) (it : Candidate) : Type 0 where
  pub ready : slice_get all it.command ≡ Some standing.Ready
  pub group : group_priority n it.command < 65536
  pub own : own_priority n it.command < 65536
  pub key : it.key + group_priority n it.command * 65536 + own_priority n it.command ≡ 4294967295

-- How often a command is among candidates.
abbrev pub times : ℕ → List Candidate → ℕ
times c queue = sum_by (λ it. cond (it.command == c) 1 0) queue

-- The candidates of the commands below number i: each ready one once, by number.
pub record AreCandidates (n : Night) (all : List Standing) (i : ℕ) (queue : List Candidate)
    : Type 0 where
  pub each : All (IsCandidate n all) queue
  pub every : (c : ℕ) → c < i → slice_get all c ≡ Some standing.Ready
      → (it : Candidate) × Contains queue it × (it.command ≡ c)
  pub below : All (λ it. it.command < i) queue
  pub once : (c : ℕ) → times c queue ≤ 1
  pub rise : (k : ℕ) (d : Candidate) → k + 1 < length queue
      → (slice_index_or queue k d).command ≤ (slice_index_or queue (k + 1) d).command

-- The ready commands, in order.
pub record IsQueue (n : Night) (all : List Standing) (queue : List ℕ) : Type 0 where
  pub ready : All (λ c. slice_get all c ≡ Some standing.Ready) queue
  pub every : (c : ℕ) → slice_get all c ≡ Some standing.Ready → Contains queue c
  pub order : AreInOrder n queue

-- The least moment of the commands below number i that wait, if one does.
pub record IsSoonest (all : List Standing) (i moment : ℕ) : Type 0 where
  pub command : ℕ
  pub below : command < i
  pub waits : slice_get all command ≡ Some (standing.Waiting moment)
  pub least : (c other : ℕ) → c < i → slice_get all c ≡ Some (standing.Waiting other)
      → moment ≤ other

abbrev pub IsSoonestOf : List Standing → ℕ → Option ℕ → Type 0
IsSoonestOf all i None =
    (c moment : ℕ) → c < i → slice_get all c ≡ Some (standing.Waiting moment) → ⊥
IsSoonestOf all i (Some moment) = IsSoonest all i moment

-- The sooner of two moments: one, if there is one, and that of a command that waits.
abbrev pub with_wait : Option ℕ → Standing → Option ℕ
with_wait later (standing.Waiting moment) =
    Some (option_map_or (λ other. min other moment) later moment)
with_wait later _ = later

-- What was chosen of a queue's commands before place i, and what is left of the pools.
pub record IsUnderway (n : Night) (sizes queue : List ℕ) (i : ℕ) (chosen left : List ℕ)
    : Type 0 where
  pub from : All (Contains queue) chosen
  pub order : AreInOrder n chosen
  pub ahead : (k j : ℕ) → k < length chosen → i ≤ j → j < length queue
      → comes_before n (slice_index chosen k) (slice_index queue j) ≡ true
  pub within : (p : ℕ) → taken n p chosen ≤ slice_index sizes p - in_use n p
  pub first : (j : ℕ) → j < i → Contains chosen (slice_index queue j)
      ⊎ IsFull n sizes (slice_index queue j) (before n (slice_index queue j) chosen)
  pub rest : IsLeft n sizes chosen left
