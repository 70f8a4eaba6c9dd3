-- What is counted of the commands that a need names, and what the need can expect of them.
use Rattle.std.specs.Prelude.{◌≡◌, ◌<◌, ◌&&◌, ◌||◌, not, ℕ, Bool, true, false, cond, List}
use Rattle.std.specs.Prelude.{Some, length, slice_get}
use Rattle.std.specs.Option.{option_map_or}
use Rattle.night_plan.specs.declared.commands.Command.{Command}
use Rattle.night_plan.specs.declared.commands.Subject.{Subject}
use Rattle.night_plan.specs.declared.commands.Subject.TheVariants as subject
use Rattle.night_plan.specs.declared.commands.When.{When}
use Rattle.night_plan.specs.declared.commands.When.TheVariants as when
use Rattle.night_plan.specs.declared.facts.Known.{Known}
use Rattle.night_plan.specs.declared.standings.Hope.{Hope}
use Rattle.night_plan.specs.declared.standings.Hope.TheVariants as hope
use Rattle.night_plan.specs.declared.standings.Standing.{Standing}
use Rattle.night_plan.specs.declared.standings.Standing.TheVariants as standing
use Rattle.night_plan.specs.declared.standings.Summary.{Summary}
use Rattle.night_plan.specs.Plans.{is_of}
use Rattle.night_plan.specs.Nights.{Night, is_spent, is_canceled, is_cleanup, HasStopped}
use Rattle.night_plan.specs.Nights.{HasFailed, IsNever, IsFinal}
use Rattle.night_plan.specs.Standings.{Stands}

-- ---- tallies

abbrev pub no_summary : Summary
no_summary = record { pending = false; never = false; failed = false }

-- The tally of a command that stands so.
abbrev pub summary_of : Standing → Summary
summary_of standing.EndedOk = no_summary
summary_of standing.Failed = record { pending = false; never = true; failed = true }
summary_of standing.Canceled = record { pending = false; never = true; failed = false }
summary_of standing.GivenUp = record { pending = false; never = true; failed = false }
summary_of _ = record { pending = true; never = false; failed = false }

abbrev pub with_both : Summary → Summary → Summary
with_both t u = record {
  pending = t.pending || u.pending;
  never = t.never || u.never;
  failed = t.failed || u.failed;
}

-- A flag shows whether one of some commands is as P says; if none is, each is as Q says.
abbrev pub Finds : Bool → (ℕ → Type 0) → (ℕ → Type 0) → (ℕ → Type 0) → Type 0
Finds true Of P Q = (d : ℕ) × Of d × P d
Finds false Of P Q = (d : ℕ) → Of d → Q d

-- The tally of some commands.
pub record IsSummaryOf (n : Night) (Of : ℕ → Type 0) (t : Summary) : Type 0 where
  pub pending : Finds t.pending Of (λ d. IsFinal n d → ⊥) (IsFinal n)
  pub never : Finds t.never Of (IsNever n) (λ d. IsNever n d → ⊥)
  pub failed : Finds t.failed Of (HasFailed n) (λ d. HasFailed n d → ⊥)

-- ---- hopes

-- What a need can expect, by the tally of the commands that it names.
abbrev pub hope_of : When → Summary → Hope
hope_of when.Well t = cond t.never hope.Vain (cond t.pending hope.Open hope.Met)
hope_of when.Failed t = cond t.failed hope.Met (cond t.pending hope.Open hope.Vain)
hope_of when.Ended t = cond t.pending hope.Open hope.Met

abbrev pub has_hope : Hope → Hope → Bool
has_hope hope.Met hope.Met = true
has_hope hope.Open hope.Open = true
has_hope hope.Vain hope.Vain = true
has_hope _ _ = false

-- A subject is one of these commands, or one of these groups.
abbrev pub AreWithin : ℕ → ℕ → Subject → Type 0
AreWithin commands groups (subject.Command d) = d < commands
AreWithin commands groups (subject.Group g) = g < groups

-- The tally of what a subject names, by the standings of commands and the tallies of groups.
abbrev pub summary_for : List Standing → List Summary → Subject → Summary
summary_for all tallies (subject.Command d) = option_map_or summary_of (slice_get all d) no_summary
summary_for all tallies (subject.Group g) = option_map_or (λ t. t) (slice_get tallies g) no_summary

-- ---- the pass

-- A command that is idle is lost, by whether its group has stopped.
abbrev pub is_lost_by : List Bool → Command → Known → Bool → Bool
is_lost_by done command fact stopped =
    is_spent done command fact
    || (is_canceled done command fact || (stopped && not (is_cleanup command)))

abbrev pub lost_stands : Bool → Bool → Standing
lost_stands failed canceled =
    cond failed standing.Failed (cond canceled standing.Canceled standing.GivenUp)

-- Exactly the groups are marked that have stopped by a command below number i.
pub record AreStopped (n : Night) (i : ℕ) (stopped : List Bool) : Type 0 where
  pub sized : length stopped ≡ length n.groups
  pub right : (g : ℕ) → slice_get stopped g ≡ Some true → HasStopped n g
  pub all : (g : ℕ) (stop : HasStopped n g) → stop.by < i → slice_get stopped g ≡ Some true

-- Command d is of group g, and stands in the order before place p.
pub record IsPlaced (n : Night) (order : List ℕ) (g p d : ℕ) : Type 0 where
  pub place : ℕ
  pub below : place < p
  pub at : slice_get order place ≡ Some d
  pub of : is_of n.commands g d ≡ true

-- The commands before place p of the order stand so, and these are the tallies of each group's.
pub record AreStanding (n : Night) (now : ℕ) (order : List ℕ) (p : ℕ) (all : List Standing)
    (tallies : List Summary) : Type 0 where
  pub sized : length all ≡ length n.commands
  pub grouped : length tallies ≡ length n.groups
  pub stood : (q c : ℕ) → q < p → slice_get order q ≡ Some c
      → (s : Standing) × (slice_get all c ≡ Some s) × Stands n now c s
  pub counted : (g : ℕ) → g < length n.groups
      → (t : Summary) × (slice_get tallies g ≡ Some t) × IsSummaryOf n (IsPlaced n order g p) t
