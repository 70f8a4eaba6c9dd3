-- Which commands that run are to be stopped.
use Rattle.std.specs.Prelude.{◌≡◌, ◌<◌, ◌⊎◌, ◌&&◌, ◌||◌, not, ℕ, Bool, true, false, List, All}
use Rattle.std.specs.Prelude.{Contains, Some, slice_get}
use Rattle.std.specs.List.Sorted.{IsStrictlyIncreasing}
use Rattle.night_plan.specs.declared.commands.Command.{Command}
use Rattle.night_plan.specs.declared.facts.Known.{Known}
use Rattle.night_plan.specs.Plans.{is_of}
use Rattle.night_plan.specs.Nights.{Night, is_busy, is_canceled, is_cleanup, runs, was_canceled}
use Rattle.night_plan.specs.Nights.{cleans_up, group_is, cancels, HasStopped}

-- A failure has canceled the group of command c, which is no cleanup.
pub record IsCutOff (n : Night) (c : ℕ) : Type 0 where
  pub group : ℕ
  pub of : is_of n.commands group c ≡ true
  pub stopped : HasStopped n group
  pub cancels : group_is n group (λ row. cancels row.way) ≡ true
  pub plain : cleans_up n c ≡ false

-- Command c runs, and is canceled or its group was canceled by a failure.
pub record MustStop (n : Night) (c : ℕ) : Type 0 where
  pub runs : runs n c ≡ true
  pub why : (was_canceled n c ≡ true) ⊎ IsCutOff n c

-- The same of one command, by whether a failure has canceled its group.
abbrev pub must_stop : List Bool → Command → Known → Bool → Bool
must_stop done command fact cut =
    is_busy fact.phase && (is_canceled done command fact || (cut && not (is_cleanup command)))

-- These are all commands below number i that are to be stopped, by number.
pub record AreToStop (n : Night) (i : ℕ) (all : List ℕ) : Type 0 where
  pub right : All (MustStop n) all
  pub every : (c : ℕ) → c < i → MustStop n c → Contains all c
  pub below : All (λ c. c < i) all
  pub order : IsStrictlyIncreasing all

-- A cleanup that runs has to stop only if it is canceled itself.
abbrev pub CleanupsRunOn : Type 0
CleanupsRunOn =
    (n : Night) (c : ℕ) (fact : Known) → slice_get n.known c ≡ Some fact → cleans_up n c ≡ true
    → MustStop n c → fact.canceled ≡ true
