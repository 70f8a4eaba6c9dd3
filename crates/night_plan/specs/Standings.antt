-- How the commands of a night stand, and that a night goes on until all are final.
use Rattle.std.specs.Prelude.{◌≡◌, ℕ, Bool, true, false}
use Rattle.night_plan.specs.declared.standings.Standing.{Standing}
use Rattle.night_plan.specs.declared.standings.Standing.TheVariants as standing
use Rattle.night_plan.specs.declared.commands.Need.{Need}
use Rattle.night_plan.specs.Plans.{HasNeed}
use Rattle.night_plan.specs.Nights.{Night, has_ended_ok, runs, is_idle, failed_last, was_canceled}
use Rattle.night_plan.specs.Nights.{HasFailed, IsNever, IsFinal, Names, IsMet, IsReady}
use Rattle.night_plan.specs.Nights.{IsWaiting}

-- Command c was canceled before it ended, and its last try didn't fail.
pub record WasCanceled (n : Night) (c : ℕ) : Type 0 where
  pub idle : is_idle n c ≡ true
  pub no_failure : failed_last n c ≡ false
  pub canceled : was_canceled n c ≡ true

-- Command c never begins again, and neither failed nor was canceled.
pub record IsGivenUp (n : Night) (c : ℕ) : Type 0 where
  pub never : IsNever n c
  pub no_failure : HasFailed n c → ⊥
  pub no_cancel : WasCanceled n c → ⊥

-- Command c can still begin, but a need of it is not met, and names a command that is not final.
pub record IsPending (n : Night) (c : ℕ) : Type 0 where
  pub idle : is_idle n c ≡ true
  pub hope : IsNever n c → ⊥
  pub need : Need
  pub has : HasNeed n.commands c need
  pub unmet : IsMet n c need → ⊥
  pub on : ℕ
  pub named : Names n c need on
  pub open_yet : IsFinal n on → ⊥

-- The command stands so.
abbrev pub Stands : Night → ℕ → ℕ → Standing → Type 0
Stands n now c standing.EndedOk = has_ended_ok n c ≡ true
Stands n now c standing.Failed = HasFailed n c
Stands n now c standing.Canceled = WasCanceled n c
Stands n now c standing.GivenUp = IsGivenUp n c
Stands n now c standing.Busy = runs n c ≡ true
Stands n now c (standing.Waiting moment) = IsWaiting n now c moment
Stands n now c standing.Ready = IsReady n now c
Stands n now c standing.Pending = IsPending n c

-- The four standings of which nothing changes any more.
abbrev pub is_final : Standing → Bool
is_final standing.EndedOk = true
is_final standing.Failed = true
is_final standing.Canceled = true
is_final standing.GivenUp = true
is_final _ = false

-- A command is final exactly in the four final standings.
abbrev pub FinalStandings : Type 0
FinalStandings =
    (n : Night) (now c : ℕ) (s : Standing) → Stands n now c s
    → (is_final s ≡ true → IsFinal n c) × (IsFinal n c → is_final s ≡ true)
