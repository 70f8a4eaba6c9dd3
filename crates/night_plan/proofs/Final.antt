-- What never begins again, and that a standing is final or not.
use Rattle.std.proofs.Common.{◌≡◌, ◌⊎◌, ◌∙◌, ◌&&◌, inl, inr, not, ℕ, true, false, refl}
use Rattle.std.proofs.Common.{sym}
use Rattle.std.proofs.Common.{subst}
use Rattle.std.proofs.lemmas.Bool.{and_parts, both_ways, false≢true, not-true}
use Rattle.night_plan.specs.declared.commands.Need.{Need}
use Rattle.night_plan.specs.declared.commands.When.{When}
use Rattle.night_plan.specs.declared.commands.When.TheVariants as when
use Rattle.night_plan.specs.declared.facts.Phase.{Phase}
use Rattle.night_plan.specs.declared.facts.Phase.TheVariants as phase
use Rattle.night_plan.specs.declared.standings.Standing.{Standing}
use Rattle.night_plan.specs.declared.standings.Standing.TheVariants as standing
use Rattle.night_plan.specs.Plans.{HasNeed}
use Rattle.night_plan.specs.Nights.{Night, is_busy, is_ok, has_ended_ok, runs, is_idle, Names}
use Rattle.night_plan.specs.Nights.{IsLost, HasFailed, IsNever, Lost, NotWell, NotFailed, IsFinal}
use Rattle.night_plan.specs.Nights.{IsMetBy, MayBegin}
use Rattle.night_plan.specs.Standings.{WasCanceled, Stands, is_final}
use Rattle.night_plan.proofs.Rows.{at_is, at_there}

pub idle_parts : (n : Night) (c : ℕ) → is_idle n c ≡ true
    → (runs n c ≡ false) × (has_ended_ok n c ≡ false)
idle_parts n c idle =
    let it = at_there n c (λ x f. not (is_busy f.phase) && not (is_ok f.phase)) idle in
    let parts = and_parts (not (is_busy it.1.phase)) (not (is_ok it.1.phase)) it.4 in (
      at_is n c it.0 it.1 it.2 it.3 (λ x f. is_busy f.phase) ∙ not-true _ parts.0,
      at_is n c it.0 it.1 it.2 it.3 (λ x f. is_ok f.phase) ∙ not-true _ parts.1,
    )

busy_not_ok : (p : Phase) → is_busy p ≡ true → is_ok p ≡ true → ⊥
busy_not_ok phase.Fresh busy ok = false≢true busy
busy_not_ok phase.Busy busy ok = false≢true ok
busy_not_ok phase.EndedOk busy ok = false≢true busy
busy_not_ok (phase.Failed last) busy ok = false≢true busy
busy_not_ok phase.Interrupted busy ok = false≢true busy
busy_not_ok phase.Canceled busy ok = false≢true busy

pub runs_not_ok : (n : Night) (c : ℕ) → runs n c ≡ true → has_ended_ok n c ≡ true → ⊥
runs_not_ok n c run ok =
    let it = at_there n c (λ x f. is_busy f.phase) run in
    busy_not_ok it.1.phase it.4
    (sym (at_is n c it.0 it.1 it.2 it.3 (λ x f. is_ok f.phase)) ∙ ok)

pub never_idle : (n : Night) (c : ℕ) → IsNever n c → is_idle n c ≡ true
never_idle n _ (Lost c lost) = lost.idle
never_idle n _ (NotWell c d need idle has well named never) = idle
never_idle n _ (NotFailed c need idle has fails ended none) = idle

pub never_not_ok : (n : Night) (c : ℕ) → IsNever n c → has_ended_ok n c ≡ true → ⊥
never_not_ok n c never ok =
    both_ways (has_ended_ok n c) (idle_parts n c (never_idle n c never)).1 ok

-- A need of command c is in vain.
abbrev pub IsVainBy : Night → ℕ → Need → When → Type 0
IsVainBy n c need when.Well = (d : ℕ) × Names n c need d × IsNever n d
IsVainBy n c need when.Failed =
    ((d : ℕ) → Names n c need d → has_ended_ok n d ≡ false → IsNever n d)
    × ((d : ℕ) → Names n c need d → HasFailed n d → ⊥)
IsVainBy n c need when.Ended = ⊥

pub never_from : (n : Night) (c : ℕ) (need : Need) → is_idle n c ≡ true
    → HasNeed n.commands c need → IsVainBy n c need need.when → IsNever n c
never_from n c need idle has = go need.when refl
  where
    go : (w : When) → need.when ≡ w → IsVainBy n c need w → IsNever n c
    go when.Well is vain = NotWell c vain.0 need idle has is vain.1 vain.2
    go when.Failed is vain = NotFailed c need idle has is vain.0 vain.1
    go when.Ended is vain = absurd vain

pub never_why : (n : Night) (c : ℕ) → IsNever n c
    → IsLost n c ⊎ ((need : Need) × HasNeed n.commands c need × IsVainBy n c need need.when)
never_why n _ (Lost c lost) = inl lost
never_why n _ (NotWell c d need idle has well named never) =
    inr (need, has, subst (IsVainBy n c need) (sym well) (d, named, never))
never_why n _ (NotFailed c need idle has fails ended none) =
    inr (need, has, subst (IsVainBy n c need) (sym fails) (ended, none))

pub met_not_vain : (n : Night) (c : ℕ) (need : Need) (w : When) → IsMetBy n c need w
    → IsVainBy n c need w → ⊥
met_not_vain n c need when.Well met vain =
    never_not_ok n vain.0 vain.2 (met vain.0 vain.1)
met_not_vain n c need when.Failed met vain = vain.1 met.0 met.1 met.2
met_not_vain n c need when.Ended met vain = vain

pub may_not_never : (n : Night) (c : ℕ) → MayBegin n c → IsNever n c → ⊥
may_not_never n c may never = elim (never_why n c never) [
  | inl lost ↦ may.free lost
  | inr vain ↦ met_not_vain n c vain.0 vain.0.when (may.met vain.0 vain.1) vain.2
]

pub may_not_final : (n : Night) (c : ℕ) → MayBegin n c → IsFinal n c → ⊥
may_not_final n c may (inl ok) = both_ways (has_ended_ok n c) (idle_parts n c may.idle).1 ok
may_not_final n c may (inr never) = may_not_never n c may never

pub canceled_lost : (n : Night) (c : ℕ) → WasCanceled n c → IsLost n c
canceled_lost n c was = record { idle = was.idle; why = inr (inl was.canceled) }

pub final_standings : (n : Night) (now c : ℕ) (s : Standing) → Stands n now c s
    → (is_final s ≡ true → IsFinal n c) × (IsFinal n c → is_final s ≡ true)
final_standings n now c standing.EndedOk stands = (λ yes. inl stands, λ final. refl)
final_standings n now c standing.Failed stands = (λ yes. inr (Lost c stands.1), λ final. refl)
final_standings n now c standing.Canceled stands =
    (λ yes. inr (Lost c (canceled_lost n c stands)), λ final. refl)
final_standings n now c standing.GivenUp stands = (λ yes. inr stands.never, λ final. refl)
final_standings n now c standing.Busy stands = (λ never. absurd (false≢true never), not_final)
  where
    not_final : IsFinal n c → is_final standing.Busy ≡ true
    not_final (inl ok) = absurd (runs_not_ok n c stands ok)
    not_final (inr never) =
        absurd (both_ways (runs n c) (idle_parts n c (never_idle n c never)).0 stands)
final_standings n now c (standing.Waiting moment) stands =
    (λ never. absurd (false≢true never), λ final. absurd (may_not_final n c stands.may final))
final_standings n now c standing.Ready stands =
    (λ never. absurd (false≢true never), λ final. absurd (may_not_final n c stands.may final))
final_standings n now c standing.Pending stands = (λ never. absurd (false≢true never), not_final)
  where
    not_final : IsFinal n c → is_final standing.Pending ≡ true
    not_final (inl ok) = absurd (both_ways (has_ended_ok n c) (idle_parts n c stands.idle).1 ok)
    not_final (inr never) = absurd (stands.hope never)

pub final_from : (n : Night) (now c : ℕ) (s : Standing) → Stands n now c s → is_final s ≡ true
    → IsFinal n c
final_from n now c s stands = (final_standings n now c s stands).0

pub not_final_from : (n : Night) (now c : ℕ) (s : Standing) → Stands n now c s
    → is_final s ≡ false → IsFinal n c → ⊥
not_final_from n now c s stands open_yet final =
    both_ways (is_final s) open_yet ((final_standings n now c s stands).1 final)
