-- Tallies of commands, and what a need can expect by the tally of what it names.
use Rattle.std.proofs.Common.{◌≡◌, ◌<◌, ◌≤◌, ◌||◌, ◌⊎◌, ◌∙◌, inl, inr, ℕ, Bool}
use Rattle.std.proofs.Common.{true, false, List, Option, Some, length, max, nat_lt, refl, ap}
use Rattle.std.proofs.Common.{sym, subst, arith, slice_get, slice_index}
use Rattle.std.proofs.lemmas.Bool.{and_from, and_parts, cases_Bool, eq-eqb, eqb-true}
use Rattle.std.proofs.lemmas.Bool.{false≢true, lt-ltb, ltb-true, true≢false}
use Rattle.std.proofs.lemmas.Bool.{both_ways}
use Rattle.std.proofs.lemmas.Option.{slice_get_within}
use Rattle.std.specs.Option.{option_map_or}
use Rattle.night_plan.specs.declared.commands.Need.{Need}
use Rattle.night_plan.specs.declared.commands.Subject.{Subject}
use Rattle.night_plan.specs.declared.commands.Subject.TheVariants as subject
use Rattle.night_plan.specs.declared.commands.When.{When}
use Rattle.night_plan.specs.declared.commands.When.TheVariants as when
use Rattle.night_plan.specs.declared.standings.Hope.TheVariants as hope
use Rattle.night_plan.specs.declared.standings.Standing.{Standing}
use Rattle.night_plan.specs.declared.standings.Standing.TheVariants as standing
use Rattle.night_plan.specs.declared.standings.Summary.{Summary}
use Rattle.night_plan.specs.Plans.{is_of, names, horizon, HasNeed, ComesAfter, IsSound, is_within}
use Rattle.night_plan.specs.Nights.{Night, Names, has_ended_ok, HasFailed, IsNever, Lost, IsFinal}
use Rattle.night_plan.specs.Nights.{IsMetBy}
use Rattle.night_plan.specs.Standings.{Stands, is_final}
use Rattle.night_plan.specs.Hopes.{no_summary, summary_of, with_both, Finds, IsSummaryOf, hope_of}
use Rattle.night_plan.specs.Hopes.{has_hope, summary_for, IsPlaced, AreStanding}
use Rattle.night_plan.proofs.Rows.{of_there}
use Rattle.night_plan.proofs.Final.{never_not_ok, IsVainBy, final_from, not_final_from}

-- ---- tallies

finds_same : (b : Bool) (Of Or P Q : ℕ → Type 0) → ((d : ℕ) → Of d → Or d)
    → ((d : ℕ) → Or d → Of d) → Finds b Of P Q → Finds b Or P Q
finds_same true Of Or P Q there back it = (it.0, there it.0 it.1, it.2)
finds_same false Of Or P Q there back it = λ d or. it d (back d or)

finds_both : (b t : Bool) (Of Or P Q : ℕ → Type 0) → Finds b Of P Q → Finds t Or P Q
    → Finds (b || t) (λ d. Of d ⊎ Or d) P Q
finds_both true t Of Or P Q one two = (one.0, inl one.1, one.2)
finds_both false true Of Or P Q one two = (two.0, inr two.1, two.2)
finds_both false false Of Or P Q one two = either
  where
    either : (d : ℕ) → Of d ⊎ Or d → Q d
    either d (inl of) = one d of
    either d (inr or) = two d or

-- The tally of the same commands, said in another way.
pub summary_same : (n : Night) (Of Or : ℕ → Type 0) (t : Summary) → ((d : ℕ) → Of d → Or d)
    → ((d : ℕ) → Or d → Of d) → IsSummaryOf n Of t → IsSummaryOf n Or t
summary_same n Of Or t there back is = record {
  pending = finds_same t.pending Of Or (λ d. IsFinal n d → ⊥) (IsFinal n) there back is.pending;
  never = finds_same t.never Of Or (IsNever n) (λ d. IsNever n d → ⊥) there back is.never;
  failed = finds_same t.failed Of Or (HasFailed n) (λ d. HasFailed n d → ⊥) there back is.failed;
}

pub summary_both : (n : Night) (Of Or : ℕ → Type 0) (t u : Summary) → IsSummaryOf n Of t
    → IsSummaryOf n Or u → IsSummaryOf n (λ d. Of d ⊎ Or d) (with_both t u)
summary_both n Of Or t u one two = record {
  pending = finds_both t.pending u.pending Of Or (λ d. IsFinal n d → ⊥) (IsFinal n) one.pending
      two.pending;
  never = finds_both t.never u.never Of Or (IsNever n) (λ d. IsNever n d → ⊥) one.never two.never;
  failed = finds_both t.failed u.failed Of Or (HasFailed n) (λ d. HasFailed n d → ⊥) one.failed
      two.failed;
}

pub summary_none : (n : Night) (Of : ℕ → Type 0) → ((d : ℕ) → Of d → ⊥)
    → IsSummaryOf n Of no_summary
summary_none n Of none = record {
  pending = λ d of. absurd (none d of);
  never = λ d of. absurd (none d of);
  failed = λ d of. absurd (none d of);
}

pending_one : (n : Night) (now d : ℕ) (s : Standing) → Stands n now d s → is_final s ≡ false
    → IsSummaryOf n (λ e. e ≡ d) (record { pending = true; never = false; failed = false })
pending_one n now d s stands is =
    let open_yet = not_final_from n now d s stands is in
    record {
      pending = (d, refl, open_yet);
      never = λ e same never. open_yet (inr (subst (IsNever n) same never));
      failed = λ e same failed. open_yet (inr (subst (IsNever n) same (Lost e failed.1)));
    }

-- The tally of one command that stands so.
pub summary_one : (n : Night) (now d : ℕ) (s : Standing) → Stands n now d s
    → IsSummaryOf n (λ e. e ≡ d) (summary_of s)
summary_one n now d standing.EndedOk stands = record {
  pending = λ e is. subst (IsFinal n) (sym is) (inl stands);
  never = λ e is never. never_not_ok n d (subst (IsNever n) is never) stands;
  failed = λ e is failed. never_not_ok n d (subst (IsNever n) is (Lost e failed.1)) stands;
}
summary_one n now d standing.Failed stands = record {
  pending = λ e is. subst (IsFinal n) (sym is) (inr (Lost d stands.1));
  never = (d, refl, Lost d stands.1);
  failed = (d, refl, stands);
}
summary_one n now d standing.Canceled stands =
    let final = final_from n now d standing.Canceled stands refl in
    record {
      pending = λ e is. subst (IsFinal n) (sym is) final;
      never = (d, refl, Lost d (record { idle = stands.idle; why = inr (inl stands.canceled) }));
      failed = λ e is failed. true≢false
          (sym (subst (HasFailed n) is failed).0 ∙ stands.no_failure);
    }
summary_one n now d standing.GivenUp stands = record {
  pending = λ e is. subst (IsFinal n) (sym is) (inr stands.never);
  never = (d, refl, stands.never);
  failed = λ e is failed. stands.no_failure (subst (HasFailed n) is failed);
}
summary_one n now d standing.Busy stands = pending_one n now d standing.Busy stands refl
summary_one n now d (standing.Waiting moment) stands =
    pending_one n now d (standing.Waiting moment) stands refl
summary_one n now d standing.Ready stands = pending_one n now d standing.Ready stands refl
summary_one n now d standing.Pending stands = pending_one n now d standing.Pending stands refl

-- ---- hopes

module _ (n : Night) (c : ℕ) (need : Need) where
  vain_by : (w : When) (p v f : Bool)
      → Finds p (Names n c need) (λ d. IsFinal n d → ⊥) (IsFinal n)
      → Finds v (Names n c need) (IsNever n) (λ d. IsNever n d → ⊥)
      → Finds f (Names n c need) (HasFailed n) (λ d. HasFailed n d → ⊥)
      → has_hope hope.Vain (hope_of w (record { pending = p; never = v; failed = f })) ≡ true
      → IsVainBy n c need w
  vain_by when.Well p true f pending never failed is = never
  vain_by when.Well true false f pending never failed is = absurd (false≢true is)
  vain_by when.Well false false f pending never failed is = absurd (false≢true is)
  vain_by when.Failed p v true pending never failed is = absurd (false≢true is)
  vain_by when.Failed true v false pending never failed is = absurd (false≢true is)
  vain_by when.Failed false v false pending never failed is = (ended, failed)
    where
      ended : (d : ℕ) → Names n c need d → has_ended_ok n d ≡ false → IsNever n d
      ended d named not_ok = elim (pending d named) [
        | inl ok ↦ absurd (both_ways (has_ended_ok n d) not_ok ok)
        | inr it ↦ it
      ]
  vain_by when.Ended true v f pending never failed is = absurd (false≢true is)
  vain_by when.Ended false v f pending never failed is = absurd (false≢true is)

  not_vain_by : (w : When) (p v f : Bool)
      → Finds p (Names n c need) (λ d. IsFinal n d → ⊥) (IsFinal n)
      → Finds v (Names n c need) (IsNever n) (λ d. IsNever n d → ⊥)
      → Finds f (Names n c need) (HasFailed n) (λ d. HasFailed n d → ⊥)
      → has_hope hope.Vain (hope_of w (record { pending = p; never = v; failed = f })) ≡ false
      → IsVainBy n c need w → ⊥
  not_vain_by when.Well p true f pending never failed is vain = true≢false is
  not_vain_by when.Well p false f pending never failed is vain = never vain.0 vain.1 vain.2
  not_vain_by when.Failed p v true pending never failed is vain =
      vain.1 failed.0 failed.1 failed.2
  not_vain_by when.Failed true v false pending never failed is vain = pending.2 (final refl)
    where
      final : pending.0 ≡ pending.0 → IsFinal n pending.0
      final same = elim (cases_Bool (has_ended_ok n pending.0)) [
        | inl ok ↦ inl ok
        | inr not_ok ↦ inr (vain.0 pending.0 pending.1 not_ok)
      ]
  not_vain_by when.Failed false v false pending never failed is vain = true≢false is
  not_vain_by when.Ended p v f pending never failed is vain = vain

  open_by : (w : When) (p v f : Bool)
      → Finds p (Names n c need) (λ d. IsFinal n d → ⊥) (IsFinal n)
      → has_hope hope.Open (hope_of w (record { pending = p; never = v; failed = f })) ≡ true
      → (d : ℕ) × Names n c need d × (IsFinal n d → ⊥)
  open_by when.Well p true f pending is = absurd (false≢true is)
  open_by when.Well true false f pending is = pending
  open_by when.Well false false f pending is = absurd (false≢true is)
  open_by when.Failed p v true pending is = absurd (false≢true is)
  open_by when.Failed true v false pending is = pending
  open_by when.Failed false v false pending is = absurd (false≢true is)
  open_by when.Ended true v f pending is = pending
  open_by when.Ended false v f pending is = absurd (false≢true is)

  unmet_by : (w : When) (p v f : Bool)
      → Finds p (Names n c need) (λ d. IsFinal n d → ⊥) (IsFinal n)
      → Finds f (Names n c need) (HasFailed n) (λ d. HasFailed n d → ⊥)
      → has_hope hope.Open (hope_of w (record { pending = p; never = v; failed = f })) ≡ true
      → IsMetBy n c need w → ⊥
  unmet_by when.Well p true f pending failed is met = false≢true is
  unmet_by when.Well true false f pending failed is met =
      pending.2 (inl (met pending.0 pending.1))
  unmet_by when.Well false false f pending failed is met = false≢true is
  unmet_by when.Failed p v true pending failed is met = false≢true is
  unmet_by when.Failed true v false pending failed is met = failed met.0 met.1 met.2
  unmet_by when.Failed false v false pending failed is met = false≢true is
  unmet_by when.Ended true v f pending failed is met = pending.2 (met pending.0 pending.1)
  unmet_by when.Ended false v f pending failed is met = false≢true is

  met_by : (w : When) (p v f : Bool)
      → Finds p (Names n c need) (λ d. IsFinal n d → ⊥) (IsFinal n)
      → Finds v (Names n c need) (IsNever n) (λ d. IsNever n d → ⊥)
      → Finds f (Names n c need) (HasFailed n) (λ d. HasFailed n d → ⊥)
      → has_hope hope.Vain (hope_of w (record { pending = p; never = v; failed = f })) ≡ false
      → has_hope hope.Open (hope_of w (record { pending = p; never = v; failed = f })) ≡ false
      → IsMetBy n c need w
  met_by when.Well p true f pending never failed is more = absurd (true≢false is)
  met_by when.Well true false f pending never failed is more = absurd (true≢false more)
  met_by when.Well false false f pending never failed is more = well
    where
      well : (d : ℕ) → Names n c need d → has_ended_ok n d ≡ true
      well d named = elim (pending d named) [
        | inl ok ↦ ok
        | inr it ↦ absurd (never d named it)
      ]
  met_by when.Failed p v true pending never failed is more = failed
  met_by when.Failed true v false pending never failed is more = absurd (true≢false more)
  met_by when.Failed false v false pending never failed is more = absurd (true≢false is)
  met_by when.Ended true v f pending never failed is more = absurd (true≢false more)
  met_by when.Ended false v f pending never failed is more = pending

  module _ (t : Summary) (is : IsSummaryOf n (Names n c need) t) where
    pub vain_from : has_hope hope.Vain (hope_of need.when t) ≡ true → IsVainBy n c need need.when
    vain_from = vain_by need.when t.pending t.never t.failed is.pending is.never is.failed

    pub not_vain_from : has_hope hope.Vain (hope_of need.when t) ≡ false
        → IsVainBy n c need need.when → ⊥
    not_vain_from = not_vain_by need.when t.pending t.never t.failed is.pending is.never is.failed

    pub open_from : has_hope hope.Open (hope_of need.when t) ≡ true
        → (d : ℕ) × Names n c need d × (IsFinal n d → ⊥)
    open_from = open_by need.when t.pending t.never t.failed is.pending

    pub unmet_from : has_hope hope.Open (hope_of need.when t) ≡ true
        → IsMetBy n c need need.when → ⊥
    unmet_from = unmet_by need.when t.pending t.never t.failed is.pending is.failed

    pub met_from : has_hope hope.Vain (hope_of need.when t) ≡ false
        → has_hope hope.Open (hope_of need.when t) ≡ false → IsMetBy n c need need.when
    met_from = met_by need.when t.pending t.never t.failed is.pending is.never is.failed

-- ---- what a need names

module _ (n : Night) (now pools : ℕ) (order places : List ℕ)
    (sound : IsSound n.first n.groups pools n.commands order places)
    (p c : ℕ) (at : slice_get order p ≡ Some c)
    (all : List Standing) (tallies : List Summary)
    (are : AreStanding n now order p all tallies)
    (need : Need) (has : HasNeed n.commands c need) where
  below : c < length n.commands
  below = sound.inside p c at

  reach : max n.first c ≤ length n.commands
  reach = let first = sound.bounded in let own = below in omega (arith, first, own)

  comes : (d : ℕ) → Names n c need d → ComesAfter n.first n.commands c d
  comes d named = record { need = need; has = has; named = named }

  earlier : (d : ℕ) → Names n c need d → slice_index places d < p
  earlier d named =
      let less = sound.after c d (comes d named) in
      let here = sound.at p c at in
      omega (arith, less, here)

  pub named_summary : IsSummaryOf n (Names n c need) (summary_for all tallies need.of)
  named_summary = go need.of refl (sound.within c need has)
    where
      go : (o : Subject) → need.of ≡ o
          → is_within (length n.groups) (horizon n.first c) o ≡ true
          → IsSummaryOf n (Names n c need) (summary_for all tallies o)
      go (subject.Command e) is within =
          let own : Names n c need e =
          ap (λ o. names n.commands (horizon n.first c) o e) is ∙ eq-eqb e e refl in
          let less : e < max n.first c = ltb-true e (max n.first c) within in
          let bound = reach in
          let placed = sound.placed e (omega (arith, less, bound)) in
          let stood = are.stood (slice_index places e) e (earlier e own) placed in
          subst (λ (o : Option Standing). IsSummaryOf n (Names n c need)
          (option_map_or summary_of o no_summary)) (sym stood.1)
          (summary_same n (λ d. d ≡ e) (Names n c need) (summary_of stood.0)
          (λ d same. subst (Names n c need) (sym same) own)
          (λ d named. sym (eqb-true e d
          (sym (ap (λ o. names n.commands (horizon n.first c) o d) is) ∙ named)))
          (summary_one n now e stood.0 stood.2))
      go (subject.Group g) is within =
          let inside : g < length n.groups = ltb-true g (length n.groups) within in
          let counted = are.counted g inside in
          subst (λ (o : Option Summary). IsSummaryOf n (Names n c need)
          (option_map_or (λ t. t) o no_summary)) (sym counted.1)
          (summary_same n (IsPlaced n order g p) (Names n c need) counted.0 named_by placed_by
          counted.2)
        where
          named_by : (d : ℕ) → IsPlaced n order g p d → Names n c need d
          named_by d it =
              let there = sound.inside it.place d it.at in
              let place = sound.at it.place d it.at in
              let here = sound.at p c at in
              let less = it.below in
              let reached = sound.before c d below there (omega (arith, place, here, less)) in
              ap (λ o. names n.commands (horizon n.first c) o d) is
              ∙ and_from (nat_lt d (horizon n.first c)) (is_of n.commands g d)
              (lt-ltb d (horizon n.first c) reached) it.of

          placed_by : (d : ℕ) → Names n c need d → IsPlaced n order g p d
          placed_by d named =
              let parts = and_parts (nat_lt d (horizon n.first c)) (is_of n.commands g d)
              (sym (ap (λ o. names n.commands (horizon n.first c) o d) is) ∙ named) in
              let there = of_there n.commands g d parts.1 in
              record {
                place = slice_index places d;
                below = earlier d named;
                at = sound.placed d (slice_get_within n.commands d there.0 there.1);
                of = parts.1;
              }
