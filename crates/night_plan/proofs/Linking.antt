-- One more link, and one step down the links of a group.
use Rattle.std.proofs.Common.{◌≡◌, ◌<◌, ◌+◌, ◌-◌, ◌∙◌, inl, inr, ℕ, true, List, [], ◌∷◌}
use Rattle.std.proofs.Common.{◌++◌, Some, slice_get, set, length, ap, sym, subst, arith}
use Rattle.std.proofs.Common.{length-append}
use Rattle.std.proofs.lemmas.Bool.{cases_eq, cases_lt, eq-eqb}
use Rattle.std.proofs.lemmas.List.{get_or-set_other, get_or-set_same, length-set}
use Rattle.std.proofs.lemmas.List.{get_or_append_left, get_or_push}
use Rattle.std.proofs.lemmas.Option.{same_Some, slice_get_within}
use Rattle.std.specs.Prelude.{slice_index}
use Rattle.night_plan.specs.declared.commands.Command.{Command}
use Rattle.night_plan.specs.Plans.{is_of}
use Rattle.night_plan.specs.Links.{IsLastBelow, AreLinks, IsRankedFrom}
use Rattle.night_plan.proofs.Rows.{of_at, of_there}

module _ (commands : List Command) (groups i : ℕ) (before last : List ℕ) (command : Command)
    (is : slice_get commands i ≡ Some command) (own : command.group < groups)
    (links : AreLinks commands groups i before last) where
  -- Another group has no command at i.
  elsewhere : (g d : ℕ) → is_of commands g d ≡ true → d < i + 1 → (g ≡ command.group → ⊥) → d < i
  elsewhere g d of below other = elim (cases_eq d i) [
    | inl same ↦
        let there = of_there commands g d of in
        let equal : there.0 ≡ command = same_Some there.0 command
        (sym there.1 ∙ ap (slice_get commands) same ∙ is) in
        absurd (other (sym there.2 ∙ ap (λ (x : Command). x.group) equal))
    | inr apart ↦ omega (arith, below, apart)
  ]

  pub linked_more : AreLinks commands groups (i + 1)
      (before ++ slice_index last command.group ∷ []) (set last command.group (i + 1))
  linked_more = record {
    sized = (let len = length-append before (slice_index last command.group ∷ []) in
        let old = links.sized in omega (arith, len, old));
    grouped = length-set last command.group (i + 1) ∙ links.grouped;
    each = λ c other below there. elim (cases_lt c i) [
      | inl inside ↦
          let old = links.sized in
          subst (IsLastBelow commands other.group c)
          (sym (get_or_append_left before (slice_index last command.group ∷ []) 0 c
          (omega (arith, inside, old)))) (links.each c other inside there)
      | inr past ↦
          let same : c ≡ i = omega (arith, past, below) in
          let equal : command ≡ other = same_Some command other
          (sym is ∙ ap (slice_get commands) (sym same) ∙ there) in
          let at : slice_index (before ++ slice_index last command.group ∷ []) c
          ≡ slice_index last command.group =
          get_or_push before (slice_index last command.group) 0 c (links.sized ∙ sym same) in
          subst (λ (x : Command). IsLastBelow commands x.group c
          (slice_index (before ++ slice_index last command.group ∷ []) c)) equal
          (subst (IsLastBelow commands command.group c) (sym at)
          (subst (λ k. IsLastBelow commands command.group k (slice_index last command.group))
          (sym same) (links.ends command.group own)))
    ];
    ends = λ g within. elim (cases_eq g command.group) [
      | inl same ↦
          let at : slice_index (set last command.group (i + 1)) g ≡ i + 1 =
          ap (slice_index (set last command.group (i + 1))) same
          ∙ get_or-set_same last command.group (i + 1) 0 (let old = links.grouped in
          omega (arith, own, old)) in
          subst (IsLastBelow commands g (i + 1)) (sym at) (record {
            bounded = omega arith;
            of = λ some. subst (λ k. is_of commands g k ≡ true)
                (let e : i ≡ i + 1 - 1 = omega arith in e)
                (of_at commands i g command is ∙ eq-eqb command.group g (sym same));
            last = λ d of below. below;
          })
      | inr apart ↦
          let at : slice_index (set last command.group (i + 1)) g ≡ slice_index last g =
          get_or-set_other last command.group g (i + 1) 0 apart in
          let old = links.ends g within in
          subst (IsLastBelow commands g (i + 1)) (sym at) (record {
            bounded = (let b = old.bounded in omega (arith, b));
            of = old.of;
            last = λ d of below. old.last d of (elsewhere g d of below apart);
          })
    ];
  }

-- One step down the links.
pub ranked_down : (commands : List Command) (groups : ℕ) (ranks before last : List ℕ) (g next : ℕ)
    → AreLinks commands groups (length commands) before last
    → IsRankedFrom commands ranks g next → 0 < next → 0 < slice_index ranks (next - 1)
    → IsRankedFrom commands ranks g (slice_index before (next - 1))
    × (slice_index before (next - 1) < next)
ranked_down commands groups ranks before last g next links from some has =
    let of = from.of some in
    let there = of_there commands g (next - 1) of in
    let within = slice_get_within commands (next - 1) there.0 there.1 in
    let it = subst (λ k. IsLastBelow commands k (next - 1) (slice_index before (next - 1))) there.2
    (links.each (next - 1) there.0 within there.1) in
    let bound = it.bounded in (
      record {
        of = it.of;
        ranked = λ d of_d below. elim (cases_lt d (next - 1)) [
          | inl inside ↦
              let less = it.last d of_d inside in absurd (omega (arith, less, below))
          | inr past ↦ elim (cases_eq d (next - 1)) [
            | inl same ↦ subst (λ k. 0 < slice_index ranks k) (sym same) has
            | inr apart ↦ from.ranked d of_d (omega (arith, past, apart))
          ]
        ];
      },
      omega (arith, bound, some),
    )

-- The one before the number is a command.
pub ranked_within : (commands : List Command) (ranks : List ℕ) (g next : ℕ)
    → IsRankedFrom commands ranks g next → 0 < next → next - 1 < length commands
ranked_within commands ranks g next from some =
    let there = of_there commands g (next - 1) (from.of some) in
    slice_get_within commands (next - 1) there.0 there.1
