use Rattle.std.proofs.Common.{◌≡◌, inl, inr, length, refl, true, arith}
use Rattle.std.proofs.lemmas.Bool.{cases_eq}
use Rattle.std.proofs.lemmas.List.Elements.{All-from_all_within, AllWithin-upto}
use Rattle.std.specs.Prelude.{nat_le, slice_index}
use Rattle.night_plan.specs.declared.commands.Take.{Take}
use Rattle.night_plan.specs.Choices.{takes_of}
use Rattle.night_plan.proofs.Choosing.{row_fits}
use Rattle.night_plan.proofs.pools.fits.Goals as goal

pub loop-row-preserved : goal.loop-row-preserved
loop-row-preserved c k d low below = elim (cases_eq k c.loop-row.row-index) [
  | inl same ↦ row_fits c.args.takes.now c.args.left.now c.loop-row.row-index k d _
      c.suffices.result
      c.loop-row-test.true c.suffices.ensures c.if-not-suffices.false same
  | inr less ↦ c.loop-row.invariant k d low (omega (arith, below, less))
]

pub returns : goal.returns
returns c =
    let takes = c.args.takes.now in
    let left = c.args.left.now in (
      λ holds. All-from_all_within (λ (row : Take).
          nat_le (takes_of takes row.pool) (slice_index left row.pool) ≡ true) takes
          (AllWithin-upto (λ (row : Take).
          nat_le (takes_of takes row.pool) (slice_index left row.pool) ≡ true) takes 0
          c.loop-row.row-index (length takes) c.loop-row-test.false c.loop-row.invariant),
      λ all. refl,
    )
