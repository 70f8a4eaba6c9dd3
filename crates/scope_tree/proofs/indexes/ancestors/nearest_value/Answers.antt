use Rattle.run_model.proofs.Common.{refl, sym, ap, ◌∙◌, ◌≡◌, ◌<◌, Some, slice_get, false, arith}
use Rattle.run_model.proofs.Common.{option_copied, slice_get_read, is_root}
use Rattle.scope_tree.proofs.Nearing.{reach_at}
use Rattle.scope_tree.proofs.Searching.{value_above}
use Rattle.scope_tree.proofs.indexes.ancestors.nearest_value.Goals as goal

pub loop-text-init : goal.loop-text-init
loop-text-init c =
    let over = reach_at c.args.scopes.now c.args.reaches.now c.args.s c.index-reaches-s.result
    c.requires.reached c.requires.known c.index-reaches-s.is in
    record {
      inside = omega (arith, over.above, c.requires.known);
      found = over.values c.args.key.now;
    }

pub loop-text-preserved : goal.loop-text-preserved
loop-text-preserved c =
    let rows = c.args.scopes.now in
    let at = c.loop-text.holder in
    let row = c.index-scopes-holder.result in
    let found : slice_get rows at ≡ Some row = slice_get_read rows _ at row refl
    c.loop-text.invariant.inside c.index-scopes-holder.is in
    let below_root : is_root row.kind ≡ false = sym c.is_root.ensures ∙ c.if-is_root.false in
    let less : row.parent < at = c.requires.ordered at row found below_root in
    let over = reach_at rows c.args.reaches.now row.parent c.index-reaches-row.result
    c.requires.reached (omega (arith, less, c.loop-text.invariant.inside)) c.index-reaches-row.is in
    record {
      inside = omega (arith, over.above, less, c.loop-text.invariant.inside);
      found = over.values c.args.key.now
          ∙ value_above rows at row c.args.key.now c.requires.ordered found
          (sym c.text_under.ensures.value ∙ ap option_copied c.in_default.is) below_root
          ∙ c.loop-text.invariant.found;
    }
