use Rattle.run_model.proofs.Common.{◌≡◌, ◌<◌, false, Some, slice_get, refl, sym, ap, ◌∙◌}
use Rattle.run_model.proofs.Common.{arith, slice_get_read, is_root}
use Rattle.model_laws.specs.Searches.{earlier}
use Rattle.scope_tree.specs.Reaches.{IsReach}
use Rattle.scope_tree.proofs.Nearing.{new_reach_is}
use Rattle.scope_tree.proofs.indexes.reaches.new_reach.Goals as goal
use Rattle.scope_tree.proofs.indexes.reaches.new_reach.Goals.{then-is_detached, else-is_detached}
use Rattle.scope_tree.proofs.indexes.reaches.new_reach.Goals.{then-is_holder, else-is_holder}

pub returns : goal.returns
returns c =
    let rows = c.args.scopes.now in
    let row = c.index-scopes-s.result in
    let up = c.index-reaches-row.result in
    let found : slice_get rows c.args.s ≡ Some row =
    slice_get_read rows _ c.args.s row refl c.requires.known c.index-scopes-s.is in
    let below : is_root row.kind ≡ false = sym c.is_root.ensures ∙ c.if-is_root.false in
    let less : row.parent < c.args.s = c.requires.ordered c.args.s row found below in
    let over : IsReach rows row.parent up = c.requires.right row.parent up
    (slice_get_read c.args.reaches.now _ row.parent up refl (omega (arith, less, c.requires.made))
    c.index-reaches-row.is) in
    new_reach_is rows c.args.s row up _ c.requires.ordered found below over
    (elim c.if-is_detached.branch [
      | then-is_detached w ↦ rw (← c.is_detached.ensures, w.if-is_detached.true) w.deadline-is
      | else-is_detached w ↦ rw (← c.is_detached.ensures, w.if-is_detached.false)
          (w.deadline-is ∙ w.sooner-deadline.ensures ∙ ap (λ own. earlier own up.deadline)
          w.own_deadline.ensures)
    ])
    (elim c.if-is_holder.branch [
      | then-is_holder w ↦ rw (← c.is_holder.ensures, w.if-is_holder.true) w.holder-is
      | else-is_holder w ↦ rw (← c.is_holder.ensures, w.if-is_holder.false) w.holder-is
    ])
