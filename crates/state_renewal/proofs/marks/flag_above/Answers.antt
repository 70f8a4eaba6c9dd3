use Rattle.run_model.proofs.Common.{length, refl, sym, subst, ◌≡◌, ◌+◌, ◌-◌, ◌∙◌, arith}
use Rattle.run_model.proofs.Common.{true≢false, slice_get_read}
use Rattle.state_renewal.proofs.Raising.{AreRaised, raised_first, raised_same, raised_more}
use Rattle.state_renewal.proofs.Raising.{raised_all}
use Rattle.state_renewal.proofs.marks.flag_above.Goals.{then-flags-s+then-not-is_root}
use Rattle.state_renewal.proofs.marks.flag_above.Goals.{else-flags-s}
use Rattle.state_renewal.proofs.marks.flag_above.Goals.{
  else-flags-s-via-then-flags-s+else-not-is_root,
}
use Rattle.state_renewal.proofs.marks.flag_above.Goals.{else-flags-s-via-else-flags-s}
use Rattle.state_renewal.proofs.marks.flag_above.Goals as goal

pub loop-back-init : goal.loop-back-init
loop-back-init c = raised_first c.args.scopes.now c.args.flags.now c.requires.each

pub bounds-flags-row : goal.bounds-flags-row
bounds-flags-row c =
    let rows = c.args.scopes.now in
    let k = c.loop-back.back in
    let s = length rows - 1 - k in
    let less = c.loop-back-test.true in
    let lower = c.requires.ordered s c.index-scopes-s.result
    (slice_get_read rows _ s c.index-scopes-s.result refl (omega (arith, less)) c.index-scopes-s.is)
    (sym c.is_root.ensures ∙ c.if-not-is_root.true) in
    let size = c.loop-back.invariant.size in
    omega (arith, less, lower, size)

pub loop-back-preserved : goal.loop-back-preserved
loop-back-preserved c =
    let rows = c.args.scopes.now in
    let before = c.args.flags.now in
    let k = c.loop-back.back in
    let s = length rows - 1 - k in
    let less = c.loop-back-test.true in
    let row = c.index-scopes-s.result in
    let found = slice_get_read rows _ s row refl (omega (arith, less)) c.index-scopes-s.is in
    let next : s + (k + 1) ≡ length rows = omega (arith, less) in
    elim c.if-flags-s.branch [
      | then-flags-s+then-not-is_root w ↦
          subst (AreRaised rows before (k + 1)) (sym w.flags-is)
          (raised_more rows before k s c.loop-back.flags row c.requires.ordered
          c.loop-back.invariant found next (sym w.is_root.ensures ∙ w.if-not-is_root.true)
          w.if-flags-s.true)
      | else-flags-s w ↦
          subst (AreRaised rows before (k + 1)) (sym w.flags-is)
          (raised_same rows before k s c.loop-back.flags row c.loop-back.invariant found next
          (elim w.else-flags-s.branch [
            | else-flags-s-via-then-flags-s+else-not-is_root w' ↦
                (λ below is.
                let up = sym w'.is_root.ensures ∙ w'.if-not-is_root.false in
                absurd (true≢false (sym up ∙ below)))
            | else-flags-s-via-else-flags-s w' ↦
                (λ below is. absurd (true≢false (sym is ∙ w'.if-flags-s.false)))
          ]))
    ]

pub returns-clause-flags : goal.returns-clause-flags
returns-clause-flags c =
    λ s. raised_all c.args.scopes.now c.args.flags.now c.loop-back.back c.loop-back.flags
    c.requires.ordered c.loop-back.invariant c.loop-back-test.false s
