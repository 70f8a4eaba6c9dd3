use Rattle.run_model.proofs.Common.{◌+◌, length, refl, ap, ◌∙◌, arith, slice_get_read}
use Rattle.row_view.specs.Image.{scope_bytes, is_kept_scope}
use Rattle.row_view.specs.Writing.{put_at}
use Rattle.row_view.proofs.RowLengths.{scope_len_most}
use Rattle.state_renewal.specs.Marks.{scope_by}
use Rattle.state_renewal.proofs.Leaving.{left_first, left_room, left_next, left_same, left_done}
use Rattle.state_renewal.proofs.renewed_rows.put_scopes.Goals.{then-flags-n, else-flags-n}
use Rattle.state_renewal.proofs.renewed_rows.put_scopes.Goals as goal

pub loop-n-init : goal.loop-n-init
loop-n-init g c =
    left_first scope_bytes is_kept_scope 192 c.args.flags.now
    (scope_by c.args.scopes.now) c.args.rows.now c.args.at
    c.args.out.now

pub scope_renumbered-requires-clause-below_root : goal.scope_renumbered-requires-clause-below_root
scope_renumbered-requires-clause-below_root g c =
    (c.requires.rows c.loop-n.n c.index-rows-n.result
    (slice_get_read c.args.rows.now _ c.loop-n.n c.index-rows-n.result refl
    (omega (arith, c.loop-n-test.true)) c.index-rows-n.is)).below_root

pub scope_renumbered-requires-clause-known : goal.scope_renumbered-requires-clause-known
scope_renumbered-requires-clause-known g c =
    c.requires.known c.loop-n.n c.index-rows-n.result
    (slice_get_read c.args.rows.now _ c.loop-n.n c.index-rows-n.result refl
    (omega (arith, c.loop-n-test.true)) c.index-rows-n.is)

pub put_scope-end-requires-clause-room : goal.put_scope-end-requires-clause-room
put_scope-end-requires-clause-room g c =
    let row = c.index-rows-n.result in
    let found = slice_get_read c.args.rows.now _ c.loop-n.n row refl
    (omega (arith, c.loop-n-test.true)) c.index-rows-n.is in
    let room = left_room scope_bytes is_kept_scope 192 c.args.flags.now
    (scope_by c.args.scopes.now) c.args.rows.now c.loop-n.n c.args.at
    c.loop-n.end c.args.out.now c.loop-n.out row c.loop-n.invariant found
    c.if-flags-n.true (scope_len_most (scope_by c.args.scopes.now row)
    c.scope_renumbered.ensures.kept (c.requires.rows c.loop-n.n row found).can) c.requires.room in
    let size = ap (λ r. length (scope_bytes r)) c.scope_renumbered.ensures.value in
    omega (arith, size, room)

pub loop-n-preserved : goal.loop-n-preserved
loop-n-preserved g c =
    elim c.if-flags-n.branch [
      | then-flags-n w ↦
          let row = w.index-rows-n.result in
          let found = slice_get_read c.args.rows.now _ c.loop-n.n row refl
          (omega (arith, c.loop-n-test.true)) w.index-rows-n.is in
          left_next scope_bytes is_kept_scope 192 c.args.flags.now
          (scope_by c.args.scopes.now) c.args.rows.now c.loop-n.n c.args.at
          c.loop-n.end c.if-flags-n.end c.args.out.now c.loop-n.out c.if-flags-n.out row
          c.loop-n.invariant found w.if-flags-n.true w.scope_renumbered.ensures.kept
          (scope_len_most (scope_by c.args.scopes.now row)
          w.scope_renumbered.ensures.kept (c.requires.rows c.loop-n.n row found).can)
          (w.end-is ∙ w.put_scope-end.ensures.end
          ∙ ap (λ r. c.loop-n.end + length (scope_bytes r)) w.scope_renumbered.ensures.value)
          (w.out-is ∙ w.put_scope-end.ensures.written
          ∙ ap (λ r. put_at c.loop-n.out c.loop-n.end (scope_bytes r))
          w.scope_renumbered.ensures.value)
          c.requires.room (ap (λ b. length b) w.out-is ∙ omega (arith, w.put_scope-end.auto.out))
      | else-flags-n w ↦
          left_same scope_bytes is_kept_scope 192 c.args.flags.now
          (scope_by c.args.scopes.now) c.args.rows.now c.loop-n.n c.args.at
          c.loop-n.end c.if-flags-n.end c.args.out.now c.loop-n.out c.if-flags-n.out
          c.loop-n.invariant w.if-flags-n.false w.end-is w.out-is
    ]

pub returns : goal.returns
returns g c =
    let done = left_done scope_bytes is_kept_scope 192 c.args.flags.now
    (scope_by c.args.scopes.now) c.args.rows.now c.loop-n.n c.args.at
    c.loop-n.end c.args.out.now c.loop-n.out c.loop-n.invariant
    c.loop-n-test.false in
    record { end = done.0; written = done.1; kept = done.2; most = done.3 }
