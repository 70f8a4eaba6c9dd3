use Rattle.std.proofs.Common.{refl, sym}
use Rattle.drive_runs.proofs.Driving.{fails_here, fails_to_read, fails_to_settle, first, goes_as}
use Rattle.drive_runs.proofs.Driving.{sits_failed, takes}
use Rattle.drive_runs.proofs.runs.sit.Goals as goal

pub returns-in_err-next : goal.returns-in_err-next
returns-in_err-next g c at r0 w0 here =
    let e = c.in_err-next.ensures in
    sits_failed g.D.RunDisk.state at _ _ _ _ _ _ _ _ c.from_residual.result
    c.from_residual.ensures.0
    (first g.D.RunDisk.state at _ _ _ _ _ _ _ _ _ _ _ here e.first e.moves)

pub loop-line-init : goal.loop-line-init
loop-line-init g c = (
  refl,
  λ at r0 w0 here.
      first g.D.RunDisk.state at _ _ _ _ _ _ _ _ _ _ _ here c.in_ok-next.ensures.first
      c.in_ok-next.ensures.moves,
)

pub returns-in_err-found-in-Part : goal.returns-in_err-found-in-Part
returns-in_err-found-in-Part g c at r0 w0 here =
    let read = c.in_err-found-in-Part.ensures in
    sits_failed g.D.RunDisk.state at _ _ _ _ _ _ _ _
    c.from_residual-in_err-found-in-Part.result
    c.from_residual-in_err-found-in-Part.ensures.0
    (fails_to_read g.D.RunDisk.state at _ _ _ _ _ _ _ _ _ _ _ _ c.in-Part.is
    (c.loop-line.invariant.1 at r0 w0 here) read.1)

pub returns-in_err-next-in-Part : goal.returns-in_err-next-in-Part
returns-in_err-next-in-Part g c at r0 w0 here =
    let so_far = goes_as g.D.RunDisk.state at _ _ _ _ _ _ _ _ _ _ _ _ c.in-Part.is refl refl
    (c.loop-line.invariant.1 at r0 w0 here) in
    let e = c.in_err-next-in-Part.ensures in
    sits_failed g.D.RunDisk.state at _ _ _ _ _ _ _ _
    c.from_residual-in_err-next-in-Part.result
    c.from_residual-in_err-next-in-Part.ensures.0
    (takes g.D.RunDisk.state at _ _ _ _ _ _ _ _ _ _ _ _ _ _ _ so_far
    c.in_ok-found-in-Part.ensures e.taken e.alone e.moves)

pub loop-line-preserved : goal.loop-line-preserved
loop-line-preserved g c = (
  refl,
  λ at r0 w0 here.
      let so_far = goes_as g.D.RunDisk.state at _ _ _ _ _ _ _ _ _ _ _ _ c.in-Part.is refl refl
      (c.loop-line.invariant.1 at r0 w0 here) in
      let e = c.in_ok-next-in-Part.ensures in
      takes g.D.RunDisk.state at _ _ _ _ _ _ _ _ _ _ _ _ _ _ _ so_far
      c.in_ok-found-in-Part.ensures e.taken e.alone e.moves,
)

pub returns-in-Ok : goal.returns-in-Ok
returns-in-Ok g c at r0 w0 here =
    let e = c.in-Ok.ensures in (
      _,
      goes_as g.D.RunDisk.state at _ _ _ _ _ _ _ _ _ _ _ _ c.in-Opening.is
          (sym c.loop-line.invariant.0) e.settles.1 (c.loop-line.invariant.1 at r0 w0 here),
      (e.moves, e.settles.0),
    )

pub returns-in-Err : goal.returns-in-Err
returns-in-Err g c at r0 w0 here =
    let e = c.in-Err.ensures in
    fails_to_settle g.D.RunDisk.state at _ _ _ _ _ _ _ _ _ _ _ _ _ c.in-Opening.is
    (c.loop-line.invariant.1 at r0 w0 here) e.settles e.moves

pub returns-in-End : goal.returns-in-End
returns-in-End g c at r0 w0 here = (
  _,
  goes_as g.D.RunDisk.state at _ _ _ _ _ _ _ _ _ _ _ _ c.in-End.is
      (sym c.loop-line.invariant.0) refl (c.loop-line.invariant.1 at r0 w0 here),
  refl,
)

pub returns-in-Fault : goal.returns-in-Fault
returns-in-Fault g c at r0 w0 here =
    let so_far = c.loop-line.invariant.1 at r0 w0 here in
    fails_here g.D.RunDisk.state at _ _ _ _ _ _ _ _ _ _ so_far
    (so_far.bytes, so_far.here.read)

pub returns : goal.returns
returns g c at r0 w0 here =
    let so_far = c.loop-line.invariant.1 at r0 w0 here in
    fails_here g.D.RunDisk.state at _ _ _ _ _ _ _ _ _ _ so_far
    (so_far.bytes, so_far.here.read)
