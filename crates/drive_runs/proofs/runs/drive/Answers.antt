use Rattle.std.proofs.Common.{inl, inr, refl}
use Rattle.drive_runs.proofs.Driving.{begins, comes_again, ends_closed, ends_failed, ends_well}
use Rattle.drive_runs.proofs.Driving.{sits_as}
use Rattle.drive_runs.proofs.runs.drive.Goals as goal

pub loop-turn-init : goal.loop-turn-init
loop-turn-init g c = begins g.D.RunDisk.state _ _ _ _ _ c.new.ensures c.new-reader.ensures

pub returns-in-Err : goal.returns-in-Err
returns-in-Err g c =
    ends_closed g.D.RunDisk.state _ _ _ _ _ _ _ _ _ _ _ c.loop-turn.invariant
    (inr (c.in-Err.fault, c.in-Err.ensures.opens))

pub returns-in-Ok-End : goal.returns-in-Ok-End
returns-in-Ok-End g c =
    let so_far = c.loop-turn.invariant in
    let sits = sits_as g.D.RunDisk.state so_far.at _ _ _ _ _ _ _ _ _ _ c.in-Ok-End.field-0-is
    (c.in-Ok-End.ensures so_far.at _ _ so_far.here) in
    ends_well g.D.RunDisk.state _ _ _ _ _ _ _ _ _ _ _ _ _ _ _ _ _ _ so_far
    c.in-Ok.ensures.opens sits.1 sits.2 c.into_disk-disk.ensures

pub returns-in-Err-sat : goal.returns-in-Err-sat
returns-in-Err-sat g c =
    let so_far = c.loop-turn.invariant in
    ends_failed g.D.RunDisk.state _ _ _ _ _ _ _ _ _ _ _ _ _ _ _ so_far c.in-Ok.ensures.opens
    (c.in-Err-sat.ensures so_far.at _ _ so_far.here) c.into_disk-disk.ensures

pub loop-turn-preserved : goal.loop-turn-preserved
loop-turn-preserved g c =
    let so_far = c.loop-turn.invariant in
    let sits = sits_as g.D.RunDisk.state so_far.at _ _ _ _ _ _ _ _ _ _ c.in-Ok-Opening.field-0-is
    (c.in-Ok-Opening.ensures so_far.at _ _ so_far.here) in
    comes_again g.D.RunDisk.state _ _ _ _ _ _ _ _ _ _ _ _ _ _ _ _ _ _ _ so_far
    c.in-Ok.ensures.opens sits.1 sits.2 c.into_disk-disk.ensures

pub returns : goal.returns
returns g c =
    ends_closed g.D.RunDisk.state _ _ _ _ _ _ _ _ _ _ _ c.loop-turn.invariant (inl refl)
