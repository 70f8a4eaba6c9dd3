use Rattle.std.proofs.Common.{◌≤◌, arith, length, sym}
use Rattle.std.proofs.lemmas.List.{length-take-le, take_all}
use Rattle.drive_steps.proofs.cancels.cut.Goals as goal

pub slice_bounds-result-end : goal.slice_bounds-result-end
slice_bounds-result-end c =
    let more : 54 ≤ length c.args.bytes.now = omega arith in
    sym (length-take-le 54 c.args.bytes.now more)

pub returns-then-bytes-le54 : goal.returns-then-bytes-le54
returns-then-bytes-le54 c =
    let few : length c.args.bytes.now ≤ 54 = omega arith in sym (take_all 54 c.args.bytes.now few)
