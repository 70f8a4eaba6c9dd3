use Rattle.std.proofs.Common.{arith, refl}
use Rattle.state_views.specs.Forms.{text_of}
use Rattle.state_views.specs.RowKinds.{count_of}
use Rattle.state_views.proofs.Adding.{adds_all, adds_line, adds_next, adds_nothing}
use Rattle.state_views.proofs.forms.add_rows.Goals as goal

pub loop-number-init : goal.loop-number-init
loop-number-init g c = adds_nothing c.args.sheet.now (g.W.Write.contents c.args.output.now)

pub loop-number-preserved : goal.loop-number-preserved
loop-number-preserved g c =
    adds_next (text_of c.args.form c.args.rows c.args.state.now) c.loop-number.number
    c.loop-number.invariant (adds_line c.make_room.ensures.none refl c.append_one.ensures)

pub returns : goal.returns
returns g c =
    adds_all (text_of c.args.form c.args.rows c.args.state.now) c.loop-number.number
    (count_of c.args.rows c.args.state.now)
    (omega (arith, c.loop-number-test.false, c.loop-number.auto.number-end)) c.loop-number.invariant
