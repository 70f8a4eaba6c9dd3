use Rattle.state_views.proofs.Adding.{adds_none, adds_tried}
use Rattle.state_views.proofs.sheets.Sheet.add.Goals as goal

pub returns-then-self : goal.returns-then-self
returns-then-self g c =
    adds_none c.args.bytes.now c.args.self.now c.args.self.now
    (g.W.Write.contents c.args.output.now) c.if-self.true c.if-self.true

pub returns : goal.returns
returns g c =
    adds_tried c.append_bytes.result c.args.bytes.now c.args.self.now _
    (g.W.Write.contents c.args.output.now) (g.W.Write.contents c.append_bytes.new.output)
    c.if-self.false c.is_err-self.ensures.value c.append_bytes.ensures.buffered
    c.append_bytes.ensures.cut
