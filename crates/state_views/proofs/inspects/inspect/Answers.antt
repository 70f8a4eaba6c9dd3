use Rattle.state_views.proofs.Adding.{adds_then, ends_cut, ends_whole}
use Rattle.state_views.proofs.inspects.inspect.Goals as goal

pub returns-clause-whole : goal.returns-clause-whole
returns-clause-whole g c =
    ends_whole c.end.result (g.W.Write.contents c.end.new.output) c.new-sheet.ensures
    (adds_then c.add_rows.ensures (adds_then c.add_rows-2.ensures c.add_rows-3.ensures))
    c.end.ensures.whole

pub returns-clause-cut : goal.returns-clause-cut
returns-clause-cut g c =
    ends_cut c.end.result (g.W.Write.contents c.end.new.output) c.new-sheet.ensures
    (adds_then c.add_rows.ensures (adds_then c.add_rows-2.ensures c.add_rows-3.ensures))
    c.end.ensures.cut
