use Rattle.state_views.proofs.Adding.{adds_then, ends_cut, ends_whole}
use Rattle.state_views.proofs.json.print_json.Goals as goal

pub returns-clause-whole : goal.returns-clause-whole
returns-clause-whole g c =
    ends_whole c.end.result (g.W.Write.contents c.end.new.output) c.new-sheet.ensures
    (adds_then c.add.ensures (adds_then c.add_rows.ensures (adds_then c.add-2.ensures
    (adds_then c.add_rows-2.ensures (adds_then c.add-3.ensures
    (adds_then c.add_tasks.ensures c.add-4.ensures))))))
    c.end.ensures.whole

pub returns-clause-cut : goal.returns-clause-cut
returns-clause-cut g c =
    ends_cut c.end.result (g.W.Write.contents c.end.new.output) c.new-sheet.ensures
    (adds_then c.add.ensures (adds_then c.add_rows.ensures (adds_then c.add-2.ensures
    (adds_then c.add_rows-2.ensures (adds_then c.add-3.ensures
    (adds_then c.add_tasks.ensures c.add-4.ensures))))))
    c.end.ensures.cut
