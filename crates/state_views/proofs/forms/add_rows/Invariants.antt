use Rattle.state_views.specs.Inspected.{lines_below}
use Rattle.state_views.specs.Forms.{text_of}
use Rattle.state_views.specs.Sheets.{Adds}
use Rattle.state_views.proofs.forms.add_rows.Given as goal

-- The first ones were added.
abbrev pub invariant-loop-number : goal.invariant-loop-number
invariant-loop-number g l =
    Adds (lines_below (text_of l.form l.rows l.state) l.number) l.initial.sheet l.sheet
    (g.W.Write.contents l.initial.output) (g.W.Write.contents l.output)
