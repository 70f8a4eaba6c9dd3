use Rattle.std.specs.Prelude.{◌≡◌}
use Rattle.run_model.specs.Scopes.{line, line_within}
use Rattle.model_laws.specs.Hits.{is_on}
use Rattle.drive_nights.proofs.endings.is_above.Given as goal

-- What is left of the line decides.
abbrev pub invariant-loop-most : goal.invariant-loop-most
invariant-loop-most g l =
    is_on l.top (line_within l.most l.state.tree.scopes l.at)
    ≡ is_on l.top (line l.state.tree.scopes l.fn.s)

abbrev pub decreases-loop-most : goal.decreases-loop-most
decreases-loop-most g l = l.most
