use Rattle.drive_runs.proofs.Reading.{first_gains}
use Rattle.drive_runs.proofs.parts.add_first.Goals as goal

pub returns-in_ok-drafts-in_default : goal.returns-in_ok-drafts-in_default
returns-in_ok-drafts-in_default g c =
    first_gains c.args.kept c.args.lives c.args.heard c.args.report c.first_part.result
    (c.in_ok-drafts-in_default.drafts, c.first_part.ensures, c.in_ok-drafts-in_default.ensures)
