use Rattle.drive_lines.proofs.OrderTexts.{one_order}
use Rattle.drive_lines.proofs.laws.no_two_lines_are_spelled_alike.Goals as goal

pub returns : goal.returns
returns c = one_order
