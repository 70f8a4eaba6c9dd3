use Rattle.drive_lines.proofs.OrderTexts.{read_back}
use Rattle.drive_lines.proofs.laws.each_line_is_read_back.Goals as goal

pub returns : goal.returns
returns c = read_back
