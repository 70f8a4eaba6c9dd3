use Rattle.console_lines.proofs.LawLemmas.{lines_are_parts}
use Rattle.console_lines.proofs.script_laws.an_input_is_split_at_each_line_feed.Goals as goal

pub returns : goal.returns
returns c = lines_are_parts
