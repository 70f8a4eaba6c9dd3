use Rattle.std.specs.Prelude.{Some}
use Rattle.console_lines.proofs.WordLemmas.{rest_is}
use Rattle.console_lines.proofs.script_laws.the_rest_of_a_line_has_all_its_bytes.Goals as goal

pub returns : goal.returns
returns c = λ line. rest_is (Some line)
