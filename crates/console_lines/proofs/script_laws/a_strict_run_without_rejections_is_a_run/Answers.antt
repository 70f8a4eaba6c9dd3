use Rattle.console_lines.specs.Lines.{lines_of}
use Rattle.console_lines.specs.Strict.{strict_lines_of}
use Rattle.console_lines.proofs.RejectionLemmas.{all_lines, printed_alike}
use Rattle.console_lines.proofs.script_laws.a_strict_run_without_rejections_is_a_run.Goals as goal

pub returns : goal.returns
returns c = λ s bytes h.
    printed_alike s (strict_lines_of s bytes) (lines_of bytes) (all_lines s bytes h)
