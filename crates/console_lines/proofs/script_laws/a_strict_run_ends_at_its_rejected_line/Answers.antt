use Rattle.std.specs.Prelude.{◌++◌, ◌∷◌}
use Rattle.console_lines.specs.Strict.{strict_lines_of}
use Rattle.console_lines.proofs.RejectionLemmas.{printed_alike, rejected_before}
use Rattle.console_lines.proofs.script_laws.a_strict_run_ends_at_its_rejected_line.Goals as goal

pub returns-clause-rejection : goal.returns-clause-rejection
returns-clause-rejection c = λ s prefix behind rejection h.
    (rejected_before s prefix behind rejection h).0

pub returns-clause-script : goal.returns-clause-script
returns-clause-script c = λ s prefix behind rejection h.
    printed_alike s (strict_lines_of s (prefix ++ 10 ∷ behind)) (strict_lines_of s prefix)
    (rejected_before s prefix behind rejection h).1
