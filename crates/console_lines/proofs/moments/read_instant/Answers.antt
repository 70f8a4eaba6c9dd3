use Rattle.std.proofs.lemmas.Str.{IsUtf8-from_ascii}
use Rattle.console_lines.proofs.MomentAscii.{date_time_ascii}
use Rattle.console_lines.proofs.moments.read_instant.Goals as goal

pub returns-in_default : goal.returns-in_default
returns-in_default c =
    absurd (c.in_default.ensures.cases.0 (IsUtf8-from_ascii _ (date_time_ascii _ c.requires)))
