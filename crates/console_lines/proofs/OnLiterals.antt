-- What an answer unfolds to compute this crate's readings on a literal.
use Rattle.std.specs.Prelude.{⊤}
use Rattle.std.specs.Fmt.{digits}
use Rattle.jiff.proofs.OnLiterals.{jiff_on_literals}
use Rattle.console_lines.specs.Dates.{in_month, in_year, moment_text}
use Rattle.console_lines.specs.Numbers.{is_number}
use Rattle.console_lines.specs.Script.{reply, after_line, closing}
use Rattle.console_lines.specs.Shapes.{has_shape, is_in}
use Rattle.console_lines.specs.Strict.{rejection_at}
use Rattle.console_lines.specs.Moments.{is_local, is_offset, is_date_time, date_time_of, moment_at}

unfoldable pub fields_on_literals : ⊤
unfolding is_number has_shape is_in
fields_on_literals = tt

unfoldable pub moments_on_literals : ⊤
unfolding jiff_on_literals fields_on_literals is_local is_offset is_date_time date_time_of moment_at
moments_on_literals = tt

unfoldable pub texts_on_literals : ⊤
unfolding in_year in_month moment_text
texts_on_literals = tt

-- What it unfolds to compute what a night prints.
unfoldable pub nights_on_literals : ⊤
unfolding closing reply after_line rejection_at digits moments_on_literals texts_on_literals
nights_on_literals = tt
