-- What an answer unfolds to compute a number and a name.
use Rattle.std.specs.Prelude.{⊤}
use Rattle.std.specs.Fmt.{digits}
use Rattle.console_lines.specs.Numbers.{is_number}

unfoldable pub names_on_literals : ⊤
unfolding digits is_number
names_on_literals = tt
