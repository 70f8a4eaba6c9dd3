-- What an answer unfolds to compute the spelling of a line.
use Rattle.std.specs.Prelude.{⊤}
use Rattle.std.specs.Fmt.{digits}

unfoldable pub lines_on_literals : ⊤
unfolding digits
lines_on_literals = tt
