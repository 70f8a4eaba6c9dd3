use Rattle.std.proofs.Common.{sym}
use Rattle.program_tests.proofs.ShelfLemmas.{first_is}
use Rattle.program_tests.proofs.shelves.Shelf.new.Goals as goal

pub returns : goal.returns
returns c =
    record { has = first_is _ c.args.name.now (sym c.in-Ok.ensures.ok) }
