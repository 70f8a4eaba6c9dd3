use Rattle.std.proofs.Common.{refl}
use Rattle.program_tests.proofs.ShelfLemmas.{gets_none}
use Rattle.program_tests.proofs.shelves.ShelfFiles.remove.Goals as goal

pub returns : goal.returns
returns c =
    gets_none _ c.args.self.now c.put.new.self c.args.name.now refl refl c.put.ensures
