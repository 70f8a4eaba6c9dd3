use Rattle.std.proofs.Common.{◌∙◌, ap, refl}
use Rattle.program_tests.specs.Shelves.{Lies}
use Rattle.program_tests.proofs.ShelfLemmas.{same_spot}
use Rattle.program_tests.proofs.shelves.Shelf.make.Goals as goal

pub returns-clause-laid : goal.returns-clause-laid
returns-clause-laid c =
    same_spot c.lay.new.self _ c.args.name.now refl refl ∙ c.in_ok-lay.ensures.laid
    ∙ ap Lies (cc (c.in_ok-laid.ensures.same, c.new.ensures.below))

pub returns-clause-elsewhere : goal.returns-clause-elsewhere
returns-clause-elsewhere c = λ other n.
    same_spot c.lay.new.self _ other refl refl ∙ c.in_ok-lay.ensures.elsewhere other n
