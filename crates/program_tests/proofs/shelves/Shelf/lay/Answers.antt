use Rattle.std.proofs.Common.{refl, sym}
use Rattle.program_tests.proofs.ShelfLemmas.{first_elsewhere, first_is, second_elsewhere}
use Rattle.program_tests.proofs.ShelfLemmas.{second_is, taken_elsewhere}
use Rattle.program_tests.proofs.shelves.Shelf.lay.Goals as goal

pub returns-then-is_of-clause-laid : goal.returns-then-is_of-clause-laid
returns-then-is_of-clause-laid c =
    first_is _ c.args.name.now c.if-is_of.ensures.named

pub returns-then-is_of-clause-elsewhere : goal.returns-then-is_of-clause-elsewhere
returns-then-is_of-clause-elsewhere c =
    first_elsewhere c.args.self.now _ c.args.name.now c.if-is_of.ensures.named refl refl

pub returns-then-is_of-2-clause-laid : goal.returns-then-is_of-2-clause-laid
returns-then-is_of-2-clause-laid c =
    second_is _ c.args.name.now c.if-is_of.ensures.other c.if-is_of-2.ensures.named

pub returns-then-is_of-2-clause-elsewhere : goal.returns-then-is_of-2-clause-elsewhere
returns-then-is_of-2-clause-elsewhere c =
    second_elsewhere c.args.self.now _ c.args.name.now c.if-is_of-2.ensures.named refl refl

pub returns-clause-laid : goal.returns-clause-laid
returns-clause-laid c =
    second_is _ c.args.name.now c.if-is_of.ensures.other (sym c.in-Ok.ensures.ok)

pub returns-clause-elsewhere : goal.returns-clause-elsewhere
returns-clause-elsewhere c =
    taken_elsewhere c.args.self.now _ c.args.name.now (sym c.in-Ok.ensures.ok)
    c.if-is_there.ensures.none refl
