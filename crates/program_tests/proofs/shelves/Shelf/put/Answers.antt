use Rattle.std.proofs.Common.{refl}
use Rattle.program_tests.specs.Shelves.{spot_of}
use Rattle.program_tests.proofs.ShelfLemmas.{first_gets, none_gets, second_gets}
use Rattle.program_tests.proofs.shelves.Shelf.put.Goals as goal

pub returns-then-is_of : goal.returns-then-is_of
returns-then-is_of c =
    first_gets c.args.self.now _ c.args.name.now c.if-is_of.ensures.named refl refl

pub returns-then-not-is_of : goal.returns-then-not-is_of
returns-then-not-is_of c =
    none_gets c.args.self.now c.args.name.now (spot_of c.args.kept) c.if-is_of.ensures.other
    c.if-not-is_of.ensures.other

pub returns : goal.returns
returns c =
    second_gets c.args.self.now _ c.args.name.now c.if-is_of.ensures.other
    c.if-not-is_of.ensures.named refl refl
