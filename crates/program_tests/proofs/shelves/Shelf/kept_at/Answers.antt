use Rattle.program_tests.proofs.ShelfLemmas.{first_is, none_is, second_is}
use Rattle.program_tests.proofs.shelves.Shelf.kept_at.Goals as goal

pub returns-then-is_of-clause-has : goal.returns-then-is_of-clause-has
returns-then-is_of-clause-has c =
    first_is c.args.self.now c.args.name.now c.if-is_of.ensures.named

pub returns-then-is_of-2-clause-has : goal.returns-then-is_of-2-clause-has
returns-then-is_of-2-clause-has c =
    second_is c.args.self.now c.args.name.now c.if-is_of.ensures.other
    c.if-is_of-2.ensures.named

pub returns-clause-none : goal.returns-clause-none
returns-clause-none c =
    none_is c.args.self.now c.args.name.now c.if-is_of.ensures.other
    c.if-is_of-2.ensures.other
