use Rattle.std.proofs.Common.{inl, refl}
use Rattle.program_tests.proofs.ShelfLemmas.{gets_none}
use Rattle.program_tests.proofs.shelves.ShelfFiles.replace.Goals as goal

pub returns-then-self-clause-left : goal.returns-then-self-clause-left
returns-then-self-clause-left c = (
  (refl, c.if-self.true),
  inl (record {
    first = c.close.new.self;
    new = c.close.ensures;
    old = c.close-then-self.ensures;
  }),
)

pub returns-clause-done : goal.returns-clause-done
returns-clause-done c = record {
  bare = c.put.new.self;
  gone = gets_none c.args.self.now c.args.self.now c.put.new.self c.args.from.now refl refl
      c.put.ensures;
  put = c.close-2.ensures;
}
