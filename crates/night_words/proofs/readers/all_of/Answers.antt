use Rattle.std.specs.Iterator.{Drains}
use Rattle.std.specs.Vec.Iter.{into_iter_steps}
use Rattle.std.proofs.Common.{sym, subst}
use Rattle.night_words.proofs.readers.all_of.Goals as goal

pub returns-in-Ok-clause-words : goal.returns-in-Ok-clause-words
returns-in-Ok-clause-words c =
    let ran = c.in-Ok.ensures.ran in
    let end = ran.1.2 tt in
    subst (Drains into_iter_steps c.args.words) (sym ran.2.0)
    (end.0, (ran.1.0, ran.1.1, end.1))
