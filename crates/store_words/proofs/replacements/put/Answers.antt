use Rattle.std.proofs.lemmas.Result.{IfErr-weaker}
use Rattle.store_words.proofs.replacements.put.Goals as goal

pub returns-then-is_err-clause-not : goal.returns-then-is_err-clause-not
returns-then-is_err-clause-not g c =
    IfErr-weaker c.replace-done.result _ _
    (λ error left. record {
      refused = left.0;
      tried = c.replace-done.new.self;
      which = left.1;
      removed = c.remove.ensures;
    })
    c.replace-done.ensures.left

pub returns-else-is_err-clause-put : goal.returns-else-is_err-clause-put
returns-else-is_err-clause-put g c = c.replace-done.ensures.done
