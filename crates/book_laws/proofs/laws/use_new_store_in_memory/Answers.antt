use Rattle.std.proofs.Common.{◌∙◌}
use Rattle.book_laws.proofs.laws.use_new_store_in_memory.Goals as goal

pub returns-in-Ok-use_new_store : goal.returns-in-Ok-use_new_store
returns-in-Ok-use_new_store g c =
    let begins = c.in-Ok.ensures.begins in record {
      lasts = c.in-Ok-use_new_store.ensures.lasts begins.honest begins.rest c.args.layout
          (c.in-Ok.ensures.size ∙ c.store_len.ensures);
    }
