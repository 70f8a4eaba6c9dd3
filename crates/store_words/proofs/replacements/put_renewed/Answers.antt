use Rattle.std.proofs.Common.{inl, inr, List, refl, subst, ℕ}
use Rattle.store_files.specs.Files.{beside}
use Rattle.store_words.proofs.NotedLemmas.{named, names_of}
use Rattle.store_words.proofs.replacements.put_renewed.Goals as goal

pub returns-in-Ok-put : goal.returns-in-Ok-put
returns-in-Ok-put g c =
    record {
      read = c.renew-done.new.old;
      left = c.renew-done.result.1;
      done = c.renew-done.result.0;
      remakes = c.renew-done.ensures;
      puts = rw c.in-Ok.is (inl (
        rw c.requires.named at c.in-Ok-put.ensures.put,
        (c.print_sizes.result, c.print_sizes.ensures, c.done_alone.ensures),
      ));
    }

pub returns-in-Ok : goal.returns-in-Ok
returns-in-Ok g c =
    record {
      read = c.renew-done.new.old;
      left = c.renew-done.result.1;
      done = c.renew-done.result.0;
      remakes = c.renew-done.ensures;
      puts = rw c.in-Ok.is (inr (
        c.in-Err-put.error,
        rw c.requires.named at c.in-Err-put.ensures.not,
        (c.not_put.result, refl, c.not_put.ensures),
        refl,
      ));
    }

pub returns : goal.returns
returns g c =
    let Gone : List ℕ → Type 0 = λ name.
    g.F.Files.seen.removes c.args.files.now name c.remove.new.self in
    record {
      read = c.renew-done.new.old;
      left = c.renew-done.result.1;
      done = c.renew-done.result.0;
      remakes = c.renew-done.ensures;
      puts = rw c.in-Err.is (
        record {
          bare = c.remove.new.self;
          removed = subst Gone c.requires.named c.remove.ensures;
          closes = c.close.ensures;
        },
        (
          c.failed_of.result,
          refl,
          c.failed_of.ensures.fault,
          names_of _ c.failed_of.result (named c.args.store.now c.requires.old)
              (named (beside c.args.store.now) c.requires.new) c.failed_of.ensures.file,
        ),
        refl,
      );
    }
