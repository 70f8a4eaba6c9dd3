use Rattle.std.proofs.Common.{inl, refl}
use Rattle.store_words.proofs.replacements.make_beside.Goals as goal

-- Another program has the file: nothing was done.
pub returns-in-Err-InUse-clause-not : goal.returns-in-Err-InUse-clause-not
returns-in-Err-InUse-clause-not g c =
    record {
      before = c.args.files.now;
      cleared = inl refl;
      only = inl c.in-Err-InUse.ensures.not.1;
      refused = inl (
        rw c.in-Err-InUse.field-0-is at c.in-Err-InUse.ensures.not.0,
        refl,
        c.in-Err-InUse.ensures.not.1,
      );
    }
