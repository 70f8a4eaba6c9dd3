use Rattle.std.proofs.Common.{inl, inr, refl}
use Rattle.store_words.proofs.NotedLemmas.{named}
use Rattle.night_program.proofs.DriveLemmas.{answers_drive}
use Rattle.night_program.proofs.drives.drive_file.Goals as goal

pub returns : goal.returns
returns g c =
    inr record {
      given = c.in-Ok.opened.disk;
      left = c.drive-done.result.1;
      held = record {
        opened = c.open.new.self;
        after = c.open.new.self;
        opens = c.in-Ok.ensures.opens;
        did = refl;
        closes = c.close.ensures;
      };
      settled = c.in-Ok.ensures.settled;
      done = c.drive-done.result.0;
      leaves = c.drive-done.ensures;
      answers = answers_drive _ _ (named c.args.store.now c.in-Ok.ensures.noted) c.driven.ensures;
    }

pub returns-in-Err : goal.returns-in-Err
returns-in-Err g c =
    inl (
      (c.no_file.result, c.in-Err.error, c.in-Err.ensures.not.0, refl, c.no_file.ensures),
      c.in-Err.ensures.not.1,
      refl,
      refl,
    )
