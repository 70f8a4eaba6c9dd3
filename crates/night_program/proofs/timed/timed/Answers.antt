use Rattle.std.specs.Prelude.{Err}
use Rattle.std.proofs.Common.{ap, inl, inr, refl}
use Rattle.night_program.proofs.timed.timed.Goals as goal

pub returns-in-Ok : goal.returns-in-Ok
returns-in-Ok g c =
    inl record {
      before = c.in-Ok.book;
      after = c.run_timed-answer.new.book;
      opened = c.in-Ok.ensures.opens;
      begun = c.in-Ok.ensures.session;
      runs = c.run_timed-answer.ensures.runs;
      lasts = c.run_timed-answer.ensures.lasts;
      carries_on = c.run_timed-answer.ensures.carries_on;
      disk = c.into_disk.ensures;
    }

pub returns-in-Err : goal.returns-in-Err
returns-in-Err g c =
    inr (c.in-Err.fault, ap Err c.from.ensures, c.in-Err.ensures.opens, refl, refl)
