use Rattle.std.proofs.Common.{ap, inl, inr, refl}
use Rattle.std.specs.Prelude.{Err}
use Rattle.night_program.proofs.LineLemmas.{ran}
use Rattle.night_program.proofs.scripts.script.Goals as goal

pub returns-in-Ok : goal.returns-in-Ok
returns-in-Ok g c =
    let opens = c.in-Ok.ensures.opens in
    let sound = opens.answer.opened.sound in
    inl record {
      before = c.in-Ok.book;
      after = c.run_until-answer.new.book;
      opened = opens;
      begun = c.in-Ok.ensures.session;
      runs = ran g.D.RunDisk.state c.args.until c.run_until-answer.result _ _ _ _ c.in-Ok.book
          c.run_until-answer.new.book c.run_until-answer.ensures.runs
          (c.run_until-answer.ensures.stops sound);
      lasts = c.run_until-answer.ensures.lasts;
      carries_on = c.run_until-answer.ensures.carries_on;
      disk = c.into_disk.ensures;
    }

pub returns-in-Err : goal.returns-in-Err
returns-in-Err g c =
    inr (c.in-Err.fault, ap Err c.from.ensures, c.in-Err.ensures.opens, refl, refl)
