use Rattle.std.proofs.Common.{inl, inr, refl, subst}
use Rattle.run_console.specs.declared.untils.Until.{Until}
use Rattle.night_program.specs.Scripts.{ScriptEnds}
use Rattle.store_words.proofs.NotedLemmas.{answers_strict, named}
use Rattle.night_program.proofs.scripts.script_file.Goals as goal

pub returns : goal.returns
returns g c =
    let Runs : Until → Type 0 = λ until.
    ScriptEnds g.F.Disk.RunDisk.state until c.in-Ok.opened.disk c.script-done.result.0
    c.script-done.result.1
    (g.I.Read.remaining c.args.input.now) (g.I.Read.remaining c.script-done.new.input)
    (g.O.Write.contents c.args.output.now) (g.O.Write.contents c.script-done.new.output) in
    inr record {
      given = c.in-Ok.opened.disk;
      left = c.script-done.result.1;
      held = record {
        opened = c.open.new.self;
        after = c.open.new.self;
        opens = c.in-Ok.ensures.opens;
        did = refl;
        closes = c.close.ensures;
      };
      settled = c.in-Ok.ensures.settled;
      done = c.script-done.result.0;
      runs = subst Runs c.until_of.ensures c.script-done.ensures;
      answers = answers_strict _ _ (named c.args.store.now c.in-Ok.ensures.noted)
          c.strict_over.ensures;
    }

pub returns-in-Err : goal.returns-in-Err
returns-in-Err g c =
    inl (
      (c.no_file.result, c.in-Err.error, c.in-Err.ensures.not.0, refl, c.no_file.ensures),
      c.in-Err.ensures.not.1,
      refl,
      refl,
    )
