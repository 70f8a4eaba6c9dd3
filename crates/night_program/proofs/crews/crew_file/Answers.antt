use Rattle.std.proofs.Common.{◌≡◌, ◌∙◌, ℕ, arith, inl, inr, refl, subst, true, vec_len}
use Rattle.std.specs.Prelude.{None, Some, ⊤}
use Rattle.run_crew.specs.Crews.{CrewEnds}
use Rattle.run_crew.specs.Nights.{OfDesk}
use Rattle.run_crew.proofs.SomeShifts.{crew_shifts}
use Rattle.night_program.specs.Crews.{AreOpenShifts, IsLooked}
use Rattle.store_words.proofs.NotedLemmas.{named}
use Rattle.night_program.proofs.Looking.{answers_crew, found_is, looked_first, looked_not}
use Rattle.night_program.proofs.crews.crew_file.Goals as goal
use Rattle.night_program.proofs.crews.crew_file.Goals.{then-known+in-Ok-None, else-known}

pub returns-in-Ok-Some : goal.returns-in-Ok-Some
returns-in-Ok-Some g c =
    inr (inr (inr (
      c.if-known.true,
      record {
        given = c.in-Ok.opened.disk;
        read = c.unknown_on.new.disk;
        held = record {
          opened = c.open.new.self;
          after = c.open.new.self;
          opens = c.in-Ok.ensures.opens;
          did = refl;
          closes = c.close.ensures;
        };
        settled = c.in-Ok.ensures.settled;
        stops = inl (
          c.in-Ok-Some.unknown,
          found_is g.F.Disk.RunDisk.state c.in-Ok.opened.disk c.unknown_on.result
              c.in-Ok-Some.field-0 (Some c.in-Ok-Some.unknown) c.unknown_on.new.disk
              c.unknown_on.ensures c.in-Ok-Some.is c.in-Ok-Some.field-0-is,
          refl,
        );
        output = refl;
      },
    )))

pub returns-in-Err-unknown_on : goal.returns-in-Err-unknown_on
returns-in-Err-unknown_on g c =
    inr (inr (inr (
      c.if-known.true,
      record {
        given = c.in-Ok.opened.disk;
        read = c.unknown_on.new.disk;
        held = record {
          opened = c.open.new.self;
          after = c.open.new.self;
          opens = c.in-Ok.ensures.opens;
          did = refl;
          closes = c.close-in-Err-unknown_on.ensures;
        };
        settled = c.in-Ok.ensures.settled;
        stops = inr (
          c.in-Err-unknown_on.fault,
          c.in-Err-unknown_on.ensures,
          (
            c.failed_over.result,
            refl,
            c.failed_over.ensures.fault ∙ c.from-in-Err-unknown_on.ensures,
            named c.args.store.now c.in-Ok.ensures.noted c.failed_over.result
                c.failed_over.ensures.file,
          ),
        );
        output = refl;
      },
    )))

pub returns : goal.returns
returns g c =
    let count : vec_len c.truncate.new.self ≡ c.args.workers =
    omega (
      arith,
      c.truncate.ensures.len,
      c.if-len-from.false,
      c.len.ensures,
      c.from.ensures,
      c.from-2.ensures,
    ) in
    let P : ℕ → Type 0 = λ n. CrewEnds g.F.Disk.RunDisk.state
    (AreOpenShifts g.F.Disk.RunDisk.state) c.if-known.disk n c.crew_over-done.result.0
    c.crew_over-done.result.1
    (g.O.Write.contents c.args.output.now) (g.O.Write.contents c.crew_over-done.new.output) in
    let looked : IsLooked g.F.Disk.RunDisk.state c.args.known c.in-Ok.opened.disk c.if-known.disk =
    elim c.if-known.branch [
      | then-known+in-Ok-None w ↦
          looked_first g.F.Disk.RunDisk.state c.in-Ok.opened.disk c.args.known c.if-known.disk
          w.unknown_on.new.disk w.if-known.true
          (found_is g.F.Disk.RunDisk.state c.in-Ok.opened.disk w.unknown_on.result
          w.in-Ok-None.field-0 None w.unknown_on.new.disk w.unknown_on.ensures
          w.in-Ok-None.is w.in-Ok-None.field-0-is)
          w.disk-is
      | else-known w ↦
          looked_not g.F.Disk.RunDisk.state c.in-Ok.opened.disk c.args.known c.if-known.disk
          w.if-known.false w.disk-is
    ] in
    inr (inr (inl record {
      given = c.in-Ok.opened.disk;
      begun = c.if-known.disk;
      left = c.crew_over-done.result.1;
      done = c.crew_over-done.result.0;
      held = record {
        opened = c.open.new.self;
        after = c.open.new.self;
        opens = c.in-Ok.ensures.opens;
        did = refl;
        closes = c.close-2.ensures;
      };
      settled = c.in-Ok.ensures.settled;
      looked = looked;
      works = subst P count
          (crew_shifts g.F.Disk.RunDisk.state
          (λ known. OfDesk g.F.Disk.RunDisk.state known (λ task turn answer. answer ≡ true)
          (λ task. ⊤)) (λ b name answer. (g.dyn-1.0.entry b.vtable).1.answers b.value name answer)
          (λ b info turn done answer left.
          (job : _) × (g.dyn-1.0.entry b.vtable).1.turns b.value info turn done answer job
          × (left ≡ record b { value = job })) (λ list. list.items) _ _ _ _ _ _ _
          c.crew_over-done.ensures);
      answers = answers_crew _ _ (named c.args.store.now c.in-Ok.ensures.noted)
          c.worked.ensures;
    }))

pub returns-in-Err : goal.returns-in-Err
returns-in-Err g c =
    inr (inl (
      (c.no_file.result, c.in-Err.error, c.in-Err.ensures.not.0, refl, c.no_file.ensures),
      c.in-Err.ensures.not.1,
      refl,
    ))
