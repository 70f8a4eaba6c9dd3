use Rattle.std.specs.Prelude.{IfSome, Option}
use Rattle.std.specs.Global.{Global}
use Rattle.std.proofs.Common.{inl, inr, refl, subst, ◌∙◌}
use Rattle.run_disk.specs.declared.memory_disks.MemoryDisk.{MemoryDisk}
use Rattle.run_disk.specs.MemoryDisks.{state_of}
use Rattle.store_files.specs.declared.file_errors.FileError.TheVariants.{InUse}
use Rattle.store_words.specs.Looks.{IsCopy}
use Rattle.store_words.proofs.NotedLemmas.{answers_over, named}
use Rattle.store_words.proofs.looks.look.Goals as goal
use Rattle.store_words.proofs.looks.look.Goals.{in-Ok-Some, in-Ok-None, in-Err}

pub returns : goal.returns
returns g c =
    let P : Option (MemoryDisk Global) → Type 0 = λ found.
    IfSome found (λ copy. IsCopy g.F.Files.seen (g.F.Disk.RunDisk.state c.args.opened.disk)
    c.steady_copy.new.disk (state_of copy)) in
    elim c.match-steady_copy.branch [
      | in-Ok-Some w ↦ rw w.answer-is (rw w.output-is (inr (
        w.in-Ok-Some.ensures.only,
        inl (
          w.inspect.result,
          record {
            copy = w.in-Ok-Some.copy;
            shown = w.inspect.new.disk;
            is_copy = subst P w.in-Ok-Some.field-0-is w.in-Ok-Some.ensures.copies;
            inspects = w.inspect.ensures;
          },
          answers_over _ _ (named c.args.store.now c.requires.noted) w.done_over-answer.ensures,
        ),
      )))
      | in-Ok-None w ↦ rw w.answer-is (rw w.output-is (inr (
        w.in-Ok-None.ensures.only,
        inr (refl, inl (w.no_file.result, InUse, refl, refl, w.no_file.ensures)),
      )))
      | in-Err w ↦ rw w.answer-is (rw w.output-is (inr (
        w.in-Err.ensures.only,
        inr (
          refl,
          inr (
            w.in-Err.fault,
            w.in-Err.ensures.fault,
            (
              w.failed_over.result,
              refl,
              w.failed_over.ensures.fault ∙ w.from.ensures,
              named c.args.store.now c.requires.noted w.failed_over.result
                  w.failed_over.ensures.file,
            ),
          ),
        ),
      )))
    ]
