use Rattle.std.proofs.Common.{◌≡◌, arith, refl, subst}
use Rattle.std.specs.Prelude.{replicate}
use Rattle.std.proofs.lemmas.Grind.{common_steps}
use Rattle.std.proofs.lemmas.List.{take-replicate}
use Rattle.file_calls.specs.Folders.{IsOnly}
use Rattle.store_replacement.specs.Replacements.{IsCopied}
use Rattle.store_replacement.proofs.CopyLemmas.{always_only, always_only_after, only_itself}
use Rattle.store_replacement.proofs.MomentLemmas.{always_start}
use Rattle.store_replacement.proofs.NewFileLemmas.{filled_next, filled_none}
use Rattle.store_replacement.proofs.new_files.fill.Goals as goal

pub loop-at-init : goal.loop-at-init
loop-at-init g c = record {
  within = omega arith;
  kept = λ keeps. keeps;
  always = λ keeps. always_start (IsOnly (g.C.Folder.number c.args.file.now) _) _ _
      (only_itself (g.C.Folder.number c.args.file.now) _);
  done = λ keeps empty intact. filled_none (g.C.Folder.number c.args.file.now) _ empty intact;
}

pub loop-at-preserved : goal.loop-at-preserved
loop-at-preserved g c = record {
  within = grind (arith, common_steps);
  kept = λ keeps. c.write_at.ensures.kept (c.loop-at.invariant.kept keeps);
  always = λ keeps. let kept = c.loop-at.invariant.kept keeps in
      always_only_after (g.C.Folder.number c.args.file.now) _ _ _ _ _ _
      (c.loop-at.invariant.always keeps)
      (always_only (g.C.Folder.number c.args.file.now) _ _ _ _ c.write_at.result
      (c.write_at.ensures.goes_on kept) (c.write_at.ensures.only kept));
  done = λ keeps empty intact. let kept = c.loop-at.invariant.kept keeps in
      filled_next c.loop-at.at _ c.min-count.result (g.C.Folder.number c.args.file.now) _ _ _ _ _
      (c.loop-at.invariant.done keeps empty intact)
      (take-replicate c.min-count.result 4096 0 (grind (arith, common_steps)))
      (c.write_at.ensures.only kept) (c.in_ok-write_at.ensures.writes kept) refl;
}

pub returns-in_err-write_at-clause-always : goal.returns-in_err-write_at-clause-always
returns-in_err-write_at-clause-always g c keeps =
    let kept = c.loop-at.invariant.kept keeps in
    always_only_after (g.C.Folder.number c.args.file.now) _ _ _ _ _ _
    (c.loop-at.invariant.always keeps)
    (always_only (g.C.Folder.number c.args.file.now) _ _ _ _ c.write_at.result
    (c.write_at.ensures.goes_on kept) (c.write_at.ensures.only kept))

pub returns-clause-done : goal.returns-clause-done
returns-clause-done g c keeps empty intact =
    let all : c.loop-at.at ≡ c.args.size =
    omega (arith, c.loop-at-test.false, c.loop-at.invariant.within) in
    let s = g.C.Folder.state c.args.folder.now in
    subst (λ size. IsCopied (replicate size 0) (g.C.Folder.number c.args.file.now) s
    (g.C.Folder.state c.loop-at.folder)) all
    (c.loop-at.invariant.done keeps empty intact)
