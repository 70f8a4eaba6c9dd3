use Rattle.std.proofs.Common.{◌≡◌, arith, subst, take}
use Rattle.std.proofs.lemmas.Grind.{common_steps}
use Rattle.file_calls.specs.Folders.{IsOnly}
use Rattle.store_replacement.specs.Replacements.{IsCopied}
use Rattle.store_replacement.proofs.CopyLemmas.{always_only_after, copied_next, copied_none}
use Rattle.store_replacement.proofs.CopyLemmas.{only_itself}
use Rattle.store_replacement.proofs.MomentLemmas.{always_start}
use Rattle.store_replacement.proofs.copies.copy_all.Goals as goal

pub loop-at-init : goal.loop-at-init
loop-at-init g c = record {
  within = omega arith;
  kept = λ keeps. keeps;
  always = λ keeps. always_start (IsOnly (g.C.Folder.number c.args.to.now) _) _ _
      (only_itself (g.C.Folder.number c.args.to.now) _);
  done = λ keeps name is. copied_none
      ((g.C.Folder.state c.args.folder.now).file (g.C.Folder.number c.args.from.now)).now
      (g.C.Folder.number c.args.from.now) _ name _ is;
}

pub loop-at-preserved : goal.loop-at-preserved
loop-at-preserved g c = record {
  within = grind (arith, common_steps);
  kept = λ keeps. c.copy_part.ensures.kept (c.loop-at.invariant.kept keeps);
  always = λ keeps. always_only_after (g.C.Folder.number c.args.to.now) _ _ _ _ _ _
      (c.loop-at.invariant.always keeps)
      (c.copy_part.ensures.always (c.loop-at.invariant.kept keeps));
  done = λ keeps name is. copied_next c.loop-at.at _ _ (g.C.Folder.number c.args.from.now) _
      _ _ _ is.apart (c.loop-at.invariant.done keeps name is)
      (c.in_ok-copy_part.ensures.done (c.loop-at.invariant.kept keeps))
      (grind (arith, common_steps));
}

pub returns-in_err-copy_part-clause-always : goal.returns-in_err-copy_part-clause-always
returns-in_err-copy_part-clause-always g c keeps =
    always_only_after (g.C.Folder.number c.args.to.now) _ _ _ _ _ _
    (c.loop-at.invariant.always keeps)
    (c.copy_part.ensures.always (c.loop-at.invariant.kept keeps))

pub returns-clause-done : goal.returns-clause-done
returns-clause-done g c keeps name is =
    let all : c.loop-at.at ≡ c.args.size =
    omega (arith, c.loop-at-test.false, c.loop-at.invariant.within) in
    let s = g.C.Folder.state c.args.folder.now in
    let bytes = (s.file (g.C.Folder.number c.args.from.now)).now in
    subst (λ size. IsCopied (take size bytes) (g.C.Folder.number c.args.to.now) s
    (g.C.Folder.state c.loop-at.folder)) all
    (c.loop-at.invariant.done keeps name is)
