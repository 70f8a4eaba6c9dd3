use Rattle.std.proofs.Common.{length}
use Rattle.store_replacement.proofs.CopyLemmas.{always_only, always_only_after, always_only_same}
use Rattle.store_replacement.proofs.CopyLemmas.{copied_part}
use Rattle.store_replacement.proofs.copies.copy_part.Goals as goal

pub returns-in_err-read_at-clause-always : goal.returns-in_err-read_at-clause-always
returns-in_err-read_at-clause-always g c keeps =
    always_only_same (g.C.Folder.number c.args.to.now) _ _ _ _ c.read_at.result
    (c.read_at.ensures.goes_on keeps) (c.read_at.ensures.same keeps)

pub returns-clause-always : goal.returns-clause-always
returns-clause-always g c keeps =
    let read = c.read_at.ensures.kept keeps in
    let made = g.C.Folder.number c.args.to.now in
    always_only_after made _ _ _ _ _ _
    (always_only_same made _ _ _ _ c.read_at.result (c.read_at.ensures.goes_on keeps)
    (c.read_at.ensures.same keeps))
    (always_only made _ _ _ _ c.write_at.result (c.write_at.ensures.goes_on read)
    (c.write_at.ensures.only read))

pub returns-clause-done : goal.returns-clause-done
returns-clause-done g c keeps now intact =
    let read = c.read_at.ensures.kept keeps in
    copied_part c.args.at (length c.args.part.now) (g.C.Folder.number c.args.to.now) _ _ _ _ _
    c.write_at.result (c.read_at.ensures.same keeps) (c.write_at.ensures.only read) now intact
    (c.in_ok-read_at.ensures.within keeps) (c.in_ok-read_at.ensures.bytes keeps)
    (c.write_at.ensures.writes read)
