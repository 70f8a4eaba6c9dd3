use Rattle.std.proofs.Common.{◌+◌, List, ℕ, subst, sym, take}
use Rattle.std.proofs.lemmas.List.{take_rest}
use Rattle.drive_lines.specs.Cuts.{IsLastCut}
use Rattle.drive_lines.proofs.Spaces.{last_at, nowhere_none}
use Rattle.drive_lines.proofs.cuts.last_word.Goals as goal

pub returns-in-Some : goal.returns-in-Some
returns-in-Some c =
    let line = c.args.line.now in
    let at = c.in-Some.at in
    let found = c.in-Some.ensures in
    subst (λ (rest : List ℕ). IsLastCut line (take at line) rest) (sym (take_rest line (at + 1)))
    (last_at line at found.0.high found.1 found.0.after)

pub returns-in-None : goal.returns-in-None
returns-in-None c = nowhere_none c.args.line.now c.in-None.ensures
