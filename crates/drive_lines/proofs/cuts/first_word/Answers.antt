use Rattle.std.proofs.Common.{◌+◌, ◌∙◌, Some, ap, sym}
use Rattle.std.proofs.lemmas.List.{take_rest}
use Rattle.drive_lines.proofs.Spaces.{first_alone, first_at, nowhere_none, rest_alone, rest_at}
use Rattle.drive_lines.proofs.cuts.first_word.Goals as goal

pub returns-in-Some-clause-word : goal.returns-in-Some-clause-word
returns-in-Some-clause-word c =
    let found = c.in-Some.ensures in
    sym (first_at c.args.line.now c.in-Some.at found.0.high found.1 found.0.before)

pub returns-in-Some-clause-rest : goal.returns-in-Some-clause-rest
returns-in-Some-clause-rest c =
    let found = c.in-Some.ensures in
    ap Some (take_rest c.args.line.now (c.in-Some.at + 1))
    ∙ sym (rest_at c.args.line.now c.in-Some.at found.0.high found.1 found.0.before)

pub returns-in-None-clause-word : goal.returns-in-None-clause-word
returns-in-None-clause-word c =
    sym (first_alone c.args.line.now (nowhere_none c.args.line.now c.in-None.ensures))

pub returns-in-None-clause-rest : goal.returns-in-None-clause-rest
returns-in-None-clause-rest c =
    sym (rest_alone c.args.line.now (nowhere_none c.args.line.now c.in-None.ensures))
