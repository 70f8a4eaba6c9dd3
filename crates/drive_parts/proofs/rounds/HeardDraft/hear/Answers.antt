use Rattle.std.proofs.Common.{subst}
use Rattle.drive_lines.specs.declared.reports.Report.TheVariants as report
use Rattle.drive_nights.specs.declared.untils.Until.{Until}
use Rattle.drive_parts.specs.Growth.{GrowsByUntil}
use Rattle.drive_parts.specs.Rounds.{draft_of}
use Rattle.drive_parts.proofs.Planning.{ok_then}
use Rattle.drive_parts.proofs.Rounding.{hears_as, hears_command, hears_group, hears_of, hears_until}
use Rattle.drive_parts.proofs.Rounding.{no_growth, parts_of}
use Rattle.drive_parts.proofs.rounds.HeardDraft.hear.Goals as goal

pub returns-in_ok-with_group-in-Group : goal.returns-in_ok-with_group-in-Group
returns-in_ok-with_group-in-Group c = λ old tasks xs is.
    let d = c.args.self in
    let g = c.in_ok-growth.growth in
    let o = c.in_ok-with_group-in-Group.field-0 in
    hears_as old tasks xs c.args.report (report.Group c.in-Group.group c.in-Group.name)
    (draft_of o d.heard d.living) c.grown.result c.in-Group.is c.grown.ensures
    (hears_group old tasks xs d is g c.in-Group.group c.in-Group.name o c.in_ok-growth.ensures
    c.in_ok-with_group-in-Group.ensures)

pub returns-in-Command : goal.returns-in-Command
returns-in-Command c = λ old tasks xs is.
    let d = c.args.self in
    let g = c.in_ok-growth.growth in
    let o = c.with_command.result in
    hears_as old tasks xs c.args.report (report.Command c.in-Command.outline c.in-Command.key)
    (draft_of o d.heard d.living) c.grown-in-Command.result c.in-Command.is
    c.grown-in-Command.ensures
    (hears_command old tasks xs d is g c.in-Command.outline c.in-Command.key o
    c.in_ok-growth.ensures c.with_command.ensures)

pub returns-in_ok-with_until-in-Some : goal.returns-in_ok-with_until-in-Some
returns-in_ok-with_until-in-Some c = λ old tasks xs is.
    let d = c.args.self in
    let g = c.in_ok-growth.growth in
    let o = c.in_ok-with_until-in-Some.field-0 in
    let P : Until → Type 0 = λ u. GrowsByUntil u g o in
    hears_as old tasks xs c.args.report (report.Until c.in-Until.moment c.in-Until.words)
    (draft_of o d.heard d.living) c.grown-in-Some.result c.in-Until.is c.grown-in-Some.ensures
    (hears_until old tasks xs d is g c.in-Until.moment c.in-Until.words o c.in-Some.ensures.0
    c.in_ok-growth.ensures
    (subst P c.in-Some.ensures.1 c.in_ok-with_until-in-Some.ensures))

pub returns-in_default-report : goal.returns-in_default-report
returns-in_default-report c =
    ok_then c.hear_fact.result (λ draft has old tasks xs is.
    hears_of old tasks xs c.args.report draft
    (no_growth c.args.report c.in_default.not-Plan c.in_default-report.not-Group
    c.in_default-report.not-Command c.in_default-report.not-Until)
    (has old tasks xs (parts_of old tasks xs c.args.self is c.in_ok-growth.growth
    c.in_ok-growth.ensures))) c.hear_fact.ensures
