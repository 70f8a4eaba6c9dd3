use Rattle.std.proofs.Common.{Some, subst, sym}
use Rattle.drive_lines.specs.declared.reports.Report.{Report}
use Rattle.drive_nights.specs.declared.untils.Until.{Until}
use Rattle.drive_parts.specs.Plans.{Adds, HasAll, HasLastUntil}
use Rattle.drive_parts.proofs.Planning.{adds_all, adds_command, adds_group, adds_next, adds_until}
use Rattle.drive_parts.proofs.Planning.{ok_then}
use Rattle.drive_parts.proofs.plans.PlanDraft.add.Goals as goal

pub returns-in_ok-with_group-in-Group : goal.returns-in_ok-with_group-in-Group
returns-in_ok-with_group-in-Group c = λ xs is.
    let e = c.in_ok-with_group-in-Group.field-0 in
    let P : Report → Type 0 = λ r. Adds xs r (Some e) in
    subst P (sym c.in-Group.is) (adds_group xs c.args.self e c.in-Group.group c.in-Group.name
    c.in_ok-with_group-in-Group.ensures.groups c.in_ok-with_group-in-Group.ensures.commands
    c.in_ok-with_group-in-Group.ensures.pools c.in_ok-with_group-in-Group.ensures.all
    c.in_ok-with_group-in-Group.ensures.next is)

pub returns-in_ok-with_command-in-Command : goal.returns-in_ok-with_command-in-Command
returns-in_ok-with_command-in-Command c = λ xs is.
    let e = c.in_ok-with_command-in-Command.field-0 in
    let P : Report → Type 0 = λ r. Adds xs r (Some e) in
    subst P (sym c.in-Command.is)
    (adds_command xs c.args.self e c.in-Command.outline c.in-Command.key
    c.in_ok-with_command-in-Command.ensures.commands
    c.in_ok-with_command-in-Command.ensures.groups
    c.in_ok-with_command-in-Command.ensures.pools c.in_ok-with_command-in-Command.ensures.all
    c.in_ok-with_command-in-Command.ensures.next is)

pub returns-in-Some : goal.returns-in-Some
returns-in-Some c =
    ok_then c.with_until.result (λ draft has xs is.
    let P : Report → Type 0 = λ r. Adds xs r draft in
    let Q : Until → Type 0 = λ u. HasLastUntil u c.args.self draft in
    subst P (sym c.in-Until.is)
    (adds_until xs c.args.self draft c.in-Until.moment c.in-Until.words c.in-Some.ensures.0
    (subst Q c.in-Some.ensures.1 has) is)) c.with_until.ensures

pub returns-in-Some-until_of : goal.returns-in-Some-until_of
returns-in-Some-until_of c = λ xs is.
    let P : Report → Type 0 = λ r. Adds xs r c.with_all.result in
    let Q : Until → Type 0 = λ u. HasAll u c.args.self c.with_all.result in
    subst P (sym c.in-All.is)
    (adds_all xs c.args.self c.with_all.result c.in-All.moment c.in-All.words
    c.in-Some-until_of.ensures.0 (subst Q c.in-Some-until_of.ensures.1 c.with_all.ensures) is)

pub returns-in-Next : goal.returns-in-Next
returns-in-Next c = λ xs is.
    let e = c.with_next.result in
    let P : Report → Type 0 = λ r. Adds xs r (Some e) in
    subst P (sym c.in-Next.is) (adds_next xs c.args.self e c.with_next.ensures.commands
    c.with_next.ensures.groups c.with_next.ensures.pools c.with_next.ensures.all
    c.with_next.ensures.next is)
