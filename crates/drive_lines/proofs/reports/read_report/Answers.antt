use Rattle.drive_lines.proofs.ReportTexts.{back_by_phrase, read_by_phrase}
use Rattle.drive_lines.proofs.reports.read_report.Goals as goal

pub returns-clause-read : goal.returns-clause-read
returns-clause-read c =
    read_by_phrase c.args.line.now c.in_ok-phrase.phrase c.report_of.result c.in_ok-phrase.ensures
    c.report_of.ensures.says c.report_of.ensures.back

pub returns-clause-back : goal.returns-clause-back
returns-clause-back c =
    back_by_phrase c.args.line.now c.in_ok-phrase.phrase c.report_of.result c.in_ok-phrase.ensures
    c.report_of.ensures.back
