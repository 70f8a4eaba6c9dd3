use Rattle.std.proofs.Common.{◌∙◌, ap, inr, refl, subst}
use Rattle.std.specs.Prelude.{◌≡◌, ◌++◌, ℕ, List}
use Rattle.std.proofs.lemmas.Result.{err_from_is_err_and}
use Rattle.console_lines.specs.Progress.{WritesPart}
use Rattle.run_crew.specs.Crews.{audit_line, flush_line}
use Rattle.run_crew.proofs.crews.print_report.Goals as goal

pub returns-in_err-write_out : goal.returns-in_err-write_out
returns-in_err-write_out g c =
    let p = err_from_is_err_and c.from_residual.result c.from_residual.ensures.1 in
    let report = c.args.report.now in
    let text = audit_line report.audited report.starts report.finishes
    ++ flush_line report.flushed in
    let whole : c.append_report.new.buffer.items ≡ text =
    c.append_report.ensures ∙ ap (λ t. t ++ text) c.new-buffer.ensures in
    let P : List ℕ → Type 0 = λ t. WritesPart (g.W.Write.contents c.args.output.now)
    (g.W.Write.contents c.write_out.new.output) t in
    rw (p.1, p.2, c.in_err-write_out.ensures.fault) (
    inr (refl, subst P whole c.in_err-write_out.ensures.cut))
