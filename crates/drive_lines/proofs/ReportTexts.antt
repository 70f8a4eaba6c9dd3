-- A report is read by its phrase.
use Rattle.std.specs.Prelude.{◌≡◌, ℕ, List, Option, Some, None, IfSome, MatchOption}
use Rattle.std.proofs.Common.{sym, subst}
use Rattle.drive_lines.specs.declared.phrases.Phrase.{Phrase}
use Rattle.drive_lines.specs.declared.reports.Report.{Report}
use Rattle.drive_lines.specs.Phrases.{Spells}
use Rattle.drive_lines.specs.Reports.{SaysReport, report_phrase}
use Rattle.drive_lines.proofs.PhraseTexts.{one_phrase}

-- It is the report of the only phrase that is spelled so.
pub back_by_phrase : (line : List ℕ) (p : Phrase) (r : Option Report) → Spells p line
    → ((x : Report) → report_phrase x ≡ p → r ≡ Some x)
    → (x : Report) → SaysReport x line → r ≡ Some x
back_by_phrase line p r spells back x says =
    back x (one_phrase (report_phrase x) p line says spells)

pub read_by_phrase : (line : List ℕ) (p : Phrase) (r : Option Report) → Spells p line
    → IfSome r (λ x. report_phrase x ≡ p)
    → ((x : Report) → report_phrase x ≡ p → r ≡ Some x)
    → MatchOption r ((x : Report) → SaysReport x line → ⊥) (λ x. SaysReport x line)
read_by_phrase line p None spells says back = λ x s.
    let no : None ≡ Some x = back_by_phrase line p None spells back x s in
    cc
read_by_phrase line p (Some r) spells says back =
    subst (λ (q : Phrase). Spells q line) (sym says) spells
