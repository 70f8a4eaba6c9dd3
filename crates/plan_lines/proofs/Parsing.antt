-- A line is read by its tokens.
use Rattle.std.specs.Prelude.{◌≤◌, ℕ, List, Option, Some, None, MatchOption, length}
use Rattle.std.proofs.Common.{sym, subst}
use Rattle.plan_lines.specs.declared.lines.PlanLine.{PlanLine}
use Rattle.plan_lines.specs.declared.tokens.Token.{Token}
use Rattle.plan_lines.specs.Lines.{Means, Parses, line_tokens}
use Rattle.plan_lines.specs.Tokens.{IsRow}
use Rattle.plan_lines.proofs.Rows.{same_row}

-- It consists of tokens.
pub means_by_tokens : (r : Option PlanLine) (tokens : List Token) (bytes : List ℕ)
    → length bytes ≤ 255 → IsRow tokens bytes → Parses tokens r
    → MatchOption r ((parsed : PlanLine) → Means bytes parsed → ⊥) (λ parsed. Means bytes parsed)
means_by_tokens None tokens bytes short row parses = λ parsed means.
    parses parsed means.fits (same_row (line_tokens parsed) tokens bytes means.row row)
means_by_tokens (Some parsed) tokens bytes short row parses = record {
  short = short;
  fits = parses.0;
  row = subst (λ (l : List Token). IsRow l bytes) (sym parses.1) row;
}
