-- One standing more.
use Rattle.std.specs.Prelude.{◌≡◌, ◌<◌, ◌+◌, ◌++◌, ◌∷◌, ℕ, suc, zero, List, [], length, take}
use Rattle.std.proofs.Common.{arith, ap, ◌∙◌, get_or, add-zero, sym, append_assoc, add-one}
use Rattle.std.proofs.Common.{zero-add}
use Rattle.night_plan.specs.declared.standings.Standing.{Standing}
use Rattle.plan_lines.specs.declared.answers.AnswerLine.{AnswerLine}
use Rattle.plan_lines.specs.declared.answers.AnswerLine.TheVariants as answer
use Rattle.plan_lines.specs.Rounds.{standing_lines}

moved : (i k : ℕ) → i + 1 + k ≡ i + suc k
moved i k = omega arith

-- The lines of one standing more are those of the ones before it, and its own.
pub one_more : (i k : ℕ) (all : List Standing) (d : Standing) → k < length all
    → standing_lines i (take (suc k) all)
    ≡ standing_lines i (take k all) ++ answer.Stands (i + k) (get_or all k d) ∷ []
one_more i k [] d h = absurd (omega (arith, h))
one_more i zero (s ∷ all) d h = ap (λ n. answer.Stands n s ∷ []) (sym (add-zero i))
one_more i (suc k) (s ∷ all) d h =
    ap (λ l. answer.Stands i s ∷ l)
    (one_more (i + 1) k all d (omega (arith, h))
    ∙ ap (λ n. standing_lines (i + 1) (take k all) ++ answer.Stands n (get_or all k d) ∷ [])
    (moved i k))

-- So a line that is appended for the next standing leaves the lines of all up to it.
pub appended : (first old new : List AnswerLine) (k : ℕ) (all : List Standing) (d : Standing)
    → k < length all → old ≡ first ++ standing_lines 0 (take k all)
    → new ≡ old ++ answer.Stands k (get_or all k d) ∷ []
    → new ≡ first ++ standing_lines 0 (take (k + 1) all)
appended first old new k all d h before is =
    is ∙ ap (λ (l : List AnswerLine). l ++ answer.Stands k (get_or all k d) ∷ []) before
    ∙ append_assoc first (standing_lines 0 (take k all)) (answer.Stands k (get_or all k d) ∷ [])
    ∙ ap (λ n. first ++ (standing_lines 0 (take k all) ++ answer.Stands n (get_or all k d) ∷ []))
    (sym (zero-add k))
    ∙ ap (λ (l : List AnswerLine). first ++ l) (sym (one_more 0 k all d h))
    ∙ ap (λ n. first ++ standing_lines 0 (take n all)) (sym (add-one k))
