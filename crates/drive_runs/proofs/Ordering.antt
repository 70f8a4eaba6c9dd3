-- Lines are added to an answer.
use Rattle.std.specs.Prelude.{◌≡◌, ◌<◌, ◌+◌, ℕ, List, [], ◌∷◌}
use Rattle.std.specs.Prelude.{◌++◌, Option, Some, length, map, take}
use Rattle.std.proofs.Common.{ap, append_assoc, get_or, refl, sym, ◌∙◌}
use Rattle.std.proofs.lemmas.List.{map-append, map_more}
use Rattle.run_model.specs.State.{State}
use Rattle.night_plan.specs.declared.standings.Standing.{Standing}
use Rattle.plan_lines.specs.declared.answers.AnswerLine.{AnswerLine}
use Rattle.plan_lines.specs.declared.answers.AnswerLine.TheVariants as answer
use Rattle.plan_lines.specs.Rounds.{standing_lines}
use Rattle.plan_lines.proofs.Standing.{appended}
use Rattle.drive_lines.specs.declared.orders.Order.{Order}
use Rattle.drive_lines.specs.declared.orders.Order.TheVariants as order
use Rattle.drive_steps.specs.declared.reported.Begun.{Begun}
use Rattle.drive_runs.specs.Answers.{end_line}
use Rattle.drive_runs.specs.Rounds.{AreBegins, begin_line}

-- A line that begins the next command.
pub begins_more : (p : State) (begun : List Begun) (i : ℕ) (none : Begun) (lines : List Order)
    (line : Order) → i < length begun → AreBegins p (take i begun) lines
    → begin_line p (get_or begun i none) ≡ Some line
    → AreBegins p (take (i + 1) begun) (lines ++ line ∷ [])
begins_more p begun i none lines line less theirs its =
    map_more (begin_line p) begun i none less
    ∙ ap (λ (o : Option Order). map (begin_line p) (take i begun) ++ o ∷ []) its
    ∙ ap (λ (all : List (Option Order)). all ++ Some line ∷ []) theirs
    ∙ sym (map-append Some lines (line ∷ []))

-- A line for the next standing.
pub standing_more : (first old new : List Order) (k : ℕ) (all : List Standing) (d : Standing)
    → k < length all → old ≡ first ++ map order.Answer (standing_lines 0 (take k all))
    → new ≡ old ++ order.Answer (answer.Stands k (get_or all k d)) ∷ []
    → new ≡ first ++ map order.Answer (standing_lines 0 (take (k + 1) all))
standing_more first old new k all d less before is =
    let said : List AnswerLine = standing_lines 0 (take k all) in
    let line : List AnswerLine = answer.Stands k (get_or all k d) ∷ [] in
    is ∙ ap (λ (l : List Order). l ++ map order.Answer line) before
    ∙ append_assoc first (map order.Answer said) (map order.Answer line)
    ∙ ap (λ (l : List Order). first ++ l) (sym (map-append order.Answer said line))
    ∙ ap (λ (l : List AnswerLine). first ++ map order.Answer l)
    (appended [] said (said ++ line) k all d less refl refl)

-- All lines of a round, in order.
pub ordered : (begins stops later asked errors x y z all : List Order) → x ≡ begins ++ stops
    → y ≡ x ++ later → z ≡ y ++ asked → all ≡ z ++ errors
    → all ≡ begins ++ (stops ++ (later ++ (asked ++ errors)))
ordered begins stops later asked errors x y z all one two three four =
    let whole : all ≡ (((begins ++ stops) ++ later) ++ asked) ++ errors =
    four ∙ ap (λ (l : List Order). l ++ errors)
    (three ∙ ap (λ (l : List Order). l ++ asked)
    (two ∙ ap (λ (l : List Order). l ++ later) one)) in
    whole ∙ simp append_assoc

-- The lines of an answer, and those with which it ends.
pub closed : (before lines over x y z all : List Order) → x ≡ before ++ lines
    → y ≡ x ++ order.Durable ∷ [] → z ≡ y ++ over → all ≡ z ++ end_line ∷ []
    → all ≡ before ++ (lines ++ (order.Durable ∷ (over ++ end_line ∷ [])))
closed before lines over x y z all one two three four =
    let end : List Order = end_line ∷ [] in
    let whole : all ≡ (((before ++ lines) ++ order.Durable ∷ []) ++ over) ++ end =
    four ∙ ap (λ (l : List Order). l ++ end)
    (three ∙ ap (λ (l : List Order). l ++ over)
    (two ∙ ap (λ (l : List Order). l ++ order.Durable ∷ []) one)) in
    whole ∙ simp append_assoc
