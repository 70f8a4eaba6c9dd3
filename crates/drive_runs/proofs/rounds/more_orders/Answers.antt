use Rattle.std.proofs.Common.{Bool, List, [], ap, inl, inr, length, map, refl, true, false}
use Rattle.std.proofs.Common.{◌++◌, ◌∙◌, ◌≡◌, ◌⊎◌, ◌||◌, ◌==◌}
use Rattle.std.proofs.lemmas.Bool.{OnTrue_at}
use Rattle.night_plan.specs.declared.standings.Standing.{Standing}
use Rattle.plan_lines.specs.Rounds.{later_lines}
use Rattle.drive_lines.specs.declared.orders.Order.{Order}
use Rattle.drive_lines.specs.declared.orders.Order.TheVariants as order
use Rattle.drive_runs.specs.declared.living.Living.{Living}
use Rattle.drive_runs.specs.Asks.{error_lines, questions_of}
use Rattle.drive_runs.specs.Rounds.{asked_lines, is_over}
use Rattle.drive_runs.specs.Stops.{stop_line}
use Rattle.drive_runs.proofs.Ordering.{ordered}
use Rattle.drive_runs.proofs.rounds.more_orders.Goals as goal

-- The standings have to be known.
is_wanted : (asked : Bool) (living slice : List Living) (wanted : Bool) → slice ≡ living
    → wanted ≡ (asked || length slice == 0) → (asked ≡ true) ⊎ (living ≡ []) → wanted ≡ true
is_wanted asked living slice wanted same is (inl holds) =
    is ∙ ap (λ b. b || length slice == 0) holds
is_wanted asked living slice wanted same is (inr none) =
    is ∙ ap (λ (l : List Living). asked || length l == 0) (same ∙ none) ∙ by_asked asked
  where
    by_asked : (b : Bool) → (b || true) ≡ true
    by_asked true = refl
    by_asked false = refl

pub returns-clause-lines : goal.returns-clause-lines
returns-clause-lines g c =
    let adds = c.in_ok-push_stops.ensures.adds in
    let after = c.push_stops.new.sitting in
    let asked = questions_of c.args.heard.now in
    let all : List Standing = c.in_ok-all.all.items in
    record {
      stops = adds.stops;
      due = adds.due;
      standings = all;
      stand = λ why. OnTrue_at (is_wanted asked.standings c.args.sitting.now.kept.living.items
          c.as_slice.result.now c.are_wanted-are_wanted.result c.as_slice.ensures.value
          c.are_wanted-are_wanted.ensures why) c.in_ok-all.ensures;
      next = c.next_in.result;
      comes = c.next_in.ensures;
      lines = ordered c.args.begins.items (map stop_line adds.stops)
          (map order.Answer (later_lines c.next_in.result)) (asked_lines asked.standings all)
          (error_lines c.args.state.now c.args.sitting.now.plan c.args.sitting.now.names asked)
          _ _ _ _
          adds.lines c.in_ok-push_later.ensures
          (c.in_ok-push_standings.ensures
          ∙ ap (λ (l : List Standing). c.push_later.new.orders.items
          ++ asked_lines asked.standings l)
          c.as_slice-4.ensures.value)
          (c.in_ok-append.ensures.items
          ∙ ap (λ (l : List Order). c.push_standings.new.orders.items ++ l)
          c.in_ok-errors.ensures);
      over = c.is_over-over.ensures
          ∙ ap (λ (l : List Standing). is_over l c.as_slice-3.result.now)
          c.as_slice-2.ensures.value
          ∙ ap (λ (l : List Living). is_over all l) c.as_slice-3.ensures.value;
    }
