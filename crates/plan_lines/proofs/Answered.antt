-- The answer to a round, put together.
use Rattle.std.specs.Prelude.{◌≡◌, ◌++◌, ◌∷◌, ◌↔◌, ℕ, Bool, true, false, List, [], Contains, map}
use Rattle.std.specs.List.Sorted.{IsStrictlyIncreasing}
use Rattle.std.proofs.Common.{refl, sym, subst, ap, ◌∙◌, append_assoc, append-nil}
use Rattle.night_plan.specs.declared.choices.Choice.{Choice}
use Rattle.night_plan.specs.Choices.{IsChoice}
use Rattle.night_plan.specs.Nights.{night}
use Rattle.night_plan.specs.Stops.{MustStop}
use Rattle.plan_lines.specs.declared.answers.AnswerLine.{AnswerLine}
use Rattle.plan_lines.specs.declared.answers.AnswerLine.TheVariants as answer
use Rattle.plan_lines.specs.declared.rounds.LineKind.TheVariants as kind
use Rattle.plan_lines.specs.declared.states.PlanState.{PlanState}
use Rattle.plan_lines.specs.LineKinds.{line_of_kind}
use Rattle.plan_lines.specs.Rounds.{AskedLines, AsksAppended, IsAnswer, Stated, later_lines}
use Rattle.plan_lines.specs.Rounds.{standing_lines}

-- The standings, if they are asked for, and if they aren't.
pub asked_for : (s : PlanState) (old new : List AnswerLine) → s.asked ≡ true → Stated s old new
    → AsksAppended s old new
asked_for s old new is stated =
    let at : AskedLines true s (standing_lines 0 stated.0) = (stated.0, stated.1, refl) in (
      standing_lines 0 stated.0,
      subst (λ (b : Bool). AskedLines b s (standing_lines 0 stated.0)) (sym is) at,
      stated.2,
    )

pub not_asked_for : (s : PlanState) (old : List AnswerLine) → s.asked ≡ false
    → AsksAppended s old old
not_asked_for s old is =
    let at : AskedLines false s [] = refl in (
      [],
      subst (λ (b : Bool). AskedLines b s []) (sym is) at,
      sym (append-nil old),
    )

-- Its parts, one after the other.
pub answered : (s : PlanState) (choice : Choice) (stops : List ℕ) (a b d e f : List AnswerLine)
    → IsChoice (night s.plan s.facts) s.time s.facts.sizes.items choice
    → ((c : ℕ) → Contains stops c ↔ MustStop (night s.plan s.facts) c)
    → IsStrictlyIncreasing stops
    → a ≡ map (line_of_kind kind.Begin) choice.commands.items
    → b ≡ a ++ map (line_of_kind kind.Stop) stops
    → d ≡ b ++ later_lines choice.later
    → AsksAppended s d e
    → f ≡ e ++ answer.End ∷ []
    → IsAnswer s f
answered s choice stops a b d e f chosen stopped in_order is_a is_b is_d asks is_f =
    let one = map answer.Begin choice.commands.items in
    let two = map answer.Stop stops in
    let three = later_lines choice.later in
    let end : List AnswerLine = answer.End ∷ [] in
    let all : f ≡ (((one ++ two) ++ three) ++ asks.0) ++ end =
    is_f ∙ ap (λ (l : List AnswerLine). l ++ end)
    (asks.2 ∙ ap (λ (l : List AnswerLine). l ++ asks.0)
    (is_d ∙ ap (λ (l : List AnswerLine). l ++ three)
    (is_b ∙ ap (λ (l : List AnswerLine). l ++ two) is_a))) in
    record {
      choice = choice;
      stops = stops;
      asked = asks.0;
      chosen = chosen;
      stopped = stopped;
      in_order = in_order;
      stands = asks.1;
      lines_are = all ∙ simp append_assoc;
    }

-- Lines that were pushed for the elements of a slice are those of its list.
pub pushed : (f : ℕ → AnswerLine) (new old : List AnswerLine) (xs ys : List ℕ)
    → new ≡ old ++ map f xs → xs ≡ ys → new ≡ old ++ map f ys
pushed f new old xs ys is same = is ∙ ap (λ (l : List ℕ). old ++ map f l) same

pub pushed_first : (f : ℕ → AnswerLine) (new old : List AnswerLine) (xs ys : List ℕ)
    → new ≡ old ++ map f xs → xs ≡ ys → old ≡ [] → new ≡ map f ys
pushed_first f new old xs ys is same none =
    pushed f new old xs ys is same ∙ ap (λ (l : List AnswerLine). l ++ map f ys) none
