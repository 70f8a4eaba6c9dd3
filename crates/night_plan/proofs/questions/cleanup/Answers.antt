use Rattle.std.proofs.Common.{◌≡◌, ◌==◌, ◌&&◌, ◌∙◌, List, ap, length, not, subst, sym}
use Rattle.std.proofs.Common.{true, false}
use Rattle.std.specs.Prelude.{All}
use Rattle.std.specs.List.{list_all}
use Rattle.std.proofs.lemmas.List.Sums.{AllPass-from_list_all, list_all-from_AllPass}
use Rattle.night_plan.specs.declared.commands.Need.{Need}
use Rattle.night_plan.specs.Nights.{is_ended}
use Rattle.night_plan.proofs.Rows.{same_truth}
use Rattle.night_plan.proofs.questions.cleanup.Goals as goal

pub returns-then-not-is_empty : goal.returns-then-not-is_empty
returns-then-not-is_empty c =
    let needs = c.args.command.now.needs.items in
    let test = λ (need : Need). is_ended need.when in
    let value = c.as_slice.ensures.value in
    let all : c.all_ends.result ≡ list_all test needs =
    same_truth c.all_ends.result (list_all test needs)
    (λ yes. list_all-from_AllPass test needs
    (subst (λ (xs : List Need). All (λ need. test need ≡ true) xs) value
    (c.all_ends.ensures.0 yes)))
    (λ yes. c.all_ends.ensures.1
    (subst (λ (xs : List Need). All (λ need. test need ≡ true) xs) (sym value)
    (AllPass-from_list_all test needs yes))) in
    let some : (length needs == 0) ≡ false = cc in
    all ∙ sym (ap (λ b. not b && list_all test needs) some)
