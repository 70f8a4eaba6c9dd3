use Rattle.run_model.proofs.Common.{◌≡◌, ℕ, not, List, [], ◌∷◌, length, Result, Ok, Err, ap, sym}
use Rattle.run_model.proofs.Common.{◌∙◌, rules, ltb-true, not-false, refusals, tested, and_then}
use Rattle.run_model.proofs.Common.{TreeState, WorkState, new_tree, each_fails, unless_Ok, admits}
use Rattle.run_model.proofs.Common.{limit_of, unfinished_in}
use Rattle.run_model.specs.declared.refusals.Refusal.{Refusal}
use Rattle.run_model.specs.declared.refusals.Refusal.TheVariants as refusal
use Rattle.run_model.specs.Event as event
use Rattle.run_model.proofs.RefusalLemmas.{unless_tested}
use Rattle.task_group.specs.Checks.{Answers}
use Rattle.task_group.proofs.groups.Groups.check_try.Goals as goal

-- A task that is to be ready at once is asked what each task is, and whether it is admitted.
try_asked : (w : WorkState) (g : ℕ) (answer : Result (Unit {0}) Refusal)
    (job argument : List ℕ) (count : ℕ) (tree : TreeState)
    → ((job argument : List ℕ) → Answers w (event.Go g job argument) answer)
    → and_then answer (λ _. tested
    ((not (admits (limit_of w g) (unfinished_in g w.tasks)), refusal.AtLimit) ∷ []))
    ≡ tested (refusals (record { count = count; tree = tree; work = w })
    (event.TryGo g job argument))
try_asked w g answer job argument count tree asked =
    let group_count : Result (Unit {0}) Refusal =
    tested ((not (admits (limit_of w g) (unfinished_in g w.tasks)), refusal.AtLimit) ∷ []) in
    ap (λ a. and_then a (λ _. group_count)) (asked job argument count tree)
    ∙ sym (unless_tested
    (refusals (record { count = count; tree = tree; work = w }) (event.Go g job argument))
    group_count)

pub returns-in_err-check_go : goal.returns-in_err-check_go
returns-in_err-check_go g c job argument count tree =
    let same : c.from_residual.result ≡ Err c.in_err-check_go.field-0.0 = search rules in
    same
    ∙ try_asked c.args.self.now c.args.group (Err c.in_err-check_go.field-0.0) job argument count
    tree c.in_err-check_go.ensures

pub admits_more-requires : goal.admits_more-requires
admits_more-requires g c =
    let w = c.args.self.now in
    let asked = refusals (record { count = 0; tree = new_tree w.layout; work = w })
    (event.Go c.args.group [] []) in
    let none = (unless_Ok asked (Ok tt) tt
    (sym (c.in_ok-check_go.ensures [] [] 0 (new_tree w.layout)))).0 in
    ltb-true c.args.group (length w.groups) (not-false _ (each_fails asked none).0)

pub returns-then-not-admits_more : goal.returns-then-not-admits_more
returns-then-not-admits_more g c job argument count tree =
    ap (λ b. tested ((not b, refusal.AtLimit) ∷ []))
    (sym c.if-not-admits_more.true ∙ c.admits_more.ensures)
    ∙ try_asked c.args.self.now c.args.group (Ok tt) job argument count tree
    c.in_ok-check_go.ensures

pub returns : goal.returns
returns g c job argument count tree =
    ap (λ b. tested ((not b, refusal.AtLimit) ∷ []))
    (sym c.if-not-admits_more.false ∙ c.admits_more.ensures)
    ∙ try_asked c.args.self.now c.args.group (Ok tt) job argument count tree
    c.in_ok-check_go.ensures
