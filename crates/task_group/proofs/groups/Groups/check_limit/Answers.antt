use Rattle.run_model.proofs.Common.{◌≡◌, ◌==◌, ℕ, Bool, not, List, [], ◌∷◌, Ok, Err, sym, ap, ◌∙◌}
use Rattle.run_model.proofs.Common.{rules, tested, WorkState, unfinished_in}
use Rattle.run_model.specs.declared.refusals.Refusal.{Refusal}
use Rattle.run_model.specs.declared.refusals.Refusal.TheVariants as refusal
use Rattle.task_group.proofs.Admits.{eqb_apart}
use Rattle.task_group.proofs.Checks.{opens, tested_then}
use Rattle.task_group.proofs.groups.Groups.check_limit.Goals as goal

-- Whether no task of the group is unfinished.
abbrev idle : WorkState → ℕ → List (Bool × Refusal)
idle w g = (not (unfinished_in g w.tasks == 0), refusal.LimitWhileActive) ∷ []

pub returns-in_err-check_open : goal.returns-in_err-check_open
returns-in_err-check_open g c limit count tree =
    let w = c.args.self.now in
    let same : c.from_residual.result ≡ Err c.in_err-check_open.field-0.0 = search rules in
    same ∙ tested_then (opens w c.args.group) (idle w c.args.group) _
    c.in_err-check_open.ensures.first

pub returns-then-unfinished-ne0 : goal.returns-then-unfinished-ne0
returns-then-unfinished-ne0 g c limit count tree =
    let w = c.args.self.now in
    ap (λ b. tested ((not b, refusal.LimitWhileActive) ∷ []))
    (sym (eqb_apart (unfinished_in c.args.group w.tasks) 0
    (λ none. c.if-unfinished-ne0.true (c.unfinished.ensures ∙ none))))
    ∙ tested_then (opens w c.args.group) (idle w c.args.group) (Ok tt)
    c.in_ok-check_open.ensures.first

pub returns : goal.returns
returns g c limit count tree =
    let w = c.args.self.now in
    ap (λ n. tested ((not (n == 0), refusal.LimitWhileActive) ∷ []))
    (sym c.if-unfinished-ne0.false ∙ c.unfinished.ensures)
    ∙ tested_then (opens w c.args.group) (idle w c.args.group) (Ok tt)
    c.in_ok-check_open.ensures.first
