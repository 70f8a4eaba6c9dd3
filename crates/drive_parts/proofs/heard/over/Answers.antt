use Rattle.std.proofs.Common.{◌∙◌, Option, subst, sym, ℕ}
use Rattle.std.proofs.lemmas.Bool.{both_ways}
use Rattle.drive_parts.specs.Heard.{ReadsTask}
use Rattle.drive_parts.proofs.Hearing.{lives_at, named_at, none_past}
use Rattle.drive_parts.proofs.heard.over.Goals as goal

pub returns-in_err-task : goal.returns-in_err-task
returns-in_err-task c = λ xs are.
    let P : Option ℕ → Type 0 = λ o. ReadsTask c.args.living.now xs c.args.task o in
    subst P (sym c.from_residual.ensures) (λ may.
    none_past c.args.living.now c.args.task (λ k. (c.type_inv.living k).fits)
    c.in_err-task.ensures may.lives)

pub returns-then-not-is_in : goal.returns-then-not-is_in
returns-then-not-is_in c = λ xs are may.
    both_ways c.is_in.result c.if-not-is_in.true
    (sym (lives_at c.args.living.now c.args.task c.in_ok-task.task c.is_in.result
    c.in_ok-task.ensures c.is_in.ensures)
    ∙ may.lives)

pub returns-then-is_named : goal.returns-then-is_named
returns-then-is_named c = λ xs are may.
    both_ways c.is_named.result
    (sym (named_at xs c.args.heard.now c.args.task c.in_ok-task.task c.is_named.result are
    c.in_ok-task.ensures c.is_named.ensures)
    ∙ may.first) c.if-is_named.true

pub returns : goal.returns
returns c = λ xs are. (
  record {
    lives =
        lives_at c.args.living.now c.args.task c.in_ok-task.task c.is_in.result
        c.in_ok-task.ensures c.is_in.ensures
        ∙ c.if-not-is_in.false;
    first =
        named_at xs c.args.heard.now c.args.task c.in_ok-task.task c.is_named.result are
        c.in_ok-task.ensures c.is_named.ensures
        ∙ c.if-is_named.false;
  },
  sym c.in_ok-task.ensures,
)
