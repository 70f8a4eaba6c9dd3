use Rattle.std.proofs.Common.{List, ap, arith, length, ltb, ◌≡◌, ◌∙◌, ℕ}
use Rattle.std.specs.List.{list_all}
use Rattle.drive_runs.specs.declared.living.Living.{Living}
use Rattle.drive_runs.proofs.rounds.are_of_plan.Goals as goal

pub returns : goal.returns
returns c =
    let s = c.args.sitting.now in
    let count : c.len.result ≡ length s.plan.commands.items =
    omega (arith, c.len.ensures, s.plan.commands.ok) in
    c.have_commands.ensures
    ∙ ap (λ (l : List Living). list_all (λ (one : Living). ltb one.command c.len.result) l)
    c.as_slice.ensures.value
    ∙ ap (λ (n : ℕ). list_all (λ (one : Living). ltb one.command n) s.kept.living.items) count
