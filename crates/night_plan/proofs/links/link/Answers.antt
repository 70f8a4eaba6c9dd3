use Rattle.std.proofs.Common.{◌≡◌, ◌<◌, ◌+◌, ◌∷◌, [], ◌++◌, ◌∙◌, ℕ, List, ap, arith, length}
use Rattle.std.proofs.Common.{set, subst, sym}
use Rattle.std.specs.Prelude.{slice_index}
use Rattle.std.proofs.lemmas.List.{get_or_read}
use Rattle.night_plan.specs.declared.commands.Command.{Command}
use Rattle.night_plan.specs.Links.{AreLinks}
use Rattle.night_plan.proofs.Linking.{linked_more}
use Rattle.night_plan.proofs.Rows.{read}
use Rattle.night_plan.proofs.links.link.Goals as goal

pub loop-c-preserved : goal.loop-c-preserved
loop-c-preserved c =
    let commands = c.args.commands.now in
    let command = c.index-commands-c.result in
    let last = c.loop-c.last.items in
    let below : c.loop-c.c < length commands = omega arith in
    let is = read commands c.loop-c.c command below c.index-commands-c.is in
    let own : command.group < c.args.groups =
    subst (λ (x : Command). x.group < c.args.groups) (sym c.index-commands-c.is)
    (c.requires c.loop-c.c command below) in
    let grouped = c.loop-c.invariant.grouped in
    let at : slice_index last command.group ≡ c.index.result.now =
    sym (get_or_read last command.group c.index.result.now (omega (arith, own, grouped))
    c.index.ensures 0) in
    subst (λ (xs : List ℕ). AreLinks commands c.args.groups (c.loop-c.c + 1) xs
    (set last command.group (c.loop-c.c + 1)))
    (ap (λ (k : ℕ). c.loop-c.before.items ++ k ∷ []) at ∙ sym c.in_ok-push.ensures.items)
    (linked_more commands c.args.groups c.loop-c.c c.loop-c.before.items last command is own
    c.loop-c.invariant)

pub returns : goal.returns
returns c =
    subst (λ k. AreLinks c.args.commands.now c.args.groups k c.loop-c.before.items
    c.loop-c.last.items)
    (let e : c.loop-c.c ≡ length c.args.commands.now = omega arith in e) c.loop-c.invariant
