use Rattle.std.proofs.Common.{◌≡◌, ◌++◌, ◌∷◌, [], ◌∙◌, ℕ, List, ap, arith, length, subst, sym}
use Rattle.night_plan.specs.declared.commands.Command.{Command}
use Rattle.night_plan.specs.Plans.{IsSound}
use Rattle.night_plan.proofs.Growing.{sound_more}
use Rattle.night_plan.proofs.growth.with_command.Goals as goal

pub invariant_of-result : goal.invariant_of-result
invariant_of-result c =
    let plan = c.args.plan in
    let pools = length plan.pools.items in
    let commands : c.push-3.new.self.items ≡ plan.commands.items ++ c.args.command ∷ [] =
    c.in_ok-push-3.ensures.items in
    let count : c.len-2.result ≡ length plan.commands.items = omega arith in
    let place : c.len.result ≡ length plan.order.items = omega arith in
    let order : c.push-2.new.self.items ≡ plan.order.items ++ length plan.commands.items ∷ [] =
    c.in_ok-push-2.ensures.items ∙ ap (λ k. plan.order.items ++ k ∷ []) count in
    let places : c.push.new.self.items ≡ plan.places.items ++ length plan.order.items ∷ [] =
    c.in_ok-push.ensures.items ∙ ap (λ k. plan.places.items ++ k ∷ []) place in
    record {
      sound = subst (λ (xs : List Command). IsSound plan.first plan.groups.items pools xs
          c.push-2.new.self.items c.push.new.self.items) (sym commands)
          (subst (λ (xs : List ℕ). IsSound plan.first plan.groups.items pools
          (plan.commands.items ++ c.args.command ∷ []) xs c.push.new.self.items) (sym order)
          (subst (λ (xs : List ℕ). IsSound plan.first plan.groups.items pools
          (plan.commands.items ++ c.args.command ∷ [])
          (plan.order.items ++ length plan.commands.items ∷ []) xs) (sym places)
          (sound_more plan.first plan.groups.items pools plan.commands.items plan.order.items
          plan.places.items c.args.command plan.sound c.requires)));
    }
