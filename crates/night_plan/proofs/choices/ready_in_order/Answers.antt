use Rattle.std.proofs.Common.{◌≡◌, ◌∙◌, List, ap, map, rules, subst, sym}
use Rattle.std.proofs.lemmas.Result.{IfOk-weaker}
use Rattle.std.proofs.lemmas.List.Sorted.{answers_always}
use Rattle.night_plan.specs.declared.choices.Candidate.{Candidate}
use Rattle.night_plan.specs.Nights.{night}
use Rattle.night_plan.specs.Queues.{IsQueue}
use Rattle.night_plan.proofs.Queueing.{queue_of}
use Rattle.night_plan.proofs.choices.ready_in_order.Goals as goal

pub returns : goal.returns
returns c =
    let n = night c.args.plan.now c.args.facts.now in
    let all = c.args.all.now in
    let xs = c.in_ok-queue.queue.items in
    let ys = c.sort_by_key.new.self.items in
    let key = λ (it : Candidate). it.key in
    let is = queue_of n all xs ys c.in_ok-queue.ensures c.in_ok-sort_by_key.ensures.permutation
    (c.in_ok-sort_by_key.ensures.sorted key (answers_always _ _ _ (λ f a r g h. search rules)))
    (c.in_ok-sort_by_key.ensures.stable key (answers_always _ _ _ (λ f a r g h. search rules))) in
    IfOk-weaker c.numbers.result
    (λ out. out.items ≡ map (λ (it : Candidate). it.command) c.as_slice.result.now)
    (λ out. IsQueue n all out.items)
    (λ out same. subst (IsQueue n all) (sym (same
    ∙ ap (λ (zs : List Candidate). map (λ (it : Candidate). it.command) zs)
    c.as_slice.ensures.value)) is) c.numbers.ensures
