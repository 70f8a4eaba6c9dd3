use Rattle.std.proofs.Common.{◌∙◌, ◌<◌, arith, length, rules, subst, sym, tests}
use Rattle.std.proofs.lemmas.Bool.{eqb-true}
use Rattle.std.proofs.lemmas.Bool.Decides.{nat_tests}
use Rattle.std.proofs.lemmas.Iterator.Consumers.{YieldsList-at}
use Rattle.std.proofs.lemmas.Iterator.Splits.{YieldsList-from_slice_split}
use Rattle.std.proofs.lemmas.List.{length_push}
use Rattle.plan_lines.proofs.Rows.{AreFirst, all_first, end_of, not_a_token, one_more_first}
use Rattle.plan_lines.proofs.Rows.{too_many, turn_of}
use Rattle.plan_lines.proofs.Spelling.{is_space}
use Rattle.plan_lines.proofs.tokens.read_tokens.Goals as goal

pub returns-then-is_full : goal.returns-then-is_full
returns-then-is_full c = λ tokens row.
    let turn = turn_of c.loop-word.yielded _ c.loop-word.yielded_by _ _ c.in-Some.word c.in-Some.is
    c.next.ensures.steps
    (YieldsList-at c.into_iter-word-iterator.ensures.into_iter_gives
    (YieldsList-from_slice_split _ is_space c.args.line.now c.split-word-items.ensures.rest
    c.split-word-items.ensures.done c.split-word-items.ensures.closure
    (λ x r q k. search (rules, tests)))) in
    let full = eqb-true (length c.loop-word.tokens.items) 7
    (sym c.is_full.ensures.value ∙ c.if-is_full.true) in
    too_many tokens c.args.line.now (length c.loop-word.yielded)
    (omega (arith, full, c.loop-word.invariant.count)) turn.0 row

pub returns-in_default : goal.returns-in_default
returns-in_default c = λ tokens row.
    let turn = turn_of c.loop-word.yielded _ c.loop-word.yielded_by _ _ c.in-Some.word c.in-Some.is
    c.next.ensures.steps
    (YieldsList-at c.into_iter-word-iterator.ensures.into_iter_gives
    (YieldsList-from_slice_split _ is_space c.args.line.now c.split-word-items.ensures.rest
    c.split-word-items.ensures.done c.split-word-items.ensures.closure
    (λ x r q k. search (rules, tests)))) in
    not_a_token tokens c.args.line.now c.in-Some.word.now (length c.loop-word.yielded) turn
    c.in_default.ensures row

pub loop-word-preserved : goal.loop-word-preserved
loop-word-preserved c =
    let turn = turn_of c.loop-word.yielded _ c.loop-word.yielded_by _ _ c.in-Some.word c.in-Some.is
    c.next.ensures.steps
    (YieldsList-at c.into_iter-word-iterator.ensures.into_iter_gives
    (YieldsList-from_slice_split _ is_space c.args.line.now c.split-word-items.ensures.rest
    c.split-word-items.ensures.done c.split-word-items.ensures.closure
    (λ x r q k. search (rules, tests)))) in
    let first = c.loop-word.invariant in
    let free : length c.loop-word.yielded < 7 =
    grind (arith, nat_tests, c.is_full.ensures.value, c.if-is_full.false, first.count, first.few) in
    let more = one_more_first c.loop-word.tokens.items c.push.new.self.items
    c.in-Some-read_token.token c.args.line.now c.in-Some.word.now (length c.loop-word.yielded) first
    free c.push.ensures.items turn c.in-Some-read_token.ensures.0 c.in-Some-read_token.ensures.1 in
    subst (AreFirst c.push.new.self.items c.args.line.now)
    (sym (length_push c.loop-word.yielded c.in-Some.word)) more

pub returns : goal.returns
returns c =
    let end = end_of c.loop-word.yielded _ c.loop-word.yielded_by _ _ c.in-None.is
    c.next.ensures.steps
    (YieldsList-at c.into_iter-word-iterator.ensures.into_iter_gives
    (YieldsList-from_slice_split _ is_space c.args.line.now c.split-word-items.ensures.rest
    c.split-word-items.ensures.done c.split-word-items.ensures.closure
    (λ x r q k. search (rules, tests)))) in
    all_first c.loop-word.tokens.items c.args.line.now (length c.loop-word.yielded)
    c.loop-word.invariant end
