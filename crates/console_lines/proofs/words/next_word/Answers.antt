use Rattle.std.specs.Prelude.{◌==◌}
use Rattle.std.proofs.Common.{rules, sym, tests, ◌∙◌}
use Rattle.std.proofs.lemmas.Iterator.{YieldsList-from_slice}
use Rattle.std.proofs.lemmas.Iterator.Search.{position_from_yields_List}
use Rattle.console_lines.proofs.WordLemmas.{words_at_space, words_without_space}
use Rattle.console_lines.proofs.words.next_word.Goals as goal

pub returns-in-Some : goal.returns-in-Some
returns-in-Some c =
    rw c.in_ok-line.was (words_at_space _ _
    (sym (position_from_yields_List (λ b. b == 32) _ _ c.position.result c.position.ensures.ran
    (YieldsList-from_slice _ c.iter.ensures.rest) (λ x b q k. search (rules, tests)))
    ∙ c.in-Some.is))

pub returns-in-None : goal.returns-in-None
returns-in-None c =
    rw c.in_ok-line.was (words_without_space _
    (sym (position_from_yields_List (λ b. b == 32) _ _ c.position.result c.position.ensures.ran
    (YieldsList-from_slice _ c.iter.ensures.rest) (λ x b q k. search (rules, tests)))
    ∙ c.in-None.is))
