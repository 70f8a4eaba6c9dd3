use Rattle.std.proofs.Common.{◌≡◌, ◌∙◌, ◌++◌, [], List, ap, subst, ℕ}
use Rattle.console_lines.proofs.Appending.{◌followed_by◌}
use Rattle.store_words.specs.Stores.{Prints, migrated_line}
use Rattle.store_words.proofs.EndLemmas.{printed}
use Rattle.store_words.proofs.migrations.print_count.Goals as goal

pub returns : goal.returns
returns g c =
    let w0 = g.W.Write.contents c.args.output.now in
    let w1 = g.W.Write.contents c.write_whole.new.output in
    let whole = migrated_line c.args.count in
    let none : c.new-line.result.items ≡ [] = cc in
    let line : c.as_slice.result.now ≡ c.push.new.out.items = cc in
    let text : c.as_slice.result.now ≡ whole =
    line ∙ ((c.push_number.ensures followed_by c.push.ensures).items ∙ ap (λ l. l ++ whole) none) in
    let P : List ℕ → Type 0 = λ t. Prints t c.write_whole.result w0 w1 in
    subst P text (printed c.write_whole.result c.as_slice.result.now w0 w1
    c.write_whole.ensures.whole c.write_whole.ensures.cut c.write_whole.ensures.fault)
