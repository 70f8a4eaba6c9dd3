use Rattle.std.proofs.Common.{rules, ◌≡◌, arith, sym}
use Rattle.std.proofs.lemmas.Slice.Eq.{text_from_reads}
use Rattle.std.specs.Prelude.{codes}
use Rattle.plan_lines.proofs.tokens.read_keyword.Goals as goal

pub returns-in-interrupted : goal.returns-in-interrupted
returns-in-interrupted c =
    let at : c.args.bytes.now ≡ codes "interrupted" =
    text_from_reads c.args.bytes.now (codes "interrupted") (omega arith) (
      search rules,
      (
        search rules,
        (
          search rules,
          (
            search rules,
            (
              search rules,
              (
                search rules,
                (
                  search rules,
                  (search rules, (search rules, (search rules, (search rules, tt)))),
                ),
              ),
            ),
          ),
        ),
      ),
    ) in
    sym at
