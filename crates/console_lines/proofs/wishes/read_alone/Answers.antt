use Rattle.std.proofs.Common.{sym, ap}
use Rattle.std.specs.Option.{option_map}
use Rattle.console_lines.specs.LineRequests.{judged}
use Rattle.console_lines.proofs.WordLemmas.{alone_more}
use Rattle.console_lines.proofs.wishes.read_alone.Goals as goal

pub returns-in-Some : goal.returns-in-Some
returns-in-Some c =
    rw c.in-Some.is (ap (option_map judged) (sym (alone_more c.args.wish c.in-Some.field-0.now)))
