use Rattle.std.proofs.Common.{◌≡◌, ◌<◌, ◌∙◌, List, Some, ap, arith, length, slice_get, sym}
use Rattle.std.proofs.lemmas.Bool.{OnTrue_from}
use Rattle.std.proofs.lemmas.Option.{slice_get_within}
use Rattle.std.proofs.lemmas.Slice.Eq.{bytes_eq-Decides}
use Rattle.night_plan.specs.declared.commands.Command.{Command}
use Rattle.night_plan.proofs.Rows.{read}
use Rattle.night_drive.specs.Guessed.{IsOf}
use Rattle.night_drive.proofs.guessed.is_of.Goals as goal

pub returns-then-is_marked : goal.returns-then-is_marked
returns-then-is_marked c =
    let commands = c.args.plan.now.commands.items in
    let keys = c.args.names.now.keys.items in
    let command = c.in-Some.command.now in
    let is : slice_get commands c.args.c ≡ Some command =
    ap (λ (xs : List Command). slice_get xs c.args.c) (sym c.deref.ensures.value)
    ∙ read c.deref.result.now c.args.c command c.in-Some.ensures.lookup.3.0
    c.in-Some.ensures.lookup.1 in
    let within : c.args.c < length keys =
    let below = slice_get_within commands c.args.c command is in
    omega (arith, below, c.requires.keys) in
    OnTrue_from c.is_spelled.result (IsOf c.args.names.now commands c.args.owners.now
    c.args.key.now c.args.c) (λ same. record {
      command = command;
      is = is;
      owned = sym c.is_marked.ensures ∙ c.if-is_marked.true;
      key_is = read keys c.args.c c.index.result.now within c.index.ensures
          ∙ ap (λ x. Some x) (sym c.as_bytes.ensures.value
          ∙ (bytes_eq-Decides c.as_bytes.result.now c.as_bytes-then-is_marked.result.now).0
          (sym c.is_spelled.ensures ∙ same)
          ∙ c.as_bytes-then-is_marked.ensures.value);
    })
