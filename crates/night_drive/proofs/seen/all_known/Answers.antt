-- proofs/seen/all_known/Answers.antt
use Rattle.std.proofs.Common.{◌≡◌, ◌<◌, ◌∙◌, List, Some, ap, arith, get_or, length, slice_get}
use Rattle.std.proofs.Common.{refl, subst, sym}
use Rattle.night_plan.specs.declared.commands.Command.{Command}
use Rattle.night_plan.proofs.Rows.{read}
use Rattle.night_drive.specs.declared.tallies.Tally.{Tally}
use Rattle.night_drive.specs.Seen.{AreKnownTo}
use Rattle.night_drive.specs.Tallies.{IsWithin}
use Rattle.night_drive.proofs.Indexing.{within_of}
use Rattle.night_drive.proofs.Reading.{longer}
use Rattle.night_drive.proofs.Tallying.{known_tallied}
use Rattle.night_drive.proofs.seen.all_known.Goals as goal

pub tally_at-tally-requires-clause-found : goal.tally_at-tally-requires-clause-found
tally_at-tally-requires-clause-found g c =
    let commands = c.args.plan.now.commands.items in
    let names = c.args.names.now in
    let i = c.loop-c.c in
    let command = c.command-item.result in
    let items = c.deref-command-items.ensures.value in
    let below : i < length commands = omega (arith, ap length items) in
    c.in_ok-index.ensures.complete i command.group c.index-key.result.now below
    (record {
      command = command;
      is = read commands i command below
          (c.command-item.is ∙ ap (λ (xs : List Command). get_or xs i command) items);
      group_is = refl;
      key_is = read names.keys.items i c.index-key.result.now
          (omega (arith, below, c.requires.keys)) c.index-key.ensures;
    })

pub tally_at-tally-requires-clause-within : goal.tally_at-tally-requires-clause-within
tally_at-tally-requires-clause-within g c =
    let plan = c.args.plan.now in
    subst (λ m. IsWithin m c.in_ok-index.index)
    (sym (ap length c.as_slice.ensures.value ∙ c.in_ok-tallies.ensures.sized))
    (within_of plan.commands.items c.args.names.now c.in_ok-index.index c.in_ok-index.ensures)

pub loop-c-preserved : goal.loop-c-preserved
loop-c-preserved g c =
    let commands = c.args.plan.now.commands.items in
    let names = c.args.names.now in
    let i = c.loop-c.c in
    let command = c.command-item.result in
    let items = c.deref-command-items.ensures.value in
    let below : i < length commands = omega (arith, ap length items) in
    let is : slice_get commands i ≡ Some command =
    read commands i command below
    (c.command-item.is ∙ ap (λ (xs : List Command). get_or xs i command) items) in
    let own : command.group < length c.args.plan.now.groups.items =
    c.args.plan.now.sound.own i command is in
    let key_is : slice_get names.keys.items i ≡ Some c.index-key.result.now =
    read names.keys.items i c.index-key.result.now (omega (arith, below, c.requires.keys))
    c.index-key.ensures in
    rw c.in_ok-push.ensures.items (record {
      sized = longer c.loop-c.known.items i c.known_by.result c.loop-c.invariant.sized;
      known = known_tallied c.args.state.now c.args.ends.now names commands c.in_ok-index.index
          c.in_ok-tallies.tallies.items c.loop-c.known.items i command c.index-key.result.now
          c.tally_at-tally.result c.known_by.result c.loop-c.invariant.sized is key_is
          (omega (arith, own, c.requires.groups))
          (c.in_ok-index.ensures.complete i command.group c.index-key.result.now below
          (record { command = command; is = is; group_is = refl; key_is = key_is }))
          (λ d found. ap (λ (ts : List Tally). slice_get ts d) (sym c.as_slice.ensures.value)
          ∙ c.tally_at-tally.ensures d found)
          c.in_ok-tallies.ensures.tallies c.known_by.ensures c.loop-c.invariant.known;
    })

pub returns : goal.returns
returns g c =
    let commands = c.args.plan.now.commands.items in
    let items = c.deref-command-items.ensures.value in
    let all : c.loop-c.c ≡ length commands = omega (arith, ap length items) in
    record {
      sized = c.loop-c.invariant.sized ∙ all;
      known = subst (λ m. AreKnownTo m c.args.state.now c.args.ends.now c.args.names.now commands
          c.loop-c.known.items) all c.loop-c.invariant.known;
    }
