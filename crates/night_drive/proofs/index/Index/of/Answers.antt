use Rattle.std.proofs.Common.{◌≡◌, ◌<◌, ◌∙◌, ℕ, List, Some, ap, arith, get_or, length, slice_get}
use Rattle.std.proofs.Common.{subst, sym}
use Rattle.std.specs.Map.{lookup}
use Rattle.night_plan.specs.declared.commands.Command.{Command}
use Rattle.night_plan.proofs.Rows.{read}
use Rattle.night_drive.specs.Index.{IsIndex, same_key}
use Rattle.night_drive.proofs.Indexing.{index_more, index_none}
use Rattle.night_drive.proofs.index.Index.of.Goals as goal

pub loop-c-init : goal.loop-c-init
loop-c-init c =
    index_none c.args.plan.now.commands.items c.args.names.now
    (record { commands = c.in_ok-commands.commands })
    (λ h key. ap (λ es. lookup (same_key (record { group = h; key = key })) es)
    c.in_ok-commands.ensures.empty)

pub loop-c-preserved : goal.loop-c-preserved
loop-c-preserved c =
    let plan = c.args.plan.now in
    let names = c.args.names.now in
    let commands = plan.commands.items in
    let i = c.loop-c.c in
    let command = c.command-item.result in
    let items = c.deref-command-items.ensures.value in
    let below : i < length commands = omega (arith, ap length items) in
    let is : slice_get commands i ≡ Some command =
    read commands i command below
    (c.command-item.is ∙ ap (λ (xs : List Command). get_or xs i command) items) in
    let key_is : slice_get names.keys.items i ≡ Some c.index-name.result.now =
    read names.keys.items i c.index-name.result.now
    (omega (arith, below, c.requires.keys)) c.index-name.ensures in
    index_more commands names (record { commands = c.loop-c.commands })
    (record { commands = c.insert.new.self }) i command c.copy.result is
    (key_is ∙ ap (λ (x : List ℕ). Some x) (sym c.copy.ensures))
    (λ h key. c.in_ok-insert.ensures.updates.0 (record { group = h; key = key }))
    c.loop-c.invariant

pub returns : goal.returns
returns c =
    let commands = c.args.plan.now.commands.items in
    let items = c.deref-command-items.ensures.value in
    let all : c.loop-c.c ≡ length commands = omega (arith, ap length items) in
    subst (λ m. IsIndex m commands c.args.names.now (record { commands = c.loop-c.commands })) all
    c.loop-c.invariant
