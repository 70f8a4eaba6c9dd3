use Rattle.std.proofs.Common.{◌∙◌, Option, Some, ap, sym}
use Rattle.std.specs.Prelude.{option_map}
use Rattle.std.specs.Borrow.{Bor}
use Rattle.clap.specs.Walk.{Text}
use Rattle.night_words.proofs.NamedLemmas.{crew_here, demo_here, differ, drive_here, format_here}
use Rattle.night_words.proofs.NamedLemmas.{inspect_here, migration_here, named_here, new_here}
use Rattle.night_words.proofs.NamedLemmas.{new_is_there, no_store, plan_here, renewal_here, same}
use Rattle.night_words.proofs.NamedLemmas.{script_here, two_left, unwrapped}
use Rattle.night_words.proofs.PlaceLemmas.{crews, demos, drives, formats, inspects, plans, renews}
use Rattle.night_words.proofs.PlaceLemmas.{scripts, word_of}
use Rattle.night_words.specs.Commands.{named_by, new_by}
use Rattle.night_words.proofs.readers.request_of.Goals as goal

pub returns-then-demos : goal.returns-then-demos
returns-then-demos c =
    demo_here c.args.matches.now c.in-Some.command c.in-Some.inner
    c.in-Some.ensures.name c.in-Some.ensures.rows c.is_set-strict.result
    (same _ (word_of demos) c.eq-demos.result c.eq-demos.ensures c.if-demos.true)
    c.is_set-strict.ensures

pub unreachable-requires-in_default-get_str : goal.unreachable-requires-in_default-get_str
unreachable-requires-in_default-get_str c =
    let command = c.in-Some.command.now in
    let at = named_here c.args.matches.now c.in-Some.command c.in-Some.inner
    c.in-Some.ensures.name c.in-Some.ensures.rows in
    no_store (named_by c.args.matches.now) (new_by c.args.matches.now) command c.requires
    (at ∙ ap (λ s. Some (command, s)) (sym c.in_default-get_str.ensures))
    (differ command (word_of demos) c.eq-demos.result c.eq-demos.ensures c.if-demos.false)
    (differ command (word_of plans) c.eq-plans.result c.eq-plans.ensures c.if-plans.false)
    (differ command (word_of crews) c.eq-crews.result c.eq-crews.ensures c.if-crews.false)

pub returns-then-plans : goal.returns-then-plans
returns-then-plans c =
    plan_here c.args.matches.now c.in-Some.command c.in-Some.inner
    c.in-Some.ensures.name c.in-Some.ensures.rows
    (same _ (word_of plans) c.eq-plans.result c.eq-plans.ensures c.if-plans.true)

pub returns-then-crews : goal.returns-then-crews
returns-then-crews c =
    let now : Option (Bor Text) → Option Text = option_map (λ s. s.now) in
    crew_here c.args.matches.now c.in-Some.command c.in-Some.inner
    c.in-Some.ensures.name c.in-Some.ensures.rows
    c.unwrap_or.result.now (now c.get_str.result) (now c.get_str-then-crews.result)
    c.is_set.result c.crew.result
    (same _ (word_of crews) c.eq-crews.result c.eq-crews.ensures c.if-crews.true)
    c.get_str.ensures
    (ap (λ (s : Bor Text). s.now) c.unwrap_or.ensures ∙ unwrapped c.get_str.result _)
    c.get_str-then-crews.ensures c.is_set.ensures c.crew.ensures

pub returns-then-formats : goal.returns-then-formats
returns-then-formats c =
    format_here c.args.matches.now c.in-Some.command c.in-Some.inner
    c.in-Some.ensures.name c.in-Some.ensures.rows
    c.in-Some-get_str.store.now c.is_set-is_new.result
    (same _ (word_of formats) c.eq-formats.result c.eq-formats.ensures c.if-formats.true)
    c.in-Some-get_str.ensures c.is_set-is_new.ensures

pub returns-then-scripts : goal.returns-then-scripts
returns-then-scripts c =
    script_here c.args.matches.now c.in-Some.command c.in-Some.inner
    c.in-Some.ensures.name c.in-Some.ensures.rows
    c.in-Some-get_str.store.now c.is_set-strict-then-scripts.result c.is_set-is_timed.result
    (same _ (word_of scripts) c.eq-scripts.result c.eq-scripts.ensures c.if-scripts.true)
    c.in-Some-get_str.ensures c.is_set-strict-then-scripts.ensures c.is_set-is_timed.ensures

pub returns-then-inspects : goal.returns-then-inspects
returns-then-inspects c =
    inspect_here c.args.matches.now c.in-Some.command c.in-Some.inner
    c.in-Some.ensures.name c.in-Some.ensures.rows
    c.in-Some-get_str.store.now c.inspect.result
    (same _ (word_of inspects) c.eq-inspects.result c.eq-inspects.ensures c.if-inspects.true)
    c.in-Some-get_str.ensures c.inspect.ensures

pub returns-then-drives : goal.returns-then-drives
returns-then-drives c =
    drive_here c.args.matches.now c.in-Some.command c.in-Some.inner
    c.in-Some.ensures.name c.in-Some.ensures.rows c.in-Some-get_str.store.now
    (same _ (word_of drives) c.eq-drives.result c.eq-drives.ensures c.if-drives.true)
    c.in-Some-get_str.ensures

pub returns-then-renews : goal.returns-then-renews
returns-then-renews c =
    let now : Option (Bor Text) → Option Text = option_map (λ s. s.now) in
    renewal_here c.args.matches.now c.in-Some.command c.in-Some.inner
    c.in-Some.ensures.name c.in-Some.ensures.rows
    c.in-Some-get_str.store.now (now c.get_str-then-renews.result)
    c.is_set-is_new-then-renews.result c.is_set-in_place.result c.renewal.result
    (same _ (word_of renews) c.eq-renews.result c.eq-renews.ensures c.if-renews.true)
    c.in-Some-get_str.ensures c.get_str-then-renews.ensures
    c.is_set-is_new-then-renews.ensures c.is_set-in_place.ensures c.renewal.ensures

pub unreachable-requires-in_default-get_str-2 : goal.unreachable-requires-in_default-get_str-2
unreachable-requires-in_default-get_str-2 c =
    let command = c.in-Some.command.now in
    let at = named_here c.args.matches.now c.in-Some.command c.in-Some.inner
    c.in-Some.ensures.name c.in-Some.ensures.rows in
    let left = two_left (named_by c.args.matches.now) (new_by c.args.matches.now) command
    c.in-Some-get_str.store.now c.requires
    (at ∙ ap (λ s. Some (command, s)) (sym c.in-Some-get_str.ensures))
    (differ command (word_of demos) c.eq-demos.result c.eq-demos.ensures c.if-demos.false)
    (differ command (word_of plans) c.eq-plans.result c.eq-plans.ensures c.if-plans.false)
    (differ command (word_of crews) c.eq-crews.result c.eq-crews.ensures c.if-crews.false)
    (differ command (word_of formats) c.eq-formats.result c.eq-formats.ensures c.if-formats.false)
    (differ command (word_of scripts) c.eq-scripts.result c.eq-scripts.ensures c.if-scripts.false)
    (differ command (word_of inspects) c.eq-inspects.result c.eq-inspects.ensures
    c.if-inspects.false)
    (differ command (word_of drives) c.eq-drives.result c.eq-drives.ensures c.if-drives.false)
    (differ command (word_of renews) c.eq-renews.result c.eq-renews.ensures c.if-renews.false) in
    new_is_there (new_by c.args.matches.now) left.1.0 left.1.1
    (new_here c.args.matches.now c.in-Some.command c.in-Some.inner
    c.in-Some.ensures.name c.in-Some.ensures.rows ∙ sym c.in_default-get_str-2.ensures)

pub returns : goal.returns
returns c =
    let command = c.in-Some.command.now in
    let at = named_here c.args.matches.now c.in-Some.command c.in-Some.inner
    c.in-Some.ensures.name c.in-Some.ensures.rows in
    let left = two_left (named_by c.args.matches.now) (new_by c.args.matches.now) command
    c.in-Some-get_str.store.now c.requires
    (at ∙ ap (λ s. Some (command, s)) (sym c.in-Some-get_str.ensures))
    (differ command (word_of demos) c.eq-demos.result c.eq-demos.ensures c.if-demos.false)
    (differ command (word_of plans) c.eq-plans.result c.eq-plans.ensures c.if-plans.false)
    (differ command (word_of crews) c.eq-crews.result c.eq-crews.ensures c.if-crews.false)
    (differ command (word_of formats) c.eq-formats.result c.eq-formats.ensures c.if-formats.false)
    (differ command (word_of scripts) c.eq-scripts.result c.eq-scripts.ensures c.if-scripts.false)
    (differ command (word_of inspects) c.eq-inspects.result c.eq-inspects.ensures
    c.if-inspects.false)
    (differ command (word_of drives) c.eq-drives.result c.eq-drives.ensures c.if-drives.false)
    (differ command (word_of renews) c.eq-renews.result c.eq-renews.ensures c.if-renews.false) in
    migration_here c.args.matches.now c.in-Some.command c.in-Some.inner
    c.in-Some.ensures.name c.in-Some.ensures.rows
    c.in-Some-get_str.store.now c.in-Some-get_str-2.new.now c.is_set-is_new-2.result
    c.for_two.result left.0 c.in-Some-get_str.ensures c.in-Some-get_str-2.ensures
    c.is_set-is_new-2.ensures c.for_two.ensures
