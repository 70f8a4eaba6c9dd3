use Rattle.std.specs.Prelude.{None, Some, length}
use Rattle.std.proofs.Common.{◌∙◌, add-zero, arith, refl, sym}
use Rattle.state_views.specs.Entries.{task_item}
use Rattle.state_views.specs.Forms.{word_of}
use Rattle.state_views.proofs.Adding.{adds_all, adds_line, adds_nothing}
use Rattle.state_views.proofs.EntryTexts.{item_added, next_is}
use Rattle.state_views.proofs.json.add_tasks.Goals as goal
use Rattle.state_views.proofs.json.add_tasks.Goals.{in-Some, in_default}

pub loop-number-init : goal.loop-number-init
loop-number-init g c =
    (adds_nothing c.args.sheet.now (g.W.Write.contents c.args.output.now), refl, omega arith)

pub loop-number-preserved : goal.loop-number-preserved
loop-number-preserved g c =
    let phase = word_of c.args.phase in
    let group = word_of c.args.group in
    let p = c.args.state.now in
    let n = c.loop-number.number in
    let place = c.loop-number.place in
    let its = c.loop-number.invariant in
    elim c.match-task_entry.branch [
      | in-Some w ↦
          let seen = Some w.in-Some.entry in
          let is = sym w.in-Some.is ∙ c.task_entry.ensures in
          rw (w.sheet-is, w.output-is, w.place-is) (
            item_added phase group p n place seen its.1 is its.0
                (adds_line w.make_room.ensures.none refl w.append_next.ensures.items),
            next_is phase group p n place seen its.1 is,
            omega (arith, its.2),
          )
      | in_default w ↦
          let is = sym w.in_default.is ∙ c.task_entry.ensures in
          rw (w.sheet-is, w.output-is, w.place-is) (
            item_added phase group p n place None its.1 is its.0
                (adds_nothing c.loop-number.sheet (g.W.Write.contents c.loop-number.output)),
            sym (add-zero place) ∙ next_is phase group p n place None its.1 is,
            omega (arith, its.2),
          )
    ]

pub returns : goal.returns
returns g c =
    let p = c.args.state.now in
    adds_all (task_item (word_of c.args.phase) (word_of c.args.group) p) c.loop-number.number
    (length p.work.tasks) (omega (arith, c.loop-number-test.false, c.loop-number.auto.number-end))
    c.loop-number.invariant.0
