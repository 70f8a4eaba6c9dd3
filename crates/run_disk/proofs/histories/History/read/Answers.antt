use Rattle.std.proofs.Common.{◌∙◌, ap, length, refl}
use Rattle.run_disk.specs.Writes.{History, filled_up}
use Rattle.run_disk.proofs.WindowLemmas.{window_read}
use Rattle.run_disk.proofs.histories.History.read.Goals as goal

pub returns : goal.returns
returns g c =
    let h = c.args.self.now in
    let is = c.self.view_is in
    window_read h c.args.calls c.args.at c.deref-2.result.now c.deref-3.result.now
    c.self.inside.size c.deref.result.now c.fill.new.self c.put.new.window c.leave_all.new.window
    (length c.args.out.now)
    (ap (filled_up c.self.inside.size) c.deref.ensures.value ∙ ap (λ (v : History). v.first) is)
    (c.deref-2.ensures.value ∙ ap (λ (v : History). v.writes) is)
    (c.deref-3.ensures.value ∙ ap (λ (v : History). v.syncs) is) c.requires c.fill.ensures.len
    (λ i below. c.fill.ensures.clones i 0 below refl) c.put.ensures
    c.leave_all.ensures.size c.leave_all.ensures.bytes
