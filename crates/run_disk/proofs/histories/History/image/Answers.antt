use Rattle.std.proofs.Common.{◌∙◌, ap, subst, sym}
use Rattle.run_disk.specs.History.{IsTornImage}
use Rattle.run_disk.specs.Writes.{History}
use Rattle.run_disk.proofs.FirstLemmas.{filled_copy}
use Rattle.run_disk.proofs.WindowLemmas.{overwritten, window_image}
use Rattle.run_disk.proofs.histories.History.image.Goals as goal

pub returns : goal.returns
returns g c =
    let h = c.args.self.now in
    let is = c.self.view_is in
    let grown = c.resize.new.self in
    let window = c.leave_all.new.window in
    let first = filled_copy c.self.inside.size c.in_ok-image.image.len c.self.inside.first.items
    c.deref.result.now c.in_ok-image.image.items grown.items c.deref.ensures.value
    c.in_ok-image.ensures.items c.in_ok-image.ensures.len c.in_ok-resize.ensures.items in
    let begun = c.deref_mut.ensures.value ∙ (first ∙ ap (λ (v : History). v.first) is) in
    let room = c.leave_all.ensures.size ∙ c.deref_mut.ensures.len in
    subst (IsTornImage c.args.torn h c.args.calls)
    (sym (overwritten grown.len window grown.items room))
    (window_image c.args.torn h c.args.calls c.deref-2.result.now c.deref-3.result.now
    c.deref_mut.result.now window (c.deref-2.ensures.value ∙ ap (λ (v : History). v.writes) is)
    (c.deref-3.ensures.value ∙ ap (λ (v : History). v.syncs) is) begun c.leave_all.ensures.size
    c.leave_all.ensures.bytes)
