use Rattle.std.proofs.Common.{◌∙◌, ◌++◌, ap}
use Rattle.state_views.specs.Entries.{entry_text}
use Rattle.state_views.specs.declared.json_entries.Entry.TheVariants as entry
use Rattle.state_views.proofs.forms.append_first.Goals as goal

pub returns-in-Entry : goal.returns-in-Entry
returns-in-Entry g c =
    let p = c.args.state.now in
    let old = c.args.buffer.now.items in
    let clock = c.clock-in-Entry.result in
    let layout = c.layout.result in
    rw c.in-Entry.is (
    c.append-in-Entry.ensures.items
    ∙ ap (λ n. old ++ entry_text (entry.Store n clock layout)) c.count-in-Entry.ensures.count
    ∙ ap (λ t. old ++ entry_text (entry.Store p.count t layout)) c.clock-in-Entry.ensures
    ∙ ap (λ l. old ++ entry_text (entry.Store p.count p.tree.clock l)) c.layout.ensures.tree)
