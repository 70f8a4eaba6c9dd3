use Rattle.std.proofs.Common.{sym, ◌∙◌}
use Rattle.run_crew.proofs.Strays.{has-all}
use Rattle.run_crew.proofs.audits.have_noted.Goals as goal

pub returns : goal.returns
returns c = c.have_note.ensures ∙ sym (has-all c.args.lists.now c.args.note.now)
