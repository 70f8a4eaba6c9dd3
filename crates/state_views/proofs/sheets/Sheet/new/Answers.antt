use Rattle.std.proofs.Common.{◌++◌, ◌∙◌, ap, refl}
use Rattle.state_views.specs.Forms.{first_of}
use Rattle.state_views.proofs.Adding.{holds_first}
use Rattle.state_views.proofs.sheets.Sheet.new.Goals as goal

pub returns : goal.returns
returns g c = λ w.
    let first = first_of c.args.form c.args.state.now in
    holds_first first _ w refl
    (c.append_first.ensures ∙ ap (λ t. t ++ first) c.new-buffer.ensures)
