use Rattle.std.specs.Prelude.{◌≡◌, Some}
use Rattle.std.proofs.Common.{ap, subst, sym, ◌∙◌}
use Rattle.run_model.specs.State.{scope_named}
use Rattle.run_model.specs.Texts.{IsName}
use Rattle.scope_tree.specs.Questions.{name_of}
use Rattle.run_session.proofs.Naming.{named_so}
use Rattle.run_session.proofs.states.State.find_bytes.Goals as goal

pub returns-clause-name : goal.returns-clause-name
returns-clause-name g c =
    let t = c.args.self.now.tree in
    let bytes = c.args.bytes.now in
    let s = c.in_ok-scope.scope in
    let at : scope_named t bytes ≡ Some s =
    sym (c.in_ok-scope.ensures ∙ ap (λ u. scope_named u bytes) c.tree.ensures) in
    let is : name_of t s ≡ Some c.name.result.now =
    ap (λ u. name_of u s) (sym c.tree-2.ensures) ∙ c.name.ensures in
    subst IsName (named_so t bytes c.name.result.now s at is) c.as_bytes-name.ensures.name
