use Rattle.run_model.proofs.Common.{is_some, length, true, false, sym, ap, ◌∙◌, arith, TreeState}
use Rattle.scope_tree.proofs.Refusing.{name_reported}
use Rattle.scope_tree.proofs.trees.Tree.check_name.Goals as goal

pub returns-then-is_some : goal.returns-then-is_some
returns-then-is_some g c =
    let same = ap (λ (t : TreeState). length t.scopes) c.self.view_is in
    name_reported c.args.self.now c.args.name.now c.args.parent true
    (omega (arith, same, c.len.ensures, c.if-len-parent.false))
    (ap is_some (sym c.find.ensures) ∙ sym c.is_some.ensures ∙ c.if-is_some.true)

pub returns : goal.returns
returns g c =
    let same = ap (λ (t : TreeState). length t.scopes) c.self.view_is in
    name_reported c.args.self.now c.args.name.now c.args.parent false
    (omega (arith, same, c.len.ensures, c.if-len-parent.false))
    (ap is_some (sym c.find.ensures) ∙ sym c.is_some.ensures ∙ c.if-is_some.false)
