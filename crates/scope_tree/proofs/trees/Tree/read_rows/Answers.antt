use Rattle.run_model.proofs.Common.{refl, ap, ◌∙◌, TreeState}
use Rattle.scope_tree.proofs.Sounding.{tree_of, sound_fields}
use Rattle.scope_tree.proofs.TreeReads.{tree_sound}
use Rattle.scope_tree.proofs.trees.Tree.read_rows.Goals as goal

pub read_after_root-requires-clause-room : goal.read_after_root-requires-clause-room
read_after_root-requires-clause-room g c = c.self.invariant.capacity_is

pub read_after_root-requires-clause-root : goal.read_after_root-requires-clause-root
read_after_root-requires-clause-root g c =
    ap (λ (t : TreeState). t.scopes) (c.self.view_is ∙ c.requires.new)

pub invariant_of-self : goal.invariant_of-self
invariant_of-self g c =
    let rows = c.read_after_root.new.rows.rows in
    sound_fields (tree_of c.self.inside.layout _ rows) rows _ refl
    (tree_sound _ _ _ _ _ c.in-Some.ensures.read)
    (c.in-Some.ensures.capacity ∙ c.self.invariant.capacity_is)

pub returns-clause-read : goal.returns-clause-read
returns-clause-read g c = rw (← c.self.view_is) c.in-Some.ensures.read
