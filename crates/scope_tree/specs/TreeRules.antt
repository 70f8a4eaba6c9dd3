-- The rows of a tree, which come first after the head of an image.
use Rattle.std.specs.Prelude.{◌≡◌, ◌+◌, ℕ, List, ◌++◌, length, IsTrue, drop}
use Rattle.std.specs.List.{flat_map, AllByRecursion}
use Rattle.run_model.specs.declared.layouts.Layout.{Layout}
use Rattle.run_model.specs.Records.{is_moment}
use Rattle.run_model.specs.RuleParts.{AreTreeRules}
use Rattle.run_model.specs.State.{TreeState}
use Rattle.row_view.specs.declared.heads.ImageHead.{ImageHead}
use Rattle.row_view.specs.Image.{scope_bytes, is_kept_scope}

-- The bytes after a head begin with the rows of this tree, which has this layout and keeps the
-- rules, and `rest` comes after them.
pub record AreTreeRows
    (layout : Layout) (head : ImageHead) (bytes : List ℕ) (t : TreeState) (rest : List ℕ)
    : Type 0 where
  pub has_layout : t.layout ≡ layout
  pub clock : t.clock ≡ head.clock
  pub moment : IsTrue (is_moment head.clock)
  pub many : length t.scopes ≡ head.scopes + 1
  pub rules : AreTreeRules head.count t
  pub kept : AllByRecursion (λ row. IsTrue (is_kept_scope row)) (drop 1 t.scopes)
  pub spelled : bytes ≡ flat_map scope_bytes (drop 1 t.scopes) ++ rest
