-- When bytes are the image of a state.
use Rattle.std.specs.Prelude.{◌≡◌, ℕ, List, drop, IsTrue}
use Rattle.std.specs.List.{AllByRecursion}
use Rattle.run_model.specs.declared.layouts.Layout.{Layout}
use Rattle.run_model.specs.State.{State}
use Rattle.run_model.specs.Rules.{IsConsistent, HasLayout}
use Rattle.row_view.specs.declared.heads.ImageVersion.{ImageVersion}
use Rattle.row_view.specs.Image.{head_of, image_in, is_kept_head, is_kept_scope}
use Rattle.row_view.specs.Image.{is_kept_group, is_kept_task}

-- The fields of the head, and of the rows after it, are in range for this version and this layout.
pub record IsInRange (version : ImageVersion) (layout : Layout) (p : State) : Type 0 where
  pub head : IsTrue (is_kept_head layout (head_of version p))
  pub scopes : AllByRecursion (λ row. IsTrue (is_kept_scope row)) (drop 1 p.tree.scopes)
  pub groups : AllByRecursion (λ row. IsTrue (is_kept_group row)) p.work.groups
  pub tasks : AllByRecursion (λ row. IsTrue (is_kept_task version row)) p.work.tasks

-- The bytes are the image of this state in this version. The state has this layout, its fields are
-- in range, and it is consistent.
pub record IsImage
    (version : ImageVersion) (layout : Layout) (bytes : List ℕ) (p : State) : Type 0 where
  pub is : bytes ≡ image_in version p
  pub has_layout : HasLayout p layout
  pub ranged : IsInRange version layout p
  pub consistent : IsConsistent p

-- The bytes are the image of this state, in one of the two versions.
abbrev pub Rows : Layout → List ℕ → State → Type 0
Rows layout bytes p = (version : ImageVersion) × IsImage version layout bytes p
