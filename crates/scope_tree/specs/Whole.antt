-- The state whose image some bytes are, put together from the parts that different crates read.
use Rattle.std.specs.Prelude.{ℕ, ◌==◌, ◌&&◌, if◌then◌else◌, List, length, Option, Some, None}
use Rattle.run_model.specs.declared.layouts.Layout.{Layout}
use Rattle.run_model.specs.State.{State, TreeState, WorkState}
use Rattle.row_view.specs.declared.heads.ImageHead.{ImageHead}
use Rattle.row_view.specs.declared.heads.ImageVersion.{ImageVersion}
use Rattle.row_view.specs.Fields.{◌>>=◌}
use Rattle.row_view.specs.RowReading.{head_at}
use Rattle.scope_tree.specs.TreeRows.{tree_at}
use Rattle.row_view.specs.Between.{fits_between}
use Rattle.row_view.specs.WorkRows.{work_at}

-- The state of a head, a tree and the work.
abbrev pub whole : ImageHead → TreeState → WorkState → State
whole head tree work = record { count = head.count; tree = tree; work = work }

-- The version and the state, if the head, the tree and the work fit together, and nothing comes
-- after them.
abbrev pub joined :
    ImageHead → TreeState → WorkState × List ℕ → Option (ImageVersion × State)
joined head tree work =
    if length work.1 == 0 && fits_between tree.scopes work.0.groups
    then Some (head.version, whole head tree work.0)
    else None

-- The version and the state whose image the bytes are, in a store of this layout.
unfoldable pub image_at : Layout → List ℕ → Option (ImageVersion × State)
image_at layout bytes = do
  head ← head_at layout bytes
  tree ← tree_at layout head.0 head.1
  work ← work_at layout head.0 tree.1
  joined head.0 tree.0 work
