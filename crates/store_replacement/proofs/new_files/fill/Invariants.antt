use Rattle.std.proofs.Common.{◌≡◌, ◌≤◌, ◌-◌, []}
use Rattle.std.specs.Prelude.{replicate}
use Rattle.file_calls.specs.Folders.{IsAlways, IsOnly}
use Rattle.file_calls.specs.OpenFiles.{IsIntact}
use Rattle.store_replacement.specs.Replacements.{IsCopied}
use Rattle.store_replacement.proofs.new_files.fill.Given as goal

abbrev pub invariant-loop-at : goal.invariant-loop-at
invariant-loop-at g l =
    let C = g.C.Folder in
    let made = C.number l.file in
    let s = C.state l.fn.folder in
    record {
      within : l.at ≤ l.size;
      kept : C.keeps l.fn.folder → C.keeps l.folder;
      always : C.keeps l.fn.folder
          → IsAlways (IsOnly made s) (C.past l.fn.folder) (C.past l.folder) (C.state l.folder);
      done : C.keeps l.fn.folder → (s.file made).now ≡ [] → IsIntact (s.file made)
          → IsCopied (replicate l.at 0) made s (C.state l.folder);
    }

abbrev pub decreases-loop-at : goal.decreases-loop-at
decreases-loop-at g l = l.size - l.at
