use Rattle.std.proofs.Common.{◌≤◌, ◌-◌, List, ℕ, take}
use Rattle.file_calls.specs.Folders.{IsAlways, IsOnly}
use Rattle.store_replacement.specs.Replacements.{IsCopied, IsForCopy}
use Rattle.store_replacement.proofs.copies.copy_all.Given as goal

abbrev pub invariant-loop-at : goal.invariant-loop-at
invariant-loop-at g l =
    let C = g.C.Folder in
    let made = C.number l.to in
    let s = C.state l.fn.folder in
    let bytes = (s.file (C.number l.from)).now in
    record {
      within : l.at ≤ l.size;
      kept : C.keeps l.fn.folder → C.keeps l.folder;
      always : C.keeps l.fn.folder
          → IsAlways (IsOnly made s) (C.past l.fn.folder) (C.past l.folder) (C.state l.folder);
      done : C.keeps l.fn.folder → (name : List ℕ) → IsForCopy (C.number l.from) made name s
          → IsCopied (take l.at bytes) made s (C.state l.folder);
    }

abbrev pub decreases-loop-at : goal.decreases-loop-at
decreases-loop-at g l = l.size - l.at
