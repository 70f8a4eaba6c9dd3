-- What was so at each moment of several calls.
use Rattle.std.proofs.Common.{◌≡◌, ◌⊎◌, ◌∙◌, ◌++◌, ◌∷◌, [], List, Result, Ok, Err, OnOk, inl, inr}
use Rattle.std.proofs.Common.{sym}
use Rattle.std.proofs.Common.{append_assoc, ap}
use Rattle.std.proofs.lemmas.List.{append-nil}
use Rattle.std.proofs.lemmas.List.Elements.{All-append, All-cons, All-nil, All-weaker}
use Rattle.file_calls.specs.Folders.{FolderState, IsAlways, IsSameFolder, PastGoesOn}

-- before the first call
pub always_start : (P : FolderState → Type 0) (was : List FolderState) (s : FolderState) → P s
    → IsAlways P was was s
always_start P was s now = record {
  more = [];
  grown = sym (append-nil was);
  before = All-nil P;
  at_last = now;
}

-- after one call
pub always_call : {T E : Type 0} (P : FolderState → Type 0) (was is : List FolderState)
    (s t : FolderState) (result : Result T E) → PastGoesOn s t was is result → P s → P t
    → IsAlways P was is t
always_call P was is s t (Ok value) goes before now =
    record {
      more = s ∷ [];
      grown = goes.made;
      before = All-cons P s [] before (All-nil P);
      at_last = now;
    }
always_call P was is s t (Err error) goes before now = go goes.failed
  where
    go : (is ≡ was ++ s ∷ []) ⊎ (IsSameFolder s t × (is ≡ was)) → IsAlways P was is t
    go (inl next) = record {
      more = s ∷ [];
      grown = next;
      before = All-cons P s [] before (All-nil P);
      at_last = now;
    }
    go (inr same) = record {
      more = [];
      grown = same.1 ∙ sym (append-nil was);
      before = All-nil P;
      at_last = now;
    }

-- after some calls and some more
pub always_then : (P Q : FolderState → Type 0) (was mid is : List FolderState)
    (s t : FolderState) → IsAlways P was mid s → ((u : FolderState) → Q u → P u)
    → IsAlways Q mid is t → IsAlways P was is t
always_then P Q was mid is s t first less second = record {
  more = first.more ++ second.more;
  grown = second.grown ∙ ap (λ past. past ++ second.more) first.grown
      ∙ append_assoc was first.more second.more;
  before = All-append P first.more second.more first.before
      (All-weaker Q P less second.more second.before);
  at_last = less t second.at_last;
}

-- what is less is so, too
pub always_weaker : (P Q : FolderState → Type 0) (was is : List FolderState) (s : FolderState)
    → ((u : FolderState) → P u → Q u) → IsAlways P was is s → IsAlways Q was is s
always_weaker P Q was is s less always = record {
  more = always.more;
  grown = always.grown;
  before = All-weaker P Q less always.more always.before;
  at_last = less s always.at_last;
}

-- what is so in any case is so if a result is Ok
pub in_any_case : {T E : Type 0} (P : Type 0) (r : Result T E) → P → OnOk r P
in_any_case P (Ok value) p = p
in_any_case P (Err error) p = tt
