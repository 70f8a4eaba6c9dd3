-- Kinds are read exactly if the bytes begin with them.
use Rattle.run_model.proofs.Common.{◌≡◌, ℕ, ◌==◌, true, List, [], ◌∷◌, ◌++◌, Some, refl, ap}
use Rattle.run_model.proofs.Common.{IsTrue, same_Some, none-some, is_recorded_kind}
use Rattle.run_model.proofs.Common.{is_name, is_text, kind_bytes, and_from}
use Rattle.run_model.specs.declared.scopes.Kind.{Kind}
use Rattle.run_model.specs.declared.scopes.Kind.TheVariants as kind
use Rattle.row_view.specs.Fields.{moment_at, optional_at, text_at, two, kind_at, kind_by}
use Rattle.row_view.proofs.Codecs.{Takes, Codec, same_takes, chosen, first_true, second_true}
use Rattle.row_view.proofs.Codecs.{two_takes, two_again}
use Rattle.row_view.proofs.Fields.{moment, text_field, optional_field, by_byte, is_byte}

abbrev TakesKind : List ℕ → Kind × List ℕ → Type 0
TakesKind bytes x = Takes kind_bytes is_recorded_kind bytes x

-- A kind that is its byte alone.
bare_kind :
    (b k : ℕ) (made : Kind) (bytes : List ℕ) (x : Kind × List ℕ) → (b == k) ≡ true →
    k ∷ [] ≡ kind_bytes made → is_recorded_kind made ≡ true → Some (made, bytes) ≡ Some x →
    TakesKind (b ∷ bytes) x
bare_kind b k made bytes x same spelled ok e =
    same_takes (b ∷ bytes) (made, bytes) x (same_Some (made, bytes) x e)
    (is_byte (λ n. TakesKind (n ∷ bytes) (made, bytes)) b k same
    (record { spelled = ap (λ f. f ++ bytes) spelled; tested = ok }))

deadline_kind :
    (b : ℕ) (bytes : List ℕ) (x : Kind × List ℕ) → (b == 3) ≡ true →
    two moment_at optional_at kind.Deadline bytes ≡ Some x → TakesKind (b ∷ bytes) x
deadline_kind b bytes x same e =
    two_takes moment optional_field kind.Deadline (λ y rest. TakesKind (b ∷ bytes) (y, rest))
    bytes x
    (λ m c rest spelled p q.
    is_byte (λ n. TakesKind (n ∷ bytes) (kind.Deadline m c, rest)) b 3 same
    (record { spelled = ap (λ r. 3 ∷ r) spelled; tested = and_from _ _ p q }))
    e

value_kind :
    (b : ℕ) (bytes : List ℕ) (x : Kind × List ℕ) → (b == 4) ≡ true →
    two (text_at is_name) (text_at is_text) kind.Value bytes ≡ Some x → TakesKind (b ∷ bytes) x
value_kind b bytes x same e =
    two_takes (text_field is_name) (text_field is_text) kind.Value
    (λ y rest. TakesKind (b ∷ bytes) (y, rest)) bytes x
    (λ k t rest spelled p q.
    is_byte (λ n. TakesKind (n ∷ bytes) (kind.Value k t, rest)) b 4 same
    (record { spelled = ap (λ r. 4 ∷ r) spelled; tested = and_from _ _ p q }))
    e

pub kind_known :
    (b : ℕ) (bytes : List ℕ) (x : Kind × List ℕ) → kind_by b bytes ≡ Some x →
    TakesKind (b ∷ bytes) x
unfolding kind_by
kind_known b bytes x e =
    let bare = λ (k : ℕ) (made : Kind). bare_kind b k made bytes x in
    chosen (b == 1) _ _ _ (λ same e. bare 1 kind.Cancel same refl refl e) (λ differs e.
    chosen (b == 2) _ _ _ (λ same e. bare 2 kind.Cause same refl refl e) (λ differs e.
    chosen (b == 3) _ _ _ (λ same e. deadline_kind b bytes x same e) (λ differs e.
    chosen (b == 4) _ _ _ (λ same e. value_kind b bytes x same e) (λ differs e.
    chosen (b == 5) _ _ _ (λ same e. bare 5 kind.Detached same refl refl e) (λ differs e.
    absurd (none-some x e)) e) e) e) e) e

pub kind_again :
    (made : Kind) (rest : List ℕ) → IsTrue (is_recorded_kind made) →
    kind_at (kind_bytes made ++ rest) ≡ Some (made, rest)
unfolding kind_at kind_by
kind_again kind.Root rest ok = absurd (cc)
kind_again kind.Cancel rest ok = refl
kind_again kind.Cause rest ok = refl
kind_again (kind.Deadline m c) rest ok =
    two_again moment optional_field kind.Deadline m c rest (first_true _ _ ok) (second_true _ _ ok)
kind_again (kind.Value k t) rest ok =
    two_again (text_field is_name) (text_field is_text) kind.Value k t rest
    (first_true _ _ ok) (second_true _ _ ok)
kind_again kind.Detached rest ok = refl
kind_again kind.Group rest ok = absurd (cc)

pub kind_field : Codec kind_at kind_bytes is_recorded_kind
unfolding kind_at
kind_field = record {
  takes = λ bytes x e. by_byte kind_by kind_bytes is_recorded_kind kind_known bytes x e;
  again = kind_again;
}
