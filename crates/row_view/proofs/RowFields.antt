-- The fields of rows are read exactly if the bytes begin with them.
use Rattle.run_model.proofs.Common.{◌≡◌, ℕ, ◌<◌, ◌==◌, ◌^◌, Bool, true, List, [], ◌∷◌, ◌++◌}
use Rattle.run_model.proofs.Common.{Option, Some, None, refl, sym, ap, arith, IsTrue, nat_lt, w64}
use Rattle.run_model.proofs.Common.{to_be_bytes, same_Some, none-some, ltb-true, lt-ltb}
use Rattle.run_model.proofs.Common.{is_recorded_kind, is_name, is_text, kind_bytes, text_bytes}
use Rattle.std.specs.Int.{from_be_bytes}
use Rattle.std.proofs.lemmas.Nat.{from_be_bytes-to_be_bytes_8}
use Rattle.run_model.specs.declared.scopes.Kind.{Kind}
use Rattle.run_model.specs.declared.scopes.Kind.TheVariants as kind
use Rattle.run_model.specs.declared.scopes.Reason.{Reason}
use Rattle.run_model.specs.declared.scopes.Reason.TheVariants.{Canceled, DeadlineExceeded}
use Rattle.run_model.specs.declared.scopes.Hit.{Hit}
use Rattle.row_view.specs.Fields.{number_at, kind_at}
use Rattle.row_view.specs.Image.{reason_bytes, hit_bytes, scope_bytes, is_kept_kind}
use Rattle.row_view.specs.Image.{is_kept_hit, is_kept_scope}
use Rattle.row_view.specs.RowReading.{reason_at, reason_by, row_kind_at, row_kind_by}
use Rattle.row_view.specs.RowReading.{hit_fields_at, hit_at, hit_by, hit_made, scope_at}
use Rattle.row_view.specs.RowReading.{scope_made}
use Rattle.row_view.proofs.Codecs.{Takes, Codec, same_takes, chosen, first_true}
use Rattle.row_view.proofs.Codecs.{second_true, one_takes, one_again}
use Rattle.row_view.proofs.Fields.{number_spelled, number_again, row_number, moment, text_field}
use Rattle.row_view.proofs.Fields.{by_byte, is_byte}
use Rattle.row_view.proofs.KindCodecs.{kind_known, kind_again}
use Rattle.row_view.proofs.LongCodecs.{four_takes, four_again}
use Rattle.run_model.proofs.Common.{and_from}

-- ---- numbers

below_2_64 : (n : ℕ) → from_be_bytes w64 (to_be_bytes w64 n) < 2 ^ 64
below_2_64 n = omega arith

pub long_number : Codec (number_at w64) (to_be_bytes w64) (λ n. nat_lt n (2 ^ 64))
long_number = record {
  takes = λ bytes x e.
      let read = number_spelled w64 bytes x e in
      record {
        spelled = read.0;
        tested = lt-ltb x.0 (2 ^ 64) (rw read.1 (below_2_64 x.0));
      };
  again = λ n rest ok.
      number_again w64 n rest (sym (from_be_bytes-to_be_bytes_8 n (ltb-true n (2 ^ 64) ok))) refl;
}

-- ---- a value that is its byte alone

module _ {A : Type 0} (write : A → List ℕ) (test : A → Bool) where
  pub bare_value :
      (b k : ℕ) (made : A) (bytes : List ℕ) (x : A × List ℕ) → (b == k) ≡ true →
      k ∷ [] ≡ write made → test made ≡ true → Some (made, bytes) ≡ Some x →
      Takes write test (b ∷ bytes) x
  bare_value b k made bytes x same spelled ok e =
      same_takes (b ∷ bytes) (made, bytes) x (same_Some (made, bytes) x e)
      (is_byte (λ n. Takes write test (n ∷ bytes) (made, bytes)) b k same
      (record { spelled = ap (λ f. f ++ bytes) spelled; tested = ok }))

-- ---- reasons

abbrev any_reason : Reason → Bool
any_reason _ = true

reason_known :
    (b : ℕ) (bytes : List ℕ) (x : Reason × List ℕ) → reason_by b bytes ≡ Some x →
    Takes reason_bytes any_reason (b ∷ bytes) x
unfolding reason_by
reason_known b bytes x e =
    let bare = λ (k : ℕ) (made : Reason). bare_value reason_bytes any_reason b k made bytes x in
    chosen (b == 1) _ _ _ (λ same e. bare 1 Canceled same refl refl e) (λ differs e.
    chosen (b == 2) _ _ _ (λ same e. bare 2 DeadlineExceeded same refl refl e) (λ differs e.
    absurd (none-some x e)) e) e

reason_again :
    (made : Reason) (rest : List ℕ) → IsTrue (any_reason made) →
    reason_at (reason_bytes made ++ rest) ≡ Some (made, rest)
unfolding reason_at reason_by
reason_again Canceled rest ok = refl
reason_again DeadlineExceeded rest ok = refl

pub reason_field : Codec reason_at reason_bytes any_reason
unfolding reason_at
reason_field = record {
  takes = λ bytes x e. by_byte reason_by reason_bytes any_reason reason_known bytes x e;
  again = reason_again;
}

-- ---- kinds

-- A kind of a record is one of a row.
pub recorded_kept : (made : Kind) → IsTrue (is_recorded_kind made) → IsTrue (is_kept_kind made)
recorded_kept kind.Root ok = ok
recorded_kept kind.Cancel ok = ok
recorded_kept kind.Cause ok = ok
recorded_kept (kind.Deadline m c) ok = ok
recorded_kept (kind.Value k t) ok = ok
recorded_kept kind.Detached ok = ok
recorded_kept kind.Group ok = refl

row_kind_known :
    (b : ℕ) (bytes : List ℕ) (x : Kind × List ℕ) → row_kind_by b bytes ≡ Some x →
    Takes kind_bytes is_kept_kind (b ∷ bytes) x
row_kind_known b bytes x e =
    chosen (b == 6) _ _ _
    (λ same e. bare_value kind_bytes is_kept_kind b 6 kind.Group bytes x same refl refl e)
    (λ differs e.
    let taken = kind_known b bytes x e in
    record { spelled = taken.spelled; tested = recorded_kept x.0 taken.tested }) e

row_kind_again :
    (made : Kind) (rest : List ℕ) → IsTrue (is_kept_kind made) →
    row_kind_at (kind_bytes made ++ rest) ≡ Some (made, rest)
unfolding row_kind_at kind_at
row_kind_again kind.Root rest ok = absurd (cc)
row_kind_again kind.Cancel rest ok = kind_again kind.Cancel rest ok
row_kind_again kind.Cause rest ok = kind_again kind.Cause rest ok
row_kind_again (kind.Deadline m c) rest ok = kind_again (kind.Deadline m c) rest ok
row_kind_again (kind.Value k t) rest ok = kind_again (kind.Value k t) rest ok
row_kind_again kind.Detached rest ok = kind_again kind.Detached rest ok
row_kind_again kind.Group rest ok = refl

pub row_kind_field : Codec row_kind_at kind_bytes is_kept_kind
unfolding row_kind_at
row_kind_field = record {
  takes = λ bytes x e. by_byte row_kind_by kind_bytes is_kept_kind row_kind_known bytes x e;
  again = row_kind_again;
}

-- ---- hits

abbrev hit_fields : Hit → List ℕ
hit_fields hit =
    to_be_bytes w64 hit.event ++ to_be_bytes w64 hit.moment ++ reason_bytes hit.reason
    ++ text_bytes hit.cause

abbrev is_kept_fields : Hit → Bool
is_kept_fields hit = is_kept_hit (Some hit)

hit_fields_field : Codec hit_fields_at hit_fields is_kept_fields
unfolding hit_fields_at
hit_fields_field = record {
  takes = λ bytes x e.
      four_takes long_number moment reason_field (text_field is_text) hit_made
      (λ y rest. Takes hit_fields is_kept_fields bytes (y, rest)) bytes x
      (λ event m reason cause rest spelled p q r s. record {
        spelled = spelled;
        tested = and_from _ _ (and_from _ _ (and_from _ _ p q) r) s;
      }) e;
  again = λ hit rest ok.
      four_again long_number moment reason_field (text_field is_text) hit_made
      hit.event hit.moment hit.reason hit.cause rest
      (first_true _ _ (first_true _ _ (first_true _ _ ok)))
      (second_true _ _ (first_true _ _ (first_true _ _ ok)))
      refl
      (second_true _ _ ok);
}

hit_known :
    (b : ℕ) (bytes : List ℕ) (x : Option Hit × List ℕ) → hit_by b bytes ≡ Some x →
    Takes hit_bytes is_kept_hit (b ∷ bytes) x
unfolding hit_by
hit_known b bytes x e =
    chosen (b == 0) _ _ _
    (λ same e. bare_value hit_bytes is_kept_hit b 0 None bytes x same refl refl e)
    (λ differs e.
    chosen (b == 1) _ _ _
    (λ same e.
    one_takes hit_fields_field Some (λ y rest. Takes hit_bytes is_kept_hit (b ∷ bytes) (y, rest))
    bytes x
    (λ hit rest spelled p.
    is_byte (λ n. Takes hit_bytes is_kept_hit (n ∷ bytes) (Some hit, rest)) b 1 same
    (record { spelled = ap (λ r. 1 ∷ r) spelled; tested = p }))
    e)
    (λ differs e. absurd (none-some x e)) e) e

hit_again :
    (hit : Option Hit) (rest : List ℕ) → IsTrue (is_kept_hit hit) →
    hit_at (hit_bytes hit ++ rest) ≡ Some (hit, rest)
unfolding hit_at hit_by
hit_again None rest ok = refl
hit_again (Some hit) rest ok = one_again hit_fields_field Some hit rest ok

pub hit_field : Codec hit_at hit_bytes is_kept_hit
unfolding hit_at
hit_field = record {
  takes = λ bytes x e. by_byte hit_by hit_bytes is_kept_hit hit_known bytes x e;
  again = hit_again;
}

-- ---- the row of a scope

pub scope_row : Codec scope_at scope_bytes is_kept_scope
unfolding scope_at
scope_row = record {
  takes = λ bytes x e.
      four_takes (text_field is_name) row_number row_kind_field hit_field scope_made
      (λ y rest. Takes scope_bytes is_kept_scope bytes (y, rest)) bytes x
      (λ name parent made hit rest spelled p q r s. record {
        spelled = spelled;
        tested = and_from _ _ (and_from _ _ (and_from _ _ p q) r) s;
      }) e;
  again = λ row rest ok.
      four_again (text_field is_name) row_number row_kind_field hit_field scope_made
      row.name row.parent row.kind row.hit rest
      (first_true _ _ (first_true _ _ (first_true _ _ ok)))
      (second_true _ _ (first_true _ _ (first_true _ _ ok)))
      (second_true _ _ (first_true _ _ ok))
      (second_true _ _ ok);
}
