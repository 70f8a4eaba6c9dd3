-- Each field is read exactly if the bytes begin with it.
use Rattle.run_model.proofs.Common.{◌^◌, length-append, ◌≡◌, ℕ, ◌<◌, ◌≤◌, ◌==◌, nat_lt, cond, Bool}
use Rattle.run_model.proofs.Common.{true, false, List, [], ◌∷◌, ◌++◌, length, take, drop, Option}
use Rattle.run_model.proofs.Common.{Some, None, refl, sym, ap, ◌∙◌, subst, arith, IsTrue, w16, w64}
use Rattle.run_model.proofs.Common.{to_be_bytes, bytes_eq, take-append-drop, length-take-le}
use Rattle.run_model.proofs.Common.{take-append_seam, drop-append_seam, same_Some, none-some}
use Rattle.run_model.proofs.Common.{cond_some, bytes_eq-Decides, ltb-true, lt-ltb, ltb-false}
use Rattle.run_model.proofs.Common.{le-ltb, leb-true, eqb-true, ne_eqb, is_row_number, is_moment}
use Rattle.run_model.proofs.Common.{is_limit, is_optional_text, is_text, text_bytes}
use Rattle.run_model.proofs.Common.{optional_bytes, cond-true}
use Rattle.std.specs.Int.{Width, byte_len, from_be_bytes}
use Rattle.std.proofs.lemmas.Nat.{from_be_bytes-to_be_bytes_2, from_be_bytes-to_be_bytes_8}
use Rattle.row_view.specs.Fields.{Reader, ◌>>=◌, number_at, moment_at, part_at, tested_at}
use Rattle.row_view.specs.Fields.{byte_at, text_at, optional_at, optional_by, limit_at}
use Rattle.row_view.specs.Fields.{limit_by, one}
use Rattle.run_model.specs.Spelling.{limit_bytes}
use Rattle.row_view.proofs.Codecs.{Takes, Codec, through, some_else, chosen, first_true}
use Rattle.row_view.proofs.NumberLaws.{number_read}

-- ---- numbers

-- The bytes begin with the spelling of a number that was read.
pub number_spelled :
    (w : Width) (bytes : List ℕ) (x : ℕ × List ℕ) → number_at w bytes ≡ Some x →
    (bytes ≡ to_be_bytes w x.0 ++ x.1) × (x.0 ≡ from_be_bytes w (to_be_bytes w x.0))
unfolding number_at
number_spelled w bytes x e =
    let prefix = take (byte_len w) bytes in
    let n = from_be_bytes w prefix in
    let read = cond_some (bytes_eq (to_be_bytes w n) prefix) (n, drop (byte_len w) bytes) x e in
    let same : to_be_bytes w n ≡ prefix = (bytes_eq-Decides (to_be_bytes w n) prefix).0 read.0 in
    let P : ℕ × List ℕ → Type 0 =
    λ y. (bytes ≡ to_be_bytes w y.0 ++ y.1) × (y.0 ≡ from_be_bytes w (to_be_bytes w y.0)) in
    subst P read.1 (
      sym (take-append-drop (byte_len w) bytes) ∙ ap (λ f. f ++ drop (byte_len w) bytes) (sym same),
      ap (λ f. from_be_bytes w f) (sym same),
    )

-- Two lists that were joined come apart where the first one ends.
pub seam :
    (prefix rest : List ℕ) (k : ℕ) → length prefix ≡ k →
    (prefix ≡ take k (prefix ++ rest)) × (drop k (prefix ++ rest) ≡ rest)
seam prefix rest k size = (
  sym (ap (λ n. take n (prefix ++ rest)) (sym size) ∙ take-append_seam prefix rest),
  ap (λ n. drop n (prefix ++ rest)) (sym size) ∙ drop-append_seam prefix rest,
)

-- A number that comes back from its bytes is read again, whatever follows.
pub number_again :
    (w : Width) (n : ℕ) (rest : List ℕ) → n ≡ from_be_bytes w (to_be_bytes w n) →
    length (to_be_bytes w n) ≡ byte_len w →
    number_at w (to_be_bytes w n ++ rest) ≡ Some (n, rest)
number_again w n rest value size =
    let parts = seam (to_be_bytes w n) rest (byte_len w) size in
    number_read w (to_be_bytes w n ++ rest) (to_be_bytes w n) n parts.0 value refl
    ∙ ap (λ r. Some (n, r)) parts.1

below_2_16 : (n : ℕ) → from_be_bytes w16 (to_be_bytes w16 n) < 2 ^ 16
below_2_16 n = omega arith

pub row_number : Codec (number_at w16) (to_be_bytes w16) is_row_number
row_number = record {
  takes = λ bytes x e.
      let read = number_spelled w16 bytes x e in
      record {
        spelled = read.0;
        tested = lt-ltb x.0 (2 ^ 16) (rw read.1 (below_2_16 x.0));
      };
  again = λ n rest ok.
      number_again w16 n rest (sym (from_be_bytes-to_be_bytes_2 n (ltb-true n (2 ^ 16) ok))) refl;
}

abbrev checked : ℕ × List ℕ → Option (ℕ × List ℕ)
checked n = cond (is_moment n.0) (Some n) None

pub moment : Codec moment_at (to_be_bytes w64) is_moment
unfolding moment_at
moment = record {
  takes = λ bytes x e.
      let n = through (number_at w64 bytes) checked x e in
      let ok = cond_some (is_moment n.0.0) n.0 x n.2 in
      let P : ℕ × List ℕ → Type 0 = λ y. Takes (to_be_bytes w64) is_moment bytes y in
      subst P ok.1 (record { spelled = (number_spelled w64 bytes n.0 n.1).0; tested = ok.0 });
  again = λ n rest ok.
      let small : n < 2 ^ 64 = let h = leb-true n 253000000000 ok in omega arith in
      let read = number_again w64 n rest (sym (from_be_bytes-to_be_bytes_8 n small)) refl in
      ap (λ m. m >>= checked) read ∙ cond-true (is_moment n) (Some (n, rest)) None ok;
}

-- ---- texts

pub split_part :
    (n : ℕ) (bytes : List ℕ) (x : List ℕ × List ℕ) → part_at n bytes ≡ Some x →
    (bytes ≡ x.0 ++ x.1) × (length x.0 ≡ n)
unfolding part_at
split_part n bytes x e =
    let read = some_else (nat_lt (length bytes) n) (take n bytes, drop n bytes) x e in
    let P : List ℕ × List ℕ → Type 0 = λ y. (bytes ≡ y.0 ++ y.1) × (length y.0 ≡ n) in
    subst P read.1 (
      sym (take-append-drop n bytes),
      length-take-le n bytes (ltb-false (length bytes) n read.0),
    )

pub part_again : (part rest : List ℕ) → part_at (length part) (part ++ rest) ≡ Some (part, rest)
unfolding part_at
part_again part rest =
    let long : nat_lt (length (part ++ rest)) (length part) ≡ false =
    le-ltb (length (part ++ rest)) (length part) (omega (arith, length-append part rest)) in
    let parts = seam part rest (length part) refl in
    rw (long, ← parts.0, parts.1)

abbrev passed : (List ℕ → Bool) → List ℕ × List ℕ → Option (List ℕ × List ℕ)
passed test text = cond (test text.0) (Some text) None

-- What is read is of the length, and passes the test.
tested_spelled :
    (test : List ℕ → Bool) (n : ℕ) (bytes : List ℕ) (x : List ℕ × List ℕ) →
    tested_at test n bytes ≡ Some x →
    (bytes ≡ x.0 ++ x.1) × (length x.0 ≡ n) × IsTrue (test x.0)
unfolding tested_at
tested_spelled test n bytes x e =
    let text = through (part_at n bytes) (passed test) x e in
    let ok = cond_some (test text.0.0) text.0 x text.2 in
    let split = split_part n bytes text.0 text.1 in
    let P : List ℕ × List ℕ → Type 0 =
    λ y. (bytes ≡ y.0 ++ y.1) × (length y.0 ≡ n) × IsTrue (test y.0) in
    subst P ok.1 (split.0, split.1, ok.0)

tested_again :
    (test : List ℕ → Bool) (text rest : List ℕ) → IsTrue (test text) →
    tested_at test (length text) (text ++ rest) ≡ Some (text, rest)
unfolding tested_at
tested_again test text rest ok =
    ap (λ m. m >>= passed test) (part_again text rest)
    ∙ cond-true (test text) (Some (text, rest)) None ok

-- ---- names and texts

pub byte_spelled :
    (bytes : List ℕ) (x : ℕ × List ℕ) → byte_at bytes ≡ Some x → bytes ≡ x.0 ∷ x.1
byte_spelled [] x e = absurd (none-some x e)
byte_spelled (b ∷ bytes) x e = ap (λ y. y.0 ∷ y.1) (same_Some (b, bytes) x e)

pub text_field : (test : List ℕ → Bool) → Codec (text_at test) text_bytes test
unfolding text_at
text_field test = record {
  takes = λ bytes x e.
      let n = through (byte_at bytes) (λ (n : ℕ × List ℕ). tested_at test n.0 n.1) x e in
      let text = tested_spelled test n.0.0 n.0.1 x n.2 in
      record {
        spelled =
            byte_spelled bytes n.0 n.1 ∙ ap (λ r. n.0.0 ∷ r) text.0
            ∙ ap (λ k. k ∷ (x.0 ++ x.1)) (sym text.1);
        tested = text.2;
      };
  again = λ text rest ok. tested_again test text rest ok;
}

-- A field that begins with a byte, by the way to read on after each byte.
pub by_byte :
    {A : Type 0} (by : ℕ → Reader A) (write : A → List ℕ) (test : A → Bool) →
    ((b : ℕ) (bytes : List ℕ) (x : A × List ℕ) → by b bytes ≡ Some x →
    Takes write test (b ∷ bytes) x) →
    (bytes : List ℕ) (x : A × List ℕ) → (byte_at bytes >>= λ b. by b.0 b.1) ≡ Some x →
    Takes write test bytes x
by_byte by write test known bytes x e =
    let b = through (byte_at bytes) (λ (b : ℕ × List ℕ). by b.0 b.1) x e in
    let P : List ℕ → Type 0 = λ l. Takes write test l x in
    subst P (sym (byte_spelled bytes b.0 b.1)) (known b.0.0 b.0.1 x b.2)

-- The byte is the one that it was compared with.
pub is_byte : (P : ℕ → Type 0) (b k : ℕ) → (b == k) ≡ true → P k → P b
is_byte P b k same p = subst P (sym (eqb-true b k same)) p

optional_known :
    (n : ℕ) (bytes : List ℕ) (x : Option (List ℕ) × List ℕ) → optional_by n bytes ≡ Some x →
    Takes optional_bytes is_optional_text (n ∷ bytes) x
unfolding optional_by
optional_known n bytes x e =
    chosen (n == 0) (Some (None, bytes)) (one (tested_at is_text n) Some bytes) (Some x)
    (λ same e.
    let P : Option (List ℕ) × List ℕ → Type 0 =
    λ y. Takes optional_bytes is_optional_text (n ∷ bytes) y in
    let Q : ℕ → Type 0 =
    λ k. Takes optional_bytes is_optional_text (k ∷ bytes) (None, bytes) in
    subst P (same_Some (None, bytes) x e)
    (is_byte Q n 0 same (record { spelled = refl; tested = refl })))
    (λ other e.
    let some = λ (t : List ℕ × List ℕ). Some (Some t.0, t.1) in
    let text = through (tested_at is_text n bytes) some x e in
    let read = tested_spelled is_text n bytes text.0 text.1 in
    let P : Option (List ℕ) × List ℕ → Type 0 =
    λ y. Takes optional_bytes is_optional_text (n ∷ bytes) y in
    subst P (same_Some (Some text.0.0, text.0.1) x text.2) (record {
      spelled = ap (λ r. n ∷ r) read.0 ∙ ap (λ k. k ∷ (text.0.0 ++ text.0.1)) (sym read.1);
      tested = read.2;
    }))
    e

-- A text has a byte at least, so its length is none that says that it is missing.
text_not_empty : (text : List ℕ) → is_text text ≡ true → (length text == 0) ≡ false
text_not_empty text ok =
    let some : 1 ≤ length text = leb-true 1 (length text) (first_true _ _ (first_true _ _ ok)) in
    ne_eqb (length text) 0 (λ none. omega arith)

optional_again :
    (text : Option (List ℕ)) (rest : List ℕ) → IsTrue (is_optional_text text) →
    optional_at (optional_bytes text ++ rest) ≡ Some (text, rest)
unfolding optional_at optional_by
optional_again None rest ok = refl
optional_again (Some text) rest ok =
    rw (text_not_empty text ok, tested_again is_text text rest ok)

pub optional_field : Codec optional_at optional_bytes is_optional_text
unfolding optional_at
optional_field = record {
  takes = λ bytes x e. by_byte optional_by optional_bytes is_optional_text optional_known bytes x e;
  again = optional_again;
}

-- ---- limits

limit_known :
    (b : ℕ) (bytes : List ℕ) (x : Option ℕ × List ℕ) → limit_by b bytes ≡ Some x →
    Takes limit_bytes is_limit (b ∷ bytes) x
unfolding limit_by
limit_known b bytes x e =
    let P : Option ℕ × List ℕ → Type 0 = λ y. Takes limit_bytes is_limit (b ∷ bytes) y in
    let other : Option (Option ℕ × List ℕ) = cond (is_limit (Some b)) (Some (Some b, bytes)) None in
    chosen (b == 255) (Some (None, bytes)) other (Some x)
    (λ same e.
    let Q : ℕ → Type 0 = λ k. Takes limit_bytes is_limit (k ∷ bytes) (None, bytes) in
    subst P (same_Some (None, bytes) x e)
    (is_byte Q b 255 same (record { spelled = refl; tested = refl })))
    (λ differs e.
    let ok = cond_some (is_limit (Some b)) (Some b, bytes) x e in
    subst P ok.1 (record { spelled = refl; tested = ok.0 }))
    e

limit_again :
    (limit : Option ℕ) (rest : List ℕ) → IsTrue (is_limit limit) →
    limit_at (limit_bytes limit ++ rest) ≡ Some (limit, rest)
unfolding limit_at limit_by
limit_again None rest ok = refl
limit_again (Some most) rest ok =
    let small : most ≤ 64 = leb-true most 64 ok in
    rw (ne_eqb most 255 (λ same. omega arith), ok)

pub limit_field : Codec limit_at limit_bytes is_limit
unfolding limit_at
limit_field = record {
  takes = λ bytes x e. by_byte limit_by limit_bytes is_limit limit_known bytes x e;
  again = limit_again;
}
