-- A reader of a value from the beginning of some bytes, and the writer that is its inverse.
use Rattle.run_model.proofs.Common.{◌≡◌, ℕ, ◌&&◌, cond, Bool, true, false, List, ◌++◌, Option}
use Rattle.run_model.proofs.Common.{Some, None, refl, sym, ap, ◌∙◌, subst, append_assoc}
use Rattle.run_model.proofs.Common.{option_map, IsTrue, same_Some, none-some}
use Rattle.std.specs.Prelude.{IfSome}
use Rattle.row_view.specs.Fields.{Reader, ◌>>=◌, one, two, three}

-- Whatever is read is the spelling of a value that passes the test.
pub record Takes
    {A : Type 0} (write : A → List ℕ) (test : A → Bool) (bytes : List ℕ) (x : A × List ℕ)
    : Type 0 where
  pub spelled : bytes ≡ write x.0 ++ x.1
  pub tested : IsTrue (test x.0)

pub same_takes :
    {A : Type 0} {write : A → List ℕ} {test : A → Bool} (bytes : List ℕ) (y x : A × List ℕ) →
    y ≡ x → Takes write test bytes y → Takes write test bytes x
same_takes {A} {write} {test} bytes y x e taken =
    let P : A × List ℕ → Type 0 = λ z. Takes write test bytes z in subst P e taken

-- Exactly the spellings of values that pass the test are read.
pub record Codec
    {A : Type 0} (read : Reader A) (write : A → List ℕ) (test : A → Bool)
    : Type 0 where
  pub takes : (bytes : List ℕ) (x : A × List ℕ) → read bytes ≡ Some x → Takes write test bytes x
  pub again : (a : A) (rest : List ℕ) → IsTrue (test a) → read (write a ++ rest) ≡ Some (a, rest)

-- A value that was read passes the test.
pub read_passes :
    {A X : Type 0} {read : Reader A} {write : A → List ℕ} {test : A → Bool}
    (codec : Codec read write test) (bytes : List ℕ) (shown : X → A × List ℕ) (found : Option X) →
    option_map shown found ≡ read bytes → IfSome found (λ x. IsTrue (test (shown x).0))
read_passes codec bytes shown None e = tt
read_passes codec bytes shown (Some x) e = (codec.takes bytes (shown x) (sym e)).tested

-- ---- options and tests

-- A chain of readers that returned a value went through each of them.
pub through :
    {A B : Type 0} (m : Option A) (f : A → Option B) (y : B) → (m >>= f) ≡ Some y →
    (x : A) × (m ≡ Some x) × (f x ≡ Some y)
through (Some x) f y e = (x, refl, e)
through None f y e = absurd (none-some y e)

-- The converse of `cond_some`.
pub some_else :
    {A : Type 0} (b : Bool) (x y : A) → cond b None (Some x) ≡ Some y → (b ≡ false) × (x ≡ y)
some_else true x y e = absurd (none-some y e)
some_else false x y e = (refl, same_Some x y e)

-- The result of a choice came from one of the two.
pub chosen :
    {X G : Type 0} (b : Bool) (x y z : X) →
    (b ≡ true → x ≡ z → G) → (b ≡ false → y ≡ z → G) → cond b x y ≡ z → G
chosen true x y z first second e = first refl e
chosen false x y z first second e = second refl e

pub first_true : (a b : Bool) → (a && b) ≡ true → a ≡ true
first_true true b e = refl
first_true false b e = e

pub second_true : (a b : Bool) → (a && b) ≡ true → b ≡ true
second_true true b e = e
second_true false b e = absurd (cc)

-- ---- several in a row

module _
    {A X : Type 0} {read_a : Reader A} {write_a : A → List ℕ} {test_a : A → Bool}
    (first : Codec read_a write_a test_a) (make : A → X) where
  -- What one field gave was made of a value whose spelling the bytes begin with.
  pub one_takes :
      (M : X → List ℕ → Type 0) (bytes : List ℕ) (x : X × List ℕ) →
      ((a : A) (rest : List ℕ) → bytes ≡ write_a a ++ rest → IsTrue (test_a a) → M (make a) rest) →
      one read_a make bytes ≡ Some x → M x.0 x.1
  one_takes M bytes x made e =
      let a = through (read_a bytes) (λ (a : A × List ℕ). Some (make a.0, a.1)) x e in
      let taken = first.takes bytes a.0 a.1 in
      let P : X × List ℕ → Type 0 = λ y. M y.0 y.1 in
      subst P (same_Some (make a.0.0, a.0.1) x a.2) (made a.0.0 a.0.1 taken.spelled taken.tested)

  pub one_again :
      (a : A) (rest : List ℕ) → IsTrue (test_a a) →
      one read_a make (write_a a ++ rest) ≡ Some (make a, rest)
  one_again a rest ok = rw (first.again a rest ok)

module _
    {A B X : Type 0} {read_a : Reader A} {write_a : A → List ℕ} {test_a : A → Bool}
    {read_b : Reader B} {write_b : B → List ℕ} {test_b : B → Bool}
    (first : Codec read_a write_a test_a) (second : Codec read_b write_b test_b)
    (make : A → B → X) where
  pub two_takes :
      (M : X → List ℕ → Type 0) (bytes : List ℕ) (x : X × List ℕ) →
      ((a : A) (b : B) (rest : List ℕ) → bytes ≡ (write_a a ++ write_b b) ++ rest →
      IsTrue (test_a a) → IsTrue (test_b b) → M (make a b) rest) →
      two read_a read_b make bytes ≡ Some x → M x.0 x.1
  two_takes M bytes x made e =
      let a = through (read_a bytes) (λ (a : A × List ℕ). one read_b (make a.0) a.1) x e in
      let taken = first.takes bytes a.0 a.1 in
      one_takes second (make a.0.0) M a.0.1 x
      (λ b rest spelled ok.
      made a.0.0 b rest
      (taken.spelled ∙ ap (λ r. write_a a.0.0 ++ r) spelled
      ∙ sym (append_assoc (write_a a.0.0) (write_b b) rest))
      taken.tested ok)
      a.2

  pub two_again :
      (a : A) (b : B) (rest : List ℕ) → IsTrue (test_a a) → IsTrue (test_b b) →
      two read_a read_b make ((write_a a ++ write_b b) ++ rest) ≡ Some (make a b, rest)
  two_again a b rest p q =
      rw (
        append_assoc (write_a a) (write_b b) rest,
        first.again a (write_b b ++ rest) p,
        second.again b rest q,
      )

module _
    {A B C X : Type 0} {read_a : Reader A} {write_a : A → List ℕ} {test_a : A → Bool}
    {read_b : Reader B} {write_b : B → List ℕ} {test_b : B → Bool}
    {read_c : Reader C} {write_c : C → List ℕ} {test_c : C → Bool}
    (first : Codec read_a write_a test_a) (second : Codec read_b write_b test_b)
    (third : Codec read_c write_c test_c) (make : A → B → C → X) where
  pub three_takes :
      (M : X → List ℕ → Type 0) (bytes : List ℕ) (x : X × List ℕ) →
      ((a : A) (b : B) (c : C) (rest : List ℕ) →
      bytes ≡ ((write_a a ++ write_b b) ++ write_c c) ++ rest →
      IsTrue (test_a a) → IsTrue (test_b b) → IsTrue (test_c c) → M (make a b c) rest) →
      three read_a read_b read_c make bytes ≡ Some x → M x.0 x.1
  three_takes M bytes x made e =
      let a = through (read_a bytes) (λ (a : A × List ℕ). two read_b read_c (make a.0) a.1) x e in
      let taken = first.takes bytes a.0 a.1 in
      two_takes second third (make a.0.0) M a.0.1 x
      (λ b c rest spelled p q.
      made a.0.0 b c rest
      (taken.spelled ∙ ap (λ r. write_a a.0.0 ++ r) spelled
      ∙ sym (four_parts (write_a a.0.0) (write_b b) (write_c c) rest))
      taken.tested p q)
      a.2
    where
      four_parts : (w x y z : List ℕ) → ((w ++ x) ++ y) ++ z ≡ w ++ ((x ++ y) ++ z)
      four_parts w x y z = simp append_assoc

  pub three_again :
      (a : A) (b : B) (c : C) (rest : List ℕ) →
      IsTrue (test_a a) → IsTrue (test_b b) → IsTrue (test_c c) →
      three read_a read_b read_c make (((write_a a ++ write_b b) ++ write_c c) ++ rest)
      ≡ Some (make a b c, rest)
  three_again a b c rest p q r =
      rw (
        append_assoc (write_a a ++ write_b b) (write_c c) rest,
        append_assoc (write_a a) (write_b b) (write_c c ++ rest),
        first.again a (write_b b ++ (write_c c ++ rest)) p,
        second.again b (write_c c ++ rest) q,
        third.again c rest r,
      )
