-- Four, five and six fields in a row.
use Rattle.run_model.proofs.Common.{◌≡◌, ℕ, Bool, List, ◌++◌, Some, sym, ap, ◌∙◌, append_assoc}
use Rattle.run_model.proofs.Common.{IsTrue}
use Rattle.row_view.specs.Fields.{Reader, ◌>>=◌, three}
use Rattle.row_view.specs.RowReading.{four, five, six}
use Rattle.row_view.proofs.Codecs.{Codec, through, three_takes}

module _
    {A B C D X : Type 0} {read_a : Reader A} {write_a : A → List ℕ} {test_a : A → Bool}
    {read_b : Reader B} {write_b : B → List ℕ} {test_b : B → Bool}
    {read_c : Reader C} {write_c : C → List ℕ} {test_c : C → Bool}
    {read_d : Reader D} {write_d : D → List ℕ} {test_d : D → Bool}
    (first : Codec read_a write_a test_a) (second : Codec read_b write_b test_b)
    (third : Codec read_c write_c test_c) (fourth : Codec read_d write_d test_d)
    (make : A → B → C → D → X) where
  pub four_takes :
      (M : X → List ℕ → Type 0) (bytes : List ℕ) (x : X × List ℕ) →
      ((a : A) (b : B) (c : C) (d : D) (rest : List ℕ) →
      bytes ≡ (((write_a a ++ write_b b) ++ write_c c) ++ write_d d) ++ rest →
      IsTrue (test_a a) → IsTrue (test_b b) → IsTrue (test_c c) → IsTrue (test_d d) →
      M (make a b c d) rest) →
      four read_a read_b read_c read_d make bytes ≡ Some x → M x.0 x.1
  four_takes M bytes x made e =
      let a = through (read_a bytes)
      (λ (a : A × List ℕ). three read_b read_c read_d (make a.0) a.1) x e in
      let taken = first.takes bytes a.0 a.1 in
      three_takes second third fourth (make a.0.0) M a.0.1 x
      (λ b c d rest spelled p q r.
      made a.0.0 b c d rest
      (taken.spelled ∙ ap (λ r. write_a a.0.0 ++ r) spelled
      ∙ sym (five_parts (write_a a.0.0) (write_b b) (write_c c) (write_d d) rest))
      taken.tested p q r)
      a.2
    where
      five_parts : (v w x y z : List ℕ)
          → (((v ++ w) ++ x) ++ y) ++ z ≡ v ++ (((w ++ x) ++ y) ++ z)
      five_parts v w x y z = simp append_assoc

  pub four_again :
      (a : A) (b : B) (c : C) (d : D) (rest : List ℕ) →
      IsTrue (test_a a) → IsTrue (test_b b) → IsTrue (test_c c) → IsTrue (test_d d) →
      four read_a read_b read_c read_d make
      ((((write_a a ++ write_b b) ++ write_c c) ++ write_d d) ++ rest)
      ≡ Some (make a b c d, rest)
  four_again a b c d rest p q r s =
      rw (
        append_assoc ((write_a a ++ write_b b) ++ write_c c) (write_d d) rest,
        append_assoc (write_a a ++ write_b b) (write_c c) (write_d d ++ rest),
        append_assoc (write_a a) (write_b b) (write_c c ++ (write_d d ++ rest)),
        first.again a (write_b b ++ (write_c c ++ (write_d d ++ rest))) p,
        second.again b (write_c c ++ (write_d d ++ rest)) q,
        third.again c (write_d d ++ rest) r,
        fourth.again d rest s,
      )

module _
    {A B C D E X : Type 0} {read_a : Reader A} {write_a : A → List ℕ} {test_a : A → Bool}
    {read_b : Reader B} {write_b : B → List ℕ} {test_b : B → Bool}
    {read_c : Reader C} {write_c : C → List ℕ} {test_c : C → Bool}
    {read_d : Reader D} {write_d : D → List ℕ} {test_d : D → Bool}
    {read_e : Reader E} {write_e : E → List ℕ} {test_e : E → Bool}
    (first : Codec read_a write_a test_a) (second : Codec read_b write_b test_b)
    (third : Codec read_c write_c test_c) (fourth : Codec read_d write_d test_d)
    (fifth : Codec read_e write_e test_e) (make : A → B → C → D → E → X) where
  pub five_takes :
      (M : X → List ℕ → Type 0) (bytes : List ℕ) (x : X × List ℕ) →
      ((a : A) (b : B) (c : C) (d : D) (e : E) (rest : List ℕ) →
      bytes ≡ ((((write_a a ++ write_b b) ++ write_c c) ++ write_d d) ++ write_e e) ++ rest →
      IsTrue (test_a a) → IsTrue (test_b b) → IsTrue (test_c c) → IsTrue (test_d d) →
      IsTrue (test_e e) → M (make a b c d e) rest) →
      five read_a read_b read_c read_d read_e make bytes ≡ Some x → M x.0 x.1
  five_takes M bytes x made h =
      let a = through (read_a bytes)
      (λ (a : A × List ℕ). four read_b read_c read_d read_e (make a.0) a.1) x h in
      let taken = first.takes bytes a.0 a.1 in
      four_takes second third fourth fifth (make a.0.0) M a.0.1 x
      (λ b c d e rest spelled q r s t.
      made a.0.0 b c d e rest
      (taken.spelled ∙ ap (λ l. write_a a.0.0 ++ l) spelled
      ∙ sym (six_parts (write_a a.0.0) (write_b b) (write_c c) (write_d d) (write_e e) rest))
      taken.tested q r s t)
      a.2
    where
      six_parts : (u v w x y z : List ℕ)
          → ((((u ++ v) ++ w) ++ x) ++ y) ++ z ≡ u ++ ((((v ++ w) ++ x) ++ y) ++ z)
      six_parts u v w x y z = simp append_assoc

  pub five_again :
      (a : A) (b : B) (c : C) (d : D) (e : E) (rest : List ℕ) →
      IsTrue (test_a a) → IsTrue (test_b b) → IsTrue (test_c c) → IsTrue (test_d d) →
      IsTrue (test_e e) →
      five read_a read_b read_c read_d read_e make
      (((((write_a a ++ write_b b) ++ write_c c) ++ write_d d) ++ write_e e) ++ rest)
      ≡ Some (make a b c d e, rest)
  five_again a b c d e rest p q r s t =
      rw (
        six_parts (write_a a) (write_b b) (write_c c) (write_d d) (write_e e) rest,
        first.again a ((((write_b b ++ write_c c) ++ write_d d) ++ write_e e) ++ rest) p,
        four_again second third fourth fifth (make a) b c d e rest q r s t,
      )
    where
      six_parts : (u v w x y z : List ℕ)
          → ((((u ++ v) ++ w) ++ x) ++ y) ++ z ≡ u ++ ((((v ++ w) ++ x) ++ y) ++ z)
      six_parts u v w x y z = simp append_assoc

module _
    {A B C D E F X : Type 0} {read_a : Reader A} {write_a : A → List ℕ} {test_a : A → Bool}
    {read_b : Reader B} {write_b : B → List ℕ} {test_b : B → Bool}
    {read_c : Reader C} {write_c : C → List ℕ} {test_c : C → Bool}
    {read_d : Reader D} {write_d : D → List ℕ} {test_d : D → Bool}
    {read_e : Reader E} {write_e : E → List ℕ} {test_e : E → Bool}
    {read_f : Reader F} {write_f : F → List ℕ} {test_f : F → Bool}
    (first : Codec read_a write_a test_a) (second : Codec read_b write_b test_b)
    (third : Codec read_c write_c test_c) (fourth : Codec read_d write_d test_d)
    (fifth : Codec read_e write_e test_e) (sixth : Codec read_f write_f test_f)
    (make : A → B → C → D → E → F → X) where
  pub six_takes :
      (M : X → List ℕ → Type 0) (bytes : List ℕ) (x : X × List ℕ) →
      ((a : A) (b : B) (c : C) (d : D) (e : E) (f : F) (rest : List ℕ) →
      bytes ≡ (((((write_a a ++ write_b b) ++ write_c c) ++ write_d d) ++ write_e e) ++ write_f f)
      ++ rest →
      IsTrue (test_a a) → IsTrue (test_b b) → IsTrue (test_c c) → IsTrue (test_d d) →
      IsTrue (test_e e) → IsTrue (test_f f) → M (make a b c d e f) rest) →
      six read_a read_b read_c read_d read_e read_f make bytes ≡ Some x → M x.0 x.1
  six_takes M bytes x made h =
      let after_b = λ (a : A) (b : B × List ℕ).
      four read_c read_d read_e read_f (make a b.0) b.1 in
      let a = through (read_a bytes) (λ (a : A × List ℕ). read_b a.1 >>= after_b a.0) x h in
      let b = through (read_b a.0.1) (after_b a.0.0) x a.2 in
      let taken = first.takes bytes a.0 a.1 in
      let next = second.takes a.0.1 b.0 b.1 in
      four_takes third fourth fifth sixth (make a.0.0 b.0.0) M b.0.1 x
      (λ c d e f rest spelled r s t u.
      made a.0.0 b.0.0 c d e f rest
      (taken.spelled ∙ ap (λ l. write_a a.0.0 ++ l) next.spelled
      ∙ ap (λ l. write_a a.0.0 ++ (write_b b.0.0 ++ l)) spelled
      ∙ sym (seven_parts (write_a a.0.0) (write_b b.0.0) (write_c c) (write_d d) (write_e e)
      (write_f f) rest))
      taken.tested next.tested r s t u)
      b.2
    where
      seven_parts : (t u v w x y z : List ℕ)
          → (((((t ++ u) ++ v) ++ w) ++ x) ++ y) ++ z ≡ t ++ (u ++ ((((v ++ w) ++ x) ++ y) ++ z))
      seven_parts t u v w x y z = simp append_assoc

  pub six_again :
      (a : A) (b : B) (c : C) (d : D) (e : E) (f : F) (rest : List ℕ) →
      IsTrue (test_a a) → IsTrue (test_b b) → IsTrue (test_c c) → IsTrue (test_d d) →
      IsTrue (test_e e) → IsTrue (test_f f) →
      six read_a read_b read_c read_d read_e read_f make
      ((((((write_a a ++ write_b b) ++ write_c c) ++ write_d d) ++ write_e e) ++ write_f f) ++ rest)
      ≡ Some (make a b c d e f, rest)
  six_again a b c d e f rest p q r s t u =
      let behind = (((write_c c ++ write_d d) ++ write_e e) ++ write_f f) ++ rest in
      rw (
        seven (write_a a) (write_b b) (write_c c) (write_d d) (write_e e) (write_f f) rest,
        first.again a (write_b b ++ behind) p,
        second.again b behind q,
        four_again third fourth fifth sixth (make a b) c d e f rest r s t u,
      )
    where
      seven : (t u v w x y z : List ℕ)
          → (((((t ++ u) ++ v) ++ w) ++ x) ++ y) ++ z ≡ t ++ (u ++ ((((v ++ w) ++ x) ++ y) ++ z))
      seven t u v w x y z = simp append_assoc
