-- Rows that are tested one by one.
use Rattle.run_model.proofs.Common.{◌≡◌, ℕ, zero, suc, ◌+◌, cond, Bool, true, false, List, [], ◌∷◌}
use Rattle.run_model.proofs.Common.{◌++◌, length, take, Option, Some, None, slice_get, refl, sym}
use Rattle.run_model.proofs.Common.{ap, ◌∙◌, subst, arith, append_assoc, IsTrue, flat_map}
use Rattle.run_model.proofs.Common.{AllByRecursion, append-nil, same_Some, none-some, and_from}
use Rattle.std.proofs.Common.{zero-add}
use Rattle.row_view.specs.Fields.{Reader}
use Rattle.row_view.proofs.Codecs.{Codec, through, first_true, second_true}
use Rattle.row_view.specs.WorkRows.{more_at, each_passes}

pub cond_some_by : {X : Type 0} (b : Bool) (o : Option X) (x : X) → cond b o None ≡ Some x
    → (b ≡ true) × (o ≡ Some x)
cond_some_by true o x e = (refl, e)
cond_some_by false o x e = absurd (none-some x e)

module _
    {X : Type 0} {read : Reader X} {write : X → List ℕ} {kept : X → Bool}
    (row : Codec read write kept) (test : List X → X → Bool) where
  -- Each of these rows passes after those in front and before it.
  abbrev pub ArePassed : List X → List X → Type 0
  ArePassed prefix more =
      (k : ℕ) (x : X) → slice_get more k ≡ Some x → test (prefix ++ take k more) x ≡ true

  pub record AreMore (n : ℕ) (prefix : List X) (bytes : List ℕ) (x : List X × List ℕ) : Type 0 where
    pub more : List X
    pub all : x.0 ≡ prefix ++ more
    pub many : length more ≡ n
    pub passed : ArePassed prefix more
    pub kept_all : AllByRecursion (λ y. IsTrue (kept y)) more
    pub spelled : bytes ≡ flat_map write more ++ x.1

  passed_first : (prefix : List X) (x : X) (more : List X) → test prefix x ≡ true
      → ArePassed (prefix ++ x ∷ []) more → ArePassed prefix (x ∷ more)
  passed_first prefix x more ok others zero y found =
      ap (λ f. test f y) (append-nil prefix) ∙ ap (test prefix) (sym (same_Some x y found)) ∙ ok
  passed_first prefix x more ok others (suc k) y found =
      ap (λ f. test f y) (sym (append_assoc prefix (x ∷ []) (take k more))) ∙ others k y found

  passed_after : (prefix : List X) (x : X) (more : List X) → ArePassed prefix (x ∷ more)
      → ArePassed (prefix ++ x ∷ []) more
  passed_after prefix x more all k y found =
      ap (λ f. test f y) (append_assoc prefix (x ∷ []) (take k more)) ∙ all (suc k) y found

  pub more_take : (n : ℕ) (prefix : List X) (bytes : List ℕ) (x : List X × List ℕ)
      → more_at read test n prefix bytes ≡ Some x → AreMore n prefix bytes x
  more_take zero prefix bytes x e =
      let P : List X × List ℕ → Type 0 = λ y. AreMore zero prefix bytes y in
      subst P (same_Some (prefix, bytes) x e) (record {
        more = [];
        all = sym (append-nil prefix);
        many = refl;
        passed = λ k y found. absurd (none-some y found);
        kept_all = tt;
        spelled = refl;
      })
  more_take (suc n) prefix bytes x e =
      let next = λ (y : X × List ℕ).
      cond (test prefix y.0) (more_at read test n (prefix ++ y.0 ∷ []) y.1) None in
      let first = through (read bytes) next x e in
      let ok = cond_some_by (test prefix first.0.0)
      (more_at read test n (prefix ++ first.0.0 ∷ []) first.0.1) x first.2 in
      let taken = row.takes bytes first.0 first.1 in
      let others = more_take n (prefix ++ first.0.0 ∷ []) first.0.1 x ok.1 in
      record {
        more = first.0.0 ∷ others.more;
        all = others.all ∙ append_assoc prefix (first.0.0 ∷ []) others.more;
        many = ap suc others.many;
        passed = passed_first prefix first.0.0 others.more ok.0 others.passed;
        kept_all = (taken.tested, others.kept_all);
        spelled =
            taken.spelled ∙ ap (λ l. write first.0.0 ++ l) others.spelled
            ∙ sym (append_assoc (write first.0.0) (flat_map write others.more) x.1);
      }

  pub more_again : (prefix more : List X) (rest : List ℕ) → ArePassed prefix more
      → AllByRecursion (λ y. IsTrue (kept y)) more
      → more_at read test (length more) prefix (flat_map write more ++ rest)
      ≡ Some (prefix ++ more, rest)
  more_again prefix [] rest passed ok = ap (λ f. Some (f, rest)) (sym (append-nil prefix))
  more_again prefix (x ∷ more) rest passed ok =
      let here : test prefix x ≡ true =
      ap (λ f. test f x) (sym (append-nil prefix)) ∙ passed 0 x refl in
      let others = more_again (prefix ++ x ∷ []) more rest (passed_after prefix x more passed) ok.1
      in
      rw (
        append_assoc (write x) (flat_map write more) rest,
        row.again x (flat_map write more ++ rest) ok.0,
        here,
        others,
      )
      (ap (λ f. Some (f, rest)) (append_assoc prefix (x ∷ []) more))

-- ---- tests with numbers

pub passes_at : {X : Type 0} (test : ℕ → X → Bool) (n : ℕ) (rows : List X)
    → each_passes test n rows ≡ true → (k : ℕ) (x : X) → slice_get rows k ≡ Some x
    → test (n + k) x ≡ true
passes_at test n [] all k x found = absurd (none-some x found)
passes_at test n (row ∷ rows) all zero x found =
    let place : n + 0 ≡ n = omega arith in
    rw (place, ← same_Some row x found) (first_true _ _ all)
passes_at test n (row ∷ rows) all (suc k) x found =
    let place : n + suc k ≡ (n + 1) + k = omega arith in
    rw place (passes_at test (n + 1) rows (second_true _ _ all) k x found)

pub passes_from : {X : Type 0} (test : ℕ → X → Bool) (n : ℕ) (rows : List X)
    → ((k : ℕ) (x : X) → slice_get rows k ≡ Some x → test (n + k) x ≡ true)
    → each_passes test n rows ≡ true
passes_from test n [] all = refl
passes_from test n (row ∷ rows) all =
    let place : n ≡ n + 0 = omega arith in
    and_from _ _
    (ap (λ m. test m row) place ∙ all 0 row refl)
    (passes_from test (n + 1) rows
    (λ k x found.
    let there : (n + 1) + k ≡ n + suc k = omega arith in
    ap (λ m. test m x) there ∙ all (suc k) x found))

-- From the first row on, the number is the place.
pub all_pass : {X : Type 0} (test : ℕ → X → Bool) (rows : List X)
    → each_passes test 0 rows ≡ true → (k : ℕ) (x : X) → slice_get rows k ≡ Some x
    → test k x ≡ true
all_pass test rows all k x found =
    subst (λ m. test m x ≡ true) (zero-add k) (passes_at test 0 rows all k x found)

pub pass_all : {X : Type 0} (test : ℕ → X → Bool) (rows : List X)
    → ((k : ℕ) (x : X) → slice_get rows k ≡ Some x → test k x ≡ true)
    → each_passes test 0 rows ≡ true
pass_all test rows all =
    passes_from test 0 rows
    (λ k x found. subst (λ m. test m x ≡ true) (sym (zero-add k)) (all k x found))
