-- The results of the tests of a derive.
use Rattle.run_model.proofs.Common.{◌<◌, if◌then◌else◌, is_none, None, Ok, Err, Some, ◌≡◌, ℕ, Bool}
use Rattle.run_model.proofs.Common.{true, false, not, List, [], ◌∷◌, length, Option, is_some, refl}
use Rattle.run_model.proofs.Common.{lt-ltb, has_row, tested, TreeState, scope_named}
use Rattle.run_model.specs.declared.refusals.Refusal.{Refusal}
use Rattle.run_model.specs.declared.refusals.Refusal.TheVariants as refusal

-- the result of one test
pub one_reported : (holds is : Bool) (why : Refusal) → is ≡ holds
    → (if holds then Err why else Ok tt) ≡ tested ((is, why) ∷ [])
one_reported holds is why same = rw same refl

-- the result of the test of a name, if the parent exists
pub name_reported : (t : TreeState) (name : List ℕ) (parent : ℕ) (taken : Bool)
    → parent < length t.scopes → is_some (scope_named t name) ≡ taken
    → (if taken then Err refusal.NameTaken else Ok tt)
    ≡ tested ((not (has_row t.scopes parent), refusal.NoSuchScope)
    ∷ (not (is_none (scope_named t name)), refusal.NameTaken) ∷ [])
name_reported t name parent taken known is =
    rw (lt-ltb parent (length t.scopes) known) (by (scope_named t name) taken is)
  where
    by : (found : Option ℕ) (b : Bool) → is_some found ≡ b
        → (if b then Err refusal.NameTaken else Ok tt)
        ≡ tested ((not (is_none found), refusal.NameTaken) ∷ [])
    by None true is = absurd cc
    by None false is = refl
    by (Some n) true is = refl
    by (Some n) false is = absurd cc
