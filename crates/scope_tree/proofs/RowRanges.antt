-- Facts about a row that follow from the types of its fields, and that each change of a row keeps.
use Rattle.run_model.proofs.Common.{◌≡◌, ℕ, true, false, Bool, List, [], ◌∷◌, ◌++◌, map, Option}
use Rattle.run_model.proofs.Common.{Some, None, slice_get, inl, inr, refl, sym, subst}
use Rattle.run_model.proofs.Common.{option_map_or, option_or, IsTrue, nat_le, unwrap_or}
use Rattle.run_model.proofs.Common.{if◌then◌else◌, and_parts, same_Some, reason_text, is_limit}
use Rattle.run_model.proofs.Common.{is_optional_text, at_row, is_root, is_name, is_text, with_hit}
use Rattle.run_model.proofs.Common.{tick, hit_due, new_hit, with_stage, with_error, push_cases}
use Rattle.run_model.proofs.Common.{at_row_cases, map_cases}
use Rattle.run_model.specs.declared.scopes.Kind.{Kind}
use Rattle.run_model.specs.declared.scopes.Kind.TheVariants as kind
use Rattle.run_model.specs.declared.scopes.Reason.{Reason}
use Rattle.run_model.specs.declared.scopes.Reason.TheVariants.{Canceled, DeadlineExceeded}
use Rattle.run_model.specs.declared.scopes.Hit.{Hit}
use Rattle.run_model.specs.declared.scopes.Scope.{Scope}
use Rattle.run_model.specs.declared.groups.Group.{Group}
use Rattle.run_model.specs.declared.tasks.Stage.{Stage}
use Rattle.run_model.specs.declared.tasks.Task.{Task}
use Rattle.row_view.specs.Image.{is_kept_kind, is_kept_stage}

-- ---- one row

pub record IsTypedScope (row : Scope) : Type 0 where
  pub name : IsTrue (is_name row.name)
  pub kind : is_root row.kind ≡ false → IsTrue (is_kept_kind row.kind)
  pub cause : (hit : Hit) → row.hit ≡ Some hit → IsTrue (is_text hit.cause)

pub record IsTypedGroup (row : Group) : Type 0 where
  pub name : IsTrue (is_name row.name)
  pub limit : IsTrue (is_limit row.limit)
  pub error : IsTrue (is_optional_text row.error)

pub record IsTypedTask (row : Task) : Type 0 where
  pub job : IsTrue (is_name row.job)
  pub argument : IsTrue (is_name row.argument)
  pub stage : IsTrue (is_kept_stage row.stage)

-- ---- many rows

abbrev pub Each : {X : Type 0} → (X → Type 0) → List X → Type 0
Each {X} P rows = (n : ℕ) (row : X) → slice_get rows n ≡ Some row → P row

pub each_pushed : {X : Type 0} (P : X → Type 0) (rows : List X) (new : X) → Each P rows → P new
    → Each P (rows ++ new ∷ [])
each_pushed P rows new all ok n row found =
    elim (push_cases rows new n row found)
    [ inl was ↦ all n row was | inr last ↦ subst P (sym last.1) ok ]

pub each_at : {X : Type 0} (P : X → Type 0) (change : X → X) (k : ℕ) (rows : List X)
    → Each P rows → ((row : X) → P row → P (change row)) → Each P (at_row change k rows)
each_at P change k rows all changed n row found =
    elim (at_row_cases change k n rows row found) [
      | inl other ↦ all n row other.1
      | inr here ↦ subst P (sym here.changed) (changed here.old (all n here.old here.found))
    ]

pub each_mapped : {X : Type 0} (P : X → Type 0) (change : X → X) (rows : List X)
    → Each P rows → ((row : X) → P row → P (change row)) → Each P (map change rows)
each_mapped P change rows all changed n row found =
    let was = map_cases change n rows row found in
    subst P (sym was.2) (changed was.0 (all n was.0 was.1))

-- ---- texts

pub reason_typed : (reason : Reason) → IsTrue (is_text (reason_text reason))
reason_typed Canceled = refl
reason_typed DeadlineExceeded = refl

pub text_typed : (text : Option (List ℕ)) (other : List ℕ) → IsTrue (is_optional_text text)
    → IsTrue (is_text other) → IsTrue (is_text (unwrap_or text other))
text_typed None other is ok = ok
text_typed (Some text) other is ok = is

-- ---- scopes

either_cause : (old : Option Hit) (new hit : Hit)
    → ((hit : Hit) → old ≡ Some hit → IsTrue (is_text hit.cause)) → IsTrue (is_text new.cause)
    → option_or old (Some new) ≡ Some hit → IsTrue (is_text hit.cause)
either_cause None new hit was is e =
    subst (λ (h : Hit). IsTrue (is_text h.cause)) (same_Some new hit e) is
either_cause (Some x) new hit was is e = was hit e

pub hit_typed : (hit : Hit) (row : Scope) → IsTrue (is_text hit.cause) → IsTypedScope row
    → IsTypedScope (with_hit hit row)
hit_typed hit row is typed = record {
  name = typed.name;
  kind = typed.kind;
  cause = λ h has. either_cause row.hit hit h typed.cause is has;
}

due_typed : (b : Bool) (e moment : ℕ) (cause : Option (List ℕ)) (row : Scope)
    → IsTrue (is_optional_text cause) → IsTypedScope row
    → IsTypedScope
    (option_map_or (λ hit. with_hit hit row)
    (if b then Some (new_hit e moment DeadlineExceeded cause) else None) row)
due_typed true e moment cause row is typed =
    hit_typed (new_hit e moment DeadlineExceeded cause) row
    (text_typed cause (reason_text DeadlineExceeded) is (reason_typed DeadlineExceeded)) typed
due_typed false e moment cause row is typed = typed

due_of : (e clock : ℕ) (of : Kind) (row : Scope)
    → (is_root of ≡ false → IsTrue (is_kept_kind of)) → IsTypedScope row
    → IsTypedScope (option_map_or (λ hit. with_hit hit row) (hit_due e clock of) row)
due_of e clock kind.Root row is typed = typed
due_of e clock kind.Cancel row is typed = typed
due_of e clock kind.Cause row is typed = typed
due_of e clock (kind.Deadline moment cause) row is typed =
    due_typed (nat_le moment clock) e moment cause row (and_parts _ _ (is refl)).1 typed
due_of e clock (kind.Value key text) row is typed = typed
due_of e clock kind.Detached row is typed = typed
due_of e clock kind.Group row is typed = typed

pub tick_typed : (e clock : ℕ) (row : Scope) → IsTypedScope row → IsTypedScope (tick e clock row)
tick_typed e clock row typed = due_of e clock row.kind row typed.kind typed

-- ---- groups and tasks

error_or : (old : Option (List ℕ)) (text : List ℕ) → IsTrue (is_optional_text old)
    → IsTrue (is_text text) → IsTrue (is_optional_text (option_or old (Some text)))
error_or None text was is = is
error_or (Some x) text was is = was

pub error_typed : (text : List ℕ) (row : Group) → IsTrue (is_text text) → IsTypedGroup row
    → IsTypedGroup (with_error text row)
error_typed text row is typed =
    record {
      name = typed.name;
      limit = typed.limit;
      error = error_or row.error text typed.error is;
    }

pub stage_typed : (stage : Stage) (row : Task) → IsTrue (is_kept_stage stage) → IsTypedTask row
    → IsTypedTask (with_stage stage row)
stage_typed stage row is typed =
    record { job = typed.job; argument = typed.argument; stage = is }
