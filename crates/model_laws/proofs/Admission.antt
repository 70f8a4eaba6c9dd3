-- Running tasks stay admitted, and groups that were waited for get no unfinished task.
use Rattle.run_model.proofs.Common.{◌≡◌, ◌≢◌, ◌<◌, ◌≤◌, ◌+◌, ◌==◌, ◌&&◌, ℕ, zero, suc, Bool, true}
use Rattle.run_model.proofs.Common.{false, List, [], ◌∷◌, ◌++◌, length, take, Option, Some, None}
use Rattle.run_model.proofs.Common.{slice_get, inl, inr, refl, sym, ap, ◌∙◌, arith}
use Rattle.run_model.proofs.Common.{option_and_then, count_by, if◌then◌else◌, and_parts, and_from}
use Rattle.run_model.proofs.Common.{both_ways, ltb-true, lt-ltb, cases_eq, eq-eqb, ne_eqb}
use Rattle.run_model.proofs.Common.{and_left, take-append-le, sum_by-cons, none-some, same_Some}
use Rattle.run_model.proofs.Common.{slice_get_within, at_row, AreAdmitted, HasRow, WorkState}
use Rattle.run_model.proofs.Common.{is_running, is_unfinished, unfinished_in, admits, limit_of}
use Rattle.run_model.proofs.Common.{is_admitted, with_stage, with_limit, with_wait, after_limit}
use Rattle.run_model.proofs.Common.{after_wait, at_row_cases, push_cases, slice_get-push_left}
use Rattle.run_model.proofs.Common.{slice_get-at_row_other}
use Rattle.run_model.specs.declared.groups.Group.{Group}
use Rattle.run_model.specs.declared.tasks.Stage.{Stage}
use Rattle.run_model.specs.declared.tasks.Stage.TheVariants as stage
use Rattle.run_model.specs.declared.tasks.Task.{Task}
use Rattle.model_laws.proofs.Shapes.{AreAlike, alike_at}

-- ---- counting rows

count_head : (a b : Bool) (n : ℕ) → (a ≡ true → b ≡ true)
    → (if a then 1 else 0) + n ≤ (if b then 1 else 0) + n
count_head true true n less = omega arith
count_head true false n less = absurd (both_ways false refl (less refl))
count_head false true n less = omega arith
count_head false false n less = omega arith

count_first : (b : Bool) (n : ℕ) → b ≡ true → 1 ≤ (if b then 1 else 0) + n
count_first true n is = omega arith
count_first false n is = absurd (both_ways false refl is)

pub count_cons : {X : Type 0} (test : X → Bool) (row : X) (rows : List X)
    → count_by test (row ∷ rows) ≡ (if test row then 1 else 0) + count_by test rows
count_cons test row rows = sum_by-cons (λ x. if test x then 1 else 0) row rows

-- A change that lets no more rows count leaves no more of them.
count_at : {X : Type 0} (test : X → Bool) (change : X → X) (n : ℕ) (rows : List X)
    → ((x : X) → slice_get rows n ≡ Some x → test (change x) ≡ true → test x ≡ true)
    → count_by test (at_row change n rows) ≤ count_by test rows
count_at test change n [] less = omega arith
count_at test change zero (row ∷ rows) less =
    rw (count_cons test (change row) rows, count_cons test row rows)
    (count_head (test (change row)) (test row) (count_by test rows) (less row refl))
count_at test change (suc n) (row ∷ rows) less =
    let rest = count_at test change n rows less in
    rw (count_cons test row (at_row change n rows), count_cons test row rows)
    (omega (arith, rest))

take-at_row : {X : Type 0} (change : X → X) (n m : ℕ) (rows : List X)
    → take m (at_row change n rows) ≡ at_row change n (take m rows)
take-at_row change n zero rows = refl
take-at_row change n (suc m) [] = refl
take-at_row change zero (suc m) (row ∷ rows) = refl
take-at_row change (suc n) (suc m) (row ∷ rows) =
    ap (λ rs. row ∷ rs) (take-at_row change n m rows)

taken : {X : Type 0} (m n : ℕ) (rows : List X) (x : X) → slice_get (take m rows) n ≡ Some x
    → slice_get rows n ≡ Some x
taken zero n rows x found = absurd (none-some x found)
taken (suc m) n [] x found = absurd (none-some x found)
taken (suc m) zero (row ∷ rows) x found = found
taken (suc m) (suc n) (row ∷ rows) x found = taken m n rows x found

count_pushed : {X : Type 0} (test : X → Bool) (rows : List X) (new : X) → test new ≡ false
    → count_by test (rows ++ new ∷ []) ≡ count_by test rows
count_pushed test [] new not = ap (λ b. 0 + (if b then 1 else 0)) not
count_pushed test (row ∷ rows) new not =
    count_cons test row (rows ++ new ∷ [])
    ∙ ap (λ n. (if test row then 1 else 0) + n) (count_pushed test rows new not)
    ∙ sym (count_cons test row rows)

pub count_found : {X : Type 0} (test : X → Bool) (rows : List X) (n : ℕ) (x : X)
    → slice_get rows n ≡ Some x → test x ≡ true → 1 ≤ count_by test rows
count_found test [] n x found is = absurd (none-some x found)
count_found test (row ∷ rows) zero x found is =
    rw (count_cons test row rows)
    (count_first (test row) (count_by test rows) (ap test (same_Some row x found) ∙ is))
count_found test (row ∷ rows) (suc n) x found is =
    let rest = count_found test rows n x found is in
    rw (count_cons test row rows) (omega (arith, rest))

-- ---- ranks

pub running_unfinished : (s : Stage) → is_running s ≡ true → is_unfinished s ≡ true
running_unfinished stage.Fresh is = refl
running_unfinished stage.Running is = refl
running_unfinished stage.Success is = is
running_unfinished (stage.Failure text) is = is
running_unfinished stage.Interrupted is = is

-- A task that is at most as unfinished as before puts no more unfinished ones before any other.
unfinished_at : (stage : Stage) (n g : ℕ) (rows : List Task)
    → ((x : Task) → slice_get rows n ≡ Some x → is_unfinished stage ≡ true
    → is_unfinished x.stage ≡ true)
    → unfinished_in g (at_row (with_stage stage) n rows) ≤ unfinished_in g rows
unfinished_at stage n g rows less =
    count_at (λ task. task.group == g && is_unfinished task.stage) (with_stage stage) n rows
    (λ x found is.
    let parts = and_parts (x.group == g) (is_unfinished stage) is in
    and_from (x.group == g) (is_unfinished x.stage) parts.0 (less x found parts.1))

rank_at : (stage : Stage) (n m g : ℕ) (rows : List Task)
    → ((x : Task) → slice_get rows n ≡ Some x → is_unfinished stage ≡ true
    → is_unfinished x.stage ≡ true)
    → unfinished_in g (take m (at_row (with_stage stage) n rows))
    ≤ unfinished_in g (take m rows)
rank_at stage n m g rows less =
    rw (take-at_row (with_stage stage) n m rows)
    (unfinished_at stage n g (take m rows) (λ x found. less x (taken m n rows x found)))

admits_less : (limit : Option ℕ) (a b : ℕ) → b ≤ a → admits limit a ≡ true
    → admits limit b ≡ true
admits_less None a b less is = refl
admits_less (Some most) a b less is = lt-ltb b most (omega (arith, less, ltb-true a most is))

-- ---- limits and waits

pub record IsSameTerms (old new : Group) : Type 0 where
  pub limit : new.limit ≡ old.limit
  pub waited : new.waited ≡ old.waited

pub terms_same : (row : Group) → IsSameTerms row row
terms_same row = record { limit = refl; waited = refl }

limits_of : (R : Group → Group → Type 0) (old new : List Group)
    → ((x y : Group) → R x y → y.limit ≡ x.limit) → AreAlike R old new
    → (g : ℕ) (o n : Option Group) → slice_get old g ≡ o → slice_get new g ≡ n
    → option_and_then (λ group. group.limit) n ≡ option_and_then (λ group. group.limit) o
limits_of R old new same alike g None None at_old at_new = refl
limits_of R old new same alike g None (Some y) at_old at_new =
    let x = alike.back g y at_new in absurd (none-some x.0 (sym at_old ∙ x.1))
limits_of R old new same alike g (Some x) None at_old at_new =
    let y = alike.forth g x at_old in absurd (none-some y.0 (sym at_new ∙ y.1))
limits_of R old new same alike g (Some x) (Some y) at_old at_new =
    let z = alike.forth g x at_old in
    ap (λ row. row.limit) (same_Some y z.0 (sym at_new ∙ z.1)) ∙ same x z.0 z.2

-- Groups that keep their limits have the same ones.
limits_alike : (R : Group → Group → Type 0) (old new : List Group)
    → ((x y : Group) → R x y → y.limit ≡ x.limit) → AreAlike R old new → (g : ℕ)
    → option_and_then (λ group. group.limit) (slice_get new g)
    ≡ option_and_then (λ group. group.limit) (slice_get old g)
limits_alike R old new same alike g =
    limits_of R old new same alike g (slice_get old g) (slice_get new g) refl refl

-- ---- a task's stage changes

pub admitted_stage : (w : WorkState) (groups : List Group) (n : ℕ) (stage : Stage)
    → AreAlike IsSameTerms w.groups groups
    → ((x : Task) → HasRow w.tasks n x → is_unfinished stage ≡ true → is_unfinished x.stage ≡ true)
    → ((x : Task) → HasRow w.tasks n x → is_running stage ≡ true → is_admitted w n x ≡ true)
    → AreAdmitted w
    → AreAdmitted (record w { groups = groups; tasks = at_row (with_stage stage) n w.tasks })
admitted_stage w groups n stage terms less ready old =
    let v : WorkState =
    record w { groups = groups; tasks = at_row (with_stage stage) n w.tasks } in
    let still :
    (m : ℕ) (row x : Task) → is_running row.stage ≡ true → row.group ≡ x.group
    → is_admitted w m x ≡ true → is_admitted v m row ≡ true =
    λ m row x runs same is.
    and_from (is_unfinished row.stage)
    (admits (limit_of v row.group) (unfinished_in row.group (take m v.tasks)))
    (running_unfinished row.stage runs)
    (rw (same, limits_alike IsSameTerms w.groups groups (λ x y r. r.limit) terms x.group)
    (admits_less (limit_of w x.group) (unfinished_in x.group (take m w.tasks))
    (unfinished_in x.group (take m (at_row (with_stage stage) n w.tasks)))
    (rank_at stage n m x.group w.tasks less)
    (and_parts (is_unfinished x.stage)
    (admits (limit_of w x.group) (unfinished_in x.group (take m w.tasks)))
    is).1)) in
    record {
      running =
          λ m row found is.
          elim (at_row_cases (with_stage stage) n m w.tasks row found) [
            | inl other ↦ still m row row is refl (old.running m row other.1 is)
            | inr here ↦
                still m row here.old is (ap (λ task. task.group) here.changed)
                (rw (here.here)
                (ready here.old (rw (here.here) at here.found) (rw (here.changed) at is)))
          ];
      waited =
          λ g row found is.
          let was = terms.back g row found in
          let none = old.waited g was.0 was.1 (sym was.2.waited ∙ is) in
          omega (arith, unfinished_at stage n g w.tasks less, none);
    }

-- ---- a group changes its terms

-- A group without unfinished tasks has no running one.
none_of : (w : WorkState) (g n : ℕ) (row : Task) → unfinished_in g w.tasks ≡ 0
    → HasRow w.tasks n row
    → is_running row.stage ≡ true → row.group ≢ g
none_of w g n row idle found is same =
    let some =
    count_found (λ task. task.group == g && is_unfinished task.stage) w.tasks n row found
    (and_from (row.group == g) (is_unfinished row.stage) (eq-eqb row.group g same)
    (running_unfinished row.stage is)) in
    omega (arith, some, idle)

pub admitted_limit : (w : WorkState) (g : ℕ) (limit : Option ℕ) → unfinished_in g w.tasks ≡ 0
    → AreAdmitted w → AreAdmitted (after_limit g limit w)
admitted_limit w g limit idle old = record {
  running =
      λ n row found is.
      rw
      (slice_get-at_row_other (with_limit limit) g row.group w.groups
      (none_of w g n row idle found is)) (old.running n row found is);
  waited =
      λ h row found is.
      elim (at_row_cases (with_limit limit) g h w.groups row found) [
        | inl other ↦ old.waited h row other.1 is
        | inr here ↦ rw (here.here) idle
      ];
}

pub admitted_wait : (w : WorkState) (g : ℕ) → unfinished_in g w.tasks ≡ 0 → AreAdmitted w
    → AreAdmitted (after_wait g w)
admitted_wait w g idle old =
    let same : (h : ℕ) → limit_of (after_wait g w) h ≡ limit_of w h =
    limits_alike (λ x y. y.limit ≡ x.limit) w.groups (at_row with_wait g w.groups) (λ x y r. r)
    (alike_at (λ x y. y.limit ≡ x.limit) with_wait g w.groups (λ x. refl) (λ x found. refl)) in
    record {
      running = λ n row found is. rw (same row.group) (old.running n row found is);
      waited =
          λ h row found is.
          elim (at_row_cases with_wait g h w.groups row found) [
            | inl other ↦ old.waited h row other.1 is
            | inr here ↦ rw (here.here) idle
          ];
    }

-- ---- one row more

pub admitted_group : (w : WorkState) (new : Group) → new.waited ≡ false
    → ((n : ℕ) (row : Task) → HasRow w.tasks n row → row.group < length w.groups) → AreAdmitted w
    → AreAdmitted (record w { groups = w.groups ++ new ∷ [] })
admitted_group w new not within old = record {
  running =
      λ n row found is.
      rw (slice_get-push_left w.groups new row.group (within n row found))
      (old.running n row found is);
  waited =
      λ g row found is.
      elim (push_cases w.groups new g row found) [
        | inl was ↦ old.waited g row was is
        | inr last ↦ absurd (both_ways new.waited not (rw (last.1) at is))
      ];
}

pub admitted_task : (w : WorkState) (new : Task) → is_running new.stage ≡ false
    → ((row : Group) → HasRow w.groups new.group row → row.waited ≡ false) → AreAdmitted w
    → AreAdmitted (record w { tasks = w.tasks ++ new ∷ [] })
admitted_task w new not going old = record {
  running =
      λ n row found is.
      elim (push_cases w.tasks new n row found) [
        | inl was ↦
            (let less : n ≤ length w.tasks =
            (let l : n < length w.tasks = slice_get_within w.tasks n row was in
            omega (arith, l)) in
            rw (take-append-le n w.tasks (new ∷ []) less) (old.running n row was is))
        | inr last ↦ absurd (both_ways (is_running new.stage) not (rw (last.1) at is))
      ];
  waited =
      λ g row found is.
      elim (cases_eq new.group g) [
        | inl same ↦ absurd (both_ways row.waited (going row (rw same found)) is)
        | inr other ↦
            count_pushed (λ task. task.group == g && is_unfinished task.stage) w.tasks new
            (and_left (new.group == g) (is_unfinished new.stage) (ne_eqb new.group g other))
            ∙ old.waited g row found is
      ];
}
