-- A group has an error exactly if a task of it ended in one, and if it has ended, its scope is hit.
use Rattle.run_model.proofs.Common.{◌≡◌, ◌≢◌, ◌↔◌, ◌<◌, ◌==◌, ◌&&◌, ◌||◌, ℕ, zero, suc, Bool, true}
use Rattle.run_model.proofs.Common.{false, List, [], ◌∷◌, ◌++◌, length, Option, Some, None}
use Rattle.run_model.proofs.Common.{slice_get, inl, inr, refl, sym, ap, ◌∙◌, arith, list_any}
use Rattle.run_model.proofs.Common.{option_and_then, is_some, IsSome, IsTrue, and_parts, both_ways}
use Rattle.run_model.proofs.Common.{eqb-true, or_cases, slice_get_within, at_row, AreErrors, Owns}
use Rattle.run_model.proofs.Common.{has_task_error, HasRow, own_hit, State, TreeState, WorkState}
use Rattle.run_model.proofs.Common.{ended_in_error, with_hit, after_cancel, new_hit, with_stage}
use Rattle.run_model.proofs.Common.{at_row_cases, push_cases, slice_get-push_left}
use Rattle.std.proofs.lemmas.Bool.{and_right}
use Rattle.run_model.specs.declared.groups.Group.{Group}
use Rattle.run_model.specs.declared.scopes.Scope.{Scope}
use Rattle.run_model.specs.declared.tasks.Stage.{Stage}
use Rattle.run_model.specs.declared.tasks.Task.{Task}
use Rattle.run_model.specs.declared.scopes.Reason.TheVariants.{Canceled}
use Rattle.model_laws.proofs.RightHits.{own_hit_of, or_else_some}
use Rattle.model_laws.proofs.Shapes.{AreAlike, alike_at, IsSameGroup}

-- ---- whether a row passes

pub any_at : {X : Type 0} (test : X → Bool) (change : X → X) (n : ℕ) (rows : List X)
    → ((x : X) → slice_get rows n ≡ Some x → test (change x) ≡ test x)
    → list_any test (at_row change n rows) ≡ list_any test rows
any_at test change n [] same = refl
any_at test change zero (row ∷ rows) same = ap (λ b. b || list_any test rows) (same row refl)
any_at test change (suc n) (row ∷ rows) same =
    ap (λ b. test row || b) (any_at test change n rows same)

any_pushed : {X : Type 0} (test : X → Bool) (rows : List X) (new : X) → test new ≡ false
    → list_any test (rows ++ new ∷ []) ≡ list_any test rows
any_pushed test [] new not = ap (λ b. b || false) not
any_pushed test (row ∷ rows) new not = ap (λ b. test row || b) (any_pushed test rows new not)

pub found_any : {X : Type 0} (test : X → Bool) (rows : List X) → list_any test rows ≡ true
    → (n : ℕ) × (x : X) × (slice_get rows n ≡ Some x) × (test x ≡ true)
found_any test [] is = absurd (both_ways false refl is)
found_any test (row ∷ rows) is =
    elim (or_cases (test row) (list_any test rows) is) [
      | inl here ↦ (0, row, refl, here)
      | inr later ↦ (let x = found_any test rows later in (suc x.0, x.1, x.2, x.3))
    ]

-- ---- hits stay

-- A scope that was hit before is hit afterwards.
abbrev pub AreHitsKept : TreeState → TreeState → Type 0
AreHitsKept t u = (s : ℕ) → IsSome (own_hit t.scopes s) → IsSome (own_hit u.scopes s)

hit_row : (o : Option Scope) → IsSome (option_and_then (λ row. row.hit) o)
    → (row : Scope) × (o ≡ Some row) × IsSome row.hit
hit_row None is = absurd (both_ways false refl is)
hit_row (Some row) is = (row, refl, is)

pub hits_alike : (t u : TreeState)
    → AreAlike (λ x y. IsSome x.hit → IsSome y.hit) t.scopes u.scopes → AreHitsKept t u
hits_alike t u alike s is =
    let row = hit_row (slice_get t.scopes s) is in
    let new = alike.forth s row.0 row.1 in
    rw (own_hit_of u.scopes s new.0 new.1) (new.2 row.2)

pub hits_pushed : (t : TreeState) (c : ℕ) (new : Scope)
    → AreHitsKept t (record t { clock = c; scopes = t.scopes ++ new ∷ [] })
hits_pushed t c new s is =
    let row = hit_row (slice_get t.scopes s) is in
    rw
    (own_hit_of (t.scopes ++ new ∷ []) s row.0
    (slice_get-push_left t.scopes new s (slice_get_within t.scopes s row.0 row.1) ∙ row.1))
    row.2

pub hits_cancelled : (e s : ℕ) (cause : Option (List ℕ)) (t : TreeState)
    → AreHitsKept t (after_cancel e s cause t)
hits_cancelled e s cause t =
    hits_alike t (after_cancel e s cause t)
    (alike_at (λ x y. IsSome x.hit → IsSome y.hit) (with_hit (new_hit e t.clock Canceled cause)) s
    t.scopes (λ x is. is) (λ x found is. or_else_some x.hit (new_hit e t.clock Canceled cause)))

-- ---- an event that leaves errors and waits alone

pub errors_tree : (p : State) (n : ℕ) (t : TreeState) → AreHitsKept p.tree t → AreErrors p
    → AreErrors (record { count = n; tree = t; work = p.work })
errors_tree p n t kept old = record {
  exact = old.exact;
  ended = λ g s row owns end. kept s (old.ended g s row owns end);
}

pub record IsSameEnd (old new : Group) : Type 0 where
  pub scope : new.scope ≡ old.scope
  pub bare : new.bare ≡ old.bare
  pub waited : new.waited ≡ old.waited
  pub error : new.error ≡ old.error

pub end_same : (row : Group) → IsSameEnd row row
end_same row = record { scope = refl; bare = refl; waited = refl; error = refl }

pub errors_alike : (p : State) (n : ℕ) (v : WorkState)
    → AreAlike IsSameEnd p.work.groups v.groups
    → ((g : ℕ) → has_task_error v g ≡ has_task_error p.work g) → AreErrors p
    → AreErrors (record { count = n; tree = p.tree; work = v })
errors_alike p n v groups lost old = record {
  exact =
      λ g row found.
      let was = groups.back g row found in rw (was.2.error, lost g) (old.exact g was.0 was.1);
  ended =
      λ g s row owns end.
      let was = groups.back g row owns.found in
      old.ended g s was.0
      (record {
        found = was.1;
        not_bare = sym was.2.bare ∙ owns.not_bare;
        scope = sym was.2.scope ∙ owns.scope;
      })
      (elim end [
        | inl is ↦ inl (rw (was.2.error) at is)
        | inr is ↦ inr (sym was.2.waited ∙ is)
      ]);
}

-- ---- one row more

pub errors_group : (p : State) (n : ℕ) (t : TreeState) (new : Group) → AreHitsKept p.tree t
    → new.error ≡ None → new.waited ≡ false
    → ((m : ℕ) (row : Task) → HasRow p.work.tasks m row → row.group < length p.work.groups)
    → AreErrors p
    → AreErrors
    (record {
      count = n;
      tree = t;
      work = record p.work { groups = p.work.groups ++ new ∷ [] };
    })
errors_group p n t new kept none not within old = record {
  exact =
      λ g row found.
      elim (push_cases p.work.groups new g row found) [
        | inl was ↦ old.exact g row was
        | inr last ↦ (
          λ is.
              absurd
              (both_ways (is_some row.error) (ap is_some (ap (λ r. r.error) last.1 ∙ none)) is),
          λ lost.
              let x =
              found_any (λ task. task.group == g && ended_in_error task.stage) p.work.tasks
              lost in
              absurd
              (omega (
                arith,
                within x.0 x.1 x.2,
                eqb-true x.1.group g
                    ((and_parts (x.1.group == g) (ended_in_error x.1.stage) x.3).0),
                last.0,
              )),
        )
      ];
  ended =
      λ g s row owns end.
      elim (push_cases p.work.groups new g row owns.found) [
        | inl was ↦
            kept s
            (old.ended g s row
            (record { found = was; not_bare = owns.not_bare; scope = owns.scope }) end)
        | inr last ↦
            (elim end [
              | inl is ↦
                  absurd
                  (both_ways (is_some row.error) (ap is_some (ap (λ r. r.error) last.1 ∙ none))
                  is)
              | inr is ↦ absurd (both_ways row.waited (ap (λ r. r.waited) last.1 ∙ not) is)
            ])
      ];
}

-- A task that wasn't lost, at the end, loses nothing of a group.
pub lost_pushed : (w : WorkState) (new : Task) (g : ℕ) → ended_in_error new.stage ≡ false
    → has_task_error (record w { tasks = w.tasks ++ new ∷ [] }) g
    ≡ has_task_error w g
lost_pushed w new g not =
    any_pushed (λ task. task.group == g && ended_in_error task.stage) w.tasks new
    (and_right (new.group == g) (ended_in_error new.stage) not)

pub lost_at : (w : WorkState) (groups : List Group) (n g : ℕ) (stage : Stage)
    → ((x : Task) → HasRow w.tasks n x → ended_in_error stage ≡ ended_in_error x.stage)
    → has_task_error (record w { groups = groups; tasks = at_row (with_stage stage) n w.tasks }) g
    ≡ has_task_error w g
lost_at w groups n g stage same =
    any_at (λ task. task.group == g && ended_in_error task.stage) (with_stage stage) n w.tasks
    (λ x found. ap (λ b. x.group == g && b) (same x found))

-- ---- a group ends

-- The groups are changed at one place, whose scope is hit.
pub errors_changed : (p : State) (n g : ℕ) (u : TreeState) (tasks : List Task)
    (change : Group → Group) → AreHitsKept p.tree u
    → ((s : ℕ) (row : Group) → Owns p.work g row s → IsSome (own_hit u.scopes s))
    → ((x : Group) → IsSameGroup x (change x))
    → ((h : ℕ) → h ≢ g
    → list_any (λ task. task.group == h && ended_in_error task.stage) tasks
    ≡ has_task_error p.work h)
    → ((x : Group) → HasRow p.work.groups g x
    → IsSome (change x).error
    ↔ IsTrue (list_any (λ task. task.group == g && ended_in_error task.stage) tasks))
    → AreErrors p
    → AreErrors
    (record {
      count = n;
      tree = u;
      work = record p.work { groups = at_row change g p.work.groups; tasks = tasks };
    })
errors_changed p n g u tasks change kept hit same others here old = record {
  exact =
      λ h row found.
      elim (at_row_cases change g h p.work.groups row found) [
        | inl other ↦ rw (others h other.0) (old.exact h row other.1)
        | inr is ↦ rw (is.changed, is.here) (here is.old (rw (is.here) at is.found))
      ];
  ended =
      λ h s row owns end.
      elim (at_row_cases change g h p.work.groups row owns.found) [
        | inl other ↦
            kept s
            (old.ended h s row
            (record { found = other.1; not_bare = owns.not_bare; scope = owns.scope }) end)
        | inr is ↦
            hit s is.old
            (record {
              found = rw (is.here) at is.found;
              not_bare =
                  sym (same is.old).bare ∙ ap (λ r. r.bare) (sym is.changed) ∙ owns.not_bare;
              scope = sym (same is.old).scope ∙ ap (λ r. r.scope) (sym is.changed) ∙ owns.scope;
            })
      ];
}
