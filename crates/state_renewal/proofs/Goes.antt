-- The part that goes on is closed, and all rows that are made later go on. This is true at a
-- renewal.
use Rattle.run_model.proofs.Common.{◌≡◌, ◌<◌, ◌≤◌, ◌||◌, ℕ, Bool, true, List, length, Some}
use Rattle.run_model.proofs.Common.{slice_get, sym, ap, ◌∙◌, nat_le, le-leb, lt-leb}
use Rattle.run_model.proofs.Common.{slice_get_within, IsConsistent, State, WorkState}
use Rattle.std.proofs.lemmas.Bool.{or_left, or_right}
use Rattle.run_model.specs.declared.groups.Group.{Group}
use Rattle.run_model.specs.declared.scopes.Scope.{Scope}
use Rattle.run_model.specs.declared.tasks.Task.{Task}
use Rattle.state_renewal.specs.Renewed.{kept_part, keeps_group, keeps_scope, keeps_task, Part}
use Rattle.state_renewal.proofs.Hangs.{EachRow, Hangs, kept_hangs, WithGroup, WithParent}
use Rattle.state_renewal.proofs.Hangs.{WithScope}
use Rattle.state_renewal.specs.GoingOn.{going_on, goes_on}

-- All rows that are made later go on, and each row has this property with its number.
pub record RowsGo {X : Type 0} (goes : ℕ → Bool) (P : ℕ → X → Type 0) (rows : List X) : Type 0
  where
    pub later : (n : ℕ) → length rows ≤ n → goes n ≡ true
    pub each : EachRow P rows

abbrev pub ScopesGo : Part → List Scope → Type 0
ScopesGo part rows = RowsGo part.scopes (WithParent part) rows

abbrev pub GroupsGo : Part → List Group → Type 0
GroupsGo part rows = RowsGo part.groups (WithScope part) rows

abbrev pub TasksGo : Part → List Task → Type 0
TasksGo part rows = RowsGo part.tasks (WithGroup part) rows

pub record WorkGoes (part : Part) (w : WorkState) : Type 0 where
  pub groups : GroupsGo part w.groups
  pub tasks : TasksGo part w.tasks

pub record Goes (part : Part) (p : State) : Type 0 where
  pub scopes : ScopesGo part p.tree.scopes
  pub work : WorkGoes part p.work

pub hangs : (part : Part) (p : State) → Goes part p → Hangs part p
hangs part p go = record {
  scopes = go.scopes.each;
  work = record { groups = go.work.groups.each; tasks = go.work.tasks.each };
}

-- ---- at the renewal

pub goes_later : (many : ℕ) (keeps : ℕ → Bool) (n : ℕ) → many ≤ n → goes_on many keeps n ≡ true
goes_later many keeps n more = or_left (nat_le many n) (keeps n) (le-leb many n more)

pub goes_kept : (many : ℕ) (keeps : ℕ → Bool) (n : ℕ) → keeps n ≡ true
    → goes_on many keeps n ≡ true
goes_kept many keeps n is = or_right (nat_le many n) (keeps n) is

pub goes_before : (many : ℕ) (keeps : ℕ → Bool) (n : ℕ) → n < many
    → goes_on many keeps n ≡ keeps n
goes_before many keeps n less = ap (λ b. b || keeps n) (lt-leb many n less)

pub goes_first : (p : State) → IsConsistent p → Goes (going_on p) p
goes_first p consistent = record {
  scopes = record {
    later = goes_later (length p.tree.scopes) (keeps_scope p);
    each =
        λ s row found below is.
        goes_kept (length p.tree.scopes) (keeps_scope p) row.parent
        (kept.scopes s row found below (sym (scope_before s row found) ∙ is));
  };
  work = record {
    groups = record {
      later = goes_later (length p.work.groups) (keeps_group p);
      each =
          λ g row found.
          let with = kept.work.groups g row found in
          let before = group_before g (slice_get_within p.work.groups g row found) in
          let scope_is =
          goes_before (length p.tree.scopes) (keeps_scope p) row.scope
          (consistent.numbered.scopes g row found) in
          record {
            scope =
                λ is.
                goes_kept (length p.tree.scopes) (keeps_scope p) row.scope
                (with.scope (sym before ∙ is));
            own =
                λ own is.
                goes_kept (length p.work.groups) (keeps_group p) g
                (with.own own (sym scope_is ∙ is));
            gone = λ gone. with.gone (sym before ∙ gone);
          };
    };
    tasks = record {
      later = goes_later (length p.work.tasks) (keeps_task p);
      each =
          λ n row found.
          goes_before (length p.work.tasks) (keeps_task p) n
          (slice_get_within p.work.tasks n row found)
          ∙ kept.work.tasks n row found
          ∙ sym (group_before row.group (consistent.numbered.groups n row found));
    };
  };
}
  where
    kept : Hangs (kept_part p) p
    kept = kept_hangs p consistent

    scope_before : (s : ℕ) (row : Scope) → slice_get p.tree.scopes s ≡ Some row
        → (going_on p).scopes s ≡ keeps_scope p s
    scope_before s row found =
        goes_before (length p.tree.scopes) (keeps_scope p) s
        (slice_get_within p.tree.scopes s row found)

    group_before : (g : ℕ) → g < length p.work.groups
        → (going_on p).groups g ≡ keeps_group p g
    group_before g less = goes_before (length p.work.groups) (keeps_group p) g less
