-- A renewal leaves the same of a store that was renewed before as of the old one.
use Rattle.run_model.proofs.Common.{◌≡◌, ◌==◌, ◌&&◌, ◌||◌, ℕ, zero, suc, Bool, true, false, not}
use Rattle.run_model.proofs.Common.{List, [], ◌∷◌, length, map, Option, Some, None, slice_get, inl}
use Rattle.run_model.proofs.Common.{inr, refl, sym, ap, ◌∙◌, option_map, option_map_or, and_left}
use Rattle.run_model.proofs.Common.{and_parts, both_ways, eqb-true, false_from_ne_true, false≢true}
use Rattle.run_model.proofs.Common.{or_cases, true_from_ne_false, IsConsistent, HasRow, is_done}
use Rattle.run_model.proofs.Common.{line, line_within, upwards, State, list_any, range_with_len}
use Rattle.std.proofs.lemmas.Bool.{not-true}
use Rattle.run_model.specs.declared.groups.Group.{Group}
use Rattle.run_model.specs.declared.scopes.Scope.{Scope}
use Rattle.run_model.specs.declared.tasks.Task.{Task}
use Rattle.model_laws.specs.Hits.{is_on}
use Rattle.model_laws.proofs.Tests.{passing}
use Rattle.state_renewal.specs.Renewed.{group_renewed, hosts_unwaited, cons_if, is_needed, kept}
use Rattle.state_renewal.specs.Renewed.{keeps_group, keeps_scope, keeps_task, kept_part}
use Rattle.state_renewal.specs.Renewed.{new_number, one_more_if, renewed, scope_numbers}
use Rattle.state_renewal.specs.Renewed.{
  scope_renewed,
  task_renewed,
  Part,
  group_renumbered,
  rows_renumbered,
}
use Rattle.state_renewal.specs.Renewed.{scope_renumbered, state_renumbered, task_renumbered}
use Rattle.state_renewal.proofs.Keeps.{live_kept, all_at}
use Rattle.state_renewal.proofs.Numbers.{number_after, same_number}
use Rattle.state_renewal.proofs.Hangs.{AreBoth}
use Rattle.state_renewal.proofs.Stays.{kept_both}
use Rattle.state_renewal.proofs.Chains.{AllGo, both_lines, done_renumbered, renewed_at}
use Rattle.state_renewal.proofs.PassRenumbered.{any_renumbered, some_renumbered}
use Rattle.state_renewal.proofs.RowsRenumbered.{renumbered_get, kept_map, length-renumbered}
use Rattle.model_laws.proofs.FirstErrors.{found_any}
use Rattle.run_model.proofs.RowLemmas.{row_there}

-- ---- rows that are kept of those that go on

-- Only what goes on is kept, and of that again the same.
record IsWithin (goes keeps again : ℕ → Bool) : Type 0 where
  on : (n : ℕ) → goes n ≡ true → again (new_number goes n) ≡ keeps n
  off : (n : ℕ) → goes n ≡ false → keeps n ≡ false

number_twice : (goes keeps again : ℕ → Bool) → IsWithin goes keeps again → (n : ℕ)
    → new_number again (new_number goes n) ≡ new_number keeps n
number_twice goes keeps again within zero = refl
number_twice goes keeps again within (suc n) =
    by_last (goes n) refl (number_twice goes keeps again within n)
  where
    by_last : (b : Bool) → goes n ≡ b
        → new_number again (new_number goes n) ≡ new_number keeps n
        → new_number again (one_more_if b (new_number goes n))
        ≡ one_more_if (keeps n) (new_number keeps n)
    by_last true is before =
        ap (λ b. one_more_if b (new_number again (new_number goes n))) (within.on n is)
        ∙ ap (one_more_if (keeps n)) before
    by_last false is before =
        before ∙ ap (λ b. one_more_if b (new_number keeps n)) (sym (within.off n is))

within_after : (goes keeps again : ℕ → Bool) (b : Bool) → goes zero ≡ b
    → IsWithin goes keeps again
    → IsWithin (λ n. goes (suc n)) (λ n. keeps (suc n)) (λ n. again (one_more_if b n))
within_after goes keeps again b is within = record {
  on =
      λ n goes_n.
      ap (λ c. again (one_more_if c (new_number (λ k. goes (suc k)) n))) (sym is)
      ∙ ap again (sym (number_after goes n))
      ∙ within.on (suc n) goes_n;
  off = λ n. within.off (suc n);
}

kept_twice : {X : Type 0} (goes keeps again : ℕ → Bool) (rows : List X)
    → IsWithin goes keeps again → kept again (kept goes rows) ≡ kept keeps rows
kept_twice goes keeps again [] within = refl
kept_twice {X = X} goes keeps again (r ∷ rows) within =
    by_first (goes zero) refl
    (λ b is. kept_twice (λ n. goes (suc n)) (λ n. keeps (suc n)) (λ n. again (one_more_if b n))
    rows (within_after goes keeps again b is within))
  where
    rest : List X
    rest = kept (λ n. goes (suc n)) rows

    by_first : (b : Bool) → goes zero ≡ b
        → ((c : Bool) → goes zero ≡ c
        → kept (λ n. again (one_more_if c n)) rest ≡ kept (λ n. keeps (suc n)) rows)
        → kept again (cons_if b r rest)
        ≡ cons_if (keeps zero) r (kept (λ n. keeps (suc n)) rows)
    by_first true is behind =
        ap (λ b. cons_if b r (kept (λ n. again (suc n)) rest)) (within.on zero is)
        ∙ ap (cons_if (keeps zero) r) (behind true is)
    by_first false is behind =
        behind false is
        ∙ ap (λ b. cons_if b r (kept (λ n. keeps (suc n)) rows)) (sym (within.off zero is))

map_twice : {X : Type 0} (f g h : X → X) (rows : List X) → ((x : X) → f (g x) ≡ h x)
    → map f (map g rows) ≡ map h rows
map_twice f g h [] same = refl
map_twice f g h (r ∷ rows) same =
    ap (λ x. x ∷ map f (map g rows)) (same r) ∙ ap (λ rs. h r ∷ rs) (map_twice f g h rows same)

rows_twice : {X : Type 0} (goes keeps again : ℕ → Bool) (f g h : X → X) (rows : List X)
    → IsWithin goes keeps again → ((x : X) → f (g x) ≡ h x)
    → map f (kept again (rows_renumbered goes g rows)) ≡ map h (kept keeps rows)
rows_twice goes keeps again f g h rows within same =
    ap (map f) (kept_map again g (kept goes rows))
    ∙ ap (λ rs. map f (map g rs)) (kept_twice goes keeps again rows within)
    ∙ map_twice f g h (kept keeps rows) same

-- The state with these rows in place of its own.
abbrev with_rows : State → List Scope → List Group → List Task → State
with_rows p scopes groups tasks = record {
  count = p.count;
  tree = record p.tree { scopes = scopes };
  work = record p.work { groups = groups; tasks = tasks };
}

pub same_rows : (p : State) (scopes a : List Scope) (groups b : List Group) (tasks c : List Task)
    → scopes ≡ a → groups ≡ b → tasks ≡ c
    → with_rows p scopes groups tasks ≡ with_rows p a b c
same_rows p scopes a groups b tasks c s g t =
    ap (λ rows. with_rows p rows groups tasks) s
    ∙ ap (λ rows. with_rows p a rows tasks) g
    ∙ ap (with_rows p a b) t

-- ---- what is needed

-- A scope on whose line another one is has a row.
row_on : (rows : List Scope) (t s : ℕ) → is_on s (line rows t) ≡ true
    → (row : Scope) × (slice_get rows t ≡ Some row)
row_on rows t s on = by_row (slice_get rows t) refl
  where
    by_row : (o : Option Scope) → slice_get rows t ≡ o
        → (row : Scope) × (slice_get rows t ≡ Some row)
    by_row None at =
        absurd (false≢true (sym (ap (λ o. is_on s (upwards (line_within t rows) t o)) at) ∙ on))
    by_row (Some row) at = (row, at)

-- A scope is on the line by the new numbers if it was on the line.
on_renumbered : (part : Part) (s : ℕ) (rows : List (ℕ × Scope)) → AllGo part rows
    → part.scopes s ≡ true
    → is_on (new_number part.scopes s) (map (renewed_at part) rows) ≡ is_on s rows
on_renumbered part s [] all is = refl
on_renumbered part s (r ∷ rows) all is =
    ap (λ b. b || is_on (new_number part.scopes s) (map (renewed_at part) rows))
    (same_number part.scopes r.0 s all.0 is)
    ∙ ap (λ b. (r.0 == s) || b) (on_renumbered part s rows all.1 is)

-- Each scope that doesn't go on is done.
abbrev pub GoneAreDone : Part → State → Type 0
GoneAreDone part p = (s : ℕ) (row : Scope) → HasRow p.tree.scopes s row → part.scopes s ≡ false
    → is_done p.tree.scopes s ≡ true

module _ (part : Part) (p : State) (both : AreBoth part p) (done : GoneAreDone part p) where
  hosts_go : (s : ℕ) → hosts_unwaited p.work s ≡ true → part.scopes s ≡ true
  hosts_go s is =
      let by = found_any (λ group. not group.waited && group.scope == s) p.work.groups is in
      let parts = and_parts (not by.1.waited) (by.1.scope == s) by.3 in
      let with = both.hangs.work.groups by.0 by.1 by.2 in
      ap part.scopes (sym (eqb-true by.1.scope s parts.1))
      ∙ with.scope (true_from_ne_false (part.groups by.0)
      (λ gone. both_ways by.1.waited (not-true by.1.waited parts.0) (with.gone gone)))

  needed_goes : (s : ℕ) (row : Scope) → HasRow p.tree.scopes s row → is_needed p s ≡ true
      → part.scopes s ≡ true
  needed_goes s row found is =
      elim (or_cases (not (is_done p.tree.scopes s)) (hosts_unwaited p.work s) is) [
        | inl live ↦
            true_from_ne_false (part.scopes s)
            (λ gone. both_ways (is_done p.tree.scopes s)
            (not-true (is_done p.tree.scopes s) live) (done s row found gone))
        | inr hosts ↦ hosts_go s hosts
      ]

  hosts_same : (s : ℕ) → part.scopes s ≡ true
      → hosts_unwaited (state_renumbered part p).work (new_number part.scopes s)
      ≡ hosts_unwaited p.work s
  hosts_same s is =
      any_renumbered part.groups (group_renumbered part)
      (λ group. not group.waited && group.scope == s)
      (λ group. not group.waited && group.scope == new_number part.scopes s) p.work.groups
      (record {
        on = λ g x found goes.
            ap (λ b. not x.waited && b)
            (same_number part.scopes x.scope s
            ((both.hangs.work.groups g x found).scope goes) is);
        gone = λ g x found gone.
            and_left (not x.waited) (x.scope == s)
            (ap not ((both.hangs.work.groups g x found).gone gone));
      })

  needed_same : (s : ℕ) → part.scopes s ≡ true
      → is_needed (state_renumbered part p) (new_number part.scopes s) ≡ is_needed p s
  needed_same s is =
      ap (λ b. not b || hosts_unwaited (state_renumbered part p).work (new_number part.scopes s))
      (done_renumbered part p both s is)
      ∙ ap (λ b. not (is_done p.tree.scopes s) || b) (hosts_same s is)

  -- ---- what is kept

  restated : (t : ℕ) (row : Scope) → HasRow p.tree.scopes t row → part.scopes t ≡ true
      → AllGo part (line p.tree.scopes t)
  restated t row found is = (both_lines part p both t row found is).all

  on_same : (t s : ℕ) (row : Scope) → HasRow p.tree.scopes t row → part.scopes t ≡ true
      → part.scopes s ≡ true
      → is_on (new_number part.scopes s)
      (line (state_renumbered part p).tree.scopes (new_number part.scopes t))
      ≡ is_on s (line p.tree.scopes t)
  on_same t s row found is_t is_s =
      let line = both_lines part p both t row found is_t in
      ap (is_on (new_number part.scopes s)) line.is
      ∙ on_renumbered part s (Rattle.run_model.specs.Scopes.line p.tree.scopes t) line.all is_s

  -- Only scopes that go on are kept.
  scope_goes : (s : ℕ) → keeps_scope p s ≡ true → part.scopes s ≡ true
  scope_goes s is =
      let by = found_any (λ t. is_needed p t && is_on s (line p.tree.scopes t))
      (scope_numbers p.tree) is in
      let parts = and_parts (is_needed p by.1) (is_on s (line p.tree.scopes by.1)) by.3 in
      let row = row_on p.tree.scopes by.1 s parts.1 in
      let on = found_any (λ r. r.0 == s) (line p.tree.scopes by.1) parts.1 in
      ap part.scopes (sym (eqb-true on.1.0 s on.3))
      ∙ all_at (λ r. part.scopes r.0 ≡ true) (line p.tree.scopes by.1)
      (restated by.1 row.0 row.1 (needed_goes by.1 row.0 row.1 parts.0)) on.0 on.1 on.2

  keeps_same : (s : ℕ) → part.scopes s ≡ true
      → keeps_scope (state_renumbered part p) (new_number part.scopes s) ≡ keeps_scope p s
  keeps_same s is =
      let q : State = state_renumbered part p in
      let new = new_number part.scopes s in
      ap (λ many. list_any (λ t. is_needed q t && is_on new (line q.tree.scopes t))
      (range_with_len 0 many)) (length-renumbered part.scopes (scope_renumbered part) p.tree.scopes)
      ∙ some_renumbered part.scopes (λ t. is_needed p t && is_on s (line p.tree.scopes t))
      (λ t. is_needed q t && is_on new (line q.tree.scopes t)) (length p.tree.scopes)
      (record {
        on = λ t less goes.
            let row = row_there p.tree.scopes t less in
            ap (λ b. b && is_on new (line q.tree.scopes (new_number part.scopes t)))
            (needed_same t goes)
            ∙ ap (λ b. is_needed p t && b) (on_same t s row.0 row.1 goes is);
        gone = λ t less gone.
            let row = row_there p.tree.scopes t less in
            and_left (is_needed p t) (is_on s (line p.tree.scopes t))
            (false_from_ne_true (is_needed p t)
            (λ needed. both_ways (part.scopes t) gone (needed_goes t row.0 row.1 needed)));
      })

  scopes_within : IsWithin part.scopes (keeps_scope p) (keeps_scope (state_renumbered part p))
  scopes_within = record {
    on = keeps_same;
    off = λ s gone.
        false_from_ne_true (keeps_scope p s)
        (λ is. both_ways (part.scopes s) gone (scope_goes s is));
  }

  group_same : (g : ℕ) → part.groups g ≡ true
      → keeps_group (state_renumbered part p) (new_number part.groups g) ≡ keeps_group p g
  group_same g is =
      ap (λ o. option_map_or (λ group. not group.waited
      || not group.bare && keeps_scope (state_renumbered part p) group.scope) o false)
      (renumbered_get part.groups (group_renumbered part) p.work.groups g is)
      ∙ group_row g is (slice_get p.work.groups g) refl
    where
      group_row : (g : ℕ) → part.groups g ≡ true → (o : Option Group)
          → slice_get p.work.groups g ≡ o
          → option_map_or (λ group. not group.waited
          || not group.bare && keeps_scope (state_renumbered part p) group.scope)
          (option_map (group_renumbered part) o) false
          ≡ option_map_or (λ group. not group.waited
          || not group.bare && keeps_scope p group.scope) o false
      group_row g is None at = refl
      group_row g is (Some row) at =
          ap (λ b. not row.waited || not row.bare && b)
          (keeps_same row.scope ((both.hangs.work.groups g row at).scope is))

  -- Only groups that go on are kept.
  group_goes : (g : ℕ) → keeps_group p g ≡ true → part.groups g ≡ true
  group_goes g is =
      let row = passing (λ group. not group.waited || not group.bare && keeps_scope p group.scope)
      (slice_get p.work.groups g) is in
      let with = both.hangs.work.groups g row.0 row.1 in
      true_from_ne_false (part.groups g)
      (λ gone.
      elim (or_cases (not row.0.waited) (not row.0.bare && keeps_scope p row.0.scope) row.2) [
        | inl unwaited ↦
            both_ways row.0.waited (not-true row.0.waited unwaited) (with.gone gone)
        | inr own ↦
            (let parts = and_parts (not row.0.bare) (keeps_scope p row.0.scope) own in
            both_ways (part.groups g) gone
            (with.own (not-true row.0.bare parts.0) (scope_goes row.0.scope parts.1)))
      ])

  groups_within : IsWithin part.groups (keeps_group p) (keeps_group (state_renumbered part p))
  groups_within = record {
    on = group_same;
    off = λ g gone.
        false_from_ne_true (keeps_group p g)
        (λ is. both_ways (part.groups g) gone (group_goes g is));
  }

  task_same : (n : ℕ) → part.tasks n ≡ true
      → keeps_task (state_renumbered part p) (new_number part.tasks n) ≡ keeps_task p n
  task_same n is =
      ap (λ o. option_map_or (λ task. keeps_group (state_renumbered part p) task.group) o false)
      (renumbered_get part.tasks (task_renumbered part) p.work.tasks n is)
      ∙ task_row n is (slice_get p.work.tasks n) refl
    where
      task_row : (n : ℕ) → part.tasks n ≡ true → (o : Option Task)
          → slice_get p.work.tasks n ≡ o
          → option_map_or (λ task. keeps_group (state_renumbered part p) task.group)
          (option_map (task_renumbered part) o) false
          ≡ option_map_or (λ task. keeps_group p task.group) o false
      task_row n is None at = refl
      task_row n is (Some row) at =
          group_same row.group (sym (both.hangs.work.tasks n row at) ∙ is)

  tasks_within : IsWithin part.tasks (keeps_task p) (keeps_task (state_renumbered part p))
  tasks_within = record {
    on = task_same;
    off = λ n gone.
        false_from_ne_true (keeps_task p n)
        (λ is.
        let row = passing (λ task. keeps_group p task.group) (slice_get p.work.tasks n) is in
        both_ways (part.tasks n) gone
        (both.hangs.work.tasks n row.0 row.1 ∙ group_goes row.0.group row.2));
  }

  -- ---- what is left

  link_twice : (o : Option ℕ)
      → option_map (new_number (keeps_task (state_renumbered part p)))
      (option_map (new_number part.tasks) o)
      ≡ option_map (new_number (keeps_task p)) o
  link_twice None = refl
  link_twice (Some m) =
      ap Some (number_twice part.tasks (keeps_task p) (keeps_task (state_renumbered part p))
      tasks_within m)

  pub renewed_same : renewed (state_renumbered part p) ≡ renewed p
  renewed_same =
      let q : State = state_renumbered part p in
      same_rows p (map (scope_renewed q) (kept (keeps_scope q) q.tree.scopes))
      (map (scope_renewed p) (kept (keeps_scope p) p.tree.scopes))
      (map (group_renewed q) (kept (keeps_group q) q.work.groups))
      (map (group_renewed p) (kept (keeps_group p) p.work.groups))
      (map (task_renewed q) (kept (keeps_task q) q.work.tasks))
      (map (task_renewed p) (kept (keeps_task p) p.work.tasks))
      (rows_twice part.scopes (keeps_scope p) (keeps_scope q) (scope_renewed q)
      (scope_renumbered part)
      (scope_renewed p) p.tree.scopes scopes_within
      (λ row. ap (λ n. record row { parent = n })
      (number_twice part.scopes (keeps_scope p) (keeps_scope q) scopes_within row.parent)))
      (rows_twice part.groups (keeps_group p) (keeps_group q) (group_renewed q)
      (group_renumbered part)
      (group_renewed p) p.work.groups groups_within
      (λ row. ap (λ n. record row { scope = n })
      (number_twice part.scopes (keeps_scope p) (keeps_scope q) scopes_within row.scope)))
      (rows_twice part.tasks (keeps_task p) (keeps_task q) (task_renewed q) (task_renumbered part)
      (task_renewed p) p.work.tasks tasks_within
      (λ row. ap (λ g. record row {
        group = g;
        retry_of = (task_renewed q (task_renumbered part row)).retry_of;
      }) (number_twice part.groups (keeps_group p) (keeps_group q) groups_within row.group)
      ∙ ap (λ o. record row { group = new_number (keeps_group p) row.group; retry_of = o })
      (link_twice row.retry_of)))

-- ---- a renewed state is renewed

pub renewed_again : (p : State) → IsConsistent p → renewed (renewed p) ≡ renewed p
renewed_again p consistent =
    renewed_same (kept_part p) p (kept_both p consistent)
    (λ s row found gone.
    true_from_ne_false (is_done p.tree.scopes s)
    (λ live. both_ways (keeps_scope p s) gone (live_kept p s row found live)))
