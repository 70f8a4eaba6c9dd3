-- Both states refuse an event that refers only to what goes on in the same way, except for taken
-- names and full stores.
use Rattle.run_model.proofs.Common.{◌≡◌, ◌&&◌, ◌==◌, ℕ, Bool, true, false, List, [], length}
use Rattle.run_model.proofs.Common.{Option, Some, None, refl, sym, ap, ◌∙◌, arith, option_map}
use Rattle.run_model.proofs.Common.{option_map_or, is_none, nat_lt, position, not, bytes_eq}
use Rattle.run_model.proofs.Common.{and_from, and_parts, both_ways, false_from_ne_true, lt-ltb}
use Rattle.run_model.proofs.Common.{ltb-true, not-false, bytes_eq-Decides, name_is_free}
use Rattle.run_model.proofs.Common.{each_fails, allowed, is_cancellable, refusals, takes_cause}
use Rattle.run_model.proofs.Common.{has_room, Event, most_scopes, most_tasks, new_group, root}
use Rattle.run_model.proofs.Common.{IsConsistent, State, TreeState, WorkState, scope_named}
use Rattle.run_model.proofs.Common.{group_named, first_ready, is_interrupted, is_ready, is_running}
use Rattle.run_model.proofs.Common.{is_root, is_group_kind, range_with_len, list_all}
use Rattle.std.proofs.Math.Bool.{and-true, and-false}
use Rattle.run_model.proofs.NameLemmas.{unpassed}
use Rattle.run_model.specs.declared.bounds.TheConstants.{MOST_GROUPS}
use Rattle.run_model.specs.Event as event
use Rattle.model_laws.proofs.Tests.{found_passes}
use Rattle.state_renewal.specs.Renewed.{Part, group_renumbered, kept_part, new_number, renewed}
use Rattle.state_renewal.specs.Renewed.{
  rows_renumbered,
  scope_renumbered,
  state_renumbered,
  task_renumbered,
  tree_renumbered,
}
use Rattle.state_renewal.specs.Renewed.{work_renumbered}
use Rattle.state_renewal.specs.PartEvents.{event_renumbered, has_place, names_part}
use Rattle.state_renewal.proofs.Chains.{done_renumbered, kind_renumbered}
use Rattle.state_renewal.proofs.Hangs.{AreBoth, WorkHangs}
use Rattle.state_renewal.proofs.Numbers.{are_restated, less_same, same_number}
use Rattle.state_renewal.proofs.RowsRenumbered.{length-renumbered}
use Rattle.state_renewal.proofs.Stays.{kept_both}
use Rattle.state_renewal.proofs.Works.{
  first_renumbered,
  idle_renumbered,
  open_renumbered,
  ready_goes,
  retried_renumbered,
}
use Rattle.state_renewal.proofs.Works.{
  retry_open,
  group_count_renumbered,
  stage_same,
  unfinished_same,
}

-- ---- tests that are the same

there_renumbered : {X : Type 0} (goes : ℕ → Bool) (renumber : X → X) (rows : List X) (n : ℕ)
    → goes n ≡ true
    → nat_lt (new_number goes n) (length (rows_renumbered goes renumber rows)) ≡ nat_lt n
    (length rows)
there_renumbered goes renumber rows n is =
    ap (nat_lt (new_number goes n)) (length-renumbered goes renumber rows)
    ∙ less_same goes n (length rows) is

first_same : (part : Part) (p : State) (n : ℕ) → IsConsistent p → WorkHangs part p.work
    → part.tasks n ≡ true
    → option_map_or (λ first. first == (new_number part.tasks n))
    (first_ready (work_renumbered part p.work)) false
    ≡ option_map_or (λ first. first == n) (first_ready p.work) false
first_same part p n consistent go is =
    ap (λ o. option_map_or (λ first. first == new_number part.tasks n) o false)
    (first_renumbered part p consistent go)
    ∙ by_first (first_ready p.work) refl
  where
    by_first : (o : Option ℕ) → first_ready p.work ≡ o
        → option_map_or (λ first. first == new_number part.tasks n)
        (option_map (new_number part.tasks) o) false
        ≡ option_map_or (λ first. first == n) o false
    by_first None at = refl
    by_first (Some first) at =
        same_number part.tasks first n
        (ready_goes part p first consistent go
        (found_passes (is_ready p.work) (range_with_len 0 (length p.work.tasks)) first at)) is

-- ---- names and room

-- A name that no row has, no row has that goes on.
free_renumbered : {X : Type 0} (d : X) (name : X → List ℕ) (goes : ℕ → Bool) (renumber : X → X)
    (wanted : List ℕ) (rows : List X) → ((x : X) → name (renumber x) ≡ name x)
    → is_none (position (λ row. bytes_eq wanted (name row)) rows) ≡ true
    → is_none (position (λ row. bytes_eq wanted (name row)) (rows_renumbered goes renumber rows))
    ≡ true
free_renumbered d name goes renumber wanted rows same free =
    unpassed d (λ row. bytes_eq wanted (name row)) (rows_renumbered goes renumber rows)
    (λ m row found passes.
    let old = (are_restated goes renumber rows).back m row found in
    name_is_free name wanted rows free old.n old.old old.found
    (sym (same old.old)
    ∙ ap name (sym old.restated)
    ∙ sym ((bytes_eq-Decides wanted (name row)).0 passes)))

scope_free : (part : Part) (t : TreeState) (name : List ℕ)
    → is_none (scope_named t name) ≡ true
    → is_none (scope_named (tree_renumbered part t) name) ≡ true
scope_free part t name free =
    free_renumbered root (λ row. row.name) part.scopes (scope_renumbered part) name t.scopes
    (λ row. refl) free

group_free : (part : Part) (w : WorkState) (name : List ℕ)
    → is_none (group_named w name) ≡ true
    → is_none (group_named (work_renumbered part w) name) ≡ true
group_free part w name free =
    free_renumbered (new_group [] 0 false) (λ row. row.name) part.groups
    (group_renumbered part) name w.groups
    (λ row. refl) free

room_renumbered : {X : Type 0} (goes : ℕ → Bool) (renumber : X → X) (rows : List X) (most : ℕ)
    → nat_lt (length rows) most ≡ true
    → nat_lt (length (rows_renumbered goes renumber rows)) most ≡ true
room_renumbered goes renumber rows most room =
    let few = (are_restated goes renumber rows).few in
    let less = ltb-true (length rows) most room in
    lt-ltb (length (rows_renumbered goes renumber rows)) most (omega (arith, few, less))

scope_room : (part : Part) (t : TreeState) → has_room (most_scopes t.layout) t.scopes ≡ true
    → has_room (most_scopes (tree_renumbered part t).layout) (tree_renumbered part t).scopes ≡ true
scope_room part t room =
    room_renumbered part.scopes (scope_renumbered part) t.scopes (most_scopes t.layout) room

group_room : (part : Part) (w : WorkState) → has_room MOST_GROUPS w.groups ≡ true
    → has_room MOST_GROUPS (work_renumbered part w).groups ≡ true
group_room part w room = room_renumbered part.groups
    (group_renumbered part) w.groups MOST_GROUPS room

task_room : (part : Part) (w : WorkState) → has_room (most_tasks w.layout) w.tasks ≡ true
    → has_room (most_tasks (work_renumbered part w).layout) (work_renumbered part w).tasks ≡ true
task_room part w room =
    room_renumbered part.tasks (task_renumbered part) w.tasks (most_tasks w.layout) room

-- ---- refusals

pub refusals_renumbered : (part : Part) (p : State) (e : Event) → AreBoth part p
    → names_part part e ≡ true → has_place p e ≡ true
    → refusals (state_renumbered part p) (event_renumbered part e) ≡ refusals p e
refusals_renumbered part p (event.Derive name parent kind) both is place =
    let at = and_parts (is_none (scope_named p.tree name))
    (has_room (most_scopes p.tree.layout) p.tree.scopes) place in
    cc (
      there_renumbered part.scopes (scope_renumbered part) p.tree.scopes parent is,
      scope_free part p.tree name at.0,
      scope_room part p.tree at.1,
    )
refusals_renumbered part p (event.Cancel s cause) both is place =
    cc (
      there_renumbered part.scopes (scope_renumbered part) p.tree.scopes s is,
      kind_renumbered is_cancellable part p.tree s is,
      kind_renumbered takes_cause part p.tree s is,
      done_renumbered part p both s is,
    )
refusals_renumbered part p (event.Advance moment) both is place = refl
refusals_renumbered part p (event.Group name parent) both is place =
    let all = and_parts _ (has_room MOST_GROUPS p.work.groups) place in
    let most = and_parts _ (has_room (most_scopes p.tree.layout) p.tree.scopes) all.0 in
    let names =
    and_parts (is_none (scope_named p.tree name)) (is_none (group_named p.work name)) most.0 in
    cc (
      there_renumbered part.scopes (scope_renumbered part) p.tree.scopes parent is,
      scope_free part p.tree name names.0,
      group_free part p.work name names.1,
      scope_room part p.tree most.1,
      group_room part p.work all.1,
    )
refusals_renumbered part p (event.Bare name s) both is place =
    let at = and_parts (is_none (group_named p.work name))
    (has_room MOST_GROUPS p.work.groups) place in
    cc (
      there_renumbered part.scopes (scope_renumbered part) p.tree.scopes s is,
      group_free part p.work name at.0,
      group_room part p.work at.1,
    )
refusals_renumbered part p (event.SetLimit g limit) both is place =
    cc (
      there_renumbered part.groups (group_renumbered part) p.work.groups g is,
      open_renumbered part p.work g is,
      idle_renumbered part p.work g both.hangs.work.tasks is,
    )
refusals_renumbered part p (event.Go g job argument) both is place =
    cc (
      there_renumbered part.groups (group_renumbered part) p.work.groups g is,
      open_renumbered part p.work g is,
      task_room part p.work place,
    )
refusals_renumbered part p (event.TryGo g job argument) both is place =
    cc (
      there_renumbered part.groups (group_renumbered part) p.work.groups g is,
      open_renumbered part p.work g is,
      task_room part p.work place,
      group_count_renumbered part p.work g both.hangs.work.tasks is,
    )
refusals_renumbered part p (event.Retry n) both is place =
    cc (
      there_renumbered part.tasks (task_renumbered part) p.work.tasks n is,
      stage_same is_interrupted part p.work n is,
      retried_renumbered part p n both.old both.hangs.work.tasks is,
      retry_open part p.work n both.hangs.work.tasks is,
      task_room part p.work place,
    )
refusals_renumbered part p (event.Start n) both is place =
    cc (first_same part p n both.old both.hangs.work is)
refusals_renumbered part p (event.Finish n outcome) both is place =
    cc (
      there_renumbered part.tasks (task_renumbered part) p.work.tasks n is,
      stage_same is_running part p.work n is,
    )
refusals_renumbered part p (event.Wait g) both is place =
    cc (
      there_renumbered part.groups (group_renumbered part) p.work.groups g is,
      unfinished_same part p.work g both.hangs.work.tasks is,
      open_renumbered part p.work g is,
    )
refusals_renumbered part p event.Restart both is place = refl

-- ---- what is allowed

-- What is allowed has its place.
allowed_place : (p : State) (e : Event) → allowed p e ≡ true → has_place p e ≡ true
allowed_place p (event.Derive name parent kind) may =
    let parts = each_fails (refusals p (event.Derive name parent kind)) (and_parts _ _ may).1 in
    and_from _ _ (not-false _ parts.1.0) (not-false _ parts.1.1.0)
allowed_place p (event.Cancel s cause) may = refl
allowed_place p (event.Advance moment) may = refl
allowed_place p (event.Group name parent) may =
    let parts = each_fails (refusals p (event.Group name parent)) may in
    and_from _ _
    (and_from _ _ (and_from _ _ (not-false _ parts.1.0) (not-false _ parts.1.1.0))
    (not-false _ parts.1.1.1.0)) (not-false _ parts.1.1.1.1.0)
allowed_place p (event.Bare name s) may =
    let parts = each_fails (refusals p (event.Bare name s)) may in
    and_from _ _ (not-false _ parts.1.0) (not-false _ parts.1.1.0)
allowed_place p (event.SetLimit g limit) may = refl
allowed_place p (event.Go g job argument) may =
    not-false _ (each_fails (refusals p (event.Go g job argument)) may).1.1.0
allowed_place p (event.TryGo g job argument) may =
    not-false _ (each_fails (refusals p (event.TryGo g job argument)) may).1.1.0
allowed_place p (event.Retry n) may =
    not-false _ (each_fails (refusals p (event.Retry n)) may).1.1.1.1.0
allowed_place p (event.Start n) may = refl
allowed_place p (event.Finish n outcome) may = refl
allowed_place p (event.Wait g) may = refl
allowed_place p event.Restart may = refl

-- If its names and rows are free, either state allows it exactly if the other does.
allowed_at : (part : Part) (p : State) (e : Event) → AreBoth part p → names_part part e ≡ true
    → has_place p e ≡ true
    → allowed (state_renumbered part p) (event_renumbered part e) ≡ allowed p e
allowed_at part p e both is place = by_event e (refusals_renumbered part p e both is place)
  where
    by_event : (e : Event)
        → refusals (state_renumbered part p) (event_renumbered part e) ≡ refusals p e
        → allowed (state_renumbered part p) (event_renumbered part e) ≡ allowed p e
    by_event (event.Derive name parent kind) same =
        ap (λ tests. (not (is_root kind) && not (is_group_kind kind))
        && list_all (λ t. not t.0) tests) same
    by_event (event.Cancel s cause) same = ap (list_all (λ t. not t.0)) same
    by_event (event.Advance moment) same = refl
    by_event (event.Group name parent) same = ap (list_all (λ t. not t.0)) same
    by_event (event.Bare name s) same = ap (list_all (λ t. not t.0)) same
    by_event (event.SetLimit g limit) same = ap (list_all (λ t. not t.0)) same
    by_event (event.Go g job argument) same = ap (list_all (λ t. not t.0)) same
    by_event (event.TryGo g job argument) same = ap (list_all (λ t. not t.0)) same
    by_event (event.Retry n) same = ap (list_all (λ t. not t.0)) same
    by_event (event.Start n) same = ap (list_all (λ t. not t.0)) same
    by_event (event.Finish n outcome) same = ap (list_all (λ t. not t.0)) same
    by_event (event.Wait g) same = ap (list_all (λ t. not t.0)) same
    by_event event.Restart same = refl

pub allowed_renumbered : (part : Part) (p : State) (e : Event) → AreBoth part p
    → names_part part e ≡ true → allowed p e ≡ true
    → allowed (state_renumbered part p) (event_renumbered part e) ≡ true
allowed_renumbered part p e both is may = allowed_at part p e both is (allowed_place p e may) ∙ may

-- The old state allows it exactly if the new one does, and its names and rows are free in the old
-- one.
pub allowed_same : (part : Part) (p : State) (e : Event) → AreBoth part p
    → names_part part e ≡ true
    → allowed p e ≡ (allowed (state_renumbered part p) (event_renumbered part e) && has_place p e)
allowed_same part p e both is = by_place (has_place p e) refl
  where
    may : Bool
    may = allowed (state_renumbered part p) (event_renumbered part e)

    by_place : (b : Bool) → has_place p e ≡ b → allowed p e ≡ (may && b)
    by_place true place = sym (and-true may ∙ allowed_at part p e both is place)
    by_place false place =
        false_from_ne_true (allowed p e)
        (λ was. both_ways (has_place p e) place (allowed_place p e was))
        ∙ sym (and-false may)

-- ---- of a renewed state

pub allowed_renewed : (p : State) (e : Event) → IsConsistent p → names_part (kept_part p) e ≡ true
    → allowed p e ≡ true → allowed (renewed p) (event_renumbered (kept_part p) e) ≡ true
allowed_renewed p e consistent is may =
    allowed_renumbered (kept_part p) p e (kept_both p consistent) is may

pub allowed_before : (p : State) (e : Event) → IsConsistent p
    → names_part (kept_part p) e ≡ true → has_place p e ≡ true
    → allowed (renewed p) (event_renumbered (kept_part p) e) ≡ true → allowed p e ≡ true
allowed_before p e consistent is place may =
    sym (allowed_at (kept_part p) p e (kept_both p consistent) is place) ∙ may
