-- The nodes of a state that a store can keep: each node except root comes after its parent.
use Rattle.std.specs.Prelude.{◌≡◌, ◌≤◌, ◌<◌, ◌+◌, ℕ, zero, suc, Bool, true, false}
use Rattle.std.specs.Prelude.{List, [], ◌∷◌, ◌++◌, length, map, slice_get, Option, Some, None}
use Rattle.std.specs.Option.{option_map_or}
use Rattle.std.proofs.Common.{refl, arith, length-append}
use Rattle.std.proofs.lemmas.List.{length-map}
use Rattle.std.proofs.lemmas.Option.{slice_get_within}
use Rattle.run_model.specs.declared.groups.Group.{Group}
use Rattle.run_model.specs.declared.layouts.Layout.{Layout}
use Rattle.run_model.specs.declared.layouts.Layout.TheVariants.{Small, Large}
use Rattle.run_model.specs.declared.scopes.Scope.{Scope}
use Rattle.run_model.specs.declared.tasks.Task.{Task}
use Rattle.run_model.specs.Layouts.{most_scopes, most_tasks}
use Rattle.run_model.specs.Rows.{root}
use Rattle.run_model.specs.Rules.{IsConsistent}
use Rattle.run_model.specs.Scopes.{is_root}
use Rattle.run_model.specs.State.{State}
use Rattle.state_views.specs.Branches.{branches_of, nodes_of}
use Rattle.state_views.specs.Trees.{parents_of}
use Rattle.state_views.specs.Walks.{AreRising}

-- In a row whose first place has this number each but that of place 0 is below its place.
abbrev Rises : ℕ → List ℕ → Type 0
Rises base ns = (k n : ℕ) → slice_get ns k ≡ Some n → 0 < base + k → n < base + k

rises_append : (xs ys : List ℕ) (base k n : ℕ) → Rises base xs → Rises (base + length xs) ys
    → slice_get (xs ++ ys) k ≡ Some n → 0 < base + k → n < base + k
rises_append [] ys base k n p q e some =
    let less = q k n e (omega (arith, some)) in omega (arith, less)
rises_append (x ∷ xs) ys base zero n p q e some = p zero n e some
rises_append (x ∷ xs) ys base (suc k) n p q e some =
    let prefix : Rises (suc base) xs = λ (j m : ℕ) f more.
    let less = p (suc j) m f (omega arith) in omega (arith, less) in
    let behind : Rises (suc base + length xs) ys = λ (j m : ℕ) f more.
    let less = q j m f (omega arith) in omega (arith, less) in
    let less = rises_append xs ys (suc base) k n prefix behind e (omega arith) in
    omega (arith, less)

-- Each row of the result comes from the row at the same place.
pub record IsMapped {A : Type 0} (f : A → ℕ) (rows : List A) (k n : ℕ) : Type 0 where
  pub row : A
  pub found : slice_get rows k ≡ Some row
  pub is : n ≡ f row

mapped : {A : Type 0} (f : A → ℕ) (rows : List A) (k n : ℕ)
    → slice_get (map f rows) k ≡ Some n → IsMapped f rows k n
mapped f [] k n e = absurd (cc)
mapped f (row ∷ rows) zero n e = record { row = row; found = refl; is = cc }
mapped f (row ∷ rows) (suc k) n e =
    let its = mapped f rows k n e in
    record { row = its.row; found = its.found; is = its.is }

scope_by : (p : State) → IsConsistent p → (s : ℕ) (row : Scope) (is_so : Bool)
    → slice_get p.tree.scopes s ≡ Some row → is_root row.kind ≡ is_so → 0 < s → row.parent < s
scope_by p rules s row true found is some =
    let top = rules.numbered.one_root s row found is in absurd (omega (arith, top, some))
scope_by p rules s row false found is some = rules.numbered.ordered s row found is

scopes_rise : (p : State) → IsConsistent p → Rises 0 (map (λ row. row.parent) p.tree.scopes)
scopes_rise p rules = λ (k n : ℕ) e some.
    let its = mapped (λ (row : Scope). row.parent) p.tree.scopes k n e in
    let less = scope_by p rules k its.row (is_root its.row.kind) its.found refl
    (omega (arith, some)) in
    omega (arith, less, its.is)

groups_rise : (p : State) → IsConsistent p
    → Rises (length p.tree.scopes) (map (λ row. row.scope) p.work.groups)
groups_rise p rules = λ (k n : ℕ) e some.
    let its = mapped (λ (row : Group). row.scope) p.work.groups k n e in
    let less = rules.numbered.scopes k its.row its.found in
    omega (arith, less, its.is)

tasks_rise : (p : State) → IsConsistent p
    → Rises (length p.tree.scopes + length p.work.groups)
    (map (λ row. length p.tree.scopes + row.group) p.work.tasks)
tasks_rise p rules = λ (k n : ℕ) e some.
    let its = mapped (λ (row : Task). length p.tree.scopes + row.group) p.work.tasks k n e in
    let less = rules.numbered.groups k its.row its.found in
    omega (arith, less, its.is)

work_rises : (p : State) → IsConsistent p
    → Rises (length p.tree.scopes)
    (map (λ row. row.scope) p.work.groups
    ++ map (λ row. length p.tree.scopes + row.group) p.work.tasks)
work_rises p rules = λ (k n : ℕ) e some.
    let scopes = map (λ (row : Group). row.scope) p.work.groups in
    let long = length-map p.work.groups (λ (row : Group). row.scope) in
    let tasks = map (λ (row : Task). length p.tree.scopes + row.group) p.work.tasks in
    let behind : Rises (length p.tree.scopes + length scopes) tasks = λ (j m : ℕ) f more.
    let less = tasks_rise p rules j m f (omega (arith, more, long)) in
    omega (arith, less, long) in
    rises_append scopes tasks (length p.tree.scopes) k n (groups_rise p rules) behind e some

all_rise : (p : State) → IsConsistent p → Rises 0 (parents_of p)
all_rise p rules = λ (k n : ℕ) e some.
    let scopes = map (λ (row : Scope). row.parent) p.tree.scopes in
    let long = length-map p.tree.scopes (λ (row : Scope). row.parent) in
    let work = map (λ (row : Group). row.scope) p.work.groups
    ++ map (λ (row : Task). length p.tree.scopes + row.group) p.work.tasks in
    let behind : Rises (0 + length scopes) work = λ (j m : ℕ) f more.
    let less = work_rises p rules j m f (omega (arith, more, long)) in
    omega (arith, less, long) in
    rises_append scopes work 0 k n (scopes_rise p rules) behind e some

risen : (found : Option ℕ) (n : ℕ) → 0 < n → ((m : ℕ) → found ≡ Some m → m < n)
    → option_map_or (λ m. m) found 0 < n
risen None n some all = some
risen (Some m) n some all = all m refl

branches_rise : (p : State) → IsConsistent p → Rises 0 (branches_of p)
branches_rise p rules = λ (k n : ℕ) e some.
    let scopes = map (λ (row : Scope). row.parent) p.tree.scopes in
    let long = length-map p.tree.scopes (λ (row : Scope). row.parent) in
    let groups = map (λ (row : Group). row.scope) p.work.groups in
    let behind : Rises (0 + length scopes) groups = λ (j m : ℕ) f more.
    let less = groups_rise p rules j m f (omega (arith, more, long)) in
    omega (arith, less, long) in
    rises_append scopes groups 0 k n (scopes_rise p rules) behind e some

are_rising : (ns : List ℕ) → Rises 0 ns → AreRising ns
are_rising ns rise = λ (n : ℕ) some.
    risen (slice_get ns n) n some (λ (m : ℕ) e.
    let less = rise n m e (omega (arith, some)) in omega (arith, less))

pub nodes_rise : (no_tasks : Bool) (p : State) → IsConsistent p
    → AreRising (nodes_of no_tasks p)
nodes_rise true p rules = are_rising (branches_of p) (branches_rise p rules)
nodes_rise false p rules = are_rising (parents_of p) (all_rise p rules)

-- ---- how many there are

most_nodes : (layout : Layout) → most_scopes layout + most_tasks layout ≤ 12288
most_nodes Small = omega arith
most_nodes Large = omega arith

-- A state has root, and no more nodes than this.
pub record IsWithinNodes (p : State) : Type 0 where
  pub some : 0 < length p.tree.scopes
  pub few : length p.tree.scopes + (length p.work.groups + length p.work.tasks) ≤ 12416

pub within_nodes : (p : State) → IsConsistent p → IsWithinNodes p
within_nodes p rules =
    let most = most_nodes p.tree.layout in
    let tasks = rules.numbered.few_tasks in
    let same : most_tasks p.work.layout ≡ most_tasks p.tree.layout =
    rw rules.numbered.one_layout refl in
    record {
      some = slice_get_within p.tree.scopes 0 root rules.numbered.rooted;
      few = omega (
        arith,
        most,
        same,
        tasks,
        rules.numbered.few_scopes,
        rules.numbered.few_groups,
      );
    }

nodes_long : (p : State)
    → length (parents_of p)
    ≡ length p.tree.scopes + (length p.work.groups + length p.work.tasks)
nodes_long p =
    let scopes = map (λ (row : Scope). row.parent) p.tree.scopes in
    let groups = map (λ (row : Group). row.scope) p.work.groups in
    let tasks = map (λ (row : Task). length p.tree.scopes + row.group) p.work.tasks in
    let first = length-append scopes (groups ++ tasks) in
    let second = length-append groups tasks in
    let s = length-map p.tree.scopes (λ (row : Scope). row.parent) in
    let g = length-map p.work.groups (λ (row : Group). row.scope) in
    let t = length-map p.work.tasks (λ (row : Task). length p.tree.scopes + row.group) in
    omega (arith, first, second, s, g, t)

branches_long : (p : State)
    → length (branches_of p) ≡ length p.tree.scopes + length p.work.groups
branches_long p =
    let scopes = map (λ (row : Scope). row.parent) p.tree.scopes in
    let groups = map (λ (row : Group). row.scope) p.work.groups in
    let first = length-append scopes groups in
    let s = length-map p.tree.scopes (λ (row : Scope). row.parent) in
    let g = length-map p.work.groups (λ (row : Group). row.scope) in
    omega (arith, first, s, g)

-- This many nodes are drawn at most.
pub drawn_within : (no_tasks : Bool) (p : State) → IsConsistent p
    → (0 < length (nodes_of no_tasks p)) × (length (nodes_of no_tasks p) ≤ 12416)
drawn_within true p rules =
    let count = within_nodes p rules in
    let long = branches_long p in
    (omega (arith, count.some, long), omega (arith, count.few, long))
drawn_within false p rules =
    let count = within_nodes p rules in
    let long = nodes_long p in
    (omega (arith, count.some, long), omega (arith, count.few, long))
