-- If a state is consistent, so is the renewed state.
use Rattle.run_model.proofs.Common.{◌≡◌, ◌⊎◌, ◌<◌, ℕ, Bool, true, false, length, Option, Some}
use Rattle.run_model.proofs.Common.{None, slice_get, refl, sym, ap, subst, ◌∙◌, arith, option_map}
use Rattle.run_model.proofs.Common.{option_and_then, IsSome, IsTrue, is_some, none-some, same_Some}
use Rattle.run_model.proofs.Common.{slice_get_within, option_and_then_some, has_kind, root}
use Rattle.run_model.proofs.Common.{IsConsistent, AreNumbered, AreHits, AreDeadlines}
use Rattle.run_model.proofs.Common.{AreGroupScopes, AreAdmitted, AreErrors, AreLinked, IsRetry}
use Rattle.run_model.proofs.Common.{Owns, has_task_error, HasRow, is_root, own_hit, AreOrdered}
use Rattle.run_model.proofs.Common.{is_group_kind, State, is_running, unfinished_in, is_admitted}
use Rattle.run_model.specs.declared.groups.Group.{Group}
use Rattle.run_model.specs.declared.scopes.Hit.{Hit}
use Rattle.run_model.specs.declared.scopes.Scope.{Scope}
use Rattle.run_model.specs.declared.tasks.Task.{Task}
use Rattle.state_renewal.specs.Renewed.{new_number, keeps_scope, keeps_group, keeps_task}
use Rattle.state_renewal.specs.Renewed.{
  scope_renewed,
  group_renewed,
  task_renewed,
  kept_part,
  renewed,
}
use Rattle.state_renewal.proofs.Numbers.{are_restated, number_less, number_same, IsOf}
use Rattle.state_renewal.proofs.Keeps.{parent_kept, root_kept, owner_kept, scope_kept}
use Rattle.state_renewal.proofs.Keeps.{task_is_kept}
use Rattle.state_renewal.proofs.Chains.{kind_renumbered}
use Rattle.state_renewal.proofs.Works.{
  admitted_renumbered,
  group_stays,
  task_error_same,
  task_stays,
}
use Rattle.state_renewal.proofs.Works.{unfinished_same}
use Rattle.state_renewal.proofs.RowsRenumbered.{row_renumbered}
use Rattle.run_model.proofs.RowLemmas.{row_there}

-- ---- where a new row comes from

abbrev pub IsScopeOf : State → ℕ → Scope → Type 0
IsScopeOf p m row = IsOf (keeps_scope p) (scope_renewed p) p.tree.scopes m row

pub scope_from : (p : State) (m : ℕ) (row : Scope) → HasRow (renewed p).tree.scopes m row
    → IsScopeOf p m row
scope_from p m row found =
    (are_restated (keeps_scope p) (scope_renewed p) p.tree.scopes).back m row found

abbrev pub IsGroupOf : State → ℕ → Group → Type 0
IsGroupOf p m row = IsOf (keeps_group p) (group_renewed p) p.work.groups m row

pub group_from : (p : State) (m : ℕ) (row : Group) → HasRow (renewed p).work.groups m row
    → IsGroupOf p m row
group_from p m row found =
    (are_restated (keeps_group p) (group_renewed p) p.work.groups).back m row found

abbrev pub IsTaskOf : State → ℕ → Task → Type 0
IsTaskOf p m row = IsOf (keeps_task p) (task_renewed p) p.work.tasks m row

pub task_from : (p : State) (m : ℕ) (row : Task) → HasRow (renewed p).work.tasks m row
    → IsTaskOf p m row
task_from p m row found =
    (are_restated (keeps_task p) (task_renewed p) p.work.tasks).back m row found

pub scope_stays : (p : State) (s : ℕ) (row : Scope) → HasRow p.tree.scopes s row
    → keeps_scope p s ≡ true
    → HasRow (renewed p).tree.scopes (new_number (keeps_scope p) s) (scope_renewed p row)
scope_stays p s row found is =
    (are_restated (keeps_scope p) (scope_renewed p) p.tree.scopes).forth s row found is

-- Two new rows that come from one old row are one.
met : (keeps : ℕ → Bool) (m k n l : ℕ) → m ≡ new_number keeps n → k ≡ new_number keeps l
    → n ≡ l → m ≡ k
met keeps m k n l at_m at_k same = at_m ∙ ap (new_number keeps) same ∙ sym at_k

less_from : {a b m k : ℕ} → m ≡ a → k ≡ b → a < b → m < k
less_from at_m at_k less = omega (arith, at_m, at_k, less)

-- ---- 1. numbers and names

pub ordered_kept : (p : State) → AreOrdered p.tree.scopes → AreOrdered (renewed p).tree.scopes
ordered_kept p ordered m row found below =
    let of = scope_from p m row found in
    let was_below : is_root of.old.kind ≡ false = ap (λ x. is_root x.kind) (sym of.restated)
    ∙ below in
    let less =
    number_less (keeps_scope p) of.old.parent of.n
    (parent_kept p of.n of.old ordered of.found was_below of.is_kept)
    (ordered of.n of.old of.found was_below) in
    let parent : row.parent ≡ new_number (keeps_scope p) of.old.parent =
    ap (λ x. x.parent) of.restated in
    less_from parent of.number less

numbered_kept : (p : State) → IsConsistent p → AreNumbered (renewed p)
numbered_kept p consistent = record {
  one_layout = old.one_layout;
  few_scopes =
      let less = (are_restated (keeps_scope p) (scope_renewed p) p.tree.scopes).few in
      let few = old.few_scopes in
      omega (arith, less, few);
  few_groups =
      let less = (are_restated (keeps_group p) (group_renewed p) p.work.groups).few in
      let few = old.few_groups in
      omega (arith, less, few);
  few_tasks =
      let less = (are_restated (keeps_task p) (task_renewed p) p.work.tasks).few in
      let few = old.few_tasks in
      omega (arith, less, few);
  rooted = scope_stays p 0 root old.rooted (root_kept p old.rooted);
  one_root =
      λ m row found is.
      let of = scope_from p m row found in
      of.number
      ∙ ap (new_number (keeps_scope p))
      (old.one_root of.n of.old of.found (ap (λ x. is_root x.kind) (sym of.restated) ∙ is));
  scope_names =
      λ m k a b found_a found_b same.
      let x = scope_from p m a found_a in
      let y = scope_from p k b found_b in
      met (keeps_scope p) m k x.n y.n x.number y.number
      (old.scope_names x.n y.n x.old y.old x.found y.found
      (ap (λ r. r.name) (sym x.restated) ∙ same ∙ ap (λ r. r.name) y.restated));
  group_names =
      λ m k a b found_a found_b same.
      let x = group_from p m a found_a in
      let y = group_from p k b found_b in
      met (keeps_group p) m k x.n y.n x.number y.number
      (old.group_names x.n y.n x.old y.old x.found y.found
      (ap (λ r. r.name) (sym x.restated) ∙ same ∙ ap (λ r. r.name) y.restated));
  ordered = ordered_kept p old.ordered;
  scopes =
      λ m row found.
      let of = group_from p m row found in
      let within = old.scopes of.n of.old of.found in
      let scope = row_there p.tree.scopes of.old.scope within in
      subst (λ s. s < length (renewed p).tree.scopes) (ap (λ r. r.scope) (sym of.restated))
      (slice_get_within (renewed p).tree.scopes (new_number (keeps_scope p) of.old.scope)
      (scope_renewed p scope.0)
      (scope_stays p of.old.scope scope.0 scope.1
      (scope_kept p of.n of.old of.found within of.is_kept)));
  groups =
      λ m row found.
      let of = task_from p m row found in
      let group = row_there p.work.groups of.old.group (old.groups of.n of.old of.found) in
      subst (λ g. g < length (renewed p).work.groups) (ap (λ r. r.group) (sym of.restated))
      (slice_get_within (renewed p).work.groups (new_number (keeps_group p) of.old.group)
      (group_renewed p group.0)
      (group_stays p of.old.group group.0 group.1
      (sym (task_is_kept p of.n of.old of.found) ∙ of.is_kept)));
}
  where
    old : AreNumbered p
    old = consistent.numbered

-- ---- 2. and 3. hits and deadlines

-- A hit of the new state was one of the old.
hit_from : (p : State) (m : ℕ) (hit : Hit) → own_hit (renewed p).tree.scopes m ≡ Some hit
    → (s : ℕ) × (own_hit p.tree.scopes s ≡ Some hit)
hit_from p m hit has =
    option_and_then_some (λ row. row.hit) (slice_get (renewed p).tree.scopes m) hit has
    (λ row found own.
    let of = scope_from p m row found in (
      of.n,
      ap (option_and_then (λ r. r.hit)) of.found ∙ ap (λ r. r.hit) (sym of.restated) ∙ own,
    ))

hits_kept : (p : State) → AreHits p → AreHits (renewed p)
hits_kept p old = record {
  kinds =
      λ m row found is.
      let of = scope_from p m row found in
      let can = old.kinds of.n of.old of.found (ap (λ r. is_some r.hit) (sym of.restated) ∙ is) in
      rw (of.restated) can;
  counted = λ m hit has. (let was = hit_from p m hit has in old.counted was.0 hit was.1);
  past = record {
    events = λ m hit has. (let was = hit_from p m hit has in old.past.events was.0 hit was.1);
    moments = λ m hit has. (let was = hit_from p m hit has in old.past.moments was.0 hit was.1);
  };
}

deadlines_kept : (p : State) → AreDeadlines p.tree → AreDeadlines (renewed p).tree
deadlines_kept p old = record {
  own =
      λ m row hit found has late.
      let of = scope_from p m row found in
      let own = old.own of.n of.old hit of.found (ap (λ r. r.hit) (sym of.restated) ∙ has) late in
      rw (of.restated) own;
  come =
      λ m moment row found is reached.
      let of = scope_from p m row found in
      let kind : of.old.kind ≡ row.kind = ap (λ r. r.kind) (sym of.restated) in
      let has = old.come of.n moment of.old of.found (rw kind is) reached in
      rw (of.restated) has;
}

-- ---- 4. groups and their scopes

-- An owner of the new state was one of the old.
record IsOwnerOf (p : State) (m k : ℕ) (row : Group) : Type 0 where
  g : ℕ
  s : ℕ
  old : Group
  owns : Owns p.work g old s
  group_is_kept : keeps_group p g ≡ true
  is_kept : keeps_scope p s ≡ true
  number : m ≡ new_number (keeps_group p) g
  scope : k ≡ new_number (keeps_scope p) s
  restated : row ≡ group_renewed p old

owner_from : (p : State) (m k : ℕ) (row : Group) → IsConsistent p
    → Owns (renewed p).work m row k → IsOwnerOf p m k row
owner_from p m k row consistent owns =
    let of = group_from p m row owns.found in
    let within = consistent.numbered.scopes of.n of.old of.found in
    record {
      g = of.n;
      s = of.old.scope;
      old = of.old;
      owns = record {
        found = of.found;
        not_bare = ap (λ r. r.bare) (sym of.restated) ∙ owns.not_bare;
        scope = refl;
      };
      group_is_kept = of.is_kept;
      is_kept = scope_kept p of.n of.old of.found within of.is_kept;
      number = of.number;
      scope = sym owns.scope ∙ ap (λ r. r.scope) of.restated;
      restated = of.restated;
    }

group_scopes_kept : (p : State) → IsConsistent p → AreGroupScopes (renewed p)
group_scopes_kept p consistent = record {
  owned =
      λ m row found is.
      let of = scope_from p m row found in
      let owner =
      old.owned of.n of.old of.found (ap (λ r. is_group_kind r.kind) (sym of.restated) ∙ is) in
      let group_is : keeps_group p owner.0 ≡ true =
      owner_kept p owner.0 owner.1 owner.2.found owner.2.not_bare
      (ap (keeps_scope p) owner.2.scope ∙ of.is_kept) in (
        new_number (keeps_group p) owner.0,
        group_renewed p owner.1,
        record {
          found = group_stays p owner.0 owner.1 owner.2.found group_is;
          not_bare = owner.2.not_bare;
          scope = ap (new_number (keeps_scope p)) owner.2.scope ∙ sym of.number;
        },
        owner.3 ∙ ap (λ r. r.name) (sym of.restated),
      );
  once =
      λ k m n a b owns_a owns_b.
      let x = owner_from p m k a consistent owns_a in
      let y = owner_from p n k b consistent owns_b in
      let same : x.s ≡ y.s =
      number_same (keeps_scope p) x.s y.s x.is_kept y.is_kept (sym x.scope ∙ y.scope) in
      met (keeps_group p) m n x.g y.g x.number y.number
      (old.once y.s x.g y.g x.old y.old (subst (λ s. Owns p.work x.g x.old s) same x.owns) y.owns);
  own =
      λ m k row owns.
      let x = owner_from p m k row consistent owns in
      subst (λ s. IsTrue (has_kind is_group_kind (renewed p).tree s)) (sym x.scope)
      (kind_renumbered is_group_kind (kept_part p) p.tree x.s x.is_kept
      ∙ old.own x.g x.s x.old x.owns);
}
  where
    old : AreGroupScopes p
    old = consistent.group_scopes

-- ---- 5. admitted tasks

admitted_kept : (p : State) → IsConsistent p → AreAdmitted (renewed p).work
admitted_kept p consistent = record {
  running =
      λ m row found is.
      let of = task_from p m row found in
      let was =
      admitted_renumbered (kept_part p) p.work of.n of.old (task_is_kept p) of.found of.is_kept
      ∙ consistent.admitted.running of.n of.old of.found
      (ap (λ r. is_running r.stage) (sym of.restated) ∙ is) in
      ap (λ n. is_admitted (renewed p).work n row) of.number
      ∙ ap (is_admitted (renewed p).work (new_number (keeps_task p) of.n)) of.restated
      ∙ was;
  waited =
      λ m row found is.
      let of = group_from p m row found in
      ap (λ g. unfinished_in g (renewed p).work.tasks) of.number
      ∙ unfinished_same (kept_part p) p.work of.n (task_is_kept p) of.is_kept
      ∙ consistent.admitted.waited of.n of.old of.found (ap (λ r. r.waited) (sym of.restated) ∙ is);
}

-- ---- 6. errors

errors_kept : (p : State) → IsConsistent p → AreErrors (renewed p)
errors_kept p consistent = record {
  exact =
      λ m row found.
      let of = group_from p m row found in
      let same : has_task_error (renewed p).work m ≡ has_task_error p.work of.n =
      ap (has_task_error (renewed p).work) of.number
      ∙ task_error_same (kept_part p) p.work of.n (task_is_kept p) of.is_kept in
      let error : is_some row.error ≡ is_some of.old.error = ap
      (λ r. is_some r.error) of.restated in
      let was = consistent.errors.exact of.n of.old of.found in
      (λ is. same ∙ was.0 (sym error ∙ is), λ is. error ∙ was.1 (sym same ∙ is));
  ended =
      λ m k row owns end.
      let x = owner_from p m k row consistent owns in
      subst (λ s. IsSome (own_hit (renewed p).tree.scopes s)) (sym x.scope)
      (ap is_some
      (row_renumbered (option_and_then (λ row. row.hit)) (option_and_then (λ row. row.hit))
      (keeps_scope p) (scope_renewed p) p.tree.scopes x.s refl (λ row at. refl) x.is_kept)
      ∙ consistent.errors.ended x.g x.s x.old x.owns
      (subst (λ r. IsSome r.error ⊎ (r.waited ≡ true)) x.restated end));
}

-- ---- 7. links

link_from : (new : ℕ → ℕ) (o : Option ℕ) (m : ℕ) → option_map new o ≡ Some m
    → (n : ℕ) × (o ≡ Some n) × (m ≡ new n)
link_from new None m is = absurd (none-some m is)
link_from new (Some n) m is = (n, refl, sym (same_Some (new n) m is))

-- A link of the new state was one of the old.
record IsLinkOf (p : State) (m k : ℕ) (row : Task) : Type 0 where
  of : IsTaskOf p m row
  n : ℕ
  link : of.old.retry_of ≡ Some n
  number : k ≡ new_number (keeps_task p) n
  linked : (old : Task) × HasRow p.work.tasks n old × IsRetry of.n of.old n old
  is_kept : keeps_task p n ≡ true

linked_from : (p : State) (m k : ℕ) (row : Task) → IsConsistent p
    → HasRow (renewed p).work.tasks m row → row.retry_of ≡ Some k → IsLinkOf p m k row
linked_from p m k row consistent found is =
    let x = task_from p m row found in
    let to =
    link_from (new_number (keeps_task p)) x.old.retry_of k
    (ap (λ r. r.retry_of) (sym x.restated) ∙ is) in
    let was = consistent.links.linked x.n to.0 x.old x.found to.1 in
    record {
      of = x;
      n = to.0;
      link = to.1;
      number = to.2;
      linked = was;
      is_kept =
          task_is_kept p to.0 was.0 was.1
          ∙ ap (keeps_group p) (sym was.2.group)
          ∙ sym (task_is_kept p x.n x.old x.found)
          ∙ x.is_kept;
    }

links_kept : (p : State) → IsConsistent p → AreLinked (renewed p).work
links_kept p consistent = record {
  linked =
      λ m k row found is.
      let x = linked_from p m k row consistent found is in
      let was = x.linked.2 in (
        task_renewed p x.linked.0,
        subst (λ n. HasRow (renewed p).work.tasks n (task_renewed p x.linked.0)) (sym x.number)
            (task_stays p x.n x.linked.0 x.linked.1 x.is_kept),
        record {
          before =
              let less = number_less (keeps_task p) x.n x.of.n x.is_kept was.before in
              less_from x.number x.of.number less;
          interrupted = was.interrupted;
          group =
              ap (λ r. r.group) x.of.restated ∙ ap (new_number (keeps_group p)) was.group;
          job = ap (λ r. r.job) x.of.restated ∙ was.job;
          argument = ap (λ r. r.argument) x.of.restated ∙ was.argument;
        },
      );
  once =
      λ m l k a b found_a found_b is_a is_b.
      let x = linked_from p m k a consistent found_a is_a in
      let y = linked_from p l k b consistent found_b is_b in
      let same : x.n ≡ y.n =
      number_same (keeps_task p) x.n y.n x.is_kept y.is_kept (sym x.number ∙ y.number) in
      met (keeps_task p) m l x.of.n y.of.n x.of.number y.of.number
      (consistent.links.once x.of.n y.of.n y.n x.of.old y.of.old x.of.found y.of.found
      (x.link ∙ ap Some same) y.link);
}

-- ---- all seven

pub rules_kept : (p : State) → IsConsistent p → IsConsistent (renewed p)
rules_kept p consistent = record {
  numbered = numbered_kept p consistent;
  hits = hits_kept p consistent.hits;
  deadlines = deadlines_kept p consistent.deadlines;
  group_scopes = group_scopes_kept p consistent;
  admitted = admitted_kept p consistent;
  errors = errors_kept p consistent;
  links = links_kept p consistent;
}
