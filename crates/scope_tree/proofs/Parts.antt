-- The seven rules by parts.
use Rattle.run_model.proofs.Common.{◌≡◌, ◌≤◌, ℕ, List, Option, Some, slice_get, ap}
use Rattle.run_model.proofs.Common.{◌∙◌, IsSome, is_some, option_and_then, option_and_then_some}
use Rattle.run_model.proofs.Common.{IsConsistent, own_hit, State}
use Rattle.run_model.specs.declared.scopes.Hit.{Hit}
use Rattle.run_model.specs.declared.scopes.Scope.{Scope}
use Rattle.run_model.specs.RuleParts.{AreScopeRules, AreTreeRules, AreWorkRules, AreCrossRules}
use Rattle.model_laws.proofs.RightHits.{some_hit}

own_there : (rows : List Scope) (s : ℕ) (row : Scope) (hit : Hit) → slice_get rows s ≡ Some row
    → row.hit ≡ Some hit → own_hit rows s ≡ Some hit
own_there rows s row hit found has = ap (option_and_then (λ r. r.hit)) found ∙ has

some_is : {X : Type 0} (o : Option X) (x : X) → o ≡ Some x → IsSome o
some_is o x e = ap is_some e

pub scope_part : (p : State) → IsConsistent p
    → AreScopeRules p.count p.tree.clock p.tree.scopes
scope_part p ok = record {
  rooted = ok.numbered.rooted;
  alone = ok.numbered.one_root;
  names = ok.numbered.scope_names;
  ordered = ok.numbered.ordered;
  hits = λ s row hit found has.
      let own = own_there p.tree.scopes s row hit found has in
      record {
        can = ok.hits.kinds s row found (some_is row.hit hit has);
        counted = ok.hits.counted s hit own;
        known = ok.hits.past.events s hit own;
        past = ok.hits.past.moments s hit own;
        own = ok.deadlines.own s row hit found has;
      };
  come = ok.deadlines.come;
}

pub tree_part : (p : State) → IsConsistent p → AreTreeRules p.count p.tree
tree_part p ok = record { few = ok.numbered.few_scopes; rows = scope_part p ok }

pub work_part : (p : State) → IsConsistent p → AreWorkRules p.work
work_part p ok = record {
  few_groups = ok.numbered.few_groups;
  few_tasks = ok.numbered.few_tasks;
  names = ok.numbered.group_names;
  known = ok.numbered.groups;
  admitted = ok.admitted;
  exact = ok.errors.exact;
  links = ok.links;
}

pub cross_part : (p : State) → IsConsistent p → AreCrossRules p
cross_part p ok = record {
  known = ok.numbered.scopes;
  owned = ok.group_scopes;
  ended = ok.errors.ended;
}

fits_own : (count clock : ℕ) (rows : List Scope) → AreScopeRules count clock rows → (s : ℕ)
    (hit : Hit) → own_hit rows s ≡ Some hit
    → (1 ≤ hit.event) × (hit.event ≤ count) × (hit.moment ≤ clock)
fits_own count clock rows tree s hit own =
    option_and_then_some (λ row. row.hit) (slice_get rows s) hit own
    (λ row found has.
    let fits = tree.hits s row hit found has in (fits.counted, fits.known, fits.past))

pub all_parts : (p : State) → p.work.layout ≡ p.tree.layout → AreTreeRules p.count p.tree
    → AreWorkRules p.work → AreCrossRules p → IsConsistent p
all_parts p same rules work cross = let tree = rules.rows in record {
  numbered = record {
    one_layout = same;
    few_scopes = rules.few;
    few_groups = work.few_groups;
    few_tasks = work.few_tasks;
    rooted = tree.rooted;
    one_root = tree.alone;
    scope_names = tree.names;
    group_names = work.names;
    ordered = tree.ordered;
    scopes = cross.known;
    groups = work.known;
  };
  hits = record {
    kinds = λ s row found some.
        let hit = some_hit row.hit some in (tree.hits s row hit.0 found hit.1).can;
    counted = λ s hit own. (fits_own p.count p.tree.clock p.tree.scopes tree s hit own).0;
    past = record {
      events = λ s hit own. (fits_own p.count p.tree.clock p.tree.scopes tree s hit own).1;
      moments = λ s hit own. (fits_own p.count p.tree.clock p.tree.scopes tree s hit own).2;
    };
  };
  deadlines = record {
    own = λ s row hit found has. (tree.hits s row hit found has).own;
    come = tree.come;
  };
  group_scopes = cross.owned;
  admitted = work.admitted;
  errors = record { exact = work.exact; ended = cross.ended };
  links = work.links;
}
