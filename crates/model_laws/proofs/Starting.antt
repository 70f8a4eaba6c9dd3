-- The state of a store that was formatted: only root.
use Rattle.run_model.proofs.Common.{◌≡◌, ◌≤◌, ℕ, [], inl, inr, refl, sym, ap, ◌∙◌, arith}
use Rattle.run_model.proofs.Common.{both_ways, none-some, most_scopes, root, IsConsistent, HasRow}
use Rattle.run_model.proofs.Common.{is_root, own_deadline, is_group_kind, formatted, new_tree}
use Rattle.run_model.proofs.Common.{new_work, push_cases}
use Rattle.run_model.specs.declared.groups.Group.{Group}
use Rattle.run_model.specs.declared.scopes.Scope.{Scope}
use Rattle.run_model.specs.declared.layouts.Layout.{Layout}
use Rattle.run_model.specs.declared.layouts.Layout.TheVariants.{Small, Large}
use Rattle.model_laws.proofs.RightHits.{AreRight, hits_right, deadlines_right}

-- The one scope is root.
root_alone : (l : Layout) (s : ℕ) (row : Scope) → HasRow (new_tree l).scopes s row
    → (s ≡ 0) × (row ≡ root)
root_alone l s row found =
    elim (push_cases [] root s row found) [
      | inl none ↦ absurd (none-some row none)
      | inr last ↦ last
    ]

no_group : {X : Type 0} (l : Layout) (g : ℕ) (row : Group) → HasRow (new_work l).groups g row → X
no_group l g row found = absurd (none-some row found)

root_right : (l : Layout) → AreRight 0 (new_tree l)
root_right l s row found =
    let is : row ≡ root = (root_alone l s row found).1 in
    record {
      hit = λ hit has. absurd (none-some hit (ap (λ r. r.hit) (sym is) ∙ has));
      come =
          λ moment due reached.
          absurd (none-some moment (ap (λ r. own_deadline r.kind) (sym is) ∙ due));
    }

-- Root fits.
room_for_root : (l : Layout) → 1 ≤ most_scopes l
room_for_root Small = omega arith
room_for_root Large = omega arith

pub formatted_consistent : (l : Layout) → IsConsistent (formatted l)
formatted_consistent l = record {
  numbered = record {
    one_layout = refl;
    few_scopes = room_for_root l;
    few_groups = omega arith;
    few_tasks = omega arith;
    rooted = refl;
    one_root = λ s row found is. (root_alone l s row found).0;
    scope_names =
        λ s t a b found_a found_b same.
        (root_alone l s a found_a).0 ∙ sym (root_alone l t b found_b).0;
    group_names = λ g h a b found_a found_b same. no_group l g a found_a;
    ordered =
        λ s row found other.
        absurd
        (both_ways (is_root row.kind) other
        (ap (λ r. is_root r.kind) (root_alone l s row found).1));
    scopes = λ g row found. no_group l g row found;
    groups = λ n row found. absurd (none-some row found);
  };
  hits = hits_right 0 (new_tree l) (new_work l) (root_right l);
  deadlines = deadlines_right 0 (new_tree l) (root_right l);
  group_scopes = record {
    owned =
        λ s row found is.
        absurd
        (both_ways (is_group_kind row.kind)
        (ap (λ r. is_group_kind r.kind) (root_alone l s row found).1) is);
    once = λ s g h a b owns_a owns_b. no_group l g a owns_a.found;
    own = λ g s group owns. no_group l g group owns.found;
  };
  admitted = record {
    running = λ n row found is. absurd (none-some row found);
    waited = λ g row found is. no_group l g row found;
  };
  errors = record {
    exact = λ g row found. no_group l g row found;
    ended = λ g s row owns end. no_group l g row owns.found;
  };
  links = record {
    linked = λ n m row found link. absurd (none-some row found);
    once = λ n k m a b found_a found_b link_a link_b. absurd (none-some a found_a);
  };
}
