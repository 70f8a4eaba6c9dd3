-- The entries of tasks in JSON, of which some may be left out.
use Rattle.std.specs.Prelude.{◌≡◌, ℕ, ◌+◌, if◌then◌else◌, List, Option, is_some}
use Rattle.std.proofs.Common.{sym, ap, ◌∙◌, subst, add-one}
use Rattle.run_model.specs.State.{State}
use Rattle.state_views.specs.declared.json_entries.Entry.{Entry}
use Rattle.state_views.specs.Entries.{listed_entry, place_of, task_entry, task_item}
use Rattle.state_views.specs.Inspected.{lines_below}
use Rattle.state_views.specs.Sheets.{Adds}
use Rattle.state_views.specs.declared.sheets.Sheet.{Sheet}
use Rattle.state_views.proofs.Adding.{adds_next}

module _ (phase group : Option (List ℕ)) (p : State) (n place : ℕ) (seen : Option Entry)
    (at : place ≡ place_of phase group p n) (is : seen ≡ task_entry phase group p n) where
  -- One task's entry more was added, if it is listed.
  pub item_added : {s0 s1 s2 : Sheet} {w0 w1 w2 : Option (List ℕ)}
      → Adds (lines_below (task_item phase group p) n) s0 s1 w0 w1
      → Adds (listed_entry place seen) s1 s2 w1 w2
      → Adds (lines_below (task_item phase group p) (n + 1)) s0 s2 w0 w2
  item_added {s1 = s1} {s2 = s2} {w1 = w1} {w2 = w2} all added =
      adds_next (task_item phase group p) n all
      (subst (λ m. Adds (listed_entry m (task_entry phase group p n)) s1 s2 w1 w2) at
      (subst (λ s. Adds (listed_entry place s) s1 s2 w1 w2) is added))

  -- And the place of the next is known.
  pub next_is : place + (if is_some seen then 1 else 0) ≡ place_of phase group p (n + 1)
  next_is =
      ap (λ m. m + (if is_some seen then 1 else 0)) at
      ∙ ap (λ s. place_of phase group p n + (if is_some s then 1 else 0)) is
      ∙ ap (place_of phase group p) (sym (add-one n))
