-- What a run leaves on a shelf, the next one finds.
use Rattle.std.proofs.Common.{◌≡◌, ◌≢◌, ◌≤◌, ◌∙◌, ℕ, List, [], arith, inl, inr, refl, subst, sym}
use Rattle.run_disk.specs.Disk.{DiskState, IsDisk}
use Rattle.program_tests.specs.Keeping.{IsOpenedAgain, KeepsWhatIsLeft, ReadingsAreRuns}
use Rattle.program_tests.specs.Keeping.{ScriptsAreRuns}
use Rattle.program_tests.specs.Shelves.{Lies, Nothing, shelf_view, spot_at}
use Rattle.program_tests.proofs.ShelfLemmas.{gets_over, held_there, lies_there, same_bytes}

module _ {D : Type 0} (state : D → DiskState) (passes : D → ℕ) (disks : (d : D) → IsDisk (state d))
    (honest : (d : D) → (state d).honest) where
  -- what was given back lies there
  laid : (name : List ℕ) (given left next : D)
      → (it : IsOpenedAgain (shelf_view state passes) name given left next)
      → spot_at it.second name ≡ Lies (state left).now
  laid name given left next it = elim it.held [
    | inl held ↦ gets_over held.after it.second name (Lies (state left).now) held.closes
        (subst (λ f. spot_at f name ≢ Nothing) (sym held.did)
        (held_there (spot_at held.opened name) held.opens.held))
    | inr held ↦ gets_over held.after it.second name (Lies (state left).now) held.closes
        (subst (λ f. spot_at f name ≢ Nothing) (sym (held.did ∙ held.opens.same))
        (lies_there (spot_at it.first name) (state given).now held.opens.had))
  ]

  pub kept : KeepsWhatIsLeft state (shelf_view state passes)
  kept name from given left next it early =
      let same : (state left).now ≡ (state next).now =
      same_bytes (state left).now (state next).now
      (sym (laid name given left next it) ∙ it.again.had) in
      record {
        honest = it.again.honest;
        rest = it.again.rest;
        content = subst (λ x. (state left).since (state from).clock x) same
            ((disks left).counts_now (state from).clock (state left).now early
            ((disks left).now_is_image (honest left)));
      }

  pub readings : ReadingsAreRuns state (shelf_view state passes)
  readings name given read next it alone =
      (read, alone, kept name given given read next it alone.passed.later)

  pub scripts : ScriptsAreRuns state (shelf_view state passes)
  scripts name given left next steps reported it over played = inr (record {
    left = left;
    over = over;
    history = refl;
    first = steps;
    middle = over.after;
    second = [];
    unreported = [];
    played = played;
    goes_on = refl;
    finds = kept name over.after.journal.disk given left next it
        (subst (λ d. (state over.after.journal.disk).clock ≤ (state d).clock) (sym over.disk)
        (omega arith));
  })
