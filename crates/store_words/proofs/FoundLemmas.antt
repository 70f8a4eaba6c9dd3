-- What an opening finds of what was left of a store, and what is printed of it.
use Rattle.std.proofs.Common.{◌≡◌, ◌∙◌, ap, inl, inr, subst, sym}
use Rattle.std.specs.Prelude.{ℕ, List, Option, Ok, ⊤}
use Rattle.std.specs.Io.KnownBytes.{Appends}
use Rattle.run_model.specs.State.{State, formatted}
use Rattle.run_disk.specs.Disk.{DiskState, IsAtRest, IsDisk}
use Rattle.book_model.specs.Books.{CarriesOn, BookView, IsSafe, acked}
use Rattle.book_model.specs.Openings.{HasFormatted, Opens}
use Rattle.book_model.specs.Standing.{LiesWith}
use Rattle.book_model.specs.Stores.{Stores, StoresPrefix, restarted}
use Rattle.book_model.proofs.Storing.{stores_one}
use Rattle.state_views.specs.declared.views.View.{View}
use Rattle.store_words.specs.Lasting.{FindsLeft}
use Rattle.store_words.specs.Stores.{InspectEnds, view_text}

module _ {D : Type 0} (state : D → DiskState) where
  pub formatted_is_found : (given left next : D) (made : HasFormatted (state given) (state left))
      → IsDisk (state left) → (state given).honest
      → FindsLeft state left left next
      → Stores (state next).now (formatted made.layout)
  formatted_is_found given left next made disk honest finds =
      made.stores honest (state next).now (disk.only_now (state next).now finds.content)

  pub start_is : (given : D) (p : State) (b : BookView D) → LiesWith state given p
      → Opens state given (Ok b) → b.session.start ≡ restarted p
  start_is given p b lies opens =
      ap (λ s. s.start) opens.answer.opened.session
      ∙ ap restarted (stores_one (state given).now opens.answer.stored p
      (opens.answer.found.stores lies.honest) lies.stores)

  pub safe_then : (given : D) (p : State) (b : BookView D) → LiesWith state given p
      → Opens state given (Ok b) → IsSafe state b
  safe_then given p b lies opens = record {
    honest = opens.answer.opened.passed.honest lies.honest;
    rest = subst (λ d. IsAtRest (state d)) (sym opens.answer.opened.origin) lies.rest;
  }

  pub held_is_found : (given next : D) (p : State) (b m c : BookView D) → LiesWith state given p
      → Opens state given (Ok b) → CarriesOn state b m → CarriesOn state m c
      → FindsLeft state m.journal.disk c.journal.disk next
      → StoresPrefix (restarted p) c.session.history (acked m) (state next).now
  held_is_found given next p b m c lies opens first second finds =
      let safe = safe_then given p b lies opens in
      let left = second.any_moment (record {
        honest = first.passed.honest safe.honest;
        rest = subst (λ d. IsAtRest (state d)) (sym first.origin) safe.rest;
      }) in
      subst (λ q. StoresPrefix q c.session.history (acked m) (state next).now)
      (second.start ∙ first.start ∙ start_is given p b lies opens)
      (left.each (state next).now finds.content)

  pub found_is_printed : (view : View) (found read : D) (p : State) (done : ⊤)
      (w0 w1 : Option (List ℕ)) → LiesWith state found p
      → InspectEnds view state found (Ok done) read w0 w1 → Appends w0 w1 (view_text view p)
  found_is_printed view found read p done w0 w1 lies (inl (q, recovered, prints)) =
      subst (λ s. Appends w0 w1 (view_text view s))
      (stores_one (state found).now q p (recovered.holds lies.honest) lies.stores) prints
  found_is_printed view found read p done w0 w1 lies (inr (why, answer, none, quiet)) =
      absurd (cc)
