-- The result of an audit, put together from its steps.
use Rattle.run_model.proofs.Common.{◌≡◌, ℕ, ◌+◌, Bool, true, false, List, length, ap, inl, inr}
use Rattle.run_model.proofs.Common.{refl, sym, subst, ◌∙◌, WorkState}
use Rattle.std.specs.List.Sorted.{IsPermutation}
use Rattle.run_crew.specs.declared.notes.Note.{Note}
use Rattle.run_crew.specs.declared.audits.Strayed.{Strayed}
use Rattle.run_crew.specs.Audits.{HasStrayed, IsComplete, IsFirstLeft, IsFirstStray, NoStray}
use Rattle.run_crew.specs.Audits.{NoneLeft, are_noted, made_at}
use Rattle.run_crew.specs.Desks.{DeskView}
use Rattle.run_crew.specs.Notes.{all_notes}
use Rattle.run_crew.proofs.Permuting.{settled}

-- The finishes that were found are those since the desk was made.
same_stray :
    (made found : List Note) (lists : List (List Note)) → found ≡ made → NoStray found lists
    → NoStray made lists
same_stray made found lists same none =
    let P : List Note → Type 0 = λ l. NoStray l lists in
    subst P same none

same_noted :
    (made found : List Note) (lists : List (List Note)) (b : Bool) → found ≡ made
    → b ≡ are_noted found lists → are_noted made lists ≡ b
same_noted made found lists b same is = ap (λ l. are_noted l lists) (sym same) ∙ sym is

pub strays :
    {D : Type 0} (d : DeskView D) (lists : List (List Note)) (found : List Note) (place : Strayed)
    → found ≡ made_at d → IsFirstStray found lists place → HasStrayed d lists place
strays d lists found place same is =
    inl (let P : List Note → Type 0 = λ l. IsFirstStray l lists place in subst P same is)

pub lacks :
    {D : Type 0} (d : DeskView D) (lists : List (List Note)) (found : List Note)
    → found ≡ made_at d → NoStray found lists → false ≡ are_noted found lists
    → HasStrayed d lists (record { worker = length lists; note = 0 })
lacks d lists found same none is = inr (inl (record {
  no_stray = same_stray (made_at d) found lists same none;
  not_noted = same_noted (made_at d) found lists false same is;
  worker = refl;
  note = refl;
}))

pub leaves :
    {D : Type 0} (d : DeskView D) (lists : List (List Note)) (found : List Note)
    (work : WorkState) (task : ℕ)
    → found ≡ made_at d → NoStray found lists → true ≡ are_noted found lists
    → work ≡ d.book.session.state.work → IsFirstLeft work task
    → HasStrayed d lists (record { worker = length lists; note = task + 1 })
leaves d lists found work task same none is at left = inr (inr (record {
  no_stray = same_stray (made_at d) found lists same none;
  noted = same_noted (made_at d) found lists true same is;
  task = task;
  left = (let P : WorkState → Type 0 = λ w. IsFirstLeft w task in subst P at left);
  worker = refl;
  note = refl;
}))

pub complete :
    {D : Type 0} (d : DeskView D) (lists : List (List Note)) (found : List Note)
    (work : WorkState)
    → found ≡ made_at d → NoStray found lists → true ≡ are_noted found lists
    → work ≡ d.book.session.state.work → NoneLeft work → IsComplete d lists
complete d lists found work same none is at left = record {
  no_stray = same_stray (made_at d) found lists same none;
  noted = same_noted (made_at d) found lists true same is;
  none_left = (let P : WorkState → Type 0 = λ w. NoneLeft w in subst P at left);
}

pub permuted :
    {D : Type 0} (d : DeskView D) (lists : List (List Note)) (found : List Note)
    → found ≡ made_at d → NoStray found lists → true ≡ are_noted found lists
    → IsPermutation (made_at d) (all_notes lists)
permuted d lists found same none is =
    settled d.since d.book.session.start.count d.book.session.history lists
    (same_stray (made_at d) found lists same none)
    (same_noted (made_at d) found lists true same is)
