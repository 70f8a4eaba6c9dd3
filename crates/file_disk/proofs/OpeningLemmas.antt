-- A disk that was just made over a file.
use Rattle.std.proofs.Common.{◌≡◌, ◌↔◌, ◌∙◌, ℕ, List, ap, inl, inr, sym}
use Rattle.file_calls.specs.declared.places.Place.{Place}
use Rattle.file_calls.specs.declared.places.Place.TheVariants.{Durable, Lost}
use Rattle.file_calls.specs.OpenFiles.{FileState, IsAtRest as FileIsAtRest, IsIntact, IsSame}
use Rattle.file_calls.specs.OpenFiles.{MayLeave}
use Rattle.file_calls.specs.OpenFiles.{Settles, settled}
use Rattle.file_calls.proofs.PlaceLemmas.{same_by_places}
use Rattle.run_disk.specs.Disk.{IsAtRest}
use Rattle.file_disk.specs.FileDisks.{IfHonest, IsHonest, disk_state}
use Rattle.file_disk.proofs.WriteLemmas.{settled_whole}

-- what is so if a disk is honest, is so of an honest one
pub if_honest : (Honest Fact : Type 0) → Honest → Fact ↔ IfHonest Honest Fact
if_honest Honest Fact honest = (λ fact. inr (honest, fact), back)
  where
    back : IfHonest Honest Fact → Fact
    back (inl bare) = absurd (bare honest)
    back (inr here) = here.1

-- the question for the size changes nothing
pub honest_as_before : (K L : Type 0) (old new : FileState) → (K ↔ L) → (K → IsSame old new)
    → IsHonest L new ↔ IsHonest K old
honest_as_before K L old new both same = (back, on)
  where
    back : IsHonest L new → IsHonest K old
    back honest = let is = same (both.1 honest.keeps) in record {
      keeps = both.1 honest.keeps;
      whole = λ i lost. honest.whole i (is.place i ∙ lost);
      sized = sym is.end ∙ honest.sized;
    }

    on : IsHonest K old → IsHonest L new
    on honest = let is = same honest.keeps in record {
      keeps = both.0 honest.keeps;
      whole = λ i lost. honest.whole i (sym (is.place i) ∙ lost);
      sized = is.end ∙ honest.sized;
    }

-- a file at rest is a disk at rest
pub rests : (K L : Type 0) (old new : FileState) (first : ℕ) (past : List FileState)
    (size calls failures : ℕ) → (K ↔ L) → (K → IsSame old new) → IsHonest L new
    → FileIsAtRest old → IsAtRest (disk_state L new new first past size calls failures)
rests K L old new first past size calls failures both same honest rest =
    let is = same (both.1 honest.keeps) in
    record {
      only = λ x left. go x (λ i. is.place i ∙ rest.place i) left;
      sure = λ i never. never;
    }
  where
    go : (x : List ℕ) → ((i : ℕ) → new.place i ≡ Durable)
        → IfHonest (IsHonest L new) (MayLeave new x) → x ≡ new.now
    go x durable (inl bare) = absurd (bare honest)
    go x durable (inr here) = same_by_places x new.now (λ i. here.1.bytes i (durable i))

settled_rest : (place : Place) → (place ≡ Lost → ⊥) → settled Durable place ≡ Durable
settled_rest place whole = settled_whole place whole

kept_lost : (place : Place) → place ≡ Lost → settled Durable place ≡ Lost
kept_lost place lost = ap (settled Durable) lost

lost_not_durable : (place : Place) → settled Durable place ≡ Durable → place ≡ Lost → ⊥
lost_not_durable place durable lost =
    let e : settled Durable place ≡ Lost = ap (settled Durable) lost in absurd (cc)

not_lost : (place : Place) → settled Durable place ≡ Durable → settled Durable place ≡ Lost → ⊥
not_lost place durable lost = absurd (let e = sym durable ∙ lost in cc)

-- a file that was synced, of which nothing was lost, is at rest, and the other way round
pub honest_if_intact : (K L : Type 0) (old new : FileState) → (K ↔ L)
    → (K → Settles Durable old new) → IsHonest L new ↔ (K × IsIntact old)
honest_if_intact K L old new both settles = (on, back)
  where
    on : IsHonest L new → K × IsIntact old
    on honest =
        let keeps = both.1 honest.keeps in
        let is = settles keeps in (
          keeps,
          record {
            place = λ i lost. honest.whole i (is.place i ∙ kept_lost (old.place i) lost);
            end = lost_not_durable old.end (sym is.end ∙ honest.sized);
          },
        )

    back : K × IsIntact old → IsHonest L new
    back intact =
        let is = settles intact.0 in
        record {
          keeps = both.0 intact.0;
          whole = λ i lost. not_lost (old.place i)
              (settled_rest (old.place i) (intact.1.place i)) (sym (is.place i) ∙ lost);
          sized = is.end ∙ settled_rest old.end intact.1.end;
        }

pub rest_if_honest : (L : Type 0) (old new : FileState) → Settles Durable old new
    → IsHonest L new → IsIntact old → FileIsAtRest new
rest_if_honest L old new settles honest intact = record {
  place = λ i. settles.place i ∙ settled_rest (old.place i) (intact.place i);
  end = honest.sized;
}
