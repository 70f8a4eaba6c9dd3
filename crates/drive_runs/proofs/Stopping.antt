-- The executor is asked to stop tries.
use Rattle.std.specs.Prelude.{◌≡◌, ◌<◌, ◌++◌, ℕ, Bool, true, false, cond, List, [], ◌∷◌, Option}
use Rattle.std.specs.Prelude.{Some, None, All}
use Rattle.std.specs.List.{AllByRecursion, cons_option, filter_map}
use Rattle.std.specs.Option.{option_map}
use Rattle.std.proofs.Common.{ap, append-nil, refl, subst, sym, ◌∙◌}
use Rattle.std.proofs.lemmas.List.Elements.{All-from_recursion, recursion_from_All}
use Rattle.std.proofs.lemmas.Option.{none-some, same_Some}
use Rattle.drive_steps.specs.declared.cancels.CommandCancel.{CommandCancel}
use Rattle.drive_steps.specs.declared.reported.Begun.{Begun}
use Rattle.drive_steps.specs.declared.stops.Stop.{Stop}
use Rattle.drive_runs.specs.declared.living.Living.{Living}
use Rattle.drive_runs.specs.Living.{all_asked, cancel_of, cancels_of, once_asked, tries_of}
use Rattle.drive_runs.specs.Living.{unasked, why_in}

-- ---- what the decision needs

-- What follows of each element follows of what is made of some of them.
all_made : {X Y : Type 0} (f : X → Option Y) (P : X → Type 0) (Q : Y → Type 0)
    → ((x : X) (y : Y) → f x ≡ Some y → P x → Q y) → (xs : List X) → All P xs
    → All Q (filter_map f xs)
all_made {X} {Y} f P Q then xs all =
    All-from_recursion Q (filter_map f xs) (each xs (recursion_from_All P xs all))
  where
    by_first : (o : Option Y) (ys : List Y) → ((y : Y) → o ≡ Some y → Q y) → AllByRecursion Q ys
        → AllByRecursion Q (cons_option o ys)
    by_first None ys first later = later
    by_first (Some y) ys first later = (first y refl, later)

    each : (xs : List X) → AllByRecursion P xs → AllByRecursion Q (filter_map f xs)
    each [] all = tt
    each (x ∷ xs) all =
        by_first (f x) (filter_map f xs) (λ y is. then x y is all.0) (each xs all.1)

-- The commands of these tries are less than this.
abbrev AreBelow : (count : ℕ) → List Living → Type 0
AreBelow count living = All (λ (one : Living). one.command < count) living

abbrev cancel_for : (c : ℕ) → (why : List ℕ) → CommandCancel
cancel_for c why = record { command = c; why = why }

pub cancels_below : (count : ℕ) (living : List Living) → AreBelow count living
    → All (λ (cancel : CommandCancel). cancel.command < count) (cancels_of living)
cancels_below count living all =
    all_made cancel_of (λ (one : Living). one.command < count)
    (λ (cancel : CommandCancel). cancel.command < count) of_one living all
  where
    by_stop : (c : ℕ) (stop : Option (List ℕ)) (cancel : CommandCancel)
        → option_map (cancel_for c) stop ≡ Some cancel
        → c < count → cancel.command < count
    by_stop c None cancel none less = absurd (none-some cancel none)
    by_stop c (Some why) cancel some less =
        subst (λ (n : ℕ). n < count)
        (ap (λ (x : CommandCancel). x.command)
        (same_Some (cancel_for c why) cancel some)) less

    of_one : (one : Living) (cancel : CommandCancel) → cancel_of one ≡ Some cancel
        → one.command < count → cancel.command < count
    of_one one cancel is less = by_stop one.command one.stop cancel is less

pub tries_below : (count : ℕ) (living : List Living) → AreBelow count living
    → All (λ (begun : Begun). begun.command < count) (filter_map unasked living)
tries_below count living all =
    all_made unasked (λ (one : Living). one.command < count)
    (λ (begun : Begun). begun.command < count) of_one living all
  where
    by_asked : (asked : Bool) (try begun : Begun) → cond asked None (Some try) ≡ Some begun
        → try.command < count → begun.command < count
    by_asked true try begun none less = absurd (none-some begun none)
    by_asked false try begun some less =
        subst (λ (x : Begun). x.command < count) (same_Some try begun some) less

    of_one : (one : Living) (begun : Begun) → unasked one ≡ Some begun
        → one.command < count → begun.command < count
    of_one one begun is less =
        by_asked one.asked (record { command = one.command; task = one.task }) begun is less

-- ---- the tries that are left

same_try : (why : Option (List ℕ)) (one : Living)
    → tries_of (once_asked why one ∷ []) ≡ tries_of (one ∷ [])
same_try None one = refl
same_try (Some why) one = refl

tries_asked : (stops : List Stop) (living : List Living)
    → tries_of (all_asked stops living) ≡ tries_of living
tries_asked stops [] = refl
tries_asked stops (one ∷ living) =
    ap (λ (l : List Begun). l ++ tries_of (all_asked stops living))
    (same_try (why_in stops one.task) one)
    ∙ ap (λ (l : List Begun). tries_of (one ∷ []) ++ l) (tries_asked stops living)

-- The same tries live as before.
pub live_asked : (stops : List Stop) (living after : List Living)
    → after ≡ all_asked stops living → tries_of after ≡ tries_of living ++ []
live_asked stops living after is =
    ap (λ (l : List Living). tries_of l) is ∙ tries_asked stops living
    ∙ sym (append-nil (tries_of living))
