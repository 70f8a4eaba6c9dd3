-- The numbers of files, of which a new one has to differ, and where one more step leaves a name.
use Rattle.std.proofs.Common.{◌≡◌, ◌<◌, ◌≤◌, ◌+◌, ◌∷◌, [], ◌++◌, ◌&&◌, ℕ, List, Option, None, Some}
use Rattle.std.proofs.Common.{IfSome, Bool, true, false, length, map, get_or, take, refl, ◌∙◌}
use Rattle.std.proofs.Common.{arith}
use Rattle.std.specs.Prelude.{bytes_eq}
use Rattle.std.specs.List.{All}
use Rattle.std.proofs.Math.Bool.{and-true}
use Rattle.std.proofs.lemmas.Bool.Decides.{nat_tests}
use Rattle.std.proofs.lemmas.List.{map-append, take_all}
use Rattle.std.proofs.lemmas.List.Elements.{All-more, All-weaker}
use Rattle.std.proofs.lemmas.List.Sums.{fold-append}
use Rattle.std.proofs.lemmas.Slice.Eq.{bytes_eq-Decides}
use Rattle.file_calls.specs.declared.places.Place.TheVariants.{Durable}
use Rattle.file_calls.specs.Names.{IsUnused, NameStep, is_to, may_by, may_lead, new_step}
use Rattle.file_calls.specs.Names.{settled_step}

-- each number of a file is below this one
abbrev pub AreBelow : List NameStep → ℕ → Type 0
AreBelow steps next = All (λ step. IfSome step.to (λ file. file < next)) steps

below_later : (to : Option ℕ) (n m : ℕ) → n ≤ m → IfSome to (λ file. file < n)
    → IfSome to (λ file. file < m)
below_later None n m later below = tt
below_later (Some file) n m later below = omega (arith, later, below)

pub below_more : (steps : List NameStep) (i n m : ℕ) (step : NameStep) → i < length steps
    → step ≡ get_or steps i step → n ≤ m → IfSome step.to (λ file. file < m)
    → AreBelow (take i steps) n → AreBelow (take (i + 1) steps) m
below_more steps i n m step within is later below so_far =
    All-more (λ s. IfSome s.to (λ file. file < m)) steps i step within
    (All-weaker (λ s. IfSome s.to (λ file. file < n)) (λ s. IfSome s.to (λ file. file < m))
    (λ s. below_later s.to n m later) (take i steps) so_far)
    (rw (← is) below)

above : (to : Option ℕ) (n : ℕ) → IfSome to (λ file. file < n) → is_to to (Some n) ≡ false
above None n below = refl
above (Some file) n below = grind (arith, nat_tests)

pub none_above : (steps : List NameStep) (i n : ℕ) → length steps ≤ i
    → AreBelow (take i steps) n → IsUnused steps n
none_above steps i n all below =
    All-weaker (λ s. IfSome s.to (λ file. file < n)) (λ s. is_to s.to (Some n) ≡ false)
    (λ s. above s.to n) steps (rw (take_all i steps all) at below)

and-false : (b : Bool) → (b && false) ≡ false
and-false true = refl
and-false false = refl

itself : (name : List ℕ) → bytes_eq name name ≡ true
itself name = (bytes_eq-Decides name name).1 refl

-- one more step of a name that leads to a file there
pub may_lead-more : (steps : List NameStep) (step : NameStep) (name : List ℕ) (to : Option ℕ)
    → may_lead (steps ++ step ∷ []) name to ≡ may_by name to (may_lead steps name to) step
may_lead-more steps step name to = fold-append (may_by name to) (is_to None to) steps (step ∷ [])

-- a step of the name to a file leaves it as it was that the name may lead nowhere
pub none_as_before : (steps : List NameStep) (name : List ℕ) (file : ℕ)
    → may_lead (steps ++ new_step name (Some file) ∷ []) name None ≡ may_lead steps name None
none_as_before steps name file =
    may_lead-more steps (new_step name (Some file)) name None
    ∙ rw (itself name) (simp and-true)

-- nor does a step of another name
pub same_by_other : (steps : List NameStep) (other name : List ℕ) (to left : Option ℕ)
    → bytes_eq other name ≡ false
    → may_lead (steps ++ new_step other to ∷ []) name left ≡ may_lead steps name left
same_by_other steps other name to left apart =
    may_lead-more steps (new_step other to) name left ∙ rw apart refl

-- a name whose last step is durable, and leads to a file, never leads nowhere
pub durable_stays : (steps : List NameStep) (name : List ℕ) (file : ℕ)
    → may_lead (map (settled_step Durable) (steps ++ new_step name (Some file) ∷ [])) name None
    ≡ false
durable_stays steps name file =
    let last = settled_step Durable (new_step name (Some file)) in
    rw (map-append (settled_step Durable) steps (new_step name (Some file) ∷ []))
    (may_lead-more (map (settled_step Durable) steps) last name None
    ∙ rw (itself name) (simp and-false))
