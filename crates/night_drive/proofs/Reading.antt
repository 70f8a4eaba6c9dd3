-- The facts about a plan are read one row after another.
use Rattle.std.proofs.Common.{◌≡◌, ◌+◌, ◌∙◌, ℕ, Bool, List, [], ◌∷◌, ◌++◌, Some}
use Rattle.std.proofs.Common.{slice_get, length, inl, inr, ap, subst, sym, arith}
use Rattle.std.proofs.Common.{length-append}
use Rattle.std.proofs.lemmas.Bool.{cases_eq}
use Rattle.run_model.specs.State.{State}
use Rattle.night_plan.specs.declared.commands.Command.{Command}
use Rattle.night_plan.specs.declared.facts.Known.{Known}
use Rattle.night_plan.proofs.Rows.{get_push_last, get_push_old}
use Rattle.night_drive.specs.declared.ends.Ends.{Ends}
use Rattle.night_drive.specs.declared.names.Names.{Names}
use Rattle.night_drive.specs.Seen.{AreKnownTo, AreOverTo, IsCalled, is_over, known_of, moment_of}

-- A list to which an element was appended has it at the place of its old length.
pub pushed : {X : Type 0} (xs : List X) (n : ℕ) (x : X) → length xs ≡ n
    → slice_get (xs ++ x ∷ []) n ≡ Some x
pushed xs n x sized = subst (λ m. slice_get (xs ++ x ∷ []) m ≡ Some x) sized (get_push_last xs x)

-- It is longer by one.
pub longer : {X : Type 0} (xs : List X) (n : ℕ) (x : X) → length xs ≡ n
    → length (xs ++ x ∷ []) ≡ n + 1
longer xs n x sized = simp length-append (omega arith)

-- Two rows at the same place are the same.
pub one_row : {X : Type 0} (xs : List X) (n i : ℕ) (x y : X) → n ≡ i → slice_get xs n ≡ Some x
    → slice_get xs i ≡ Some y → x ≡ y
one_row xs n i x y same first second =
    let there : slice_get xs n ≡ slice_get xs i = ap (λ m. slice_get xs m) same in cc

-- One more group was read.
pub over_more : (p : State) (names : Names) (done : List Bool) (n : ℕ) (name : List ℕ) (b : Bool)
    → length done ≡ n → slice_get names.groups.items n ≡ Some name
    → b ≡ is_over p names.night name → AreOverTo n p names done
    → AreOverTo (n + 1) p names (done ++ b ∷ [])
over_more p names done n name b sized is printed before g group below there =
    elim (cases_eq g n) [
      | inl same ↦
          let alike : name ≡ group =
          one_row names.groups.items n g name group (sym same) is there in
          ap (λ m. slice_get (done ++ b ∷ []) m) same ∙ pushed done n b sized
          ∙ ap Some printed ∙ ap (λ x. Some (is_over p names.night x)) alike
      | inr other ↦
          get_push_old done (b ∷ []) g (omega (arith, below, other, sized))
          ∙ before g group (omega (arith, below, other)) there
    ]

-- The facts about one more command were read.
pub known_more : (p : State) (ends : Ends) (names : Names) (commands : List Command)
    (known : List Known) (n : ℕ) (command : Command) (group key : List ℕ) (k : Known)
    → length known ≡ n → IsCalled names commands n command group key
    → k ≡ known_of p (moment_of ends) names.night group key
    → AreKnownTo n p ends names commands known
    → AreKnownTo (n + 1) p ends names commands (known ++ k ∷ [])
known_more p ends names commands known n command group key k sized it printed before c one g y below
    called =
    elim (cases_eq c n) [
      | inl same ↦
          let alike : command ≡ one =
          one_row commands n c command one (sym same) it.is called.is in
          let in_group : group ≡ g =
          one_row names.groups.items command.group one.group group g
          (ap (λ (x : Command). x.group) alike) it.group_is called.group_is in
          let of_key : key ≡ y =
          one_row names.keys.items n c key y (sym same) it.key_is called.key_is in
          ap (λ m. slice_get (known ++ k ∷ []) m) same ∙ pushed known n k sized ∙ ap Some printed
          ∙ ap (λ x. Some (known_of p (moment_of ends) names.night x key)) in_group
          ∙ ap (λ x. Some (known_of p (moment_of ends) names.night g x)) of_key
      | inr other ↦
          get_push_old known (k ∷ []) c (omega (arith, below, other, sized))
          ∙ before c one g y (omega (arith, below, other)) called
    ]
