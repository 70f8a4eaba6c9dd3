-- Rows of a night: what a test says of a command that is there, and lists with one row changed.
use Rattle.std.proofs.Common.{◌≡◌, ◌≢◌, ◌<◌, ◌==◌, ◌∙◌, ℕ, suc, zero, Bool, true, false, List}
use Rattle.std.proofs.Common.{[], ◌∷◌, ◌++◌, Option, Some, None, slice_get}
use Rattle.std.proofs.Common.{slice_index_or, set, length}
use Rattle.std.proofs.Common.{refl, replicate, ap, sym, arith}
use Rattle.std.proofs.lemmas.Bool.{eqb-true, false≢true}
use Rattle.std.proofs.lemmas.List.{get_or-set_other, get_or-set_same, length-set}
use Rattle.std.proofs.lemmas.List.Elements.{All-contains_itself, All-weaker}
use Rattle.std.proofs.lemmas.Option.{slice_get-get_or, slice_get_read}
use Rattle.std.specs.Option.{option_map_or, option_and_then}
use Rattle.std.specs.Prelude.{All, Contains}
use Rattle.night_plan.specs.declared.commands.Command.{Command}
use Rattle.night_plan.specs.declared.facts.Known.{Known}
use Rattle.night_plan.specs.Plans.{is_of}
use Rattle.night_plan.specs.Nights.{Night, at, until, waits}

-- Two tests agree if each implies the other.
pub same_truth : (b t : Bool) → (b ≡ true → t ≡ true) → (t ≡ true → b ≡ true) → b ≡ t
same_truth true t there back = sym (there refl)
same_truth false true there back = back refl
same_truth false false there back = refl

-- ---- lists

-- What a list has at a number below its length.
pub row_at : {X : Type 0} (xs : List X) (i : ℕ) → i < length xs
    → (x : X) × (slice_get xs i ≡ Some x)
row_at [] i within = absurd (omega arith)
row_at (x ∷ xs) zero within = (x, refl)
row_at (x ∷ xs) (suc i) within = row_at xs i (omega arith)

pub get_set_same : {X : Type 0} (xs : List X) (i : ℕ) (x : X) → i < length xs
    → slice_get (set xs i x) i ≡ Some x
get_set_same xs i x within =
    slice_get-get_or (set xs i x) i x (rw length-set within)
    ∙ ap Some (get_or-set_same xs i x x within)

pub get_set_other : {X : Type 0} (xs : List X) (i k : ℕ) (x : X) → k < length xs → k ≢ i
    → slice_get (set xs i x) k ≡ slice_get xs k
get_set_other xs i k x within other =
    slice_get-get_or (set xs i x) k x (rw length-set within)
    ∙ ap Some (get_or-set_other xs i k x x other)
    ∙ sym (slice_get-get_or xs k x within)

pub get_push_old : {X : Type 0} (xs ys : List X) (k : ℕ) → k < length xs
    → slice_get (xs ++ ys) k ≡ slice_get xs k
get_push_old [] ys k within = absurd (omega arith)
get_push_old (x ∷ xs) ys zero within = refl
get_push_old (x ∷ xs) ys (suc k) within = get_push_old xs ys k (omega arith)

pub get_push_last : {X : Type 0} (xs : List X) (x : X)
    → slice_get (xs ++ x ∷ []) (length xs) ≡ Some x
get_push_last [] x = refl
get_push_last (y ∷ xs) x = get_push_last xs x

-- A fact of each element that a list contains is a fact of all.
pub all_from_contains : {X : Type 0} (P : X → Type 0) (xs : List X)
    → ((x : X) → Contains xs x → P x) → All P xs
all_from_contains P xs each = All-weaker (Contains xs) P each xs (All-contains_itself xs)

-- ---- commands

-- The group of a command that is there.
pub of_at : (commands : List Command) (c g : ℕ) (command : Command)
    → slice_get commands c ≡ Some command → is_of commands g c ≡ (command.group == g)
of_at commands c g command is =
    ap (λ (o : Option Command). option_map_or (λ x. x.group == g) o false) is

-- A command of a group is there.
pub of_there : (commands : List Command) (g c : ℕ) → is_of commands g c ≡ true
    → (command : Command) × (slice_get commands c ≡ Some command) × (command.group ≡ g)
of_there commands g c of = go (slice_get commands c) refl of
  where
    go : (o : Option Command) → slice_get commands c ≡ o
        → option_map_or (λ command. command.group == g) o false ≡ true
        → (command : Command) × (slice_get commands c ≡ Some command) × (command.group ≡ g)
    go None is never = absurd (false≢true never)
    go (Some command) is same = (command, is, eqb-true command.group g same)

-- A test at a command that is there.
pub at_is : (n : Night) (c : ℕ) (command : Command) (fact : Known)
    → slice_get n.commands c ≡ Some command → slice_get n.known c ≡ Some fact
    → (test : Command → Known → Bool) → at n c test ≡ test command fact
at_is n c command fact is known test =
    ap (λ (o : Option Command).
    option_map_or (λ x. option_map_or (test x) (slice_get n.known c) false) o false) is
    ∙ ap (λ (o : Option Known). option_map_or (test command) o false) known

-- A test that passes at a number passes at the command there.
pub at_there : (n : Night) (c : ℕ) (test : Command → Known → Bool) → at n c test ≡ true
    → (command : Command) × (fact : Known) × (slice_get n.commands c ≡ Some command)
    × (slice_get n.known c ≡ Some fact) × (test command fact ≡ true)
at_there n c test passes =
    outer (slice_get n.commands c) passes
    (λ command is more. inner command (slice_get n.known c) more
    (λ fact known holds. (command, fact, is, known, holds)))
  where
    Found : Type 0
    Found = (command : Command) × (fact : Known) × (slice_get n.commands c ≡ Some command)
        × (slice_get n.known c ≡ Some fact) × (test command fact ≡ true)

    outer : (o : Option Command)
        → option_map_or (λ x. option_map_or (test x) (slice_get n.known c) false) o false ≡ true
        → ((command : Command) → o ≡ Some command
        → option_map_or (test command) (slice_get n.known c) false ≡ true → Found) → Found
    outer None never go = absurd (false≢true never)
    outer (Some command) more go = go command refl more

    inner : (command : Command) (o : Option Known) → option_map_or (test command) o false ≡ true
        → ((fact : Known) → o ≡ Some fact → test command fact ≡ true → Found) → Found
    inner command None never go = absurd (false≢true never)
    inner command (Some fact) more go = go fact refl more

-- Until when a command that is there waits.
pub waits_at : (n : Night) (now c : ℕ) (command : Command) (fact : Known)
    → slice_get n.commands c ≡ Some command → slice_get n.known c ≡ Some fact
    → waits n now c ≡ until command now fact.failures fact.phase
waits_at n now c command fact is known =
    ap (λ (o : Option Command). option_and_then (λ x. option_and_then
    (λ f. until x now f.failures f.phase) (slice_get n.known c)) o) is
    ∙ ap (λ (o : Option Known). option_and_then (λ f. until command now f.failures f.phase) o)
    known

-- What an index reads.
pub read : {X : Type 0} (xs : List X) (i : ℕ) (x : X) → i < length xs
    → x ≡ slice_index_or xs i x → slice_get xs i ≡ Some x
read xs i x within is = slice_get_read xs (length xs) i x refl within is

pub get_replicate : {X : Type 0} (n k : ℕ) (x : X) → k < n → slice_get (replicate n x) k ≡ Some x
get_replicate zero k x below = absurd (omega (arith, below))
get_replicate (suc n) zero x below = refl
get_replicate (suc n) (suc k) x below = get_replicate n k x (omega (arith, below))
