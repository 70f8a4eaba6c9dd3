-- Which living tries have to stop.
use Rattle.std.proofs.Common.{◌≡◌, ◌<◌, ◌↔◌, ◌∙◌, ◌==◌, ◌+◌, ℕ, zero, suc, Bool, true, false}
use Rattle.std.proofs.Common.{cond, List, [], ◌∷◌, ◌++◌, Some, drop, get_or, length, map}
use Rattle.std.proofs.Common.{append-nil, set, slice_get, take, ap, refl, sym, subst, arith}
use Rattle.std.proofs.lemmas.Bool.{eq-eqb, ne_eqb}
use Rattle.std.proofs.lemmas.List.{length-set, map-append}
use Rattle.std.proofs.lemmas.List.Elements.{filter_more}
use Rattle.std.proofs.lemmas.Option.{none-some, same_Some}
use Rattle.std.specs.List.{Contains, filter}
use Rattle.run_model.specs.State.{State}
use Rattle.night_plan.specs.declared.commands.Plan.{Plan}
use Rattle.night_plan.specs.declared.facts.Facts.{Facts}
use Rattle.night_plan.specs.declared.facts.Known.{Known}
use Rattle.night_plan.proofs.Rows.{read}
use Rattle.night_plan.specs.Nights.{Night, night}
use Rattle.night_plan.specs.Sessions.{after_all}
use Rattle.night_plan.specs.Stops.{MustStop}
use Rattle.night_plan.specs.Turns.{all_turned}
use Rattle.night_drive.specs.declared.ends.Ends.{Ends}
use Rattle.night_drive.specs.declared.names.Names.{Names}
use Rattle.night_drive.specs.Seen.{AreNames, IsSeen}
use Rattle.night_drive.proofs.Playing.{seen_is_shown}
use Rattle.drive_steps.specs.declared.cancels.CommandCancel.{CommandCancel}
use Rattle.drive_steps.specs.declared.reported.Begun.{Begun}
use Rattle.drive_steps.specs.Stops.{canceled_night, marked, turn_of}
use Rattle.drive_steps.proofs.Canceling.{from_here}

-- ---- canceled commands

turned_past : (known : List Known) (i c : ℕ) → c < i
    → all_turned (turn_of (record { command = c; why = [] })) i known ≡ known
turned_past [] i c less = refl
turned_past (x ∷ known) i c less =
    ap (λ b. cond b (record x { canceled = true }) x
    ∷ all_turned (turn_of (record { command = c; why = [] })) (i + 1) known)
    (ne_eqb c i (λ it. omega (arith, it, less)))
    ∙ ap (λ (ks : List Known). x ∷ ks) (turned_past known (i + 1) c (omega (arith, less)))

-- The fact of one command is changed.
turned_one : (known : List Known) (i c : ℕ) (k : Known) → slice_get known c ≡ Some k
    → set known c (record k { canceled = true })
    ≡ all_turned (turn_of (record { command = i + c; why = [] })) i known
turned_one [] i c k at = absurd (none-some k at)
turned_one (x ∷ known) i zero k at =
    let same : x ≡ k = same_Some x k at in
    let here : i + zero ≡ i = omega arith in
    ap (λ (y : Known). record y { canceled = true } ∷ known) (sym same)
    ∙ ap (λ b. cond b (record x { canceled = true }) x ∷ known)
    (sym (ap (λ m. m == i) here ∙ eq-eqb i i refl))
    ∙ ap (λ (ks : List Known).
    cond (i + zero == i) (record x { canceled = true }) x ∷ ks)
    (sym (turned_past known (i + 1) (i + zero) (omega arith)))
turned_one (x ∷ known) i (suc c) k at =
    let next : (i + 1) + c ≡ i + suc c = omega arith in
    let other : (i + suc c == i) ≡ false = ne_eqb (i + suc c) i (λ it. omega (arith, it)) in
    ap (λ (ks : List Known). x ∷ ks)
    (turned_one known (i + 1) c k at
    ∙ ap (λ m. all_turned (turn_of (record { command = m; why = [] })) (i + 1) known) next)
    ∙ ap (λ b. cond b (record x { canceled = true }) x
    ∷ all_turned (turn_of (record { command = i + suc c; why = [] })) (i + 1) known) (sym other)

length_turned : (cancel : CommandCancel) (i : ℕ) (known : List Known)
    → length (all_turned (turn_of cancel) i known) ≡ length known
length_turned cancel i [] = refl
length_turned cancel i (k ∷ known) = ap suc (length_turned cancel (i + 1) known)

length_marked : (canceled : List CommandCancel) (known : List Known)
    → length (marked known canceled) ≡ length known
length_marked [] known = refl
length_marked (cancel ∷ canceled) known =
    length_marked canceled (all_turned (turn_of cancel) 0 known) ∙ length_turned cancel 0 known

-- One more command is marked.
pub mark_next : (known new total : List Known) (canceled : List CommandCancel) (i : ℕ)
    (cancel : CommandCancel) (fact : Known) → i < length canceled
    → cancel ≡ get_or canceled i cancel → cancel.command < length known
    → fact ≡ get_or known cancel.command fact
    → new ≡ set known cancel.command (record fact { canceled = true })
    → total ≡ marked known (drop i canceled) → total ≡ marked new (drop (i + 1) canceled)
mark_next known new total canceled i cancel fact less is within at changed before =
    let c : ℕ = cancel.command in
    let here : 0 + c ≡ c = omega arith in
    before
    ∙ ap (λ (xs : List CommandCancel). marked known xs) (from_here canceled i cancel less is)
    ∙ ap (λ (ks : List Known). marked ks (drop (i + 1) canceled))
    (ap (λ (m : ℕ). all_turned (turn_of (record { command = m; why = [] })) 0 known) (sym here)
    ∙ sym (turned_one known 0 c fact (read known c fact within at)) ∙ sym changed)

pub mark_size : (known new : List Known) (c : ℕ) (fact : Known)
    → new ≡ set known c (record fact { canceled = true }) → length new ≡ length known
mark_size known new c fact changed =
    ap length changed ∙ length-set known c (record fact { canceled = true })

after_marks : (canceled : List CommandCancel) (n : Night)
    → record n { known = marked n.known canceled } ≡ after_all n (map turn_of canceled)
after_marks [] n = refl
after_marks (cancel ∷ canceled) n =
    after_marks canceled (record n { known = all_turned (turn_of cancel) 0 n.known })

-- A night of the plan with these facts.
abbrev pub night_with : Plan → List Known → List Bool → Night
night_with plan known done = record {
  first = plan.first;
  groups = plan.groups.items;
  commands = plan.commands.items;
  known = known;
  done = done;
}

-- The facts make up the night in which these commands are canceled.
pub facts_marked : (p : State) (ends : Ends) (plan : Plan) (names : Names)
    (canceled : List CommandCancel) (facts : Facts) (known : List Known) → AreNames plan names
    → IsSeen p ends plan names facts → known ≡ marked facts.known.items canceled
    → night_with plan known facts.done.items ≡ canceled_night p ends plan names canceled
facts_marked p ends plan names canceled facts known are seen is =
    ap (λ (ks : List Known). night_with plan ks facts.done.items) is
    ∙ after_marks canceled (night plan facts)
    ∙ ap (λ (n : Night). after_all n (map turn_of canceled))
    (seen_is_shown p ends plan names facts are seen)

pub marked_size : (canceled : List CommandCancel) (old new : List Known)
    → new ≡ marked old canceled → length new ≡ length old
marked_size canceled old new is = ap length is ∙ length_marked canceled old

-- ---- which stop

-- One more element passes a test, or doesn't.
module _ {X Y : Type 0} (f : X → Y) (test : X → Bool) where
  one_more : (xs : List X) (i : ℕ) (x : X) → i < length xs → x ≡ get_or xs i x
      → map f (filter test (take (i + 1) xs))
      ≡ map f (filter test (take i xs) ++ cond (test x) (x ∷ []) [])
  one_more xs i x less is =
      ap (λ (all : List X). map f all) (filter_more test xs i x less)
      ∙ ap (λ (y : X). map f (filter test (take i xs) ++ cond (test y) (y ∷ []) [])) (sym is)

  pub passes_more : (xs : List X) (i : ℕ) (x : X) → i < length xs → x ≡ get_or xs i x
      → test x ≡ true
      → map f (filter test (take (i + 1) xs)) ≡ map f (filter test (take i xs)) ++ f x ∷ []
  passes_more xs i x less is passes =
      one_more xs i x less is
      ∙ ap (λ (b : Bool). map f (filter test (take i xs) ++ cond b (x ∷ []) [])) passes
      ∙ map-append f (filter test (take i xs)) (x ∷ [])

  pub passes_same : (xs : List X) (i : ℕ) (x : X) → i < length xs → x ≡ get_or xs i x
      → test x ≡ false
      → map f (filter test (take (i + 1) xs)) ≡ map f (filter test (take i xs))
  passes_same xs i x less is fails =
      one_more xs i x less is
      ∙ ap (λ (b : Bool). map f (filter test (take i xs) ++ cond b (x ∷ []) [])) fails
      ∙ ap (λ (all : List X). map f all) (append-nil (filter test (take i xs)))

-- The commands that stop by the facts are those that have to stop.
pub those_stop : (p : State) (ends : Ends) (plan : Plan) (names : Names)
    (canceled : List CommandCancel) (facts : Facts) (known : List Known) (commands : List ℕ)
    → AreNames plan names → IsSeen p ends plan names facts
    → known ≡ marked facts.known.items canceled
    → ((c : ℕ) → Contains commands c ↔ MustStop (night_with plan known facts.done.items) c)
    → (c : ℕ) → Contains commands c ↔ MustStop (canceled_night p ends plan names canceled) c
those_stop p ends plan names canceled facts known commands are seen is those c =
    subst (λ (n : Night). Contains commands c ↔ MustStop n c)
    (facts_marked p ends plan names canceled facts known are seen is) (those c)

get_again : {X : Type 0} (xs : List X) (i : ℕ) (d : X)
    → get_or xs i d ≡ get_or xs i (get_or xs i d)
get_again [] i d = refl
get_again (x ∷ xs) zero d = refl
get_again (x ∷ xs) (suc i) d = get_again xs i d

-- The try at this place.
abbrev pub try_at : List Begun → ℕ → Begun
try_at living i = get_or living i (record { command = 0; task = 0 })

pub try_read : (living : List Begun) (i : ℕ) → try_at living i ≡ get_or living i (try_at living i)
try_read living i = get_again living i (record { command = 0; task = 0 })
