-- How the steps of cancels are made.
use Rattle.std.proofs.Common.{◌≡◌, ◌<◌, ◌≤◌, ◌∙◌, ◌==◌, ◌&&◌, ◌||◌, ◌+◌, ◌⊎◌, ℕ, zero, suc, Bool}
use Rattle.std.proofs.Common.{true}
use Rattle.std.proofs.Common.{cond, false, List, [], ◌∷◌, ◌++◌, Option, Some, None, length}
use Rattle.std.proofs.Common.{drop, get_or, map, slice_get, take, append_assoc, drop-cons}
use Rattle.std.proofs.Common.{add-one, ap, refl, sym, subst, inl, inr, arith}
use Rattle.std.proofs.Math.Bool.{or-true}
use Rattle.std.proofs.lemmas.Bool.{eq-eqb, eqb-true, false_from_ne_true, false≢true, le-leb}
use Rattle.std.proofs.lemmas.List.{length-take, take_more}
use Rattle.std.proofs.lemmas.List.Elements.{All-get_or, Contains-append_left}
use Rattle.std.proofs.lemmas.List.Elements.{Contains-append_right}
use Rattle.std.proofs.lemmas.List.Folds.{find-append}
use Rattle.std.proofs.lemmas.Option.{none-some, same_Some}
use Rattle.std.specs.List.{All, Contains, cons_option, find, list_all, list_any}
use Rattle.std.specs.Option.{option_map, option_or}
use Rattle.std.specs.Prelude.{is_some, unwrap_or}
use Rattle.run_model.proofs.Common.{and_from, and_parts}
use Rattle.run_model.specs.declared.commands.Command.{Command as Call}
use Rattle.run_model.specs.declared.commands.Command.TheVariants as call
use Rattle.run_model.specs.declared.commands.Step.{Step}
use Rattle.run_model.specs.declared.commands.Step.TheVariants as step
use Rattle.run_model.specs.declared.tasks.Outcome.TheVariants as outcome
use Rattle.run_model.specs.State.{State}
use Rattle.run_model.specs.Texts.{IsText, is_text_byte}
use Rattle.night_plan.proofs.Rows.{read}
use Rattle.night_plan.specs.declared.commands.Command.{Command}
use Rattle.night_drive.specs.declared.names.Names.{Names}
use Rattle.run_model.specs.declared.answers.Reply.{Reply}
use Rattle.drive_steps.specs.Reported.{first_started}
use Rattle.drive_steps.specs.Cancels.{are_started}
use Rattle.drive_steps.specs.Cancels.{AreTaken, can_cancel, canceled_text, cuts_of}
use Rattle.drive_steps.specs.Cancels.{open_scope, scope_name, stops_of}
use Rattle.drive_steps.specs.declared.cancels.CommandCancel.{CommandCancel}
use Rattle.drive_steps.specs.declared.cancels.GroupCancel.{GroupCancel}
use Rattle.drive_steps.specs.declared.heard.Ended.{Ended}
use Rattle.drive_steps.specs.Starts.{next_try}
use Rattle.drive_steps.proofs.Playing.{contains_there}

-- The element at this place, and those after it.
pub from_here : {X : Type 0} (xs : List X) (i : ℕ) (x : X) → i < length xs → x ≡ get_or xs i x
    → drop i xs ≡ x ∷ drop (i + 1) xs
from_here xs i x less is =
    first xs i x less ∙ ap (λ y. y ∷ drop (i + 1) xs) (sym is)
  where
    first : {X : Type 0} (xs : List X) (i : ℕ) (x : X) → i < length xs
        → drop i xs ≡ get_or xs i x ∷ drop (i + 1) xs
    first xs i x less = rw (add-one, drop-cons xs i x)

-- The default plays no part.
get_or_any : {X : Type 0} (xs : List X) (i : ℕ) (d : X) → i < length xs
    → get_or xs i d ≡ get_or xs i (get_or xs i d)
get_or_any [] i d less = absurd (omega (arith, less))
get_or_any (x ∷ xs) zero d less = refl
get_or_any (x ∷ xs) (suc i) d less = get_or_any xs i d (omega (arith, less))

-- ---- commands

-- The steps of one more cancel are appended.
pub cuts_next : (p : State) (names : Names) (commands : List Command)
    (taken : List CommandCancel) (first i n : ℕ) (cancel : CommandCancel) (next : Call)
    (why : List ℕ) (old steps one two three : List Step) → i < length taken
    → cancel ≡ get_or taken i cancel → next ≡ next_try p names commands cancel.command
    → n ≡ first + i → why ≡ canceled_text cancel.why
    → one ≡ steps ++ step.Command next ∷ [] → two ≡ one ++ step.Start ∷ []
    → three ≡ two ++ step.Finish n (outcome.Failure why) ∷ []
    → old ++ cuts_of p names commands first taken
    ≡ steps ++ cuts_of p names commands (first + i) (drop i taken)
    → old ++ cuts_of p names commands first taken
    ≡ three ++ cuts_of p names commands (first + (i + 1)) (drop (i + 1) taken)
cuts_next p names commands taken first i n cancel next why old steps one two three less is asked
    number text a b c before =
    let rest : List CommandCancel = drop (i + 1) taken in
    let later : (first + i) + 1 ≡ first + (i + 1) = omega arith in
    let tail : List Step = cuts_of p names commands (first + (i + 1)) rest in
    before
    ∙ ap (λ (xs : List CommandCancel). steps ++ cuts_of p names commands (first + i) xs)
    (from_here taken i cancel less is)
    ∙ ap (λ (m : ℕ). steps ++ step.Command (next_try p names commands cancel.command)
    ∷ step.Start ∷ step.Finish (first + i) (outcome.Failure (canceled_text cancel.why))
    ∷ cuts_of p names commands m rest) later
    ∙ ap (λ (x : Call). steps ++ step.Command x ∷ step.Start
    ∷ step.Finish (first + i) (outcome.Failure (canceled_text cancel.why)) ∷ tail) (sym asked)
    ∙ ap (λ (m : ℕ). steps ++ step.Command next ∷ step.Start
    ∷ step.Finish m (outcome.Failure (canceled_text cancel.why)) ∷ tail) (sym number)
    ∙ ap (λ (x : List ℕ). steps ++ step.Command next ∷ step.Start
    ∷ step.Finish n (outcome.Failure x) ∷ tail) (sym text)
    ∙ sym (append_assoc steps (step.Command next ∷ [])
    (step.Start ∷ step.Finish n (outcome.Failure why) ∷ tail))
    ∙ ap (λ (xs : List Step). xs ++ step.Start ∷ step.Finish n (outcome.Failure why) ∷ tail) (sym a)
    ∙ sym (append_assoc one (step.Start ∷ [])
    (step.Finish n (outcome.Failure why) ∷ tail))
    ∙ ap (λ (xs : List Step). xs ++ step.Finish n (outcome.Failure why) ∷ tail) (sym b)
    ∙ sym (append_assoc two (step.Finish n (outcome.Failure why) ∷ []) tail)
    ∙ ap (λ (xs : List Step). xs ++ tail) (sym c)

-- ---- groups

group_read : (names : Names) (groups : List GroupCancel) (i : ℕ) (cancel : GroupCancel)
    (group : List ℕ) → i < length groups → cancel ≡ get_or groups i cancel
    → All (λ (x : GroupCancel). x.group < length names.groups.items) groups
    → group ≡ get_or names.groups.items cancel.group group
    → unwrap_or (slice_get names.groups.items cancel.group) [] ≡ group
group_read names groups i cancel group less is all at =
    let within : cancel.group < length names.groups.items =
    subst (λ (x : GroupCancel). x.group < length names.groups.items) (sym is)
    (All-get_or (λ (x : GroupCancel). x.group < length names.groups.items) groups i cancel less
    all) in
    ap (λ (o : Option (List ℕ)). unwrap_or o [])
    (read names.groups.items cancel.group group within at)

-- A group that has no step is left out.
pub stops_skip : (p : State) (names : Names) (groups : List GroupCancel) (i : ℕ)
    (cancel : GroupCancel) (group : List ℕ) (old steps : List Step) → i < length groups
    → cancel ≡ get_or groups i cancel
    → All (λ (x : GroupCancel). x.group < length names.groups.items) groups
    → group ≡ get_or names.groups.items cancel.group group
    → open_scope p names.night group ≡ None
    → old ++ stops_of p names groups ≡ steps ++ stops_of p names (drop i groups)
    → old ++ stops_of p names groups ≡ steps ++ stops_of p names (drop (i + 1) groups)
stops_skip p names groups i cancel group old steps less is all at none before =
    before
    ∙ ap (λ (xs : List GroupCancel). steps ++ stops_of p names xs)
    (from_here groups i cancel less is)
    ∙ ap (λ (g : List ℕ). steps ++ cons_option (step_of (open_scope p names.night g))
    (stops_of p names (drop (i + 1) groups)))
    (group_read names groups i cancel group less is all at)
    ∙ ap (λ (o : Option ℕ). steps ++ cons_option (step_of o)
    (stops_of p names (drop (i + 1) groups))) none
  where
    step_of : Option ℕ → Option Step
    step_of o = option_map (λ s. step.Command (call.Cancel (scope_name p s) (Some cancel.why))) o

-- The step of one more group is appended.
pub stops_next : (p : State) (names : Names) (groups : List GroupCancel) (i s : ℕ)
    (cancel : GroupCancel) (group : List ℕ) (made : Step) (old steps new : List Step)
    → i < length groups → cancel ≡ get_or groups i cancel
    → All (λ (x : GroupCancel). x.group < length names.groups.items) groups
    → group ≡ get_or names.groups.items cancel.group group
    → open_scope p names.night group ≡ Some s
    → made ≡ step.Command (call.Cancel (scope_name p s) (Some cancel.why))
    → new ≡ steps ++ made ∷ []
    → old ++ stops_of p names groups ≡ steps ++ stops_of p names (drop i groups)
    → old ++ stops_of p names groups ≡ new ++ stops_of p names (drop (i + 1) groups)
stops_next p names groups i s cancel group made old steps new less is all at some makes appends
    before =
    let tail : List Step = stops_of p names (drop (i + 1) groups) in
    before
    ∙ ap (λ (xs : List GroupCancel). steps ++ stops_of p names xs)
    (from_here groups i cancel less is)
    ∙ ap (λ (g : List ℕ). steps ++ cons_option (step_of (open_scope p names.night g)) tail)
    (group_read names groups i cancel group less is all at)
    ∙ ap (λ (o : Option ℕ). steps ++ cons_option (step_of o) tail) some
    ∙ ap (λ (x : Step). steps ++ x ∷ tail) (sym makes)
    ∙ sym (append_assoc steps (made ∷ []) tail)
    ∙ ap (λ (xs : List Step). xs ++ tail) (sym appends)
  where
    step_of : Option ℕ → Option Step
    step_of o = option_map (λ t. step.Command (call.Cancel (scope_name p t) (Some cancel.why))) o

-- ---- which cancels are recorded

-- The row at a place of a list with one element more.
pub at_push : {X : Type 0} (xs : List X) (x y : X) (i : ℕ) → slice_get (xs ++ x ∷ []) i ≡ Some y
    → (slice_get xs i ≡ Some y) ⊎ ((i ≡ length xs) × (x ≡ y))
at_push [] x y zero at = inr (refl, same_Some x y at)
at_push [] x y (suc i) at = absurd (none-some y at)
at_push (z ∷ xs) x y zero at = inl at
at_push (z ∷ xs) x y (suc i) at = elim (at_push xs x y i at) [
  | inl old ↦ inl old
  | inr new ↦ inr (omega (arith, new.0), new.1)
]

-- A command that is named in a list is that of one of its cancels.
named_in : (taken : List CommandCancel) (c : ℕ)
    → list_any (λ (x : CommandCancel). x.command == c) taken ≡ true
    → Contains (map (λ (x : CommandCancel). x.command) taken) c
named_in [] c is = cc
named_in (x ∷ taken) c is = by_first (x.command == c) refl is (λ later. named_in taken c later)
  where
    by_first : (b : Bool) → (x.command == c) ≡ b
        → (b || list_any (λ (y : CommandCancel). y.command == c) taken) ≡ true
        → (list_any (λ (y : CommandCancel). y.command == c) taken ≡ true
        → Contains (map (λ (y : CommandCancel). y.command) taken) c)
        → Contains (x.command ∷ map (λ (y : CommandCancel). y.command) taken) c
    by_first true first is later = (zero, omega arith, eqb-true x.command c first)
    by_first false first is later =
        contains_there (map (λ (y : CommandCancel). y.command) taken) x.command c (later is)

-- And one that isn't named is that of none.
not_named : (taken : List CommandCancel) (c i : ℕ) (x : CommandCancel)
    → list_any (λ (y : CommandCancel). y.command == c) taken ≡ false
    → slice_get taken i ≡ Some x → x.command ≡ c → ⊥
not_named [] c i x none at same = none-some x at
not_named (y ∷ taken) c zero x none at same =
    let is : (y.command == c) ≡ true =
    eq-eqb y.command c (ap (λ (z : CommandCancel). z.command) (same_Some y x at) ∙ same) in
    false≢true (sym none
    ∙ ap (λ b. b || list_any (λ (z : CommandCancel). z.command == c) taken) is)
not_named (y ∷ taken) c (suc i) x none at same =
    not_named taken c i x (later (y.command == c) none) at same
  where
    later : (b : Bool) → (b || list_any (λ (z : CommandCancel). z.command == c) taken) ≡ false
        → list_any (λ (z : CommandCancel). z.command == c) taken ≡ false
    later true is = cc
    later false is = is

-- The first cancel of a command stays the first one.
first_left : (seen : List CommandCancel) (more x : CommandCancel)
    → find (λ (y : CommandCancel). y.command == x.command) seen ≡ Some x
    → find (λ (y : CommandCancel). y.command == x.command) (seen ++ more ∷ []) ≡ Some x
first_left seen more x is =
    find-append (λ (y : CommandCancel). y.command == x.command) seen (more ∷ [])
    ∙ ap (λ (o : Option CommandCancel). option_or o
    (find (λ (y : CommandCancel). y.command == x.command) (more ∷ []))) is

none_found : (test : CommandCancel → Bool) (xs : List CommandCancel)
    → ((i : ℕ) (x : CommandCancel) → slice_get xs i ≡ Some x → test x ≡ false)
    → find test xs ≡ None
none_found test [] none = refl
none_found test (x ∷ xs) none =
    ap (λ b. cond b (Some x) (find test xs)) (none zero x refl)
    ∙ none_found test xs (λ i y at. none (suc i) y at)

-- A command of one of the cancels is named.
named_by : (taken : List CommandCancel) (c : ℕ)
    → Contains (map (λ (x : CommandCancel). x.command) taken) c
    → list_any (λ (x : CommandCancel). x.command == c) taken ≡ true
named_by [] c (k, less, is) = absurd (omega (arith, less))
named_by (x ∷ taken) c (zero, less, is) =
    ap (λ b. b || list_any (λ (y : CommandCancel). y.command == c) taken) (eq-eqb x.command c is)
named_by (x ∷ taken) c (suc k, less, is) =
    ap (λ b. (x.command == c) || b) (named_by taken c (k, omega (arith, less), is))
    ∙ or-true (x.command == c)

-- One more is looked at, and isn't recorded.
taken_same : (p : State) (names : Names) (commands : List Command) (heard : List Ended)
    (seen taken : List CommandCancel) (cancel : CommandCancel)
    → (can_cancel p names commands heard cancel.command ≡ true
    → Contains (map (λ (x : CommandCancel). x.command) taken) cancel.command)
    → AreTaken p names commands heard seen taken
    → AreTaken p names commands heard (seen ++ cancel ∷ []) taken
taken_same p names commands heard seen taken cancel why was = record {
  each = λ i x at.
      let it = was.each i x at in
      (Contains-append_left seen (cancel ∷ []) x it.0, it.1);
  first = λ i x at. first_left seen cancel x (was.first i x at);
  once = was.once;
  every = λ i x at can. elim (at_push seen cancel x i at) [
    | inl old ↦ was.every i x old can
    | inr new ↦
        subst (λ (y : CommandCancel). Contains (map (λ (z : CommandCancel). z.command) taken)
        y.command) new.1
        (why (ap (λ (y : CommandCancel). can_cancel p names commands heard y.command) new.1 ∙ can))
  ];
}

map_joined : (cancel : CommandCancel) (xs : List CommandCancel)
    → map (λ (z : CommandCancel). z.command) (xs ++ cancel ∷ [])
    ≡ map (λ (z : CommandCancel). z.command) xs ++ cancel.command ∷ []
map_joined cancel [] = refl
map_joined cancel (x ∷ xs) = ap (λ (ys : List ℕ). x.command ∷ ys) (map_joined cancel xs)

-- One more is looked at, and is recorded.
taken_new : (p : State) (names : Names) (commands : List Command) (heard : List Ended)
    (seen taken : List CommandCancel) (cancel : CommandCancel)
    → list_any (λ (x : CommandCancel). x.command == cancel.command) taken ≡ false
    → can_cancel p names commands heard cancel.command ≡ true
    → AreTaken p names commands heard seen taken
    → AreTaken p names commands heard (seen ++ cancel ∷ []) (taken ++ cancel ∷ [])
taken_new p names commands heard seen taken cancel none can was = record {
  each = λ i x at. elim (at_push taken cancel x i at) [
    | inl old ↦
        let it = was.each i x old in
        (Contains-append_left seen (cancel ∷ []) x it.0, it.1)
    | inr new ↦ (
      subst (λ (y : CommandCancel). Contains (seen ++ cancel ∷ []) y) new.1
          (Contains-append_right seen (cancel ∷ []) cancel (zero, omega arith, refl)),
      ap (λ (y : CommandCancel). can_cancel p names commands heard y.command) (sym new.1) ∙ can,
    )
  ];
  first = λ i x at. elim (at_push taken cancel x i at) [
    | inl old ↦ first_left seen cancel x (was.first i x old)
    | inr new ↦
        subst (λ (y : CommandCancel). find (λ (z : CommandCancel). z.command == y.command)
        (seen ++ cancel ∷ []) ≡ Some y) new.1 first_new
  ];
  once = λ i j a b at there same. by_places i j a b same (at_push taken cancel a i at)
      (at_push taken cancel b j there);
  every = λ i x at can_x. elim (at_push seen cancel x i at) [
    | inl old ↦ more x.command (was.every i x old can_x)
    | inr new ↦
        subst (λ (y : CommandCancel). Contains
        (map (λ (z : CommandCancel). z.command) (taken ++ cancel ∷ [])) y.command) new.1 last
  ];
}
  where
    other : (i : ℕ) (x : CommandCancel) → slice_get seen i ≡ Some x
        → (x.command == cancel.command) ≡ false
    other i x at =
        false_from_ne_true (x.command == cancel.command)
        (λ is.
        let same : x.command ≡ cancel.command = eqb-true x.command cancel.command is in
        false≢true (sym none ∙ named_by taken cancel.command
        (subst (λ (c : ℕ). Contains (map (λ (z : CommandCancel). z.command) taken) c) same
        (was.every i x at (ap (can_cancel p names commands heard) same ∙ can)))))

    first_new : find (λ (z : CommandCancel). z.command == cancel.command) (seen ++ cancel ∷ [])
        ≡ Some cancel
    first_new =
        find-append (λ (z : CommandCancel). z.command == cancel.command) seen (cancel ∷ [])
        ∙ ap (λ (o : Option CommandCancel). option_or o
        (find (λ (z : CommandCancel). z.command == cancel.command) (cancel ∷ [])))
        (none_found (λ (z : CommandCancel). z.command == cancel.command) seen other)
        ∙ ap (λ b. cond b (Some cancel) None)
        (eq-eqb cancel.command cancel.command refl)

    by_places : (i j : ℕ) (a b : CommandCancel) → a.command ≡ b.command
        → (slice_get taken i ≡ Some a) ⊎ ((i ≡ length taken) × (cancel ≡ a))
        → (slice_get taken j ≡ Some b) ⊎ ((j ≡ length taken) × (cancel ≡ b)) → i ≡ j
    by_places i j a b same (inl at) (inl there) = was.once i j a b at there same
    by_places i j a b same (inl at) (inr there) =
        absurd (not_named taken cancel.command i a none at
        (same ∙ ap (λ (y : CommandCancel). y.command) (sym there.1)))
    by_places i j a b same (inr at) (inl there) =
        absurd (not_named taken cancel.command j b none there
        (sym same ∙ ap (λ (y : CommandCancel). y.command) (sym at.1)))
    by_places i j a b same (inr at) (inr there) = at.0 ∙ sym there.0

    joined : map (λ (z : CommandCancel). z.command) (taken ++ cancel ∷ [])
        ≡ map (λ (z : CommandCancel). z.command) taken ++ cancel.command ∷ []
    joined = map_joined cancel taken

    more : (c : ℕ) → Contains (map (λ (z : CommandCancel). z.command) taken) c
        → Contains (map (λ (z : CommandCancel). z.command) (taken ++ cancel ∷ [])) c
    more c listed =
        subst (λ (xs : List ℕ). Contains xs c) (sym joined)
        (Contains-append_left (map (λ (z : CommandCancel). z.command) taken)
        (cancel.command ∷ []) c listed)

    last : Contains (map (λ (z : CommandCancel). z.command) (taken ++ cancel ∷ [])) cancel.command
    last =
        subst (λ (xs : List ℕ). Contains xs cancel.command) (sym joined)
        (Contains-append_right (map (λ (z : CommandCancel). z.command) taken)
        (cancel.command ∷ []) cancel.command (zero, omega arith, refl))

seen_more : (p : State) (names : Names) (commands : List Command) (heard : List Ended)
    (cancels taken : List CommandCancel) (i : ℕ) (cancel : CommandCancel) → i < length cancels
    → cancel ≡ get_or cancels i cancel
    → AreTaken p names commands heard (take i cancels ++ cancel ∷ []) taken
    → AreTaken p names commands heard (take (i + 1) cancels) taken
seen_more p names commands heard cancels taken i cancel less is =
    subst (λ (xs : List CommandCancel). AreTaken p names commands heard xs taken)
    (ap (λ (x : CommandCancel). take i cancels ++ x ∷ []) is
    ∙ sym (take_more cancels i cancel less))

pub taken_named : (p : State) (names : Names) (commands : List Command) (heard : List Ended)
    (cancels taken : List CommandCancel) (i : ℕ) (cancel : CommandCancel) → i < length cancels
    → cancel ≡ get_or cancels i cancel
    → list_any (λ (x : CommandCancel). x.command == cancel.command) taken ≡ true
    → AreTaken p names commands heard (take i cancels) taken
    → AreTaken p names commands heard (take (i + 1) cancels) taken
taken_named p names commands heard cancels taken i cancel less is named was =
    seen_more p names commands heard cancels taken i cancel less is
    (taken_same p names commands heard (take i cancels) taken cancel
    (λ can. named_in taken cancel.command named) was)

pub taken_not : (p : State) (names : Names) (commands : List Command) (heard : List Ended)
    (cancels taken : List CommandCancel) (i : ℕ) (cancel : CommandCancel) → i < length cancels
    → cancel ≡ get_or cancels i cancel
    → can_cancel p names commands heard cancel.command ≡ false
    → AreTaken p names commands heard (take i cancels) taken
    → AreTaken p names commands heard (take (i + 1) cancels) taken
taken_not p names commands heard cancels taken i cancel less is not was =
    seen_more p names commands heard cancels taken i cancel less is
    (taken_same p names commands heard (take i cancels) taken cancel
    (λ can. absurd (false≢true (sym not ∙ can))) was)

pub taken_more : (p : State) (names : Names) (commands : List Command) (heard : List Ended)
    (cancels taken new : List CommandCancel) (i : ℕ) (cancel copy : CommandCancel)
    → i < length cancels → cancel ≡ get_or cancels i cancel
    → list_any (λ (x : CommandCancel). x.command == cancel.command) taken ≡ false
    → can_cancel p names commands heard cancel.command ≡ true → copy ≡ cancel
    → new ≡ taken ++ copy ∷ []
    → AreTaken p names commands heard (take i cancels) taken
    → AreTaken p names commands heard (take (i + 1) cancels) new
taken_more p names commands heard cancels taken new i cancel copy less is none can same appends
    was =
    subst (λ (xs : List CommandCancel). AreTaken p names commands heard (take (i + 1) cancels) xs)
    (ap (λ (x : CommandCancel). taken ++ x ∷ []) (sym same) ∙ sym appends)
    (seen_more p names commands heard cancels (taken ++ cancel ∷ []) i cancel less is
    (taken_new p names commands heard (take i cancels) taken cancel none can was))

-- ---- which were recorded

started_at : (taken : List CommandCancel) (rest : List Reply) (i : ℕ) → i < length taken
    → are_started (drop i taken) rest
    ≡ (is_some (first_started rest) && are_started (drop (i + 1) taken) (drop 3 rest))
started_at [] rest i less = absurd (omega (arith, less))
started_at (cancel ∷ taken) rest i less =
    ap (λ (xs : List CommandCancel). are_started xs rest)
    (from_here (cancel ∷ taken) i (get_or (cancel ∷ taken) i cancel) less
    (get_or_any (cancel ∷ taken) i cancel less))

pub started_none : (taken : List CommandCancel) (rest : List Reply) (i : ℕ) → i < length taken
    → first_started rest ≡ None → are_started (drop i taken) rest ≡ false
started_none taken rest i less none =
    started_at taken rest i less
    ∙ ap (λ (o : Option ℕ). is_some o && are_started (drop (i + 1) taken) (drop 3 rest)) none

pub started_next : (taken : List CommandCancel) (rest : List Reply) (i n : ℕ) → i < length taken
    → first_started rest ≡ Some n
    → are_started (drop i taken) rest ≡ are_started (drop (i + 1) taken) (drop 3 rest)
started_next taken rest i n less some =
    started_at taken rest i less
    ∙ ap (λ (o : Option ℕ). is_some o && are_started (drop (i + 1) taken) (drop 3 rest)) some

-- ---- texts

all_taken : (test : ℕ → Bool) (xs : List ℕ) (n : ℕ) → list_all test xs ≡ true
    → list_all test (take n xs) ≡ true
all_taken test [] n all = by_number n
  where
    by_number : (n : ℕ) → list_all test (take n []) ≡ true
    by_number zero = refl
    by_number (suc n) = refl
all_taken test (x ∷ xs) zero all = refl
all_taken test (x ∷ xs) (suc n) all =
    let parts = and_parts (test x) (list_all test xs) all in
    ap (λ b. b && list_all test (take n xs)) parts.0 ∙ all_taken test xs n parts.1

-- It is a text again.
pub text_again : (why : List ℕ) → IsText why → IsText (canceled_text why)
text_again why is =
    let all = (and_parts _ (list_all is_text_byte why) is).1 in
    let few : length (take 54 why) ≤ 54 = omega (arith, length-take 54 why) in
    and_from _ _
    (and_from _ _ (le-leb 1 (length (canceled_text why)) (omega arith))
    (le-leb (length (canceled_text why)) 64 (omega (arith, few))))
    (all_taken is_text_byte why 54 all)
