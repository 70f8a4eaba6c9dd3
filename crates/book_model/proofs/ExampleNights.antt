-- The two sessions of the examples.
use Rattle.run_model.proofs.Common.{◌≡◌, ◌⊎◌, ◌≤◌, ◌++◌, ◌∷◌, [], ℕ, zero, suc, List, length}
use Rattle.run_model.proofs.Common.{take, Some, inl, inr, refl, sym, ap, subst, arith, same_Some}
use Rattle.run_model.proofs.Common.{flat_map, run, Event, State}
use Rattle.run_model.specs.declared.answers.Reply.{Reply}
use Rattle.run_model.specs.declared.commands.Step.{Step}
use Rattle.run_model.specs.declared.commands.Wish.TheVariants.{Cancel}
use Rattle.book_model.specs.Examples.Calls.{acked, derive, flush, scope_made}
use Rattle.book_model.specs.Machines.{GoesOn, Running, CrashesAt, Stored, TakesAll, opened_at, took}
use Rattle.book_model.specs.ManyNights.{moves_of}
use Rattle.book_model.specs.Stores.{restarted}
use Rattle.book_model.proofs.ManyNightsLemmas.{joined_moves, same_stored, spends, was_spent}
use Rattle.book_model.specs.Examples.Plays.{first_events}
use Rattle.book_model.specs.Examples.Stores.{two_events}
use Rattle.book_model.specs.Examples.TwoNights.{answered, after_first, first_night, second_night}
use Rattle.book_model.specs.Examples.TwoNights.{store}

-- The machine after these calls.
abbrev after : Running → List (Step × Reply) → Running
after m [] = m
after m ((x, r) ∷ calls) = after (took m x r) calls

-- After the answered steps of the first night.
abbrev after_answered : Running
after_answered = after (opened_at store) answered

-- The fifth is taken, whatever it would be answered.
last_history : (last : Running) (unreported : List Reply)
    → TakesAll after_answered (derive "d" "root" Cancel ∷ []) unreported last
    → last.book.session.history ≡ first_events ++ two_events
last_history last [] p = absurd p
last_history last (r ∷ []) (reported, is) = ap (λ (m : Running). m.book.session.history) is
last_history last (r ∷ s ∷ answers) (reported, p) = absurd p

-- Three events or more of the five lead to one of three states.
one_of : (many : ℕ) (q : State) → 3 ≤ many → many ≤ 5
    → run (restarted store) (take many (first_events ++ two_events)) ≡ Some q
    → (q ≡ after_first 3) ⊎ (q ≡ after_first 4) ⊎ (q ≡ after_first 5)
one_of (suc (suc (suc zero))) q least most led =
    inl (sym (same_Some (after_first 3) q led))
one_of (suc (suc (suc (suc zero)))) q least most led =
    inr (inl (sym (same_Some (after_first 4) q led)))
one_of (suc (suc (suc (suc (suc zero))))) q least most led =
    inr (inr (sym (same_Some (after_first 5) q led)))
one_of many q least most led = absurd (omega (arith, least, most))

pub three_states : (q : State) → GoesOn (Stored store) (moves_of first_night) (Stored q)
    → (q ≡ after_first 3) ⊎ (q ≡ after_first 4) ⊎ (q ≡ after_first 5)
three_states q goes =
    let spent = was_spent store (Stored q) answered (derive "d" "root" Cancel ∷ []) goes in
    let crashes = subst (λ m. CrashesAt m (derive "d" "root" Cancel ∷ []) spent.state)
    spent.takes.1.1.1.1.1 spent.crashes in
    let same = last_history crashes.last crashes.unreported crashes.takes in
    let five : length crashes.last.book.session.history ≡ 5 =
    ap (λ (l : List Event). length l) same in
    let many = crashes.prefix.many in
    rw (same_stored q spent.state spent.is)
    (one_of many spent.state crashes.prefix.enough (omega (arith, crashes.prefix.within, five))
    (subst (λ l. run (restarted store) (take many l) ≡ Some spent.state) same
    crashes.prefix.reached))

-- ---- both nights

stops_first : CrashesAt after_answered (derive "d" "root" Cancel ∷ []) (after_first 4)
stops_first = record {
  unreported = scope_made 4 ∷ [];
  last = took after_answered (derive "d" "root" Cancel) (scope_made 4);
  takes = (inl refl, refl);
  prefix = record { many = 4; enough = omega arith; within = omega arith; reached = refl };
}

-- The calls of the second night, and the machine after them.
abbrev answered_next : List (Step × Reply)
answered_next = (flush, acked 6) ∷ (derive "e" "root" Cancel, scope_made 4) ∷ []

abbrev after_second : Running
after_second = after (opened_at (after_first 4)) answered_next

stops_second : CrashesAt after_second [] (restarted (after_first 4))
stops_second = record {
  unreported = [];
  last = after_second;
  takes = refl;
  prefix = record { many = 0; enough = omega arith; within = omega arith; reached = refl };
}

pub both_nights : GoesOn (Stored store) (flat_map moves_of (first_night ∷ second_night ∷ []))
    (Stored (restarted (after_first 4)))
both_nights =
    let first = spends store (after_first 4) after_answered answered
    (derive "d" "root" Cancel ∷ [])
    (inl refl, (inl refl, (inl refl, (inl refl, (inl refl, refl))))) stops_first in
    let second = spends (after_first 4) (restarted (after_first 4)) after_second answered_next []
    (inl refl, (inl refl, refl)) stops_second in
    joined_moves (Stored store) (Stored (after_first 4)) (Stored (restarted (after_first 4)))
    (moves_of first_night) (moves_of second_night ++ []) first second
