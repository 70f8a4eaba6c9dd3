-- Only scopes that can be canceled have hits, which are in the past and agree with the deadlines.
use Rattle.run_model.proofs.Common.{◌≡◌, ◌≤◌, ℕ, Bool, true, false, List, Option, Some, None}
use Rattle.run_model.proofs.Common.{slice_get, inl, inr, refl, sym, ap, ◌∙◌, arith, option_map_or}
use Rattle.run_model.proofs.Common.{option_and_then, option_or, is_some, nat_le, IsSome}
use Rattle.run_model.proofs.Common.{if◌then◌else◌, leb-true, le-leb, both_ways, none-some}
use Rattle.run_model.proofs.Common.{same_Some, at_row, new_scope, AreHits, AreDeadlines}
use Rattle.run_model.proofs.Common.{can_be_hit, HasRow, own_hit, own_deadline, State, TreeState}
use Rattle.run_model.proofs.Common.{WorkState, with_hit, tick, hit_due, after_derive}
use Rattle.run_model.proofs.Common.{after_advance, new_hit, push_cases, at_row_cases, map_cases}
use Rattle.run_model.specs.declared.scopes.Hit.{Hit}
use Rattle.run_model.specs.declared.scopes.Kind.{Kind}
use Rattle.run_model.specs.declared.scopes.Kind.TheVariants as kind
use Rattle.run_model.specs.declared.scopes.Reason.TheVariants.{Canceled, DeadlineExceeded}
use Rattle.run_model.specs.declared.scopes.Scope.{Scope}

-- A hit that a row of this kind can have after n events, at this clock.
pub record IsRightHit (n clock : ℕ) (of : Kind) (hit : Hit) : Type 0 where
  pub kind : can_be_hit of ≡ true
  pub counted : 1 ≤ hit.event
  pub event : hit.event ≤ n
  pub moment : hit.moment ≤ clock
  pub deadline : hit.reason ≡ DeadlineExceeded → own_deadline of ≡ Some hit.moment

-- The rules about hits and deadlines, for one row.
pub record IsRightScope (n clock : ℕ) (row : Scope) : Type 0 where
  pub hit : (hit : Hit) → row.hit ≡ Some hit → IsRightHit n clock row.kind hit
  pub come : (moment : ℕ) → own_deadline row.kind ≡ Some moment → moment ≤ clock → IsSome row.hit

not_exceeded : Canceled ≡ DeadlineExceeded → ⊥
not_exceeded same = cc

abbrev pub AreRight : ℕ → TreeState → Type 0
AreRight n t = (s : ℕ) (row : Scope) → HasRow t.scopes s row → IsRightScope n t.clock row

-- ---- from the rules, and back

pub some_hit : {X : Type 0} (o : Option X) → IsSome o → (x : X) × (o ≡ Some x)
some_hit None is = absurd (both_ways false refl is)
some_hit (Some x) is = (x, refl)

hit_of : (o : Option Scope) (hit : Hit) → option_and_then (λ row. row.hit) o ≡ Some hit
    → (row : Scope) × (o ≡ Some row) × (row.hit ≡ Some hit)
hit_of None hit found = absurd (none-some hit found)
hit_of (Some row) hit found = (row, refl, found)

pub own_hit_of : (rows : List Scope) (s : ℕ) (row : Scope) → slice_get rows s ≡ Some row
    → own_hit rows s ≡ row.hit
own_hit_of rows s row found = ap (λ o. option_and_then (λ row. row.hit) o) found

pub are_right : (p : State) → AreHits p → AreDeadlines p.tree → AreRight p.count p.tree
are_right p hits deadlines s row found = record {
  hit =
      λ hit has.
      let own : own_hit p.tree.scopes s ≡ Some hit =
      own_hit_of p.tree.scopes s row found ∙ has in
      record {
        kind = hits.kinds s row found (ap is_some has);
        counted = hits.counted s hit own;
        event = hits.past.events s hit own;
        moment = hits.past.moments s hit own;
        deadline = deadlines.own s row hit found has;
      };
  come = λ moment is reached. deadlines.come s moment row found is reached;
}

pub hits_right : (n : ℕ) (t : TreeState) (w : WorkState) → AreRight n t
    → AreHits (record { count = n; tree = t; work = w })
hits_right n t w right = record {
  kinds =
      λ s row found is.
      let hit = some_hit row.hit is in ((right s row found).hit hit.0 hit.1).kind;
  counted =
      λ s hit own.
      let row = hit_of (slice_get t.scopes s) hit own in
      ((right s row.0 row.1).hit hit row.2).counted;
  past = record {
    events =
        λ s hit own.
        let row = hit_of (slice_get t.scopes s) hit own in
        ((right s row.0 row.1).hit hit row.2).event;
    moments =
        λ s hit own.
        let row = hit_of (slice_get t.scopes s) hit own in
        ((right s row.0 row.1).hit hit row.2).moment;
  };
}

pub deadlines_right : (n : ℕ) (t : TreeState) → AreRight n t → AreDeadlines t
deadlines_right n t right = record {
  own = λ s row hit found has. ((right s row found).hit hit has).deadline;
  come = λ s moment row found is reached. (right s row found).come moment is reached;
}

-- ---- one row

later_hit : (n m clock later : ℕ) (kind : Kind) (hit : Hit) → n ≤ m → clock ≤ later
    → IsRightHit n clock kind hit → IsRightHit m later kind hit
later_hit n m clock later kind hit more passed right = record {
  kind = right.kind;
  counted = right.counted;
  event = omega (arith, more, right.event);
  moment = omega (arith, passed, right.moment);
  deadline = right.deadline;
}

-- The hit of a row that had one, or gets this one.
either_hit : (n clock : ℕ) (kind : Kind) (o : Option Hit) (new hit : Hit)
    → ((old : Hit) → o ≡ Some old → IsRightHit n clock kind old) → IsRightHit n clock kind new
    → option_or o (Some new) ≡ Some hit → IsRightHit n clock kind hit
either_hit n clock kind None new hit old right is = rw (← same_Some new hit is) right
either_hit n clock kind (Some x) new hit old right is = old hit is

pub or_else_some : {X : Type 0} (o : Option X) (x : X) → IsSome (option_or o (Some x))
or_else_some None x = refl
or_else_some (Some y) x = refl

pub right_hit : (n m clock : ℕ) (row : Scope) (new : Hit) → n ≤ m → IsRightScope n clock row
    → IsRightHit m clock row.kind new → IsRightScope m clock (with_hit new row)
right_hit n m clock row new more right new_right = record {
  hit =
      λ hit is.
      either_hit m clock row.kind row.hit new hit
      (λ old has. later_hit n m clock clock row.kind old more (omega arith) (right.hit old has))
      new_right is;
  come = λ moment is reached. or_else_some row.hit new;
}

-- ---- a row as event e leaves it at a clock

undue : (e clock : ℕ) (row : Scope) → own_deadline row.kind ≡ None
    → ((hit : Hit) → row.hit ≡ Some hit → IsRightHit e clock row.kind hit)
    → IsRightScope e clock row
undue e clock row none right = record {
  hit = right;
  come = λ moment is reached. absurd (none-some moment (sym none ∙ is));
}

due : (b : Bool) (e clock m : ℕ) (cause : Option (List ℕ)) (row : Scope) → 1 ≤ e
    → row.kind ≡ kind.Deadline m cause → nat_le m clock ≡ b
    → ((hit : Hit) → row.hit ≡ Some hit → IsRightHit e clock row.kind hit)
    → IsRightScope e clock
    (option_map_or (λ hit. with_hit hit row)
    (if b then Some (new_hit e m DeadlineExceeded cause) else None) row)
due true e clock m cause row counted is reached right = record {
  hit = λ hit has. either_hit e clock row.kind row.hit
      (new_hit e m DeadlineExceeded cause) hit right (record {
        kind = ap can_be_hit is;
        counted = counted;
        event = omega arith;
        moment = leb-true m clock reached;
        deadline = λ by. ap own_deadline is;
      }) has;
  come = λ moment has passed. or_else_some row.hit (new_hit e m DeadlineExceeded cause);
}
due false e clock m cause row counted is reached right = record {
  hit = right;
  come =
      λ moment has passed.
      let same : m ≡ moment = same_Some m moment (sym (ap own_deadline is) ∙ has) in
      absurd
      (both_ways (nat_le m clock) reached (le-leb m clock (omega (arith, same, passed))));
}

tick_of : (of : Kind) (e clock : ℕ) (row : Scope) → 1 ≤ e → row.kind ≡ of
    → ((hit : Hit) → row.hit ≡ Some hit → IsRightHit e clock row.kind hit)
    → IsRightScope e clock (option_map_or (λ hit. with_hit hit row) (hit_due e clock of) row)
tick_of kind.Root e clock row counted is right = undue e clock row (ap own_deadline is) right
tick_of kind.Cancel e clock row counted is right = undue e clock row (ap own_deadline is) right
tick_of kind.Cause e clock row counted is right = undue e clock row (ap own_deadline is) right
tick_of (kind.Deadline m cause) e clock row counted is right =
    due (nat_le m clock) e clock m cause row counted is refl right
tick_of (kind.Value key text) e clock row counted is right =
    undue e clock row (ap own_deadline is) right
tick_of kind.Detached e clock row counted is right =
    undue e clock row (ap own_deadline is) right
tick_of kind.Group e clock row counted is right = undue e clock row (ap own_deadline is) right

-- It is right where the hit that it had was.
pub right_tick : (e clock : ℕ) (row : Scope) → 1 ≤ e
    → ((hit : Hit) → row.hit ≡ Some hit → IsRightHit e clock row.kind hit)
    → IsRightScope e clock (tick e clock row)
right_tick e clock row counted right = tick_of row.kind e clock row counted refl right

-- ---- the rows that an event leaves

later_scope : (n m clock : ℕ) (row : Scope) → n ≤ m → IsRightScope n clock row
    → IsRightScope m clock row
later_scope n m clock row more right = record {
  hit =
      λ hit has. later_hit n m clock clock row.kind hit more (omega arith) (right.hit hit has);
  come = right.come;
}

pub later_right : (n m : ℕ) (t : TreeState) → n ≤ m → AreRight n t → AreRight m t
later_right n m t more right s row found = later_scope n m t.clock row more (right s row found)

pub right_pushed : (e : ℕ) (name : List ℕ) (parent : ℕ) (of : Kind) (t : TreeState) → 1 ≤ e
    → AreRight e t → AreRight e (after_derive e name parent of t)
right_pushed e name parent of t counted right s row found =
    elim (push_cases t.scopes (tick e t.clock (new_scope name parent of)) s row found) [
      | inl was ↦ right s row was
      | inr last ↦
          rw (last.1)
          (right_tick e t.clock (new_scope name parent of) counted
          (λ hit has. absurd (none-some hit has)))
    ]

pub right_advanced : (n e moment : ℕ) (t : TreeState) → n ≤ e → 1 ≤ e → t.clock ≤ moment
    → AreRight n t → AreRight e (after_advance e moment t)
right_advanced n e moment t more counted passed right s row found =
    let was = map_cases (tick e moment) s t.scopes row found in
    rw (was.2)
    (right_tick e moment was.0 counted
    (λ hit has.
    later_hit n e t.clock moment was.0.kind hit more passed
    ((right s was.0 was.1).hit hit has)))

pub right_cancelled : (e s : ℕ) (hit : Hit) (t : TreeState)
    → ((row : Scope) → HasRow t.scopes s row → IsRightHit e t.clock row.kind hit) → AreRight e t
    → AreRight e (record t { scopes = at_row (with_hit hit) s t.scopes })
right_cancelled e s hit t new right k row found =
    elim (at_row_cases (with_hit hit) s k t.scopes row found) [
      | inl other ↦ right k row other.1
      | inr here ↦
          rw (here.changed)
          (right_hit e e t.clock here.old hit (omega arith) (right k here.old here.found)
          (new here.old (rw (here.here) at here.found)))
    ]

-- A cancellation is right on each scope that can be canceled.
pub right_cancellation : (e clock : ℕ) (cause : Option (List ℕ)) (of : Kind) → 1 ≤ e
    → can_be_hit of ≡ true → IsRightHit e clock of (new_hit e clock Canceled cause)
right_cancellation e clock cause of counted is = record {
  kind = is;
  counted = counted;
  event = omega arith;
  moment = omega arith;
  deadline = λ by. absurd (not_exceeded by);
}
