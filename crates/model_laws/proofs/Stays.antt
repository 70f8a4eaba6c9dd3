-- The hit that ended a scope stays, since every later hit is of a later event.
use Rattle.run_model.proofs.Common.{◌≡◌, ◌+◌, ◌<◌, ℕ, Bool, true, false, cond, List, length}
use Rattle.run_model.proofs.Common.{Option, Some, None, inl, inr, refl, subst, ap, ◌∙◌, arith}
use Rattle.run_model.proofs.Common.{option_map, option_and_then, IfSome, none-some, Event, State}
use Rattle.run_model.proofs.Common.{TreeState, comes_before, first_hit, ending, AreOrdered}
use Rattle.run_model.proofs.Common.{after_derive, after_cancel, after_advance, step, allowed}
use Rattle.run_model.proofs.Common.{after, run}
use Rattle.run_model.specs.declared.scopes.Hit.{Hit}
use Rattle.run_model.specs.declared.scopes.Reason.{Reason}
use Rattle.run_model.specs.declared.scopes.Scope.{Scope}
use Rattle.run_model.specs.Scopes.{cause_of, reason_of}
use Rattle.run_model.specs.declared.scopes.Kind.{Kind}
use Rattle.run_model.specs.Rules.{ArePast, IsWellFormed}
use Rattle.model_laws.specs.Searches.{joined}
use Rattle.model_laws.specs.Endings.{AreEarlier, EndingsStay, KeepsEndings}
pub use Rattle.model_laws.proofs.Relates.{earlier_comes_before, later_comes_after}
use Rattle.model_laws.proofs.Relates.{IsKept, RowsRelate, first_hits_relate}
use Rattle.model_laws.proofs.RunLemmas.{after_allowed, after_step, run_keeps}
use Rattle.model_laws.proofs.Follows.{HitFollows, RowsFollow, derived, ticked, cancel_follows}
use Rattle.model_laws.proofs.Steps.{event_follows}
use Rattle.model_laws.proofs.WellFormed.{ordered_follow, well_formed_after}

-- ---- one hit after an event

-- A hit of an event before e stays; where there was none, there is at most one of event e.
abbrev StaysBy : {X : Type 0} → (X → ℕ) → ℕ → Option X → Option X → Type 0
StaysBy event e None new = IfSome new (λ a. event a ≡ e)
StaysBy event e (Some a) new = (new ≡ Some a) × (event a < e)

abbrev OwnStays : ℕ → Option Hit → Option Hit → Type 0
OwnStays e old new = StaysBy (λ hit. hit.event) e old new

abbrev FirstStays : ℕ → Option (ℕ × Hit) → Option (ℕ × Hit) → Type 0
FirstStays e old new = StaysBy (λ a. a.1.event) e old new

own_stays : (e now : ℕ) (old new : Option Hit) → HitFollows e now old new
    → ((hit : Hit) → old ≡ Some hit → hit.event < e) → OwnStays e old new
own_stays e now (Some hit) new follows earlier = (follows.stays hit refl, earlier hit refl)
own_stays e now None None follows earlier = tt
own_stays e now None (Some hit) follows earlier =
    elim (follows.comes hit refl) [ inl had ↦ absurd (none-some hit had) | inr of ↦ of.event ]

joined_stays : (e s : ℕ) (up up' : Option (ℕ × Hit)) (own own' : Option Hit)
    → FirstStays e up up' → OwnStays e own own' → FirstStays e (joined up s own) (joined up' s own')
joined_stays e s (Some a) up' (Some hit) own' high low = (
  ap (λ x. joined x s own') high.0 ∙ ap (joined (Some a) s) low.0,
  by_order (comes_before (s, hit) a),
)
  where
    by_order : (b : Bool) → (cond b (s, hit) a).1.event < e
    by_order true = low.1
    by_order false = high.1
joined_stays e s (Some a) up' None None high low = high
joined_stays e s (Some a) up' None (Some hit) high low =
    let behind : comes_before (s, hit) a ≡ false =
    later_comes_after (s, hit) a (omega (arith, high.1, low)) in
    (ap (λ x. joined x s (Some hit)) high.0 ∙ ap (λ b. Some (cond b (s, hit) a)) behind, high.1)
joined_stays e s None None (Some hit) own' high low = (ap (joined None s) low.0, low.1)
joined_stays e s None (Some a) (Some hit) own' high low =
    let before : comes_before (s, hit) a ≡ true =
    earlier_comes_before (s, hit) a (omega (arith, high, low.1)) in
    (ap (joined (Some a) s) low.0 ∙ ap (λ b. Some (cond b (s, hit) a)) before, low.1)
joined_stays e s None up' None None high low = high
joined_stays e s None None None (Some hit) high low = low
joined_stays e s None (Some a) None (Some hit) high low = by_order (comes_before (s, hit) a)
  where
    by_order : (b : Bool) → (cond b (s, hit) a).1.event ≡ e
    by_order true = low
    by_order false = high

stays_kept : (e : ℕ) → IsKept (FirstStays e) (OwnStays e)
stays_kept e = record { none = tt; join = joined_stays e }

rows_stay : (e now : ℕ) (old new : List Scope) → AreEarlier old e → RowsFollow e now old new
    → RowsRelate (OwnStays e) old new
rows_stay e now old new earlier follows s a at =
    let b = follows.kept s a at in
    let own = option_and_then (λ row. row.hit) in (
      b.0,
      b.1,
      record {
        kind = b.2.kind;
        parent = b.2.parent;
        hit = own_stays e now a.hit b.0.hit b.2.hit (λ hit has. earlier s hit (ap own at ∙ has));
      },
    )

pub first_hit_kept : (e now : ℕ) (old new : List Scope) → AreOrdered old → AreEarlier old e
    → RowsFollow e now old new → (s : ℕ) (a : ℕ × Hit) → first_hit old s ≡ Some a
    → first_hit new s ≡ Some a
first_hit_kept e now old new ordered earlier follows s a done =
    let ordered' = ordered_follow e now old new follows ordered in
    let rows = rows_stay e now old new earlier follows in
    (first_hits_relate (FirstStays e) (OwnStays e) (stays_kept e) old new ordered ordered' rows s a
    done).0

-- ---- reason and cause

pub map_stays : {X Y : Type 0} (f : X → Y) (old new : Option X)
    → ((x : X) → old ≡ Some x → new ≡ Some x) → (y : Y) → option_map f old ≡ Some y
    → option_map f new ≡ Some y
map_stays f None new stays y has = absurd (none-some y has)
map_stays f (Some x) new stays y has = ap (option_map f) (stays x refl) ∙ has

pub reasons_stay : (old new : List Scope) → EndingsStay old new → (s : ℕ) (reason : Reason)
    → reason_of old s ≡ Some reason → reason_of new s ≡ Some reason
reasons_stay old new stay s = map_stays (λ hit. hit.reason) (ending old s) (ending new s) (stay s)

pub causes_stay : (old new : List Scope) → EndingsStay old new → (s : ℕ) (cause : List ℕ)
    → cause_of old s ≡ Some cause → cause_of new s ≡ Some cause
causes_stay old new stay s = map_stays (λ hit. hit.cause) (ending old s) (ending new s) (stay s)

pub endings_same : (rows : List Scope) → EndingsStay rows rows
endings_same rows s hit done = done

pub endings_join : (a b c : List Scope) → EndingsStay a b → EndingsStay b c → EndingsStay a c
endings_join a b c first second s hit done = second s hit (first s hit done)

-- The rows after event e, if each earlier hit is of an earlier event.
pub endings_follow : (e now : ℕ) (old new : List Scope) → AreOrdered old → AreEarlier old e
    → RowsFollow e now old new → EndingsStay old new
endings_follow e now old new ordered earlier follows s =
    map_stays (λ a. a.1) (first_hit old s) (first_hit new s)
    (first_hit_kept e now old new ordered earlier follows s)

-- ---- changes of a tree

pub endings_derive : (e : ℕ) (name : List ℕ) (parent : ℕ) (kind : Kind) (t : TreeState)
    → parent < length t.scopes → KeepsEndings e (after_derive e name parent kind) t
endings_derive e name parent kind t known ordered earlier =
    endings_follow e t.clock t.scopes (after_derive e name parent kind t).scopes ordered earlier
    (derived e t.clock name parent kind t.scopes known)

pub endings_cancel : (e s : ℕ) (cause : Option (List ℕ)) (t : TreeState)
    → KeepsEndings e (after_cancel e s cause) t
endings_cancel e s cause t ordered earlier =
    endings_follow e t.clock t.scopes (after_cancel e s cause t).scopes ordered earlier
    (cancel_follows e s cause t).rows

pub endings_advance : (e moment : ℕ) (t : TreeState) → KeepsEndings e (after_advance e moment) t
endings_advance e moment t ordered earlier =
    endings_follow e moment t.scopes (after_advance e moment t).scopes ordered earlier
    (ticked e moment t.scopes)

-- ---- events and runs

pub earlier_than_next : (t : TreeState) (count : ℕ) → ArePast t count
    → AreEarlier t.scopes (count + 1)
earlier_than_next t count past s hit has = omega (arith, past.events s hit has)

pub endings_step : (p : State) (event : Event) → IsWellFormed p → allowed p event ≡ true
    → EndingsStay p.tree.scopes (step p event).tree.scopes
endings_step p event good may =
    endings_follow (p.count + 1) (step p event).tree.clock p.tree.scopes (step p event).tree.scopes
    good.ordered (earlier_than_next p.tree p.count good.past)
    (event_follows (p.count + 1) p event may).rows

pub endings_after : (p q : State) (event : Event) → IsWellFormed p → after p event ≡ Some q
    → EndingsStay p.tree.scopes q.tree.scopes
endings_after p q event good came =
    subst (λ r. EndingsStay p.tree.scopes r.tree.scopes) (after_step p q event came)
    (endings_step p event good (after_allowed p q event came))

pub endings_run : (p q : State) (events : List Event) → IsWellFormed p → run p events ≡ Some q
    → EndingsStay p.tree.scopes q.tree.scopes
endings_run p q events good came =
    (run_keeps (λ r. IsWellFormed r × EndingsStay p.tree.scopes r.tree.scopes) keeps p q events
    (good, endings_same p.tree.scopes) came).1
  where
    keeps : (r next : State) (event : Event)
        → IsWellFormed r × EndingsStay p.tree.scopes r.tree.scopes → after r event ≡ Some next
        → IsWellFormed next × EndingsStay p.tree.scopes next.tree.scopes
    keeps r next event so_far came = (
      well_formed_after r next event so_far.0 came,
      endings_join p.tree.scopes r.tree.scopes next.tree.scopes so_far.1
          (endings_after r next event so_far.0 came),
    )
