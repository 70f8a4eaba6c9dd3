-- Each event that is allowed keeps the rules, and so does a run of them.
use Rattle.run_model.proofs.Common.{◌≡◌, true, List, Some, subst, ◌+◌, [], ◌∷◌, arith, and_parts}
use Rattle.run_model.proofs.Common.{eqb-true, leb-false, not-false, same_Some, cond_some}
use Rattle.run_model.proofs.Common.{option_and_then_some, after, allowed, refusals, run, Event}
use Rattle.run_model.proofs.Common.{IsConsistent, State, step, unfinished_in, each_fails, is_first}
use Rattle.run_model.specs.declared.tasks.Outcome.TheVariants as outcome
use Rattle.run_model.specs.Event as event
use Rattle.model_laws.proofs.Ends.{consistent_wait}
use Rattle.model_laws.proofs.GroupEvents.{made, made_bare, limited}
use Rattle.model_laws.proofs.Reopening.{reopened}
use Rattle.model_laws.proofs.TaskEvents.{submitted, retried, started, succeeded, failed}
use Rattle.model_laws.proofs.TreeEvents.{derived, cancelled, advanced}

pub kept_by : (p : State) (event : Event) → IsConsistent p → allowed p event ≡ true
    → IsConsistent (step p event)
kept_by p (event.Derive name parent k) kept may =
    let both = and_parts _ _ may in
    let parts = each_fails (refusals p (event.Derive name parent k)) both.1 in
    derived p name parent k both.0 (not-false _ parts.0) (not-false _ parts.1.0)
    (not-false _ parts.1.1.0) kept
kept_by p (event.Cancel s cause) kept may =
    let parts = each_fails (refusals p (event.Cancel s cause)) may in
    cancelled p s cause (not-false _ parts.1.0) kept
kept_by p (event.Advance moment) kept may =
    let parts = each_fails (refusals p (event.Advance moment)) may in
    advanced p moment (leb-false moment p.tree.clock parts.0) kept
kept_by p (event.Group name parent) kept may =
    let parts = each_fails (refusals p (event.Group name parent)) may in
    made p name parent (not-false _ parts.0) (not-false _ parts.1.0) (not-false _ parts.1.1.0)
    (not-false _ parts.1.1.1.0) (not-false _ parts.1.1.1.1.0) kept
kept_by p (event.Bare name s) kept may =
    let parts = each_fails (refusals p (event.Bare name s)) may in
    made_bare p name s (not-false _ parts.0) (not-false _ parts.1.0) (not-false _ parts.1.1.0) kept
kept_by p (event.SetLimit g limit) kept may =
    let parts = each_fails (refusals p (event.SetLimit g limit)) may in
    limited p g limit (eqb-true (unfinished_in g p.work.tasks) 0 (not-false _ parts.1.1.0)) kept
kept_by p (event.Go g job argument) kept may =
    let parts = each_fails (refusals p (event.Go g job argument)) may in
    submitted p g job argument (not-false _ parts.1.0) (not-false _ parts.1.1.0) kept
kept_by p (event.TryGo g job argument) kept may =
    let parts = each_fails (refusals p (event.TryGo g job argument)) may in
    submitted p g job argument (not-false _ parts.1.0) (not-false _ parts.1.1.0) kept
kept_by p (event.Retry n) kept may =
    let parts = each_fails (refusals p (event.Retry n)) may in
    retried p n (not-false _ parts.1.0) parts.1.1.0 (not-false _ parts.1.1.1.0)
    (not-false _ parts.1.1.1.1.0) kept
kept_by p (event.Start n) kept may = started p n (is_first _ _ may) kept
kept_by p (event.Finish n outcome.Success) kept may =
    let parts = each_fails (refusals p (event.Finish n outcome.Success)) may in
    succeeded p n (not-false _ parts.1.0) kept
kept_by p (event.Finish n (outcome.Failure text)) kept may =
    let parts = each_fails (refusals p (event.Finish n (outcome.Failure text))) may in
    failed p n text (not-false _ parts.1.0) kept
kept_by p (event.Wait g) kept may =
    let parts = each_fails (refusals p (event.Wait g)) may in
    consistent_wait p (p.count + 1) g (omega arith) (omega arith)
    (eqb-true (unfinished_in g p.work.tasks) 0 (not-false _ parts.1.0)) kept
kept_by p event.Restart kept may = reopened p kept

pub event_keeps : (p q : State) (event : Event) → IsConsistent p → after p event ≡ Some q
    → IsConsistent q
event_keeps p q event kept led =
    let parts = cond_some (allowed p event) (step p event) q led in
    subst IsConsistent parts.1 (kept_by p event kept parts.0)

pub run_keeps : (events : List Event) (p q : State) → IsConsistent p → run p events ≡ Some q
    → IsConsistent q
run_keeps [] p q kept led = subst IsConsistent (same_Some p q led) kept
run_keeps (event ∷ events) p q kept led =
    option_and_then_some (λ next. run next events) (after p event) q led
    (λ next first rest. run_keeps events next q (event_keeps p next event kept first) rest)
