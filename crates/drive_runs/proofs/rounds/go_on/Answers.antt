use Rattle.std.proofs.Common.{Bool, Global, List, MatchOption, Option, Vec, ap, append-nil, false}
use Rattle.std.proofs.Common.{inl, inr, length, refl, subst, sym, true, ◌∙◌, ◌≡◌, ℕ}
use Rattle.std.specs.Prelude.{is_none}
use Rattle.std.specs.Bool.{OnTrue}
use Rattle.std.specs.List.{list_any}
use Rattle.std.specs.Option.{option_map}
use Rattle.run_model.specs.State.{State}
use Rattle.drive_lines.specs.declared.orders.Order.{Order}
use Rattle.drive_steps.specs.declared.reported.Begun.{Begun}
use Rattle.drive_runs.specs.declared.living.Living.{Living}
use Rattle.drive_runs.specs.Asks.{questions_of}
use Rattle.drive_runs.specs.Begins.{Begins}
use Rattle.drive_runs.specs.Living.{tries_of, with_begun}
use Rattle.drive_runs.specs.Rounds.{AreBegins}
use Rattle.drive_runs.specs.Tries.{try_name}
use Rattle.drive_runs.proofs.Apart.{sitting_distinct}
use Rattle.drive_runs.proofs.Every.{all_below}
use Rattle.drive_runs.proofs.Going.{goes_unbegun, has_begun, tries_begun}
use Rattle.drive_runs.proofs.rounds.go_on.Goals as goal

on_true : {P : Type 0} (b : Bool) → b ≡ true → OnTrue b P → P
on_true true is holds = holds
on_true false is holds = absurd (cc is)

pub begin-requires-clause-distinct : goal.begin-requires-clause-distinct
begin-requires-clause-distinct g c = sitting_distinct c.args.sitting.now

pub more_orders-requires : goal.more_orders-requires
more_orders-requires g c =
    on_true c.are_of_plan.result c.if-not-are_of_plan.false
    (all_below (λ (one : Living). one.command) (length c.args.sitting.now.plan.commands.items) _
    c.are_of_plan.result c.are_of_plan.ensures)

pub returns-in_default-clause-goes_on : goal.returns-in_default-clause-goes_on
returns-in_default-clause-goes_on g c =
    let before = c.args.sitting.now in
    let made = c.in_ok-choice.field-0 in
    goes_unbegun g.D.RunDisk.state before _ (questions_of c.args.heard.now) c.args.book.now
    c.begin.new.book
    made (subst (λ (sizes : List ℕ). Begins g.D.RunDisk.state before.kept.ends before.plan
    before.names sizes c.args.book.now made c.begin.new.book) c.as_slice.ensures.value
    c.in_ok-choice.ensures.begins) c.in_default.is (record {
      others = record {
        same = record { plan = refl; names = refl; untils = refl; all = refl; night = refl };
        sizes = refl;
        ends = refl;
      };
      living = sym (append-nil before.kept.living.items);
    }) c.unbegun.result c.unbegun.ensures

pub returns-in_default-2-clause-goes_on : goal.returns-in_default-2-clause-goes_on
returns-in_default-2-clause-goes_on g c =
    let before = c.args.sitting.now in
    let made = c.in_ok-choice.field-0 in
    let new = c.begin.new.book in
    let begun = c.in-Some.begun.items in
    let grown = c.in_ok-add_begun.ensures ∙ ap (λ (l : List Begun).
    with_begun before.kept.living.items l) c.as_slice-2.ensures.value in (
      made,
      subst (λ (sizes : List ℕ). Begins g.D.RunDisk.state before.kept.ends before.plan
          before.names sizes c.args.book.now made new) c.as_slice.ensures.value
          c.in_ok-choice.ensures.begins,
      inr record {
        begun = begun;
        reported =
            ap (λ (o : Option (Vec Begun Global)). option_map (λ all. all.items) o) c.in-Some.is;
        left = record {
          others = record {
            same = record { plan = refl; names = refl; untils = refl; all = refl; night = refl };
            sizes = refl;
            ends = refl;
          };
          living = grown;
        };
        lost = inl (subst (λ (p : State). list_any (λ (begin : Begun).
            is_none (try_name p begin.task)) begun ≡ true) c.state.ensures.state
            (subst (λ (all : List Begun). list_any (λ (begin : Begun).
            is_none (try_name c.state.result.now begin.task)) all ≡ true)
            c.as_slice-4.ensures.value
            (subst (λ (o : Option (Vec Order Global)). MatchOption o
            (list_any (λ (begin : Begun). is_none (try_name c.state.result.now begin.task))
            c.as_slice-4.result.now ≡ true)
            (λ orders. AreBegins c.state.result.now c.as_slice-4.result.now orders.items))
            c.in_default-2.is c.in_ok-orders.ensures)));
      },
    )

pub returns-then-not-are_of_plan-clause-goes_on : goal.returns-then-not-are_of_plan-clause-goes_on
returns-then-not-are_of_plan-clause-goes_on g c =
    let before = c.args.sitting.now in
    let made = c.in_ok-choice.field-0 in
    let new = c.begin.new.book in
    let begun = c.in-Some.begun.items in
    let grown = c.in_ok-add_begun.ensures ∙ ap (λ (l : List Begun).
    with_begun before.kept.living.items l) c.as_slice-2.ensures.value in (
      made,
      subst (λ (sizes : List ℕ). Begins g.D.RunDisk.state before.kept.ends before.plan
          before.names sizes c.args.book.now made new) c.as_slice.ensures.value
          c.in_ok-choice.ensures.begins,
      inr record {
        begun = begun;
        reported =
            ap (λ (o : Option (Vec Begun Global)). option_map (λ all. all.items) o) c.in-Some.is;
        left = record {
          others = record {
            same = record { plan = refl; names = refl; untils = refl; all = refl; night = refl };
            sizes = refl;
            ends = refl;
          };
          living = grown;
        };
        lost = inr (sym c.are_of_plan.ensures ∙ c.if-not-are_of_plan.true);
      },
    )

pub returns-clause-goes_on : goal.returns-clause-goes_on
returns-clause-goes_on g c =
    let before = c.args.sitting.now in
    let after = c.more_orders.new.sitting in
    let new = c.begin.new.book in
    let begun = c.in-Some.begun.items in
    let begins = c.in-Some-2.orders.items in
    let grown = c.in_ok-add_begun.ensures ∙ ap (λ (l : List Begun).
    with_begun before.kept.living.items l) c.as_slice-2.ensures.value in
    has_begun g.D.RunDisk.state c.args.book.now new before _ after c.in_ok-choice.field-0 begun
    begins c.state-state.ensures.replays.replays
    (subst (λ (sizes : List ℕ). Begins g.D.RunDisk.state before.kept.ends before.plan
    before.names sizes c.args.book.now c.in_ok-choice.field-0 new) c.as_slice.ensures.value
    c.in_ok-choice.ensures.begins)
    (ap (λ (o : Option (Vec Begun Global)). option_map (λ all. all.items) o) c.in-Some.is)
    (subst (λ (p : State). AreBegins p begun begins) c.state.ensures.state
    (subst (λ (all : List Begun). AreBegins c.state.result.now all begins)
    c.as_slice-4.ensures.value
    (subst (λ (o : Option (Vec Order Global)). MatchOption o
    (list_any (λ (begin : Begun). is_none (try_name c.state.result.now begin.task))
    c.as_slice-4.result.now ≡ true)
    (λ orders. AreBegins c.state.result.now c.as_slice-4.result.now orders.items))
    c.in-Some-2.is c.in_ok-orders.ensures)))
    (record {
      same = record { plan = refl; names = refl; untils = refl; all = refl; night = refl };
      sizes = refl;
      ends = refl;
      living = ap (λ (l : List Living). tries_of l) grown
          ∙ tries_begun before.kept.living.items begun;
    }) grown (questions_of c.args.heard.now) c.state-2.result.now c.in_ok-all.all
    c.state-2.ensures.state
    c.in_ok-all.ensures.lines c.in_ok-all.ensures.living
