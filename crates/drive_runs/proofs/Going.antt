-- A round goes on: if its row is reported, each task was started by it, and all is acknowledged.
use Rattle.std.specs.Prelude.{◌≡◌, ◌++◌, ℕ, List, [], ◌∷◌, Option, Some, None, map}
use Rattle.std.specs.Option.{option_map}
use Rattle.std.proofs.Common.{ap, append-nil, inl, refl, subst, sym, ◌∙◌}
use Rattle.std.proofs.lemmas.List.{map-append}
use Rattle.run_model.specs.declared.answers.Reply.{Reply}
use Rattle.run_model.specs.declared.commands.Step.{Step}
use Rattle.run_model.specs.declared.faults.Fault.{Fault}
use Rattle.run_model.specs.Session.{Session, accepted, replies}
use Rattle.run_model.specs.State.{State}
use Rattle.run_disk.specs.Disk.{DiskState}
use Rattle.model_laws.proofs.Stepping.{accepted_history}
use Rattle.book_model.specs.Books.{BookView, IsReached}
use Rattle.night_drive.specs.PlanTurns.{night_in}
use Rattle.plan_lines.specs.Rounds.{later_lines}
use Rattle.drive_lines.specs.declared.orders.Order.{Order}
use Rattle.drive_lines.specs.declared.orders.Order.TheVariants as order
use Rattle.drive_steps.specs.declared.reported.Begun.{Begun}
use Rattle.drive_steps.specs.Reported.{begins_reported}
use Rattle.drive_steps.specs.Starts.{row_of}
use Rattle.drive_runs.specs.declared.begins.Beginning.{Beginning}
use Rattle.drive_runs.specs.declared.living.Living.{Living}
use Rattle.drive_runs.specs.declared.rounds.Course.{Course}
use Rattle.drive_runs.specs.declared.rounds.Orders.{Orders}
use Rattle.drive_runs.specs.declared.sittings.Sitting.{Sitting}
use Rattle.drive_runs.specs.Asks.{Questions, error_lines}
use Rattle.drive_runs.specs.Begins.{Begins}
use Rattle.drive_runs.specs.Living.{tries_of, with_begun}
use Rattle.drive_runs.specs.Rounds.{AddsTries, AreBegins, AreOrders, AreStandings, AreStarted}
use Rattle.drive_runs.specs.Rounds.{GoesOn, HasBegun, LivesOn, asked_lines, unbegun}
use Rattle.drive_runs.specs.Stops.{AreDue, stop_line}
use Rattle.drive_runs.proofs.Faultless.{played_whole}
use Rattle.drive_runs.proofs.Starting.{all_started}

-- ---- the tries that live

fresh_tries : (begun : List Begun) → tries_of (with_begun [] begun) ≡ begun
fresh_tries [] = refl
fresh_tries (begin ∷ begun) = ap (λ (l : List Begun). begin ∷ l) (fresh_tries begun)

-- The tries that have begun live, too.
pub tries_begun : (living : List Living) (begun : List Begun)
    → tries_of (with_begun living begun) ≡ tries_of living ++ begun
tries_begun living begun =
    map-append (λ (one : Living). record { command = one.command; task = one.task }) living
    (with_begun [] begun)
    ∙ ap (λ (l : List Begun). tries_of living ++ l) (fresh_tries begun)

-- Nothing more has changed.
pub lives_then : (a b c : Sitting) (begun : List Begun) → LivesOn a begun b → LivesOn b [] c
    → LivesOn a begun c
lives_then a b c begun one two = record {
  same = record {
    plan = two.same.plan ∙ one.same.plan;
    names = two.same.names ∙ one.same.names;
    untils = two.same.untils ∙ one.same.untils;
    all = two.same.all ∙ one.same.all;
    night = two.same.night ∙ one.same.night;
  };
  sizes = two.sizes ∙ one.sizes;
  ends = two.ends ∙ one.ends;
  living = two.living ∙ append-nil (tries_of b.kept.living.items) ∙ one.living;
}

-- ---- the row

pub row_started : {D : Type 0} (state : D → DiskState) (old new : BookView D) (s : Sitting)
    (made : Beginning) (begun : List Begun) → IsReached old
    → Begins state s.kept.ends s.plan s.names s.kept.sizes.items old made new
    → option_map (λ all. all.items) made.binding.begun ≡ Some begun → AreStarted old begun new
row_started state old new s made begun reached b is =
    let chosen = made.choice.commands.items in
    let commands = s.plan.commands.items in
    let row : List Step = row_of old.session.state s.names commands chosen in
    let reported : begins_reported chosen b.bound.replies ≡ Some begun = sym b.bound.begun ∙ is in
    let whole = played_whole state old new old.session.state s.names commands chosen
    b.bound.replies begun reached b.bound.played reported in
    let same : begins_reported chosen (replies old.session row) ≡ Some begun =
    ap (λ (all : List Reply). begins_reported chosen all) (sym whole.replied) ∙ reported in record {
      events = accepted old.session row;
      history = ap (λ (x : Session). x.history) whole.session ∙ accepted_history old.session row;
      started = all_started old.session old.session.state s.names commands chosen begun same;
      saved = whole.durable;
    }

-- ---- the round

-- No command could begin: a step met a fault, or one was refused.
pub goes_unbegun : {D : Type 0} (state : D → DiskState) (before after : Sitting) (asked : Questions)
    (old new : BookView D) (made : Beginning)
    → Begins state before.kept.ends before.plan before.names before.kept.sizes.items old made new
    → made.binding.begun ≡ None → AddsTries before [] after → (how : Course)
    → how ≡ unbegun made.binding.fault → GoesOn state before asked old how after new
goes_unbegun {D} state before after asked old new made begins none left how is =
    subst (λ (course : Course). GoesOn state before asked old course after new) (sym is)
    (by_fault made.binding.fault refl)
  where
    by_fault : (fault : Option Fault) → made.binding.fault ≡ fault
        → GoesOn state before asked old (unbegun fault) after new
    by_fault None is = (made, begins, inl record { none = none; sound = is; left = left })
    by_fault (Some fault) is = (made, begins, none, is)

module _ {D : Type 0} (state : D → DiskState) (old new : BookView D) (before middle after : Sitting)
    (made : Beginning) (begun : List Begun) (begins : List Order) (reached : IsReached old)
    (b : Begins state before.kept.ends before.plan before.names before.kept.sizes.items old made
    new)
    (is : option_map (λ all. all.items) made.binding.begun ≡ Some begun)
    (theirs : AreBegins new.session.state begun begins)
    (on : LivesOn before begun middle)
    (grown : middle.kept.living.items ≡ with_begun before.kept.living.items begun)
    (asked : Questions) where
  -- The orders are made from the plan and from the facts with which commands were chosen.
  given : (living : List Living) (later : Option ℕ) (orders : Orders)
      → AreOrders begins new.session.state middle living later asked orders after
      → AreOrders begins new.session.state before living later asked orders after
  given living later orders are =
      let p = new.session.state in
      let now = p.tree.clock in
      record {
        stops = are.stops;
        due =
            subst (λ names. AreDue p before.kept.ends before.plan names living are.stops
            after.kept.living.items) on.same.names
            (subst (λ plan. AreDue p before.kept.ends plan middle.names living are.stops
            after.kept.living.items) on.same.plan
            (subst (λ ends. AreDue p ends middle.plan middle.names living are.stops
            after.kept.living.items) on.ends are.due));
        standings = are.standings;
        stand = λ why.
            subst (λ names. AreStandings (night_in p before.kept.ends before.plan names) now
            are.standings) on.same.names
            (subst (λ plan. AreStandings (night_in p before.kept.ends plan middle.names) now
            are.standings) on.same.plan
            (subst (λ ends. AreStandings (night_in p ends middle.plan middle.names) now
            are.standings) on.ends (are.stand why)));
        next = are.next;
        comes = are.comes;
        lines =
            subst (λ names. orders.lines.items ≡ begins ++ (map stop_line are.stops
            ++ (map order.Answer (later_lines are.next) ++ (asked_lines asked.standings
            are.standings ++ error_lines p before.plan names asked)))) on.same.names
            (subst (λ plan. orders.lines.items ≡ begins ++ (map stop_line are.stops
            ++ (map order.Answer (later_lines are.next) ++ (asked_lines asked.standings
            are.standings ++ error_lines p plan middle.names asked)))) on.same.plan are.lines);
        over = are.over;
      }

  pub has_begun : (p : State) (orders : Orders) → p ≡ new.session.state
      → AreOrders begins p middle middle.kept.living.items made.choice.later asked orders after
      → LivesOn middle [] after → HasBegun state before asked old orders after new
  has_begun p orders shown are stays = record {
    made = made;
    begins = b;
    begun = begun;
    reported = is;
    started = row_started state old new before made begun reached b is;
    lines = begins;
    theirs = theirs;
    are = given (with_begun before.kept.living.items begun) made.choice.later orders
        (subst (λ (l : List Living). AreOrders begins new.session.state middle l
        made.choice.later asked orders after) grown
        (subst (λ (q : State). AreOrders begins q middle middle.kept.living.items
        made.choice.later asked orders after) shown are));
    living = lives_then before middle after begun on stays;
  }
