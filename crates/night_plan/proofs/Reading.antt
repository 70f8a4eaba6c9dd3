-- What the code reads of a plan, of its facts and of the standings so far.
use Rattle.std.proofs.Common.{◌≡◌, ◌<◌, ◌∙◌, ℕ, Bool, true, false, List, Some, length, sym, subst}
use Rattle.std.proofs.Common.{arith, slice_get, slice_index_or}
use Rattle.std.proofs.lemmas.Bool.{both_ways}
use Rattle.std.proofs.lemmas.List.Elements.{All-contains}
use Rattle.std.proofs.lemmas.Option.{get_or_from_slice_get, slice_get_within}
use Rattle.std.specs.Prelude.{Any, slice_index}
use Rattle.night_plan.specs.declared.commands.Command.{Command}
use Rattle.night_plan.specs.declared.commands.Need.{Need}
use Rattle.night_plan.specs.declared.commands.Plan.{Plan}
use Rattle.night_plan.specs.declared.facts.Facts.{Facts}
use Rattle.night_plan.specs.declared.facts.Known.{Known}
use Rattle.night_plan.specs.declared.standings.Hope.{Hope}
use Rattle.night_plan.specs.declared.standings.Standing.{Standing}
use Rattle.night_plan.specs.declared.standings.Summary.{Summary}
use Rattle.night_plan.specs.declared.standings.Standing.TheVariants as standing
use Rattle.night_plan.specs.Nights.{AreFacts, IsLost, Night, is_idle, night}
use Rattle.night_plan.specs.Queues.{IsQueue}
use Rattle.night_plan.specs.Hopes.{AreStopped, has_hope, hope_of, is_lost_by}
use Rattle.night_plan.specs.Hopes.{summary_for}
use Rattle.night_plan.proofs.Passing.{lost_all, lost_right, stop_at}
use Rattle.night_plan.proofs.Rows.{read}

-- A command of the plan, and what is known of it.
pub record IsRow (plan : Plan) (facts : Facts) (i : ℕ) (command : Command) (fact : Known)
    : Type 0 where
  pub below : i < length plan.commands.items
  pub is : slice_get plan.commands.items i ≡ Some command
  pub known : slice_get facts.known.items i ≡ Some fact
  pub own : command.group < length plan.groups.items

pub row_of : (plan : Plan) (facts : Facts) (i : ℕ) (command : Command) (fact : Known)
    → AreFacts plan facts → i < length plan.commands.items
    → command ≡ slice_index_or plan.commands.items i command
    → fact ≡ slice_index_or facts.known.items i fact → IsRow plan facts i command fact
row_of plan facts i command fact are below one two =
    let is = read plan.commands.items i command below one in
    let sized = are.known in
    record {
      below = below;
      is = is;
      known = read facts.known.items i fact (omega (arith, below, sized)) two;
      own = plan.sound.own i command is;
    }

-- The command at a place of the order.
pub record IsPlacedRow (plan : Plan) (facts : Facts) (p i : ℕ) (command : Command) (fact : Known)
    : Type 0 where
  pub placed : slice_get plan.order.items p ≡ Some i
  pub row : IsRow plan facts i command fact

pub placed_row : (plan : Plan) (facts : Facts) (p i : ℕ) (command : Command) (fact : Known)
    → AreFacts plan facts → p < length plan.order.items
    → i ≡ slice_index_or plan.order.items p i
    → command ≡ slice_index_or plan.commands.items i command
    → fact ≡ slice_index_or facts.known.items i fact → IsPlacedRow plan facts p i command fact
placed_row plan facts p i command fact are inside place one two =
    let placed = read plan.order.items p i inside place in
    record {
      placed = placed;
      row = row_of plan facts i command fact are (plan.sound.inside p i placed) one two;
    }

-- The command at a place of the queue.
pub record IsQueuedRow (n : Night) (queue : List ℕ) (j i : ℕ) (command : Command) : Type 0 where
  pub there : slice_index queue j ≡ i
  pub inside : i < length n.commands
  pub is : slice_get n.commands i ≡ Some command

pub queued_inside : (n : Night) (all : List Standing) (queue : List ℕ) (j i : ℕ)
    → IsQueue n all queue → length all ≡ length n.commands → j < length queue
    → i ≡ slice_index_or queue j i → i < length n.commands
queued_inside n all queue j i are sized below place =
    let ready = All-contains (λ d. slice_get all d ≡ Some standing.Ready) queue i are.ready
    (j, below, sym place) in
    let inside = slice_get_within all i standing.Ready ready in
    omega (arith, inside, sized)

pub queued_row : (n : Night) (all : List Standing) (queue : List ℕ) (j i : ℕ) (command : Command)
    → IsQueue n all queue → length all ≡ length n.commands → j < length queue
    → i ≡ slice_index_or queue j i → command ≡ slice_index_or n.commands i command
    → IsQueuedRow n queue j i command
queued_row n all queue j i command are sized below place one =
    let inside = queued_inside n all queue j i are sized below place in
    record {
      there = get_or_from_slice_get queue j i 0 (read queue j i below place);
      inside = inside;
      is = read n.commands i command inside one;
    }

-- Whether the command is lost, by the mark of its group.
module _ (plan : Plan) (facts : Facts) (now i : ℕ) (command : Command) (fact : Known)
    (row : IsRow plan facts i command fact) (stopped : List Bool)
    (are : AreStopped (night plan facts) (length plan.commands.items) stopped) (done : List Bool)
    (same : done ≡ facts.done.items) (d r : Bool)
    (says : r ≡ is_lost_by done command fact (slice_index_or stopped command.group d)) where
  mark : (b : Bool) × (slice_get stopped command.group ≡ Some b)
      × (r ≡ is_lost_by facts.done.items command fact b)
  mark =
      let own = row.own in
      let sized = are.sized in
      subst (λ (xs : List Bool). (b : Bool) × (slice_get stopped command.group ≡ Some b)
      × (r ≡ is_lost_by xs command fact b)) same
      (stop_at done command fact stopped command.group d r (omega (arith, own, sized)) says)

  pub lost_from : is_idle (night plan facts) i ≡ true → r ≡ true → IsLost (night plan facts) i
  lost_from idle is =
      lost_right (night plan facts) now i command fact row.is row.known stopped are mark.0 mark.1
      idle (sym mark.2 ∙ is)

  pub free_from : r ≡ false → IsLost (night plan facts) i → ⊥
  free_from is lost =
      both_ways r is (mark.2 ∙ lost_all (night plan facts) now i command fact row.is row.known
      stopped are mark.0 mark.1 lost)

-- Some need has this hope, by the standings and tallies so far.
abbrev pub Hopes : List Standing → List Summary → Hope → List Need → Type 0
Hopes all tallies which needs =
    Any (λ need. has_hope which (hope_of need.when (summary_for all tallies need.of)) ≡ true) needs

pub some_hope : (all : List Standing) (tallies : List Summary) (which : Hope)
    (read needs : List Need) (r : Bool) → read ≡ needs
    → (r ≡ true → Hopes all tallies which read) → r ≡ true → Hopes all tallies which needs
some_hope all tallies which read needs r same says is =
    subst (Hopes all tallies which) same (says is)

pub no_hope : (all : List Standing) (tallies : List Summary) (which : Hope)
    (read needs : List Need) (r : Bool) → read ≡ needs
    → (Hopes all tallies which read → r ≡ true) → r ≡ false
    → Hopes all tallies which needs → ⊥
no_hope all tallies which read needs r same says is some =
    both_ways r is (says (subst (Hopes all tallies which) (sym same) some))
