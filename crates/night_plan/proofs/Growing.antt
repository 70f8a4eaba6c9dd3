-- One more command, or one more group.
use Rattle.std.proofs.Common.{◌≡◌, ◌<◌, ◌≤◌, ◌+◌, ◌==◌, ◌&&◌, ◌⊎◌, ◌∙◌, ◌++◌, inl, inr, ℕ, Bool}
use Rattle.std.proofs.Common.{true, false, List, [], ◌∷◌, Option, Some, length, refl, ap}
use Rattle.std.proofs.Common.{sym}
use Rattle.std.proofs.Common.{subst, arith, slice_get, slice_index, length-append}
use Rattle.std.proofs.lemmas.Bool.{and_parts, cases_lt, eqb-true, false≢true}
use Rattle.std.proofs.lemmas.Bool.{le-ltb, lt-ltb, ltb-true}
use Rattle.std.proofs.Common.{not}
use Rattle.std.proofs.lemmas.List.{get_or_append_left, get_or_push}
use Rattle.std.proofs.lemmas.List.Elements.{All-contains}
use Rattle.std.proofs.lemmas.Option.{same_Some, slice_get_within}
use Rattle.std.specs.Option.{option_map_or, option_and_then}
use Rattle.std.specs.Prelude.{◌||◌, Contains, max, nat_lt}
use Rattle.night_plan.specs.declared.commands.Command.{Command}
use Rattle.night_plan.specs.declared.commands.Group.{Group as GroupLine}
use Rattle.night_plan.specs.declared.commands.Need.{Need}
use Rattle.night_plan.specs.declared.commands.Subject.{Subject}
use Rattle.night_plan.specs.declared.commands.Subject.TheVariants as subject
use Rattle.night_plan.specs.declared.commands.Take.{Take}
use Rattle.night_plan.specs.declared.commands.When.{When}
use Rattle.night_plan.specs.declared.commands.When.TheVariants as when
use Rattle.night_plan.specs.declared.facts.Known.{Known}
use Rattle.night_plan.specs.declared.standings.Standing.{Standing}
use Rattle.night_plan.specs.declared.standings.Standing.TheVariants as standing
use Rattle.night_plan.specs.Plans.{is_of, is_within, names, horizon, HasNeed, ComesAfter, IsSound}
use Rattle.night_plan.specs.Nights.{Night, at, is_busy, is_ok, is_failed, is_cut, is_done}
use Rattle.night_plan.specs.Nights.{is_spent, stops, was_canceled}
use Rattle.night_plan.specs.Nights.{is_cleanup, waits, until, Names, HasStopped}
use Rattle.night_plan.specs.Nights.{IsLost, HasFailed, IsNever, Lost, NotWell, NotFailed, IsFinal}
use Rattle.night_plan.specs.Nights.{has_spent, IsMetBy, MayBegin}
use Rattle.night_plan.specs.Standings.{Stands}
use Rattle.night_plan.specs.Ranks.{IsKnown}
use Rattle.night_plan.specs.Growth.{fresh_row, with_group, with_one}
use Rattle.night_plan.proofs.Rows.{at_there, get_push_last, get_push_old, of_there, row_at}
use Rattle.night_plan.proofs.Choosing.{comes_within}

-- ---- the rows that were there

module _ (commands more : List Command)
    (rows : (c : ℕ) → c < length commands → slice_get more c ≡ slice_get commands c) where
  pub old_of : (g c : ℕ) → c < length commands
      → is_of more g c ≡ is_of commands g c
  old_of g c below =
      ap (λ (o : Option Command). option_map_or (λ x. x.group == g) o false) (rows c below)

  pub old_need : (c : ℕ) (need : Need) → c < length commands
      → HasNeed more c need → HasNeed commands c need
  old_need c need below has = record {
    command = has.command;
    is = sym (rows c below) ∙ has.is;
    listed = has.listed;
  }

  pub new_need : (c : ℕ) (need : Need) → c < length commands → HasNeed commands c need
      → HasNeed more c need
  new_need c need below has = record {
    command = has.command;
    is = rows c below ∙ has.is;
    listed = has.listed;
  }

  pub old_names : (below d : ℕ) (o : Subject) → below ≤ length commands
      → names more below o d ≡ names commands below o d
  old_names below d (subject.Command e) le = refl
  old_names below d (subject.Group g) le = elim (cases_lt d below) [
    | inl less ↦ ap (λ b. nat_lt d below && b) (old_of g d (omega (arith, less, le)))
    | inr past ↦
        ap (λ b. b && is_of more g d) (le-ltb d below past)
        ∙ sym (ap (λ b. b && is_of commands g d) (le-ltb d below past))
  ]

-- ---- the standings

-- A night goes on as it was for the commands that were there: their rows, what is known of them and
-- of their groups, and no other command has failed for good.
record Extends (n : Night) (groups : List GroupLine) (commands : List Command)
    (known : List Known) (done : List Bool) : Type 0 where
  row : (c : ℕ) → c < length n.commands → slice_get commands c ≡ slice_get n.commands c
  fact : (c : ℕ) → c < length n.commands → slice_get known c ≡ slice_get n.known c
  group : (g : ℕ) → g < length n.groups → slice_get groups g ≡ slice_get n.groups g
  mark : (g : ℕ) → g < length n.groups → slice_get done g ≡ slice_get n.done g
  spent : (d : ℕ) → has_spent (record {
    first = n.first;
    groups = groups;
    commands = commands;
    known = known;
    done = done;
  }) d ≡ true → d < length n.commands

module _ (n : Night) (pools : ℕ) (order places : List ℕ)
    (sound : IsSound n.first n.groups pools n.commands order places) (groups : List GroupLine)
    (commands : List Command) (known : List Known) (done : List Bool)
    (ext : Extends n groups commands known done) where
  abbrev m : Night
  m = record {
    first = n.first;
    groups = groups;
    commands = commands;
    known = known;
    done = done;
  }

  same_at : (c : ℕ) → c < length n.commands → (test : Command → Known → Bool)
      → at m c test ≡ at n c test
  same_at c below test =
      ap (λ (o : Option Command).
      option_map_or (λ x. option_map_or (test x) (slice_get m.known c) false) o false)
      (ext.row c below)
      ∙ ap (λ (o : Option Known).
      option_map_or (λ x. option_map_or (test x) o false) (slice_get n.commands c) false)
      (ext.fact c below)

  -- A test that reads whether the command's group is done.
  same_done : (test : Bool → Command → Known → Bool) (c : ℕ) → c < length n.commands
      → at m c (λ x f. test (is_done done x.group) x f)
      ≡ at n c (λ x f. test (is_done n.done x.group) x f)
  same_done test c below =
      same_at c below (λ x f. test (is_done done x.group) x f)
      ∙ ap (λ (o : Option Command). option_map_or
      (λ x. option_map_or (λ f. test (is_done done x.group) x f) (slice_get n.known c) false) o
      false) here.1
      ∙ ap (λ (b : Bool). option_map_or (λ f. test b here.0 f) (slice_get n.known c) false)
      (ap (λ (o : Option Bool). option_map_or (λ b. b) o false)
      (ext.mark here.0.group (sound.own c here.0 here.1)))
      ∙ sym (ap (λ (o : Option Command). option_map_or
      (λ x. option_map_or (λ f. test (is_done n.done x.group) x f) (slice_get n.known c) false) o
      false) here.1)
    where
      here : (x : Command) × (slice_get n.commands c ≡ Some x)
      here = row_at n.commands c below

  same_spent : (c : ℕ) → c < length n.commands → has_spent m c ≡ has_spent n c
  same_spent c below =
      same_done (λ b x f. is_failed f.phase && (nat_lt x.retries f.failures
      || (f.canceled || (is_cut f.phase || (not (is_cleanup x) && b))))) c below

  same_canceled : (c : ℕ) → c < length n.commands → was_canceled m c ≡ was_canceled n c
  same_canceled c below =
      same_done (λ b x f. f.canceled || (is_cut f.phase || (not (is_cleanup x) && b))) c below

  -- The group of a command that is there.
  own_group : (g c : ℕ) → is_of n.commands g c ≡ true → g < length n.groups
  own_group g c of =
      let there = of_there n.commands g c of in
      subst (λ k. k < length n.groups) there.2 (sound.own c there.0 there.1)

  reach : (c : ℕ) → c < length n.commands → max n.first c ≤ length n.commands
  reach c below = let first = sound.bounded in omega (arith, first, below)

  same_names : (c d : ℕ) (need : Need) → c < length n.commands
      → names m.commands (horizon n.first c) need.of d
      ≡ names n.commands (horizon n.first c) need.of d
  same_names c d need below =
      old_names n.commands commands ext.row (horizon n.first c) d need.of (reach c below)

  named_below : (c d : ℕ) (need : Need) → c < length n.commands → HasNeed n.commands c need
      → Names n c need d → d < length n.commands
  named_below c d need below has named =
      comes_within n pools order places sound c d below
      (record { need = need; has = has; named = named })

  stopped_there : (g : ℕ) → HasStopped n g → HasStopped m g
  stopped_there g stop =
      let by = of_there n.commands g stop.by stop.of in
      let below = slice_get_within n.commands stop.by by.0 by.1 in
      record {
        stops = ap (λ (o : Option GroupLine). option_map_or (λ x. stops x.way) o false)
            (ext.group g (own_group g stop.by stop.of)) ∙ stop.stops;
        by = stop.by;
        of = old_of n.commands commands ext.row g stop.by below ∙ stop.of;
        failed = same_spent stop.by below ∙ stop.failed;
      }

  stopped_back : (g : ℕ) → HasStopped m g → HasStopped n g
  stopped_back g stop =
      let below = ext.spent stop.by stop.failed in
      let of = sym (old_of n.commands commands ext.row g stop.by below) ∙ stop.of in
      record {
        stops = sym (ap (λ (o : Option GroupLine). option_map_or (λ x. stops x.way) o false)
            (ext.group g (own_group g stop.by of))) ∙ stop.stops;
        by = stop.by;
        of = of;
        failed = sym (same_spent stop.by below) ∙ stop.failed;
      }

  module _ (c : ℕ) (below : c < length n.commands) where
    lost_there : IsLost n c → IsLost m c
    lost_there lost = record {
      idle = same_at c below (λ x f. not (is_busy f.phase) && not (is_ok f.phase)) ∙ lost.idle;
      why = elim lost.why [
        | inl spent ↦ inl (same_spent c below ∙ spent)
        | inr (inl was) ↦ inr (inl (same_canceled c below ∙ was))
        | inr (inr stop) ↦ inr (inr (record {
          group = stop.group;
          of = old_of n.commands commands ext.row stop.group c below ∙ stop.of;
          stopped = stopped_there stop.group stop.stopped;
          plain = same_at c below (λ x f. is_cleanup x) ∙ stop.plain;
        }))
      ];
    }

    lost_back : IsLost m c → IsLost n c
    lost_back lost = record {
      idle = sym (same_at c below (λ x f. not (is_busy f.phase) && not (is_ok f.phase)))
          ∙ lost.idle;
      why = elim lost.why [
        | inl spent ↦ inl (sym (same_spent c below) ∙ spent)
        | inr (inl was) ↦ inr (inl (sym (same_canceled c below) ∙ was))
        | inr (inr stop) ↦ inr (inr (record {
          group = stop.group;
          of = sym (old_of n.commands commands ext.row stop.group c below) ∙ stop.of;
          stopped = stopped_back stop.group stop.stopped;
          plain = sym (same_at c below (λ x f. is_cleanup x)) ∙ stop.plain;
        }))
      ];
    }

    failed_there : HasFailed n c → HasFailed m c
    failed_there it = (same_at c below (λ x f. is_failed f.phase) ∙ it.0, lost_there it.1)

    failed_back : HasFailed m c → HasFailed n c
    failed_back it = (sym (same_at c below (λ x f. is_failed f.phase)) ∙ it.0, lost_back it.1)

    same_waits : (now : ℕ) → waits m now c ≡ waits n now c
    same_waits now =
        ap (λ (o : Option Command). option_and_then (λ x. option_and_then
        (λ f. until x now f.failures f.phase) (slice_get m.known c)) o)
        (ext.row c below)
        ∙ ap (λ (o : Option Known). option_and_then (λ x. option_and_then
        (λ f. until x now f.failures f.phase) o) (slice_get n.commands c))
        (ext.fact c below)

  never_there : (c : ℕ) → IsNever n c → c < length n.commands → IsNever m c
  never_there _ (Lost c lost) below = Lost c (lost_there c below lost)
  never_there _ (NotWell c d need idle has well named never) below =
      NotWell c d need
      (same_at c below (λ x f. not (is_busy f.phase) && not (is_ok f.phase)) ∙ idle)
      (new_need n.commands commands ext.row c need below has) well
      (same_names c d need below ∙ named)
      (never_there d never (named_below c d need below has named))
  never_there _ (NotFailed c need idle has fails ended none) below =
      NotFailed c need
      (same_at c below (λ x f. not (is_busy f.phase) && not (is_ok f.phase)) ∙ idle)
      (new_need n.commands commands ext.row c need below has) fails
      (λ d named not_ok.
      let named_n = sym (same_names c d need below) ∙ named in
      let there = named_below c d need below has named_n in
      never_there d (ended d named_n (sym (same_at d there (λ x f. is_ok f.phase)) ∙ not_ok))
      there)
      (λ d named failed.
      let named_n = sym (same_names c d need below) ∙ named in
      none d named_n (failed_back d (named_below c d need below has named_n) failed))

  never_back : (c : ℕ) → IsNever m c → c < length n.commands → IsNever n c
  never_back _ (Lost c lost) below = Lost c (lost_back c below lost)
  never_back _ (NotWell c d need idle has well named never) below =
      let has_n = old_need n.commands commands ext.row c need below has in
      let named_n = sym (same_names c d need below) ∙ named in
      NotWell c d need
      (sym (same_at c below (λ x f. not (is_busy f.phase) && not (is_ok f.phase))) ∙ idle)
      has_n well named_n (never_back d never (named_below c d need below has_n named_n))
  never_back _ (NotFailed c need idle has fails ended none) below =
      let has_n = old_need n.commands commands ext.row c need below has in
      NotFailed c need
      (sym (same_at c below (λ x f. not (is_busy f.phase) && not (is_ok f.phase))) ∙ idle)
      has_n fails
      (λ d named not_ok.
      let there = named_below c d need below has_n named in
      never_back d (ended d (same_names c d need below ∙ named)
      (same_at d there (λ x f. is_ok f.phase) ∙ not_ok)) there)
      (λ d named failed. none d (same_names c d need below ∙ named)
      (failed_there d (named_below c d need below has_n named) failed))

  final_there : (c : ℕ) → c < length n.commands → IsFinal n c → IsFinal m c
  final_there c below (inl ok) = inl (same_at c below (λ x f. is_ok f.phase) ∙ ok)
  final_there c below (inr never) = inr (never_there c never below)

  final_back : (c : ℕ) → c < length n.commands → IsFinal m c → IsFinal n c
  final_back c below (inl ok) = inl (sym (same_at c below (λ x f. is_ok f.phase)) ∙ ok)
  final_back c below (inr never) = inr (never_back c never below)

  met_there : (c : ℕ) (need : Need) (w : When) → c < length n.commands → HasNeed n.commands c need
      → IsMetBy n c need w → IsMetBy m c need w
  met_there c need when.Well below has met = λ d named.
      let named_n = sym (same_names c d need below) ∙ named in
      same_at d (named_below c d need below has named_n) (λ x f. is_ok f.phase) ∙ met d named_n
  met_there c need when.Failed below has met = (
    met.0,
    same_names c met.0 need below ∙ met.1,
    failed_there met.0 (named_below c met.0 need below has met.1) met.2,
  )
  met_there c need when.Ended below has met = λ d named.
      let named_n = sym (same_names c d need below) ∙ named in
      final_there d (named_below c d need below has named_n) (met d named_n)

  met_back : (c : ℕ) (need : Need) (w : When) → c < length n.commands → HasNeed n.commands c need
      → IsMetBy m c need w → IsMetBy n c need w
  met_back c need when.Well below has met = λ d named.
      sym (same_at d (named_below c d need below has named) (λ x f. is_ok f.phase))
      ∙ met d (same_names c d need below ∙ named)
  met_back c need when.Failed below has met =
      let named_n = sym (same_names c met.0 need below) ∙ met.1 in (
        met.0,
        named_n,
        failed_back met.0 (named_below c met.0 need below has named_n) met.2,
      )
  met_back c need when.Ended below has met = λ d named.
      final_back d (named_below c d need below has named)
      (met d (same_names c d need below ∙ named))

  may_there : (c : ℕ) → c < length n.commands → MayBegin n c → MayBegin m c
  may_there c below may = record {
    idle = same_at c below (λ x f. not (is_busy f.phase) && not (is_ok f.phase)) ∙ may.idle;
    free = λ lost. may.free (lost_back c below lost);
    met = λ need has.
        let has_n = old_need n.commands commands ext.row c need below has in
        met_there c need need.when below has_n (may.met need has_n);
  }

  stands_there : (now c : ℕ) (s : Standing) → c < length n.commands → Stands n now c s
      → Stands m now c s
  stands_there now c standing.EndedOk below stands =
      same_at c below (λ x f. is_ok f.phase) ∙ stands
  stands_there now c standing.Failed below stands = failed_there c below stands
  stands_there now c standing.Canceled below stands = record {
    idle = same_at c below (λ x f. not (is_busy f.phase) && not (is_ok f.phase)) ∙ stands.idle;
    no_failure = same_at c below (λ x f. is_failed f.phase) ∙ stands.no_failure;
    canceled = same_canceled c below ∙ stands.canceled;
  }
  stands_there now c standing.GivenUp below stands = record {
    never = never_there c stands.never below;
    no_failure = λ failed. stands.no_failure (failed_back c below failed);
    no_cancel = λ was. stands.no_cancel (record {
      idle = sym (same_at c below (λ x f. not (is_busy f.phase) && not (is_ok f.phase)))
          ∙ was.idle;
      no_failure = sym (same_at c below (λ x f. is_failed f.phase)) ∙ was.no_failure;
      canceled = sym (same_canceled c below) ∙ was.canceled;
    });
  }
  stands_there now c standing.Busy below stands =
      same_at c below (λ x f. is_busy f.phase) ∙ stands
  stands_there now c (standing.Waiting moment) below stands = record {
    may = may_there c below stands.may;
    due = same_waits c below now ∙ stands.due;
  }
  stands_there now c standing.Ready below stands = record {
    may = may_there c below stands.may;
    due = same_waits c below now ∙ stands.due;
  }
  stands_there now c standing.Pending below stands = record {
    idle = same_at c below (λ x f. not (is_busy f.phase) && not (is_ok f.phase)) ∙ stands.idle;
    hope = λ never. stands.hope (never_back c never below);
    need = stands.need;
    has = new_need n.commands commands ext.row c stands.need below stands.has;
    unmet = λ met. stands.unmet (met_back c stands.need stands.need.when below stands.has met);
    on = stands.on;
    named = same_names c stands.on stands.need below ∙ stands.named;
    open_yet = λ final. stands.open_yet (final_back stands.on
        (named_below c stands.on stands.need below stands.has stands.named) final);
  }

-- One more command, of which nothing is known yet.
with_command : (n : Night) (new : Command) → length n.known ≡ length n.commands
    → Extends n n.groups (n.commands ++ new ∷ []) (n.known ++ fresh_row ∷ []) n.done
with_command n new alike = record {
  row = λ c below. get_push_old n.commands (new ∷ []) c below;
  fact = λ c below. get_push_old n.known (fresh_row ∷ []) c (omega (arith, below, alike));
  group = λ g below. refl;
  mark = λ g below. refl;
  spent = λ d spent. elim (cases_lt d (length n.commands)) [
    | inl below ↦ below
    | inr past ↦
        let it = at_there (with_one n new) d (is_spent n.done) spent in
        let less = slice_get_within (n.commands ++ new ∷ []) d it.0 it.2 in
        let len = length-append n.commands (new ∷ []) in
        let last : d ≡ length n.known = omega (arith, past, less, len, alike) in
        let fact : it.1 ≡ fresh_row = same_Some it.1 fresh_row
        (sym it.3 ∙ ap (slice_get (n.known ++ fresh_row ∷ [])) last
        ∙ get_push_last n.known fresh_row) in
        let failed = (and_parts (is_failed it.1.phase) _ it.4).0 in
        absurd (false≢true (sym (ap (λ (k : Known). is_failed k.phase) fact) ∙ failed))
  ];
}

-- One more group, which is not done.
with_row : (n : Night) (pools : ℕ) (order places : List ℕ) (group : GroupLine)
    → IsSound n.first n.groups pools n.commands order places
    → length n.done ≡ length n.groups
    → Extends n (n.groups ++ group ∷ []) n.commands n.known (n.done ++ false ∷ [])
with_row n pools order places group sound marked = record {
  row = λ c below. refl;
  fact = λ c below. refl;
  group = λ g below. get_push_old n.groups (group ∷ []) g below;
  mark = λ g below. get_push_old n.done (false ∷ []) g (omega (arith, below, marked));
  spent = λ d spent.
      let it = at_there (with_group n group) d (is_spent (n.done ++ false ∷ [])) spent in
      slice_get_within n.commands d it.0 it.2;
}

pub grows_alone : (n : Night) (pools : ℕ) (order places : List ℕ) (command : Command) (now c : ℕ)
    (s : Standing) → IsSound n.first n.groups pools n.commands order places
    → length n.known ≡ length n.commands → c < length n.commands → Stands n now c s
    → Stands (with_one n command) now c s
grows_alone n pools order places command now c s sound alike below stands =
    stands_there n pools order places sound n.groups (n.commands ++ command ∷ [])
    (n.known ++ fresh_row ∷ []) n.done (with_command n command alike) now c s below stands

pub groups_grow_alone : (n : Night) (pools : ℕ) (order places : List ℕ) (group : GroupLine)
    (now c : ℕ) (s : Standing) → IsSound n.first n.groups pools n.commands order places
    → length n.done ≡ length n.groups → c < length n.commands → Stands n now c s
    → Stands (with_group n group) now c s
groups_grow_alone n pools order places group now c s sound marked below stands =
    stands_there n pools order places sound (n.groups ++ group ∷ []) n.commands n.known
    (n.done ++ false ∷ []) (with_row n pools order places group sound marked) now c s below stands

-- ---- the plan

module _ (first : ℕ) (groups : List GroupLine) (pools : ℕ) (commands : List Command)
    (order places : List ℕ) (new : Command)
    (sound : IsSound first groups pools commands order places)
    (known : IsKnown (length groups) (length commands) pools new) where
  rows : (c : ℕ) → c < length commands → slice_get (commands ++ new ∷ []) c ≡ slice_get commands c
  rows c below = get_push_old commands (new ∷ []) c below

  -- A command of the longer plan is one that was there, or the new one.
  which : (c : ℕ) (command : Command) → slice_get (commands ++ new ∷ []) c ≡ Some command
      → ((c < length commands) × (slice_get commands c ≡ Some command))
      ⊎ ((c ≡ length commands) × (command ≡ new))
  which c command is = elim (cases_lt c (length commands)) [
    | inl below ↦ inl (below, sym (rows c below) ∙ is)
    | inr past ↦
        let less = slice_get_within (commands ++ new ∷ []) c command is in
        let len = length-append commands (new ∷ []) in
        let last : c ≡ length commands = omega (arith, past, less, len) in
        inr (
          last,
          same_Some command new
              (sym is ∙ ap (slice_get (commands ++ new ∷ [])) last ∙ get_push_last commands new),
        )
  ]

  place_old : (c : ℕ) → c < length commands
      → slice_index (places ++ length order ∷ []) c ≡ slice_index places c
  place_old c below =
      let sized = sound.sized in
      get_or_append_left places (length order ∷ []) 0 c (omega (arith, below, sized))

  place_new : (c : ℕ) → c ≡ length commands
      → slice_index (places ++ length order ∷ []) c ≡ length order
  place_new c last =
      let sized = sound.sized in get_or_push places (length order) 0 c (omega (arith, last, sized))

  place_less : (c : ℕ) → c < length commands → slice_index places c < length order
  place_less c below = slice_get_within order (slice_index places c) c (sound.placed c below)

  wider : (o : Subject) → is_within (length groups) (length commands) o ≡ true
      → is_within (length groups) (max first (length commands)) o ≡ true
  wider (subject.Command d) within =
      let below = ltb-true d (length commands) within in
      lt-ltb d (max first (length commands)) (omega (arith, below))
  wider (subject.Group g) within = within

  -- What the new command comes after was there.
  new_after : (c d : ℕ) → c ≡ length commands → ComesAfter first (commands ++ new ∷ []) c d
      → d < length commands
  new_after c d last comes =
      go comes.need.of (All-contains
      (λ (need : Need). is_within (length groups) (length commands) need.of ≡ true)
      new.needs.items comes.need known.needs listed) comes.named
    where
      same : comes.has.command ≡ new
      same = elim (which c comes.has.command comes.has.is) [
        | inl old ↦ let less = old.0 in absurd (omega (arith, less, last))
        | inr it ↦ it.1
      ]

      listed : Contains new.needs.items comes.need
      listed = subst (λ (x : Command). Contains x.needs.items comes.need) same comes.has.listed

      go : (o : Subject) → is_within (length groups) (length commands) o ≡ true
          → names (commands ++ new ∷ []) (max first c) o d ≡ true → d < length commands
      go (subject.Command e) within named =
          let less = ltb-true e (length commands) within in
          let equal = eqb-true e d named in
          omega (arith, less, equal)
      go (subject.Group g) within named =
          let parts = and_parts (nat_lt d (max first c)) (is_of (commands ++ new ∷ []) g d)
          named in
          let less = ltb-true d (max first c) parts.0 in
          let bounded = sound.bounded in
          omega (arith, less, bounded, last)

  old_after : (c d : ℕ) → c < length commands → ComesAfter first (commands ++ new ∷ []) c d
      → ComesAfter first commands c d
  old_after c d below comes = record {
    need = comes.need;
    has = old_need commands (commands ++ new ∷ []) rows c comes.need below comes.has;
    named = sym (old_names commands (commands ++ new ∷ []) rows (max first c) d comes.need.of
        (let bounded = sound.bounded in omega (arith, bounded, below))) ∙ comes.named;
  }

  order_which : (p c : ℕ) → slice_get (order ++ length commands ∷ []) p ≡ Some c
      → (slice_get order p ≡ Some c) ⊎ ((p ≡ length order) × (c ≡ length commands))
  order_which p c is = elim (cases_lt p (length order)) [
    | inl below ↦ inl (sym (get_push_old order (length commands ∷ []) p below) ∙ is)
    | inr past ↦
        let less = slice_get_within (order ++ length commands ∷ []) p c is in
        let len = length-append order (length commands ∷ []) in
        let last : p ≡ length order = omega (arith, past, less, len) in
        inr (
          last,
          same_Some c (length commands)
              (sym is ∙ ap (slice_get (order ++ length commands ∷ [])) last
              ∙ get_push_last order (length commands)),
        )
  ]

  more : length (commands ++ new ∷ []) ≡ length commands + 1
  more = length-append commands (new ∷ [])

  old_or_new : (c : ℕ) → c < length (commands ++ new ∷ [])
      → (c < length commands) ⊎ (c ≡ length commands)
  old_or_new c below = elim (cases_lt c (length commands)) [
    | inl less ↦ inl less
    | inr past ↦ inr (let len = more in omega (arith, past, below, len))
  ]

  pub sound_more : IsSound first groups pools (commands ++ new ∷ [])
      (order ++ length commands ∷ []) (places ++ length order ∷ [])
  sound_more = record {
    bounded = let len = more in let bounded = sound.bounded in omega (arith, len, bounded);
    own = λ c command is. elim (which c command is) [
      | inl old ↦ sound.own c command old.1
      | inr it ↦ subst (λ (x : Command). x.group < length groups) (sym it.1) known.own
    ];
    takes = λ c command row is listed. elim (which c command is) [
      | inl old ↦ sound.takes c command row old.1 listed
      | inr it ↦ All-contains (λ (x : Take). x.pool < pools) new.takes.items row known.takes
          (subst (λ (x : Command). Contains x.takes.items row) it.1 listed)
    ];
    within = λ c need has. elim (which c has.command has.is) [
      | inl old ↦ sound.within c need
          (old_need commands (commands ++ new ∷ []) rows c need old.0 has)
      | inr it ↦ subst (λ k. is_within (length groups) (max first k) need.of ≡ true) (sym it.0)
          (wider need.of (All-contains
          (λ (x : Need). is_within (length groups) (length commands) x.of ≡ true) new.needs.items
          need known.needs
          (subst (λ (x : Command). Contains x.needs.items need) it.1 has.listed)))
    ];
    sized =
        let one = length-append places (length order ∷ []) in
        let two = more in
        let sized = sound.sized in
        omega (arith, one, two, sized);
    placed = λ c below. elim (old_or_new c below) [
      | inl old ↦
          ap (slice_get (order ++ length commands ∷ [])) (place_old c old)
          ∙ get_push_old order (length commands ∷ []) (slice_index places c) (place_less c old)
          ∙ sound.placed c old
      | inr last ↦
          ap (slice_get (order ++ length commands ∷ [])) (place_new c last)
          ∙ get_push_last order (length commands) ∙ ap Some (sym last)
    ];
    inside = λ p c is. let len = more in elim (order_which p c is) [
      | inl old ↦ let below = sound.inside p c old in omega (arith, below, len)
      | inr it ↦ let last = it.1 in omega (arith, last, len)
    ];
    at = λ p c is. elim (order_which p c is) [
      | inl old ↦ place_old c (sound.inside p c old) ∙ sound.at p c old
      | inr it ↦ place_new c it.1 ∙ sym it.0
    ];
    after = λ c d comes. elim (which c comes.has.command comes.has.is) [
      | inl old ↦
          let was = old_after c d old.0 comes in
          let less = sound.after c d was in
          let there = below_old c d old.0 was in
          let one = place_old c old.0 in
          let two = place_old d there in
          omega (arith, less, one, two)
      | inr it ↦
          let there = new_after c d it.0 comes in
          let less = place_less d there in
          let one = place_new c it.0 in
          let two = place_old d there in
          omega (arith, less, one, two)
    ];
    before = λ c d own other less. elim (old_or_new c own) [
      | inl old ↦ elim (old_or_new d other) [
        | inl also ↦
            let one = place_old c old in
            let two = place_old d also in
            sound.before c d old also (let l = less in omega (arith, l, one, two))
        | inr last ↦
            let one = place_old c old in
            let two = place_new d last in
            let bound = place_less c old in
            absurd (let l = less in omega (arith, l, one, two, bound))
      ]
      | inr last ↦ elim (old_or_new d other) [
        | inl also ↦ omega (arith, also, last)
        | inr both ↦
            let one = place_new c last in
            let two = place_new d both in
            absurd (let l = less in omega (arith, l, one, two))
      ]
    ];
  }
    where
      below_old : (c d : ℕ) → c < length commands → ComesAfter first commands c d
          → d < length commands
      below_old c d below comes =
          go comes.need.of (sound.within c comes.need comes.has) comes.named
        where
          go : (o : Subject) → is_within (length groups) (max first c) o ≡ true
              → names commands (max first c) o d ≡ true → d < length commands
          go (subject.Command e) within named =
              let less = ltb-true e (max first c) within in
              let equal = eqb-true e d named in
              let bounded = sound.bounded in
              omega (arith, less, equal, bounded, below)
          go (subject.Group g) within named =
              let parts = and_parts (nat_lt d (max first c)) (is_of commands g d) named in
              let there = of_there commands g d parts.1 in
              slice_get_within commands d there.0 there.1

pub sound_grouped : (first : ℕ) (groups : List GroupLine) (pools : ℕ) (commands : List Command)
    (order places : List ℕ) (group : GroupLine)
    → IsSound first groups pools commands order places
    → IsSound first (groups ++ group ∷ []) pools commands order places
sound_grouped first groups pools commands order places group sound = record {
  bounded = sound.bounded;
  own = λ c command is.
      let own = sound.own c command is in
      let len = length-append groups (group ∷ []) in
      omega (arith, own, len);
  takes = sound.takes;
  within = λ c need has. more_groups need.of (max first c) (sound.within c need has);
  sized = sound.sized;
  placed = sound.placed;
  inside = sound.inside;
  at = sound.at;
  after = sound.after;
  before = sound.before;
}
  where
    more_groups : (o : Subject) (below : ℕ) → is_within (length groups) below o ≡ true
        → is_within (length (groups ++ group ∷ [])) below o ≡ true
    more_groups (subject.Command d) below within = within
    more_groups (subject.Group g) below within =
        let less = ltb-true g (length groups) within in
        let len = length-append groups (group ∷ []) in
        lt-ltb g (length (groups ++ group ∷ [])) (omega (arith, less, len))
