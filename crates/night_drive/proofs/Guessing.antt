-- The facts about commands, counted one task after another.
use Rattle.std.proofs.Common.{◌≡◌, ◌≢◌, ◌<◌, ◌∙◌, ℕ, ◌+◌, ◌&&◌, Bool, true, false}
use Rattle.std.proofs.Common.{List, Option, Some, None, slice_get, length, set, cond}
use Rattle.std.proofs.Common.{inl, inr, ap, sym, refl, arith, min}
use Rattle.std.proofs.lemmas.Bool.{and_parts, cases_eq, false≢true, ne_eqb}
use Rattle.std.proofs.lemmas.List.Folds.{list_any_at}
use Rattle.std.proofs.lemmas.Option.{get_or_from_slice_get, slice_get-map}
use Rattle.std.proofs.lemmas.Option.{slice_get_within}
use Rattle.std.proofs.lemmas.Slice.Eq.{bytes_eq-Decides}
use Rattle.std.specs.Option.{option_map, option_map_or}
use Rattle.std.specs.Str.{bytes_eq}
use Rattle.run_model.specs.declared.groups.Group.{Group}
use Rattle.run_model.specs.declared.tasks.Task.{Task}
use Rattle.run_model.specs.State.{State}
use Rattle.run_model.specs.Tasks.{has_stage}
use Rattle.night_plan.proofs.Rows.{get_set_other, get_set_same, row_at}
use Rattle.night_plan.specs.declared.commands.Command.{Command}
use Rattle.night_plan.specs.declared.commands.Plan.{Plan}
use Rattle.night_plan.specs.declared.facts.Known.{Known}
use Rattle.night_plan.specs.declared.facts.Phase.TheVariants.{Fresh}
use Rattle.night_drive.specs.declared.ends.Ends.{Ends}
use Rattle.night_drive.specs.declared.guessed.Owner.{Owner}
use Rattle.night_drive.specs.declared.guessed.Owner.TheVariants as owner
use Rattle.night_drive.specs.declared.names.Names.{Names}
use Rattle.night_drive.specs.declared.tallies.Tally.{Tally}
use Rattle.night_drive.specs.Distinct.{AreDistinct}
use Rattle.night_drive.specs.Guessed.{AreCounted, IsNoTry, IsOwner, IsOwnerIn, IsTryOf, Tries}
use Rattle.night_drive.specs.Guessed.{tried}
use Rattle.night_drive.specs.Names.{belongs, is_same, night_of}
use Rattle.night_drive.specs.Seen.{AreNames, IsCalled, is_owned, is_try, moment_of}
use Rattle.night_drive.specs.Tallies.{MOST, counted, known_by, owners_of, tally_of, with_try}
use Rattle.night_drive.specs.Tries.{counts, has_failed, phase_by}
use Rattle.night_drive.specs.Turns.{is_task}
use Rattle.night_drive.proofs.Parting.{tasks_part}
use Rattle.night_drive.proofs.Reading.{one_row}
use Rattle.night_drive.proofs.Tallying.{tally_more, try_by}
use Rattle.night_drive.proofs.Turning.{row_at as stage_row, try_is, HasRowAt}

-- ---- one command

-- The facts about a command with a tally, and with one try more.
known_tried : (p : State) (ends : Ends) (n : ℕ) (task : Task) (tally : Tally)
    → slice_get p.work.tasks n ≡ Some task
    → tried (moment_of ends n) task.stage (known_by p (moment_of ends) tally)
    ≡ known_by p (moment_of ends) (with_try n (has_stage has_failed p.work n) tally)
known_tried p ends n task tally is =
    ap (λ f. record {
      phase = phase_by (moment_of ends n) task.stage;
      failures = cond f (min (tally.failures + 1) MOST) tally.failures;
      canceled = false;
    }) (sym (ap (λ (o : Option Task). option_map_or (λ task. has_failed task.stage) o false) is))
    ∙ ap (λ ph. record {
      phase = ph;
      failures = cond (has_stage has_failed p.work n) (min (tally.failures + 1) MOST)
          tally.failures;
      canceled = false;
    }) (sym (ap (λ (o : Option Task).
    option_map_or (λ task. phase_by (moment_of ends n) task.stage) o Fresh) is))

-- The tally of a command of which a task is a try, and of one of which it is none.
tally_with : (p : State) (night : Option (List ℕ)) (group key : List ℕ) (n : ℕ) → n < MOST
    → is_try p night group key n ≡ true
    → with_try n (has_stage has_failed p.work n) (tally_of p night group key n)
    ≡ tally_of p night group key (n + 1)
tally_with p night group key n few its =
    ap (λ b. counted b n (has_stage has_failed p.work n) (tally_of p night group key n)) (sym its)
    ∙ tally_more p night group key n few

tally_without : (p : State) (night : Option (List ℕ)) (group key : List ℕ) (n : ℕ) → n < MOST
    → is_try p night group key n ≡ false
    → tally_of p night group key n ≡ tally_of p night group key (n + 1)
tally_without p night group key n few none =
    ap (λ b. counted b n (has_stage has_failed p.work n) (tally_of p night group key n)) (sym none)
    ∙ tally_more p night group key n few

-- ---- one task

-- A task that is a try of a command is a try of no other one.
other_not : (p : State) (plan : Plan) (names : Names) (n c : ℕ) → AreDistinct plan names
    → IsTryOf p names plan.commands.items n c → (d : ℕ) (command : Command) (group key : List ℕ)
    → IsCalled names plan.commands.items d command group key → c ≢ d
    → is_try p names.night group key n ≡ false
other_not p plan names n c distinct its d command group key called other =
    let task : is_task p names.night its.group its.key n ≡ true =
    (and_parts (is_task p names.night its.group its.key n) (has_stage counts p.work n)
    (sym (try_is p names.night its.group its.key n) ∙ its.tried)).0 in
    let not_its : is_task p names.night group key n ≡ false =
    tasks_part p plan names n c its.command its.group its.key distinct its.called task d command
    group key called ∙ ne_eqb c d other in
    try_is p names.night group key n ∙ ap (λ b. b && has_stage counts p.work n) not_its

pub counted_try : (p : State) (ends : Ends) (plan : Plan) (names : Names) (n c : ℕ)
    (old new : List Known) → n < MOST → AreDistinct plan names
    → IsTryOf p names plan.commands.items n c → Tries p ends c n old new
    → AreCounted n p ends names plan.commands.items old
    → AreCounted (n + 1) p ends names plan.commands.items new
counted_try p ends plan names n c old new few distinct its adds before d command group key called =
    elim (cases_eq d c) [
      | inl same ↦
          let alike : its.command ≡ command =
          one_row plan.commands.items c d its.command command (sym same) its.called.is called.is in
          let in_group : its.group ≡ group =
          one_row names.groups.items its.command.group command.group its.group group
          (ap (λ (x : Command). x.group) alike) its.called.group_is called.group_is in
          let of_key : its.key ≡ key =
          one_row names.keys.items c d its.key key (sym same) its.called.key_is called.key_is in
          ap (λ xs. slice_get xs d) made ∙ ap (λ m. slice_get (set old c now) m) same
          ∙ get_set_same old c now within
          ∙ ap (λ g. Some (known_by p (moment_of ends)
          (tally_of p names.night g its.key (n + 1)))) in_group
          ∙ ap (λ y. Some (known_by p (moment_of ends)
          (tally_of p names.night group y (n + 1)))) of_key
      | inr other ↦
          ap (λ xs. slice_get xs d) made
          ∙ get_set_other old c d now
          (slice_get_within old d (known_by p (moment_of ends) (tally_of p names.night group key n))
          (before d command group key called)) other
          ∙ before d command group key called
          ∙ ap (λ t. Some (known_by p (moment_of ends) t))
          (tally_without p names.night group key n few
          (other_not p plan names n c distinct its d command group key called
          (λ it. other (sym it))))
    ]
  where
    row : HasRowAt p n counts
    row =
        stage_row p n counts
        (and_parts (is_task p names.night its.group its.key n) (has_stage counts p.work n)
        (sym (try_is p names.night its.group its.key n) ∙ its.tried)).1

    tally : Tally
    tally = tally_of p names.night its.group its.key n

    there : slice_get old c ≡ Some (known_by p (moment_of ends)
        (tally_of p names.night its.group its.key n))
    there = before c its.command its.group its.key its.called

    within : c < length old
    within = slice_get_within old c (known_by p (moment_of ends)
        (tally_of p names.night its.group its.key n)) there

    now : Known
    now = known_by p (moment_of ends) (tally_of p names.night its.group its.key (n + 1))

    made : new ≡ set old c (known_by p (moment_of ends)
        (tally_of p names.night its.group its.key (n + 1)))
    made =
        adds row.row (known_by p (moment_of ends) tally) row.found there
        ∙ ap (set old c) (known_tried p ends n row.row tally row.found
        ∙ ap (known_by p (moment_of ends)) (tally_with p names.night its.group its.key n few
        its.tried))

-- ---- whose a task is

no_and : (b : Bool) → (b && false) ≡ false
no_and true = refl
no_and false = refl

-- Nor is one whose group no group of the plan owns.
pub none_owned : (p : State) (names : Names) (commands : List Command) (n : ℕ) (task : Task)
    → slice_get p.work.tasks n ≡ Some task
    → ((g : ℕ) (group : List ℕ) → slice_get names.groups.items g ≡ Some group
    → is_owned p names.night group task.group ≡ false)
    → IsNoTry p names commands n
none_owned p names commands n task is none c command group key called =
    try_by p names.night group key n task is
    ∙ ap (λ b. bytes_eq task.argument key && (counts task.stage && b))
    (none command.group group called.group_is)
    ∙ ap (λ b. bytes_eq task.argument key && b) (no_and (counts task.stage))
    ∙ no_and (bytes_eq task.argument key)

-- Whether a group of the plan owns a group of the store.
owner_at : (p : State) (names : Names) (h : ℕ) (row : List Bool) (g : ℕ) (group : List ℕ)
    → row ≡ owners_of p names h → slice_get names.groups.items g ≡ Some group
    → slice_get row g ≡ Some (is_owned p names.night group h)
owner_at p names h row g group own name =
    ap (λ (xs : List Bool). slice_get xs g) own
    ∙ slice_get-map (λ x. is_owned p names.night x h) names.groups.items g
    ∙ ap (λ (o : Option (List ℕ)). option_map (λ x. is_owned p names.night x h) o) name

pub owner_by : (p : State) (plan : Plan) (names : Names) (n : ℕ) (task : Task) (row : List Bool)
    (found : Owner) → AreNames plan names → slice_get p.work.tasks n ≡ Some task
    → counts task.stage ≡ true → row ≡ owners_of p names task.group
    → IsOwnerIn names plan.commands.items row task.argument found
    → IsOwner p names plan.commands.items n found
owner_by p plan names n task row (owner.Command c) named is holds own its =
    let inside : its.command.group < length names.groups.items =
    let sound = plan.sound.own c its.command its.is in omega (arith, sound, named.groups) in
    let group : (x : List ℕ) × (slice_get names.groups.items its.command.group ≡ Some x) =
    row_at names.groups.items its.command.group inside in
    let owned : is_owned p names.night group.0 task.group ≡ true =
    sym (get_or_from_slice_get row its.command.group (is_owned p names.night group.0 task.group)
    false (owner_at p names task.group row its.command.group group.0 own group.1)) ∙ its.owned in
    record {
      command = its.command;
      group = group.0;
      key = task.argument;
      called = record { is = its.is; group_is = group.1; key_is = its.key_is };
      tried = try_by p names.night group.0 task.argument n task is
          ∙ ap (λ b. b && (counts task.stage && is_owned p names.night group.0 task.group))
          ((bytes_eq-Decides task.argument task.argument).1 refl)
          ∙ ap (λ b. b && is_owned p names.night group.0 task.group) holds ∙ owned;
    }
owner_by p plan names n task row owner.Nobody named is holds own none =
    none_owned p names plan.commands.items n task is
    (λ g group name. by_owner g group name (is_owned p names.night group task.group) refl)
  where
    by_owner : (g : ℕ) (group : List ℕ) → slice_get names.groups.items g ≡ Some group
        → (b : Bool) → is_owned p names.night group task.group ≡ b
        → is_owned p names.night group task.group ≡ false
    by_owner g group name false owned = owned
    by_owner g group name true owned =
        let at : slice_get row g ≡ Some true =
        owner_at p names task.group row g group own name ∙ ap (λ b. Some b) owned in
        absurd (false≢true (sym none
        ∙ list_any_at (λ b. b) row g false (slice_get_within row g true at)
        (get_or_from_slice_get row g true false at)))
owner_by p plan names n task row owner.Unknown named is holds own its = tt
