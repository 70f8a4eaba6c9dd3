-- The effect of the steps of an opening on a night.
use Rattle.std.specs.Prelude.{◌≡◌, ◌<◌, ◌≤◌, ◌⊎◌, ◌↔◌, ◌+◌, ◌^◌, ◌||◌, ℕ, nat_le, Bool, true}
use Rattle.std.specs.Prelude.{false, if◌then◌else◌, List, [], ◌∷◌, ◌++◌, codes, Option, Some, None}
use Rattle.std.specs.Prelude.{is_none}
use Rattle.std.specs.Fmt.{decimal}
use Rattle.std.specs.Prelude.{is_some, max, slice_get}
use Rattle.std.specs.List.{list_all}
use Rattle.std.specs.Option.{option_map_or}
use Rattle.run_model.specs.declared.answers.Reply.{Reply}
use Rattle.run_model.specs.declared.answers.Reply.TheVariants as reply
use Rattle.run_model.specs.declared.commands.Step.{Step}
use Rattle.run_model.specs.declared.scopes.Kind.TheVariants as kind
use Rattle.run_model.specs.declared.scopes.Scope.{Scope}
use Rattle.run_model.specs.Rows.{new_scope}
use Rattle.run_model.specs.Rules.{IsConsistent}
use Rattle.run_model.specs.Scopes.{is_done}
use Rattle.run_model.specs.Session.{Session, after_step, replies, session_after}
use Rattle.run_model.specs.State.{State}
use Rattle.run_model.specs.Tasks.{has_stage, is_fresh, is_running}
use Rattle.night_plan.specs.declared.commands.Plan.{Plan}
use Rattle.night_plan.specs.declared.facts.Known.{Known}
use Rattle.night_plan.specs.declared.facts.Phase.TheVariants as phase
use Rattle.night_drive.specs.declared.ends.Ends.{Ends}
use Rattle.night_drive.specs.declared.names.Names.{Names}
use Rattle.night_drive.specs.Distinct.{IsPlain}
use Rattle.night_drive.specs.PlanTurns.{AreBare, night_in}
use Rattle.night_drive.specs.Seen.{AreNames, is_over, known_of}
use Rattle.drive_nights.specs.declared.nights.TheConstants.{MOST_NIGHTS}
use Rattle.drive_nights.specs.declared.untils.Until.{Until}
use Rattle.drive_nights.specs.declared.names.Role.TheVariants.{Ended}
use Rattle.drive_nights.specs.Marks.{mark_of}
use Rattle.drive_nights.specs.Names.{role_name}
use Rattle.drive_nights.specs.Nights.{base_of, is_ended, last_night, name_at, night_of_store}
use Rattle.drive_nights.specs.Nights.{night_text, top_above}
use Rattle.drive_nights.specs.Openings.{growth_of, opening_of, until_at}
use Rattle.drive_nights.specs.Rooms.{is_changed, is_room, kept_base, kept_scope, last_room}
use Rattle.drive_nights.specs.Rooms.{last_scope, room_steps, was_canceled}

-- A step was taken if it wasn't refused.
abbrev pub is_taken : Reply → Bool
is_taken (reply.Refused why) = false
is_taken _ = true

-- Each of these steps is taken.
abbrev pub AreTaken : Session → List Step → Type 0
AreTaken s steps = list_all is_taken (replies s steps) ≡ true

-- ---- an opening

-- The deadline has come by the clock of the store.
abbrev pub has_come : State → Option Until → Bool
has_come p until = option_map_or (λ u. nat_le u.moment p.tree.clock) until false

-- The base of a night is done after its opening: the one that was kept is done, or the deadline of
-- the new one has come.
abbrev pub is_base_over : State → ℕ → (all : Option Until) → Bool
is_base_over p n all = option_map_or (is_done p.tree.scopes) (kept_base p n all) (has_come p all)

-- A group keeps its scope in an opening.
abbrev pub is_kept : State → ℕ → (all : Option Until) → (group : List ℕ) → Option Until → Bool
is_kept p n all group until =
    is_some (kept_scope p n group until (is_none (kept_base p n all)))

-- A group is done after an opening: as before, if it keeps its scope. Its new scope is done if the
-- base is, or if its deadline has come.
abbrev pub is_over_after : State → ℕ → (all : Option Until) → (group : List ℕ) → Option Until
    → Bool
is_over_after p n all group until =
    if is_kept p n all group until then is_over p (night_text n) group
    else is_base_over p n all || has_come p until

-- These groups have names of their own, which are plain, and none is called `night`.
pub record AreNamed (groups : List (List ℕ)) : Type 0 where
  pub plain : (g : ℕ) (name : List ℕ) → slice_get groups g ≡ Some name → IsPlain name
  pub apart : (g h : ℕ) (name : List ℕ) → slice_get groups g ≡ Some name
      → slice_get groups h ≡ Some name → g ≡ h
  pub free : (g : ℕ) → slice_get groups g ≡ Some (codes "night") → ⊥

-- Night n is opened for these groups, and no step is refused. No group of the store has a scope of
-- its own.
pub record IsOpening (s : Session) (n : ℕ) (groups : List (List ℕ)) (untils : List (Option Until))
    (all : Option Until) : Type 0 where
  pub consistent : IsConsistent s.state
  pub bare : AreBare s.state.work
  pub named : AreNamed groups
  pub number : n < 2 ^ 64
  pub taken : AreTaken s (opening_of s.state n groups untils all)

-- The state after the steps of an opening.
abbrev pub opened : Session → ℕ → (groups : List (List ℕ)) → (untils : List (Option Until))
    → (all : Option Until) → State
opened s n groups untils all =
    (session_after s (opening_of s.state n groups untils all)).state

-- Night n is open in this state, and it has come from that one. No task waits to be started, none
-- runs that didn't, and each group has a group of the store for its tasks. What was known of the
-- commands is the same, and whether a group is done is as it was, unless the group has got a new
-- scope. The night has a base, so it has begun, and its end can be marked. The store's last night
-- is this one, unless it was a later one.
pub record IsOpen (p q : State) (n : ℕ) (groups : List (List ℕ)) (untils : List (Option Until))
    (all : Option Until) : Type 0 where
  pub consistent : IsConsistent q
  pub bare : AreBare q.work
  pub none_fresh : (m : ℕ) → has_stage is_fresh q.work m ≡ false
  pub ran : (m : ℕ) → has_stage is_running q.work m ≡ true → has_stage is_running p.work m ≡ true
  pub housed : (g : ℕ) (group : List ℕ) → slice_get groups g ≡ Some group
      → is_some (last_room q n group) ≡ true
  pub known : (ended : ℕ → ℕ) (night : Option (List ℕ)) (group key : List ℕ)
      → known_of q ended night group key ≡ known_of p ended night group key
  pub over : (g : ℕ) (group : List ℕ) → slice_get groups g ≡ Some group
      → is_over q (night_text n) group ≡ is_over_after p n all group (until_at untils g)
  pub based : 1 ≤ n → is_some (base_of q n) ≡ true
  pub last : 1 ≤ n → n ≤ MOST_NIGHTS → last_night q ≡ max (last_night p) n

-- After an opening the night is open.
abbrev pub OpeningsOpen : Type 0
OpeningsOpen =
    (s : Session) (n : ℕ) (groups : List (List ℕ)) (untils : List (Option Until))
    (all : Option Until) → IsOpening s n groups untils all
    → IsOpen s.state (opened s n groups untils all) n groups untils all

-- ---- what an opening leaves

-- The names of a plan are those of these groups, in this night.
pub record AreOf (names : Names) (n : ℕ) (groups : List (List ℕ)) : Type 0 where
  pub groups_are : names.groups.items ≡ groups
  pub night_is : names.night ≡ night_text n

-- An opening in which each group keeps its scope changes nothing about the night.
abbrev pub OpeningsAreNoTurns : Type 0
OpeningsAreNoTurns =
    (s : Session) (n : ℕ) (groups : List (List ℕ)) (untils : List (Option Until))
    (all : Option Until) (ends : Ends) (plan : Plan) (names : Names)
    → IsOpening s n groups untils all → AreNames plan names → AreOf names n groups
    → ((g : ℕ) (group : List ℕ) → slice_get groups g ≡ Some group
    → is_kept s.state n all group (until_at untils g) ≡ true)
    → night_in (opened s n groups untils all) ends plan names ≡ night_in s.state ends plan names

-- A group that is done because it was canceled keeps its scope, and so it stays done.
abbrev pub CanceledGroupsStay : Type 0
CanceledGroupsStay =
    (s : Session) (n : ℕ) (groups : List (List ℕ)) (untils : List (Option Until))
    (all : Option Until) (g scope : ℕ) (group : List ℕ) → IsOpening s n groups untils all
    → slice_get groups g ≡ Some group → last_scope s.state n group ≡ Some scope
    → was_canceled s.state scope ≡ true
    → is_over (opened s n groups untils all) (night_text n) group
    ≡ is_over s.state (night_text n) group

-- So does a group whose deadline has the same words as before, if the base of the night stays.
abbrev pub SameDeadlinesStay : Type 0
SameDeadlinesStay =
    (s : Session) (n : ℕ) (groups : List (List ℕ)) (untils : List (Option Until))
    (all : Option Until) (g scope : ℕ) (group : List ℕ) → IsOpening s n groups untils all
    → slice_get groups g ≡ Some group → last_scope s.state n group ≡ Some scope
    → is_changed s.state scope (until_at untils g) ≡ false
    → is_some (kept_base s.state n all) ≡ true
    → is_over (opened s n groups untils all) (night_text n) group
    ≡ is_over s.state (night_text n) group

-- The night that goes on or begins with an opening is the last one after it. So it goes on with the
-- next opening, too, unless it has ended then or another one is wanted.
abbrev pub OpenedNightsGoOn : Type 0
OpenedNightsGoOn =
    (s : Session) (next : Bool) (n : ℕ) (groups : List (List ℕ)) (untils : List (Option Until))
    (all : Option Until) → IsOpening s n groups untils all → night_of_store s.state next ≡ n
    → n ≤ MOST_NIGHTS
    → (last_night (opened s n groups untils all) ≡ n)
    × (is_ended (opened s n groups untils all) n ≡ false
    → night_of_store (opened s n groups untils all) false ≡ n)

-- ---- a group that needs nothing

-- Tasks of a group can be submitted: the group's last group of the store stands in its last scope,
-- wasn't waited for, and has no limit.
pub record TakesTasks (p : State) (n : ℕ) (group : List ℕ) : Type 0 where
  pub scope : ℕ
  pub room : ℕ
  pub last : last_scope p n group ≡ Some scope
  pub is : last_room p n group ≡ Some room
  pub takes : is_room p scope room ≡ true
  pub unlimited : option_map_or (λ row. is_none row.limit) (slice_get p.work.groups room) false
      ≡ true

-- If nothing is made for a group, it takes tasks as it is.
abbrev pub NothingIsLacking : Type 0
NothingIsLacking =
    (p : State) (n : ℕ) (base : List ℕ) (moved : Bool) (group : List ℕ) (until : Option Until)
    → room_steps p n base moved group until ≡ [] → TakesTasks p n group

-- ---- a new night

-- A command that hasn't begun, and has never failed.
abbrev pub not_begun : Known
not_begun = record { phase = phase.Fresh; failures = 0; canceled = false }

-- In a night with a greater number than the last one of a store, no command has begun, and no group
-- has a scope.
abbrev pub NewNightsAreEmpty : Type 0
NewNightsAreEmpty =
    (p : State) (n : ℕ) → last_night p < n → n ≤ MOST_NIGHTS
    → ((ended : ℕ → ℕ) (group key : List ℕ)
    → known_of p ended (night_text n) group key ≡ not_begun)
    × ((group : List ℕ) → last_scope p n group ≡ None) × (base_of p n ≡ None)

-- ---- a mark

-- The mark of a night is taken.
pub record IsMarked (s : Session) (n : ℕ) (mark : Step) : Type 0 where
  pub consistent : IsConsistent s.state
  pub mark_is : mark_of s.state n ≡ Some mark
  pub taken : AreTaken s (mark ∷ [])

-- The row of the mark below this top: a value with the time of the store's clock.
abbrev pub mark_row : State → (top : ℕ) → Scope
mark_row p top =
    new_scope (role_name (name_at p top) Ended) top
    (kind.Value (codes "ended") (decimal p.tree.clock))

-- The mark below the top of the night is recorded, and nothing else. With it the night has ended.
-- If it was the last one, the next opening begins another one.
pub record IsClosed (p q : State) (n : ℕ) : Type 0 where
  pub base : ℕ
  pub based : base_of p n ≡ Some base
  pub scopes : q.tree.scopes ≡ p.tree.scopes ++ mark_row p (top_above p n base) ∷ []
  pub work : q.work ≡ p.work
  pub ended : is_ended q n ≡ true
  pub another : last_night p ≡ n → (next : Bool) → night_of_store q next ≡ n + 1

-- A mark that is taken ends its night.
abbrev pub MarksEnd : Type 0
MarksEnd =
    (s : Session) (n : ℕ) (mark : Step) → IsMarked s n mark
    → IsClosed s.state (after_step s mark).state n

-- Another night begins with the next opening if and only if the last one has begun, and has its
-- mark or another one is wanted. Otherwise the last one goes on.
abbrev pub NightsEnd : Type 0
NightsEnd =
    (p : State) (next : Bool)
    → ((night_of_store p next ≡ last_night p + 1)
    ↔ ((is_some (base_of p (last_night p)) ≡ true)
    × ((next ≡ true) ⊎ (is_ended p (last_night p) ≡ true))))
    × ((night_of_store p next ≡ last_night p + 1) ⊎ (night_of_store p next ≡ last_night p))

-- A night that has begun and has no mark goes on, unless another one is wanted.
abbrev pub NightsGoOn : Type 0
NightsGoOn =
    (p : State) → is_ended p (last_night p) ≡ false → night_of_store p false ≡ last_night p

-- ---- a group more

-- A group is added to night n, which has a base, and no step is refused.
pub record IsGrowth (s : Session) (n : ℕ) (group : List ℕ) (until : Option Until) : Type 0 where
  pub consistent : IsConsistent s.state
  pub plain : IsPlain group
  pub number : n < 2 ^ 64
  pub base : ℕ
  pub based : base_of s.state n ≡ Some base
  pub taken : AreTaken s (growth_of s.state n group until)

-- The group has a group of the store for its tasks. It is done as before if it had a scope that it
-- keeps, and otherwise if the base is or if its deadline has come. Nothing else has changed: no
-- task, no command, and no other group.
pub record IsGrown (p q : State) (n : ℕ) (group : List ℕ) (until : Option Until) (base : ℕ)
    : Type 0 where
  pub consistent : IsConsistent q
  pub tasks : q.work.tasks ≡ p.work.tasks
  pub known : (ended : ℕ → ℕ) (night : Option (List ℕ)) (other key : List ℕ)
      → known_of q ended night other key ≡ known_of p ended night other key
  pub housed : (other : List ℕ)
      → (other ≡ group) ⊎ (is_some (last_room p n other) ≡ true)
      → is_some (last_room q n other) ≡ true
  pub own : is_over q (night_text n) group
      ≡ (if is_some (kept_scope p n group until false) then is_over p (night_text n) group
      else is_done p.tree.scopes base || has_come p until)
  pub others : (night : Option (List ℕ)) (other : List ℕ) → IsPlain other → (group ≡ other → ⊥)
      → is_over q night other ≡ is_over p night other

-- After a growth the group has what it needs.
abbrev pub GrowthsHouse : Type 0
GrowthsHouse =
    (s : Session) (n : ℕ) (group : List ℕ) (until : Option Until)
    (growth : IsGrowth s n group until)
    → IsGrown s.state (session_after s (growth_of s.state n group until)).state n group until
    growth.base
