-- The scopes and groups of a store that the groups of a plan keep in a night, and the steps that
-- make those that are missing.
use Rattle.std.specs.Prelude.{ℕ, ◌==◌, ◌&&◌, ◌||◌, not, Bool, true, false, if◌then◌else◌}
use Rattle.std.specs.Prelude.{List, [], ◌∷◌, ◌++◌, codes, length, Option, Some, None, is_some}
use Rattle.std.specs.Prelude.{slice_get}
use Rattle.std.specs.Option.{option_and_then, option_map, option_map_or}
use Rattle.run_model.specs.declared.commands.Command.TheVariants as call
use Rattle.run_model.specs.declared.commands.Step.{Step}
use Rattle.run_model.specs.declared.commands.Step.TheVariants as step
use Rattle.run_model.specs.declared.commands.Wish.{Wish}
use Rattle.run_model.specs.declared.commands.Wish.TheVariants as wish
use Rattle.run_model.specs.declared.groups.Group.{Group}
use Rattle.run_model.specs.declared.scopes.Reason.{Reason}
use Rattle.run_model.specs.declared.scopes.Reason.TheVariants.{Canceled, DeadlineExceeded}
use Rattle.run_model.specs.Scopes.{reason_of, text_under}
use Rattle.run_model.specs.State.{State, scope_named}
use Rattle.night_drive.specs.Names.{is_same}
use Rattle.night_drive.specs.Searches.{last_below}
use Rattle.night_drive.specs.Seen.{is_scope}
use Rattle.drive_steps.specs.Rooms.{last_group}
use Rattle.drive_nights.specs.declared.names.Role.TheVariants as role
use Rattle.drive_nights.specs.declared.untils.Until.{Until}
use Rattle.drive_nights.specs.Names.{free_name, role_name}
use Rattle.drive_nights.specs.Nights.{base_of, name_at, night_text, top_above}

-- ---- deadlines

-- The words of the deadline with which the scope of this name was made.
abbrev pub words_of : State → List ℕ → Option (List ℕ)
words_of p name =
    option_and_then (λ s. option_and_then (λ row. text_under (codes "deadline") row.kind)
    (slice_get p.tree.scopes s)) (scope_named p.tree (role_name name role.Said))

-- The words of a deadline, if there is one.
abbrev pub words_in : Option Until → Option (List ℕ)
words_in until = option_map (λ u. u.words) until

-- The plan gives another deadline than scope s has. Two deadlines are the same if their words are.
abbrev pub is_changed : State → ℕ → Option Until → Bool
is_changed p s until = not (is_same (words_of p (name_at p s)) (words_in until))

-- The reason is a cancel, and not a deadline.
abbrev pub is_cancel : Reason → Bool
is_cancel Canceled = true
is_cancel DeadlineExceeded = false

-- Scope s is done because it was canceled, or a scope above it was.
abbrev pub was_canceled : State → ℕ → Bool
was_canceled p s = option_map_or is_cancel (reason_of p.tree.scopes s) false

-- Another scope takes the place of scope s: its deadline is another one now, and it wasn't
-- canceled.
abbrev pub is_replaced : State → ℕ → (changed : Bool) → Bool
is_replaced p s changed = changed && not (was_canceled p s)

-- ---- what a night keeps

-- The base of a night, if its top stays: if the deadline of all groups together is the same, or the
-- top was canceled.
abbrev pub kept_base : State → ℕ → (all : Option Until) → Option ℕ
kept_base p n all =
    option_and_then (λ s. if is_replaced p (top_above p n s) (is_changed p (top_above p n s) all)
    then None else Some s) (base_of p n)

-- The last scope of a group in a night.
abbrev pub last_scope : State → ℕ → (group : List ℕ) → Option ℕ
last_scope p n group = last_below (is_scope p (night_text n) group) (length p.tree.scopes)

-- The last scope of a group, if it stays: if neither its deadline nor that of all groups together
-- is another one now, or if it was canceled.
abbrev pub kept_scope : State → ℕ → (group : List ℕ) → Option Until → (moved : Bool) → Option ℕ
kept_scope p n group until moved =
    option_and_then (λ s. if is_replaced p s (moved || is_changed p s until) then None else Some s)
    (last_scope p n group)

-- The last group of the store that is a group's in a night.
abbrev pub last_room : State → ℕ → (group : List ℕ) → Option ℕ
last_room p n group = last_group p (night_text n) group

-- Group g of the store takes tasks in scope s.
abbrev pub is_room : State → (s g : ℕ) → Bool
is_room p s g =
    option_map_or (λ row. row.scope == s && not row.waited) (slice_get p.work.groups g) false

-- ---- steps

-- A scope is derived.
abbrev pub derive : (name parent : List ℕ) → Wish → Step
derive name parent wish = step.Command (call.Derive name parent wish)

-- A scope of this name below another one. Its deadline stands above it, and the words of that below
-- it.
abbrev pub scope_steps : (name parent : List ℕ) → Option Until → List Step
scope_steps name parent None = derive name parent wish.Cause ∷ []
scope_steps name parent (Some until) =
    derive (role_name name role.Until) parent (wish.Deadline until.moment (Some until.words))
    ∷ derive name (role_name name role.Until) wish.Cause
    ∷ derive (role_name name role.Said) name (wish.Value (codes "deadline") until.words)
    ∷ []

-- A new scope of a group, and a group of the store in it, with the same name.
abbrev pub new_room : (name base : List ℕ) → Option Until → List Step
new_room name base until = scope_steps name base until ++ step.Command (call.Bare name name) ∷ []

-- If group g of the store has a limit, it gets none.
abbrev pub unlimited : Group → List Step
unlimited row =
    if is_some row.limit then step.Command (call.SetLimit row.name None) ∷ [] else []

-- The same of group g, by its number.
abbrev pub unlimited_at : State → ℕ → List Step
unlimited_at p g = option_map_or unlimited (slice_get p.work.groups g) []

-- A group that keeps its scope keeps its group of the store, too, if that takes tasks in this
-- scope. Otherwise it gets another one.
abbrev pub old_room : State → ℕ → (group : List ℕ) → (s : ℕ) → List Step
old_room p n group s =
    if option_map_or (is_room p s) (last_room p n group) false
    then option_map_or (unlimited_at p) (last_room p n group) []
    else step.Command (call.Bare (free_name p group n) (name_at p s)) ∷ []

-- What a group needs in a night, below this base.
abbrev pub room_steps : State → ℕ → (base : List ℕ) → (moved : Bool) → (group : List ℕ)
    → Option Until → List Step
room_steps p n base moved group until =
    option_map_or (old_room p n group) (kept_scope p n group until moved)
    (new_room (free_name p group n) base until)
