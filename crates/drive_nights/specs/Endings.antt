-- What is left of other nights in a store, and the steps that end it.
use Rattle.std.specs.Prelude.{ℕ, zero, suc, ◌&&◌, ◌||◌, not, Bool, if◌then◌else◌}
use Rattle.std.specs.Prelude.{List, [], ◌∷◌, ◌++◌, codes, length, Option, Some, None, is_some}
use Rattle.std.specs.Prelude.{slice_get}
use Rattle.std.specs.Option.{option_and_then, option_map, option_map_or}
use Rattle.run_model.specs.declared.commands.Command.TheVariants as call
use Rattle.run_model.specs.declared.commands.Step.{Step}
use Rattle.run_model.specs.declared.commands.Step.TheVariants as step
use Rattle.run_model.specs.declared.groups.Group.{Group}
use Rattle.run_model.specs.declared.scopes.Kind.{Kind}
use Rattle.run_model.specs.declared.scopes.Kind.TheVariants as kind
use Rattle.run_model.specs.declared.scopes.Scope.{Scope}
use Rattle.run_model.specs.Scopes.{is_done, line, text_under}
use Rattle.run_model.specs.State.{State}
use Rattle.model_laws.specs.Hits.{is_on}
use Rattle.night_drive.specs.Names.{is_same, night_of}
use Rattle.night_drive.specs.Searches.{last_below}
use Rattle.drive_nights.specs.Nights.{is_base, night_text, parent_of}

-- Scope s stands in another night than n.
abbrev pub is_elsewhere : State → (n s : ℕ) → Bool
is_elsewhere p n s = not (is_same (night_of p s) (night_text n))

-- Scope t is a scope of night n, or stands above one.
abbrev pub holds : State → (n t : ℕ) → Bool
holds p n t =
    is_some (last_below (λ s. not (is_elsewhere p n s) && is_on t (line p.tree.scopes s))
    (length p.tree.scopes))

-- ---- groups

-- A group of the store is left over if it stands in another night, and wasn't waited for.
abbrev pub is_left : State → ℕ → Group → Bool
is_left p n row = not row.waited && is_elsewhere p n row.scope

-- Group g is waited for, if it is left over.
abbrev pub wait_at : State → (n g : ℕ) → List Step
wait_at p n g =
    option_map_or (λ row. if is_left p n row then step.Command (call.Wait row.name) ∷ [] else [])
    (slice_get p.work.groups g) []

-- The same of each group below this number, in order.
abbrev pub waits_below : State → ℕ → ℕ → List Step
waits_below p n zero = []
waits_below p n (suc g) = waits_below p n g ++ wait_at p n g

-- ---- scopes

-- The top of the night whose base scope s is. In the first night that is the base, and later the
-- scope above the one that holds the number of the night.
abbrev pub top_at : State → ℕ → Option ℕ
top_at p s =
    if is_base p 1 s then Some s
    else option_and_then (λ row. option_map (λ _. row.parent)
    (text_under (codes "night") row.kind)) (slice_get p.tree.scopes s)

-- The cause with which a scope of this kind is canceled: `over`, or none if it has a deadline. No
-- other scope is canceled here.
abbrev pub cause_of : Kind → Option (Option (List ℕ))
cause_of kind.Cause = Some (Some (codes "over"))
cause_of (kind.Deadline _ _) = Some None
cause_of _ = None

-- The scope s of this row is canceled, unless it is done already, or night n would be done, too.
abbrev pub cancel_row : State → (n s : ℕ) → Scope → List Step
cancel_row p n s row =
    option_map_or (λ cause. if is_done p.tree.scopes s || holds p n s then []
    else step.Command (call.Cancel row.name cause) ∷ []) (cause_of row.kind) []

abbrev pub cancel_of : State → (n s : ℕ) → List Step
cancel_of p n s = option_map_or (cancel_row p n s) (slice_get p.tree.scopes s) []

-- The top of another night is canceled, if scope s is its base, and so is the deadline above it.
abbrev pub cancels_at : State → (n s : ℕ) → List Step
cancels_at p n s =
    option_map_or (λ top. if is_elsewhere p n s
    then cancel_of p n top ++ cancel_of p n (parent_of p top) else []) (top_at p s) []

-- The same of each scope below this number, in order.
abbrev pub cancels_below : State → ℕ → ℕ → List Step
cancels_below p n zero = []
cancels_below p n (suc s) = cancels_below p n s ++ cancels_at p n s

-- ---- all of it

-- The steps that end what is left of all nights but night n.
abbrev pub endings_of : State → ℕ → List Step
endings_of p n =
    waits_below p n (length p.work.groups) ++ cancels_below p n (length p.tree.scopes)
