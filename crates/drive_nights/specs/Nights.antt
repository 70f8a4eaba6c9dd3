-- The number of a night, and which night of a store goes on or begins.
use Rattle.std.specs.Prelude.{◌≡◌, ◌≤◌, ℕ, ◌+◌, ◌&&◌, ◌||◌, nat_le, Bool, false, if◌then◌else◌}
use Rattle.std.specs.Prelude.{List}
use Rattle.std.specs.Prelude.{codes, length, Option, Some, None, is_some, slice_get}
use Rattle.std.specs.Fmt.{decimal}
use Rattle.std.specs.Option.{option_map_or}
use Rattle.std.specs.Str.{bytes_eq}
use Rattle.run_model.specs.Allowed.{takes_cause}
use Rattle.run_model.specs.declared.scopes.Kind.{Kind}
use Rattle.run_model.specs.declared.scopes.Scope.{Scope}
use Rattle.run_model.specs.Scopes.{text_under}
use Rattle.run_model.specs.State.{State, scope_named}
use Rattle.console_lines.specs.Numbers.{number_of}
use Rattle.night_drive.specs.Names.{begins, is_same, night_of}
use Rattle.night_drive.specs.Searches.{last_below}
use Rattle.drive_nights.specs.declared.names.Role.TheVariants.{Ended}
use Rattle.drive_nights.specs.declared.nights.TheConstants.{MOST_NIGHTS}
use Rattle.drive_nights.specs.Names.{role_name}
use Rattle.drive_nights.specs.Searches.{greatest_below}

-- ---- numbers

-- The number that a text says. A text that isn't a number from 1 to 999,999,999 counts as 1.
abbrev pub number_in : List ℕ → ℕ
number_in text =
    option_map_or (λ n. if nat_le 1 n && nat_le n MOST_NIGHTS then n else 1) (number_of text) 1

-- The night that a scope of this kind begins. A scope that begins none counts for the first one.
abbrev pub night_under : Kind → ℕ
night_under kind = option_map_or number_in (text_under (codes "night") kind) 1

-- The night that scope s begins.
abbrev pub night_at : State → ℕ → ℕ
night_at p s = option_map_or (λ row. night_under row.kind) (slice_get p.tree.scopes s) 1

-- The last night of a store is the one with the greatest number.
abbrev pub last_night : State → ℕ
last_night p = greatest_below (night_at p) (length p.tree.scopes)

-- The number of night n, as its scopes have it. The scopes of the first night have none.
abbrev pub night_text : ℕ → Option (List ℕ)
night_text n = if nat_le n 1 then None else Some (decimal n)

-- ---- the scopes of all groups of a night together

-- This is the name of the first night's top: `night`, or `night--1-2` if it needed a second one.
abbrev pub is_first_top : List ℕ → Bool
is_first_top name = bytes_eq name (codes "night") || begins name (codes "night--1-")

-- A scope of this row can be the base of night n. In the first night that is its top, and later a
-- value scope with the number of the night.
abbrev pub is_base_row : ℕ → Scope → Bool
is_base_row n row =
    if nat_le n 1 then takes_cause row.kind && is_first_top row.name
    else is_same (text_under (codes "night") row.kind) (night_text n)

-- Scope s can be the base of night n: its row is that of a base, and it stands in this night.
abbrev pub is_base : State → (n s : ℕ) → Bool
is_base p n s =
    option_map_or (is_base_row n) (slice_get p.tree.scopes s) false
    && is_same (night_of p s) (night_text n)

-- The base of a night, below which the scopes of its groups are made. It is the last such scope.
abbrev pub base_of : State → ℕ → Option ℕ
base_of p n = last_below (is_base p n) (length p.tree.scopes)

-- The scope above scope s, and the name of scope s.
abbrev pub parent_of : State → ℕ → ℕ
parent_of p s = option_map_or (λ row. row.parent) (slice_get p.tree.scopes s) 0

abbrev pub name_at : State → ℕ → List ℕ
name_at p s = option_map_or (λ row. row.name) (slice_get p.tree.scopes s) (codes "root")

-- The top of night n, whose base this is: the scope that stops all of its groups.
abbrev pub top_above : State → (n s : ℕ) → ℕ
top_above p n s = if nat_le n 1 then s else parent_of p s

-- ---- which night it is

-- A night has ended if its top has the mark of that.
abbrev pub is_ended : State → ℕ → Bool
is_ended p n =
    option_map_or (λ s. is_some (scope_named p.tree
    (role_name (name_at p (top_above p n s)) Ended))) (base_of p n) false

-- The night that goes on or begins with an opening. The last night goes on, unless it has ended or
-- another one is wanted. A night that has no base yet hasn't begun.
abbrev pub night_of_store : State → (next : Bool) → ℕ
night_of_store p next =
    if is_some (base_of p (last_night p)) && (next || is_ended p (last_night p))
    then last_night p + 1 else last_night p

-- ---- a law

-- No scope of a store is of a later night than the last one.
abbrev pub NoneIsLater : Type 0
NoneIsLater =
    (p : State) (s : ℕ) (text : List ℕ) → night_of p s ≡ Some text
    → number_in text ≤ last_night p
