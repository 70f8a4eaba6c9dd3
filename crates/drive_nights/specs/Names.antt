-- The names that the scopes and groups of a night have in a store.
use Rattle.std.specs.Prelude.{◌≡◌, ◌<◌, ◌^◌, true}
use Rattle.std.specs.Prelude.{ℕ, ◌+◌, ◌&&◌, nat_le, Bool, false, if◌then◌else◌, List, ◌++◌, codes}
use Rattle.std.specs.Prelude.{is_none, length, min, slice_get, take}
use Rattle.std.specs.Fmt.{decimal}
use Rattle.std.specs.Option.{option_map_or}
use Rattle.run_model.specs.declared.bounds.TheConstants.{NAME_LEN}
use Rattle.run_model.specs.State.{State}
use Rattle.night_drive.specs.Distinct.{IsPlain}
use Rattle.night_drive.specs.Names.{belongs}
use Rattle.night_drive.specs.Searches.{last_below}
use Rattle.drive_nights.specs.declared.names.Role.{Role}
use Rattle.drive_nights.specs.declared.names.Role.TheVariants.{Until, Said, Round, Ended}
use Rattle.drive_nights.specs.declared.names.TheConstants.{LONGEST_NUMBERED, MOST_ROUNDS}
use Rattle.drive_nights.specs.Searches.{first_from}

-- ---- one name

-- The k-th name of a group in night n. The group `disks` is called `disks` in the first night,
-- `disks--2` in the second one, and `disks--2-3` if it needs a third scope in that night.
abbrev pub round_name : (group : List ℕ) → (n k : ℕ) → List ℕ
round_name group n k =
    if nat_le k 1
    then (if nat_le n 1 then group else group ++ codes "--" ++ decimal n)
    else group ++ codes "--" ++ decimal n ++ codes "-" ++ decimal k

-- The word of a role.
abbrev pub role_word : Role → List ℕ
role_word Until = codes "until"
role_word Said = codes "said"
role_word Round = codes "round"
role_word Ended = codes "ended"

-- The name of the scope that has a role for the scope of this name, as `disks--2--until`. If that
-- were longer than a name may be, only the first letter of the role stands in it.
abbrev pub role_name : (name : List ℕ) → Role → List ℕ
role_name name role =
    if nat_le (length (name ++ codes "--" ++ role_word role)) NAME_LEN
    then name ++ codes "--" ++ role_word role
    else name ++ codes "--" ++ take 1 (role_word role)

-- The name of a group leaves room for the number of the night, a round and a role.
abbrev pub is_short : (group : List ℕ) → (n : ℕ) → Bool
is_short group n = nat_le (length group + length (decimal n)) LONGEST_NUMBERED

-- ---- a free name

-- Scope s has this name, or this name with a role after it.
abbrev pub has_scope : State → List ℕ → ℕ → Bool
has_scope p name s =
    option_map_or (λ row. belongs name row.name) (slice_get p.tree.scopes s) false

-- So has group g.
abbrev pub has_group : State → List ℕ → ℕ → Bool
has_group p name g =
    option_map_or (λ row. belongs name row.name) (slice_get p.work.groups g) false

-- No scope and no group has this name, or this name with a role after it.
abbrev pub is_free : State → List ℕ → Bool
is_free p name =
    is_none (last_below (has_scope p name) (length p.tree.scopes))
    && is_none (last_below (has_group p name) (length p.work.groups))

-- How many rounds are tried: one for each name that the store has, and at most 98.
abbrev pub most_rounds : State → ℕ
most_rounds p = min (length p.tree.scopes + length p.work.groups) MOST_ROUNDS

-- The round of the first free name of a group in night n.
abbrev pub free_round : State → (group : List ℕ) → (n : ℕ) → ℕ
free_round p group n =
    first_from (λ k. is_free p (round_name group n k)) 1 (most_rounds p)

-- The first free name of a group in night n.
abbrev pub free_name : State → (group : List ℕ) → (n : ℕ) → List ℕ
free_name p group n = round_name group n (free_round p group n)

-- ---- a law

-- Each name of a group belongs to the group, and to no other group with a plain name.
abbrev pub NamesBelong : Type 0
NamesBelong =
    (group : List ℕ) (n k : ℕ) → n < 2 ^ 64
    → (belongs group (round_name group n k) ≡ true)
    × ((other : List ℕ) → IsPlain group → IsPlain other → (group ≡ other → ⊥)
    → belongs other (round_name group n k) ≡ false)
