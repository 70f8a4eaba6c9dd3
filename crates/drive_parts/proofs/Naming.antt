-- Names and keys that are looked up.
use Rattle.std.specs.Prelude.{◌≡◌, ◌<◌, ◌≤◌, ◌+◌, ◌==◌, ◌&&◌, ℕ, Bool, true, false, List, Some}
use Rattle.std.specs.Prelude.{[], ◌∷◌, length, map, slice_get, slice_index_or}
use Rattle.std.specs.Option.{option_map}
use Rattle.std.specs.Str.{bytes_eq}
use Rattle.std.proofs.Common.{arith, inl, inr, refl, sym, ap, subst, ◌∙◌}
use Rattle.std.proofs.lemmas.Bool.{both_ways, cases_eq, cases_lt}
use Rattle.std.proofs.lemmas.Bool.Decides.{Decides-and, Decides-eqb}
use Rattle.std.proofs.lemmas.Option.{same_Some, slice_get-map, slice_get_read, slice_get_within}
use Rattle.std.proofs.lemmas.Slice.Eq.{bytes_eq-Decides}
use Rattle.night_plan.specs.declared.commands.Command.{Command}
use Rattle.drive_parts.specs.Additions.{Listed, listed}
use Rattle.drive_parts.specs.Names.{AreGroupNames, AreKeys, HasKey, IsGroupName}
use Rattle.drive_parts.specs.Names.{IsTwice, groups_of}

-- Nothing holds of these numbers, and nothing of the next one.
pub none_more : (P : ℕ → Type 0) (n : ℕ) → ((k : ℕ) → k < n → P k → ⊥) → (P n → ⊥)
    → (k : ℕ) → k < n + 1 → P k → ⊥
none_more P n below here k less holds = elim (cases_eq k n) [
  | inl same ↦ here (subst P same holds)
  | inr other ↦ below k (omega (arith, less, other)) holds
]

-- A row that is read by its number.
pub read : {A : Type 0} (xs : List A) (i : ℕ) (x : A) → i < length xs → x ≡ slice_index_or xs i x
    → slice_get xs i ≡ Some x
read xs i x below is = slice_get_read xs (length xs) i x refl below is

-- ---- names

pub same_name : (names : List (List ℕ)) (g : ℕ) (own name : List ℕ) (b : Bool) → g < length names
    → own ≡ slice_index_or names g own → b ≡ bytes_eq own name → b ≡ true
    → slice_get names g ≡ Some name
same_name names g own name b below is test passes =
    read names g own below is ∙ ap Some ((bytes_eq-Decides own name).0 (sym test ∙ passes))

pub other_name : (names : List (List ℕ)) (g : ℕ) (own name : List ℕ) (b : Bool) → g < length names
    → own ≡ slice_index_or names g own → b ≡ bytes_eq own name → b ≡ false
    → slice_get names g ≡ Some name → ⊥
other_name names g own name b below is test none has =
    both_ways b none (test ∙ (bytes_eq-Decides own name).1
    (same_Some own name (sym (read names g own below is) ∙ has)))

-- ---- keys

-- A command and its key that are read by their number.
module _ (commands : List Command) (keys : List (List ℕ)) (c : ℕ) (d : Command) (k : List ℕ)
    (below : c < length commands) (keyed : length keys ≡ length commands)
    (is : d ≡ slice_index_or commands c d) (has : k ≡ slice_index_or keys c k) where
  pub key_at : HasKey (groups_of commands) keys (slice_index_or commands c d).group k c
  key_at = record {
    is_in =
        slice_get-map (λ (command : Command). command.group) commands c
        ∙ ap (option_map (λ (command : Command). command.group))
        (read commands c (slice_index_or commands c d) below
        (ap (λ (x : Command). slice_index_or commands c x) is));
    has = read keys c k (omega (arith, below, keyed)) has;
  }

  module _ (group : ℕ) (key : List ℕ) (b : Bool)
      (test : b ≡ ((slice_index_or commands c d).group == group && bytes_eq k key)) where
    pub same_key : b ≡ true → HasKey (groups_of commands) keys group key c
    same_key passes =
        let own = (slice_index_or commands c d).group in
        let both =
        (Decides-and (own == group) (bytes_eq k key) (Decides-eqb own group)
        (bytes_eq-Decides k key)).0 (sym test ∙ passes) in
        record {
          is_in = key_at.is_in ∙ ap Some both.0;
          has = key_at.has ∙ ap Some both.1;
        }

    pub other_key : b ≡ false → HasKey (groups_of commands) keys group key c → ⊥
    other_key none other =
        let own = (slice_index_or commands c d).group in
        both_ways b none (test
        ∙ (Decides-and (own == group) (bytes_eq k key) (Decides-eqb own group)
        (bytes_eq-Decides k key)).1 (
          same_Some own group (sym key_at.is_in ∙ other.is_in),
          same_Some k key (sym key_at.has ∙ other.has),
        ))

-- ---- all of them

-- Each of the first names is that of a group, and no earlier one is the same.
pub record AreFine (names : List (List ℕ)) (n : ℕ) : Type 0 where
  pub each : (g : ℕ) (name : List ℕ) → g < n → slice_get names g ≡ Some name → IsGroupName name
  pub own : (g h : ℕ) (name : List ℕ) → h < g → g < n → slice_get names g ≡ Some name
      → slice_get names h ≡ Some name → ⊥

pub more_fine : (names : List (List ℕ)) (n : ℕ) (own : List ℕ) → AreFine names n
    → slice_get names n ≡ Some own → IsGroupName own
    → ((g : ℕ) × (g < n) × (slice_get names g ≡ Some own) → ⊥) → AreFine names (n + 1)
more_fine names n own fine is allowed free = record {
  each = λ g name less at. elim (cases_eq g n) [
    | inl same ↦
        subst IsGroupName
        (same_Some own name (sym is ∙ ap (slice_get names) (sym same) ∙ at)) allowed
    | inr other ↦ fine.each g name (omega (arith, less, other)) at
  ];
  own = λ g h name below less at other. elim (cases_eq g n) [
    | inl same ↦
        let equal : name ≡ own =
        same_Some name own (sym at ∙ ap (slice_get names) same ∙ is) in
        free (h, omega (arith, below, same), other ∙ ap Some equal)
    | inr before ↦ fine.own g h name below (omega (arith, less, before)) at other
  ];
}

pub all_fine : (names : List (List ℕ)) (n : ℕ) → AreFine names n → length names ≤ n
    → AreGroupNames names
all_fine names n fine all = record {
  each = λ g name at.
      fine.each g name (omega (arith, slice_get_within names g name at, all)) at;
  own = λ g h name at other.
      let g_less = slice_get_within names g name at in
      let h_less = slice_get_within names h name other in
      elim (cases_lt g h) [
        | inl before ↦
            absurd (fine.own h g name before (omega (arith, h_less, all)) other at)
        | inr after ↦ elim (cases_eq g h) [
          | inl same ↦ same
          | inr differ ↦
              absurd (fine.own g h name (omega (arith, after, differ))
              (omega (arith, g_less, all)) at other)
        ]
      ];
}

-- No command has the key of an earlier one of its group.
abbrev pub AreApart : (groups : List ℕ) → (keys : List (List ℕ)) → ℕ → Type 0
AreApart groups keys n =
    (c d group : ℕ) (key : List ℕ) → d < c → c < n → HasKey groups keys group key c
    → HasKey groups keys group key d → ⊥

pub more_apart : (groups : List ℕ) (keys : List (List ℕ)) (n own : ℕ) (name : List ℕ)
    → AreApart groups keys n → HasKey groups keys own name n
    → ((c : ℕ) × (c < n) × HasKey groups keys own name c → ⊥) → AreApart groups keys (n + 1)
more_apart groups keys n own name apart has free c d group key below less at other =
    elim (cases_eq c n) [
      | inl same ↦
          let in_group : group ≡ own =
          same_Some group own (sym at.is_in ∙ ap (slice_get groups) same ∙ has.is_in) in
          let of_key : key ≡ name =
          same_Some key name (sym at.has ∙ ap (slice_get keys) same ∙ has.has) in
          free (
            d,
            omega (arith, below, same),
            record {
              is_in = other.is_in ∙ ap Some in_group;
              has = other.has ∙ ap Some of_key;
            },
          )
      | inr before ↦ apart c d group key below (omega (arith, less, before)) at other
    ]

pub all_apart : (groups : List ℕ) (keys : List (List ℕ)) (n : ℕ) → AreApart groups keys n
    → length groups ≤ n → AreKeys groups keys
all_apart groups keys n apart all c d group key at other =
    let c_less = slice_get_within groups c group at.is_in in
    let d_less = slice_get_within groups d group other.is_in in
    elim (cases_lt c d) [
      | inl before ↦ absurd (apart d c group key before (omega (arith, d_less, all)) other at)
      | inr after ↦ elim (cases_eq c d) [
        | inl same ↦ same
        | inr differ ↦
            absurd (apart c d group key (omega (arith, after, differ))
            (omega (arith, c_less, all)) at other)
      ]
    ]

-- The groups of commands, if they are listed as lines describe them.
pub groups_listed : (commands : List Command)
    → map (λ (command : Listed). command.outline.group) (map listed commands) ≡ groups_of commands
groups_listed [] = refl
groups_listed (command ∷ commands) =
    ap (λ (l : List ℕ). command.group ∷ l) (groups_listed commands)

-- The same commands and keys, by another name.
pub twice_at : (groups others : List ℕ) (keys same : List (List ℕ)) (c : ℕ) → groups ≡ others
    → keys ≡ same → IsTwice groups keys c → IsTwice others same c
twice_at groups others keys same c is has twice =
    subst (λ (g : List ℕ). IsTwice g same c) is
    (subst (λ (k : List (List ℕ)). IsTwice groups k c) has twice)

pub keys_at : (groups others : List ℕ) (keys same : List (List ℕ)) → groups ≡ others
    → keys ≡ same → AreKeys groups keys → AreKeys others same
keys_at groups others keys same is has own =
    subst (λ (g : List ℕ). AreKeys g same) is
    (subst (λ (k : List (List ℕ)). AreKeys groups k) has own)
