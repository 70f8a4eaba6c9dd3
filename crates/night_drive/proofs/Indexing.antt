-- An index of a plan, to which one command after another is added.
use Rattle.std.proofs.Common.{◌≡◌, ◌<◌, ◌∙◌, ℕ, ◌+◌, ◌==◌, ◌&&◌, Bool, true, cond}
use Rattle.std.proofs.Common.{List, Option, Some, None, IsSome, slice_get, length, inl}
use Rattle.std.proofs.Common.{inr, ap, subst, sym, refl, arith}
use Rattle.std.proofs.lemmas.Bool.{and_from, and_parts, both_ways, cases_Bool, cases_eq}
use Rattle.std.proofs.lemmas.Bool.{cond-false, cond-true, eq-eqb, eqb-true}
use Rattle.std.proofs.lemmas.Option.{none-some, same_Some, slice_get_within}
use Rattle.std.proofs.lemmas.Slice.Eq.{bytes_eq-Decides}
use Rattle.std.specs.Str.{bytes_eq}
use Rattle.night_plan.specs.declared.commands.Command.{Command}
use Rattle.night_drive.specs.declared.index.Index.{Index}
use Rattle.night_drive.specs.declared.names.Names.{Names}
use Rattle.night_drive.specs.Index.{IsIndex, IsKeyed, found_in}
use Rattle.night_drive.specs.Tallies.{IsApart, IsWithin}
use Rattle.night_drive.proofs.Reading.{one_row}

-- ---- two keys

-- This key of group g is the other one, of group h.
abbrev pub is_key : (g : ℕ) → (key : List ℕ) → (h : ℕ) → (other : List ℕ) → Bool
is_key g key h other = g == h && bytes_eq key other

pub same_group : (g h : ℕ) (key other : List ℕ) → is_key g key h other ≡ true → g ≡ h
same_group g h key other same =
    eqb-true g h (and_parts (g == h) (bytes_eq key other) same).0

pub same_name : (g h : ℕ) (key other : List ℕ) → is_key g key h other ≡ true → key ≡ other
same_name g h key other same =
    (bytes_eq-Decides key other).0 (and_parts (g == h) (bytes_eq key other) same).1

pub is_same_key : (g h : ℕ) (key other : List ℕ) → g ≡ h → key ≡ other
    → is_key g key h other ≡ true
is_same_key g h key other same alike =
    and_from (g == h) (bytes_eq key other) (eq-eqb g h same) ((bytes_eq-Decides key other).1 alike)

-- The same key finds the same.
pub found_alike : (index : Index) (g h : ℕ) (key other : List ℕ) → is_key g key h other ≡ true
    → found_in index g key ≡ found_in index h other
found_alike index g h key other same =
    ap (λ x. found_in index x key) (same_group g h key other same)
    ∙ ap (λ x. found_in index h x) (same_name g h key other same)

-- ---- one command more

-- The index finds none.
pub index_none : (commands : List Command) (names : Names) (index : Index)
    → ((g : ℕ) (key : List ℕ) → found_in index g key ≡ None) → IsIndex 0 commands names index
index_none commands names index none = record {
  sound = λ g c key found. absurd (none-some c (sym (none g key) ∙ found));
  complete = λ c g key below it. absurd (omega (arith, below));
}

-- The command that was added has its group and its key.
keyed_here : (commands : List Command) (names : Names) (n c g : ℕ) (key other : List ℕ)
    (command : Command) → slice_get commands n ≡ Some command
    → slice_get names.keys.items n ≡ Some key → n ≡ c
    → is_key command.group key g other ≡ true → IsKeyed commands names c g other
keyed_here commands names n c g key other command is its here same = record {
  command = command;
  is = subst (λ m. slice_get commands m ≡ Some command) here is;
  group_is = same_group command.group g key other same;
  key_is = subst (λ m. slice_get names.keys.items m ≡ Some key) here its
      ∙ ap Some (same_name command.group g key other same);
}

-- Its key is found.
key_here : (commands : List Command) (names : Names) (n c g : ℕ) (key other : List ℕ)
    (command : Command) → slice_get commands n ≡ Some command
    → slice_get names.keys.items n ≡ Some key → n ≡ c → IsKeyed commands names c g other
    → is_key command.group key g other ≡ true
key_here commands names n c g key other command is its here it =
    let same : command ≡ it.command = one_row commands n c command it.command here is it.is in
    let alike : key ≡ other = one_row names.keys.items n c key other here its it.key_is in
    is_same_key command.group g key other (ap (λ (x : Command). x.group) same ∙ it.group_is) alike

pub index_more : (commands : List Command) (names : Names) (old new : Index) (n : ℕ)
    (command : Command) (key : List ℕ) → slice_get commands n ≡ Some command
    → slice_get names.keys.items n ≡ Some key
    → ((g : ℕ) (other : List ℕ) → found_in new g other
    ≡ cond (is_key command.group key g other) (Some n) (found_in old g other))
    → IsIndex n commands names old → IsIndex (n + 1) commands names new
index_more commands names old new n command key is its put before = record {
  sound = sound;
  complete = complete;
}
  where
    sound : (g c : ℕ) (other : List ℕ) → found_in new g other ≡ Some c
        → IsKeyed commands names c g other
    sound g c other found = elim (cases_Bool (is_key command.group key g other)) [
      | inl same ↦
          keyed_here commands names n c g key other command is its
          (same_Some n c (sym (cond-true (is_key command.group key g other) (Some n)
          (found_in old g other) same) ∙ sym (put g other) ∙ found)) same
      | inr apart ↦
          before.sound g c other (sym (cond-false (is_key command.group key g other) (Some n)
          (found_in old g other) apart) ∙ sym (put g other) ∙ found)
    ]

    complete : (c g : ℕ) (other : List ℕ) → c < n + 1 → IsKeyed commands names c g other
        → IsSome (found_in new g other)
    complete c g other below it = elim (cases_Bool (is_key command.group key g other)) [
      | inl same ↦
          subst (λ (o : Option ℕ). IsSome o)
          (sym (put g other ∙ cond-true (is_key command.group key g other) (Some n)
          (found_in old g other) same)) refl
      | inr apart ↦
          subst (λ (o : Option ℕ). IsSome o)
          (sym (put g other ∙ cond-false (is_key command.group key g other) (Some n)
          (found_in old g other) apart))
          (elim (cases_eq n c) [
            | inl here ↦
                absurd (both_ways (is_key command.group key g other) apart
                (key_here commands names n c g key other command is its here it))
            | inr there ↦ before.complete c g other (omega (arith, below, there)) it
          ])
    ]

-- ---- a whole index

pub within_of : (commands : List Command) (names : Names) (index : Index)
    → IsIndex (length commands) commands names index → IsWithin (length commands) index
within_of commands names index is g c key found =
    let it : IsKeyed commands names c g key = is.sound g c key found in
    slice_get_within commands c it.command it.is

pub apart_of : (commands : List Command) (names : Names) (index : Index)
    → IsIndex (length commands) commands names index → IsApart index
apart_of commands names index is g h c key other one two =
    let a : IsKeyed commands names c g key = is.sound g c key one in
    let b : IsKeyed commands names c h other = is.sound h c other two in
    let same : a.command ≡ b.command = same_Some a.command b.command (sym a.is ∙ b.is) in (
      sym a.group_is ∙ ap (λ (x : Command). x.group) same ∙ b.group_is,
      same_Some key other (sym a.key_is ∙ b.key_is),
    )
