-- Plans whose lines are known, and whose commands all have ranks.
use Rattle.std.proofs.Common.{◌≡◌, ◌<◌, ◌+◌, ◌-◌, ◌∙◌, ℕ, true, List, Some, slice_get, length}
use Rattle.std.proofs.Common.{ap, refl, sym, subst, arith, inl, inr}
use Rattle.std.proofs.lemmas.Bool.{cases_lt, lt-ltb, ltb-true}
use Rattle.std.proofs.lemmas.List.Elements.{All-contains, All-weaker}
use Rattle.std.proofs.lemmas.List.{get_or_past}
use Rattle.std.proofs.lemmas.Option.{slice_get_within, get_or_from_slice_get}
use Rattle.std.specs.Prelude.{All, max, slice_index}
use Rattle.night_plan.specs.declared.commands.Command.{Command}
use Rattle.night_plan.specs.declared.commands.Group.{Group as GroupLine}
use Rattle.night_plan.specs.declared.commands.Need.{Need}
use Rattle.night_plan.specs.declared.commands.Subject.{Subject}
use Rattle.night_plan.specs.declared.commands.Subject.TheVariants as subject
use Rattle.night_plan.specs.declared.commands.Take.{Take}
use Rattle.night_plan.specs.Plans.{horizon, is_within, IsSound}
use Rattle.night_plan.specs.Ranks.{IsKnown, AreRanks}
use Rattle.night_plan.proofs.Ranking.{after_within}

known_at : (groups pools : ℕ) (commands : List Command) (c : ℕ) (command : Command)
    → All (IsKnown groups (length commands) pools) commands → slice_get commands c ≡ Some command
    → IsKnown groups (length commands) pools command
known_at groups pools commands c command all is =
    All-contains (IsKnown groups (length commands) pools) commands command all (
      c,
      slice_get_within commands c command is,
      get_or_from_slice_get commands c command command
          is,
    )

-- What the needs of each line name.
pub needs_from : (groups pools : ℕ) (commands xs : List Command) (g : ℕ)
    → All (IsKnown groups (length commands) pools) commands → xs ≡ commands → g ≡ groups
    → All (λ command. All (λ need. is_within g (length xs) need.of ≡ true) command.needs.items) xs
needs_from groups pools commands xs g all same one =
    subst (λ (ys : List Command). All (λ command. All
    (λ need. is_within g (length ys) need.of ≡ true) command.needs.items) ys) (sym same)
    (subst (λ (k : ℕ). All (λ command. All
    (λ need. is_within k (length commands) need.of ≡ true) command.needs.items) commands) (sym one)
    (All-weaker (IsKnown groups (length commands) pools)
    (λ (command : Command). All
    (λ need. is_within groups (length commands) need.of ≡ true) command.needs.items)
    (λ command is. is.needs) commands all))

pub sound_known : (groups : List GroupLine) (pools : ℕ) (commands : List Command)
    (ranks order places : List ℕ) (most : ℕ)
    → All (IsKnown (length groups) (length commands) pools) commands
    → AreRanks commands ranks order most
    → ((c : ℕ) → c < length ranks → 0 < slice_index ranks c)
    → length places ≡ length ranks
    → ((c : ℕ) → c < length ranks → slice_index places c + 1 ≡ slice_index ranks c)
    → IsSound (length commands) groups pools commands order places
sound_known groups pools commands ranks order places most all are each sized before = record {
  bounded = omega arith;
  own = λ c command is. (known_at (length groups) pools commands c command all is).own;
  takes = λ c command row is listed.
      All-contains (λ (x : Take). x.pool < pools) command.takes.items row
      (known_at (length groups) pools commands c command all is).takes listed;
  within = λ c need has. wider need.of c
      (All-contains (λ (x : Need). is_within (length groups) (length commands) x.of ≡ true)
      has.command.needs.items need
      (known_at (length groups) pools commands c has.command all has.is).needs has.listed);
  sized = sized ∙ are.sized;
  placed = λ c below.
      let place = before c (ranked c below) in
      ap (slice_get order) (let e : slice_index places c ≡ slice_index ranks c - 1 =
      omega (arith, place) in e) ∙ are.placed c (each c (ranked c below));
  inside = λ p c is. there p c is;
  at = λ p c is.
      let rank = are.at p c is in
      let place = before c (ranked c (there p c is)) in
      omega (arith, rank, place);
  after = λ c d comes.
      let below = slice_get_within commands c comes.has.command comes.has.is in
      let some = each c (ranked c below) in
      let less = are.lower c d some comes in
      let one = before c (ranked c below) in
      let two = before d (ranked d (after_within (length groups) commands (needs_from
      (length groups) pools commands commands (length groups) all refl refl) c d comes)) in
      omega (arith, less, one, two);
  before = λ c d own other less. omega (arith, other);
}
  where
    ranked : (c : ℕ) → c < length commands → c < length ranks
    ranked c below = let same = are.sized in omega (arith, below, same)

    there : (p c : ℕ) → slice_get order p ≡ Some c → c < length commands
    there p c is =
        let rank = are.at p c is in
        let same = are.sized in
        elim (cases_lt c (length commands)) [
          | inl below ↦ below
          | inr past ↦
              let none = get_or_past ranks c 0 (omega (arith, past, same)) in
              absurd (omega (arith, rank, none))
        ]

    wider : (o : Subject) (c : ℕ) → is_within (length groups) (length commands) o ≡ true
        → is_within (length groups) (horizon (length commands) c) o ≡ true
    wider (subject.Command d) c within =
        let below = ltb-true d (length commands) within in
        lt-ltb d (max (length commands) c) (omega (arith, below))
    wider (subject.Group g) c within = within

pub known_from : (groups pools g p : ℕ) (commands xs : List Command)
    → All (IsKnown g (length xs) p) xs → xs ≡ commands → g ≡ groups → p ≡ pools
    → All (IsKnown groups (length commands) pools) commands
known_from groups pools g p commands xs all same one two =
    subst (λ (k : ℕ). All (IsKnown groups (length commands) k) commands) two
    (subst (λ (k : ℕ). All (IsKnown k (length commands) p) commands) one
    (subst (λ (ys : List Command). All (IsKnown g (length ys) p) ys) same all))

pub takes_from : (groups pools count : ℕ) (commands xs : List Command)
    → All (IsKnown groups (length commands) pools) commands → xs ≡ commands → count ≡ pools
    → All (λ command. All (λ row. row.pool < count) command.takes.items) xs
takes_from groups pools count commands xs all same sized =
    subst (λ (k : ℕ). All (λ command. All (λ row. row.pool < k) command.takes.items) xs)
    (sym sized)
    (subst (λ (ys : List Command). All
    (λ command. All (λ row. row.pool < pools) command.takes.items) ys)
    (sym same)
    (All-weaker (IsKnown groups (length commands) pools)
    (λ (command : Command). All (λ row. row.pool < pools) command.takes.items)
    (λ command is. is.takes) commands all))

-- What each line says of its group.
pub own_from : (groups pools : ℕ) (commands xs : List Command) (g : ℕ)
    → All (IsKnown groups (length commands) pools) commands → xs ≡ commands → g ≡ groups
    → All (λ command. command.group < g) xs
own_from groups pools commands xs g all same one =
    subst (λ (ys : List Command). All (λ command. command.group < g) ys) (sym same)
    (subst (λ (k : ℕ). All (λ command. command.group < k) commands) (sym one)
    (All-weaker (IsKnown groups (length commands) pools)
    (λ (command : Command). command.group < groups) (λ command is. is.own) commands all))

-- A command that isn't known, or takes too much.
pub unknown_from : (groups : List GroupLine) (pools : List ℕ) (commands xs : List Command)
    (g p c : ℕ) → (command : Command) × (slice_get xs c ≡ Some command)
    × (IsKnown g (length xs) p command → ⊥) → xs ≡ commands → g ≡ length groups → p ≡ length pools
    → (command : Command) × (slice_get commands c ≡ Some command)
    × (IsKnown (length groups) (length commands) (length pools) command → ⊥)
unknown_from groups pools commands xs g p c found same one two = (
  found.0,
  sym (ap (λ (ys : List Command). slice_get ys c) same) ∙ found.1,
  λ known. found.2 (subst (λ (ys : List Command). IsKnown g (length ys) p found.0) (sym same)
      (subst (λ (k : ℕ). IsKnown k (length commands) p found.0) (sym one)
      (subst (λ (k : ℕ). IsKnown (length groups) (length commands) k found.0) (sym two) known))),
)
