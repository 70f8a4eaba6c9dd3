-- What the parser has read stays read: rows go after those that are there.
use Rattle.std.proofs.Common.{◌≡◌, ◌∙◌, ◌∷◌, ◌++◌, Bool, List, Some, None, [], ap}
use Rattle.std.proofs.Common.{append-nil, append_assoc, cond, false, refl, subst, sym, true}
use Rattle.std.specs.Prelude.{◌&&◌, ◌||◌, find, fold, if◌then◌else◌, not, option_and_then}
use Rattle.std.specs.Prelude.{slice_get}
use Rattle.std.specs.Option.{option_map_or}
use Rattle.std.specs.Str.{bytes_eq}
use Rattle.clap.specs.Facts.{explicit_source}
use Rattle.clap.specs.Takes.{is_given}
use Rattle.clap.specs.Walk.{Row, Rule, Text, at_row, default_rows, first_of, has_row}
use Rattle.clap.specs.Walk.{more_values, reading_by, with_default, with_values, without}
use Rattle.clap.specs.declared.builder.value_parser.Reading.{Reading}
use Rattle.clap.specs.declared.error.kind.ErrorKind.{ErrorKind}
use Rattle.clap.specs.declared.parser.matches.ValueSource.{ValueSource}
use Rattle.clap.specs.declared.parser.matches.ValueSource.TheVariants.{CommandLine, DefaultValue}

-- each row has a value
abbrev pub IsFull : List Row → Type 0
IsFull [] = Unit {0}
IsFull (r ∷ rs) = ((x : Text) × ((rest : List Text) × (r.values ≡ x ∷ rest))) × IsFull rs

full_both : (a b : List Row) → IsFull a → IsFull b → IsFull (a ++ b)
full_both [] b f g = g
full_both (r ∷ rs) b f g = (f.0, full_both rs b f.1 g)

-- full rows go after the old ones
pub record Grows (old new : List Row) : Type 0 where
  pub more : List Row
  pub is : new ≡ old ++ more
  pub full : IsFull more

pub grows_none : (rows : List Row) → Grows rows rows
grows_none rows = record { more = []; is = sym (append-nil rows); full = tt }

pub grows_then : (a b c : List Row) → Grows a b → Grows b c → Grows a c
grows_then a b c one two = record {
  more = one.more ++ two.more;
  is = two.is ∙ ap (λ l. l ++ two.more) one.is ∙ append_assoc a one.more two.more;
  full = full_both one.more two.more one.full two.full;
}

pub grows_full : (a b : List Row) → Grows a b → IsFull a → IsFull b
grows_full a b more full = subst IsFull (sym more.is) (full_both a more.more full more.full)

-- ---- what is read

-- what was read first of an argument is read after more rows, too
first_after : (id v : Text) (rows more : List Row) → first_of id rows ≡ Some v
    → first_of id (rows ++ more) ≡ Some v
first_after id v [] more is = cc
first_after id v (r ∷ rs) more is = go (bytes_eq r.id id) (first_after id v rs more) is
  where
    go : (b : Bool) → (first_of id rs ≡ Some v → first_of id (rs ++ more) ≡ Some v)
        → option_and_then (λ q. slice_get q.values 0)
        (cond b (Some r) (find (λ q. bytes_eq q.id id) rs)) ≡ Some v
        → option_and_then (λ q. slice_get q.values 0)
        (cond b (Some r) (find (λ q. bytes_eq q.id id) (rs ++ more))) ≡ Some v
    go true below is = is
    go false below is = below is

pub grows_first : (id v : Text) (a b : List Row) → Grows a b → first_of id a ≡ Some v
    → first_of id b ≡ Some v
grows_first id v a b more is =
    ap (λ l. first_of id l) more.is ∙ first_after id v a more.more is

-- of an argument that has no row yet, the row that goes after is read
pub first_last : (id : Text) (new : Row) (rows : List Row) → has_row id rows ≡ false
    → bytes_eq new.id id ≡ true → first_of id (rows ++ new ∷ []) ≡ slice_get new.values 0
first_last id new [] none same =
    ap (λ b. option_and_then (λ q. slice_get q.values 0) (cond b (Some new) None)) same
first_last id new (r ∷ rs) none same =
    go (bytes_eq r.id id) (λ e. first_last id new rs e same) none
  where
    go : (b : Bool)
        → (has_row id rs ≡ false → first_of id (rs ++ new ∷ []) ≡ slice_get new.values 0)
        → b || has_row id rs ≡ false
        → option_and_then (λ q. slice_get q.values 0)
        (cond b (Some r) (find (λ q. bytes_eq q.id id) (rs ++ new ∷ [])))
        ≡ slice_get new.values 0
    go true below none = cc
    go false below none = below none

-- of an argument that was given there is something to read
pub given_is_read : (id : Text) (rows : List Row) → IsFull rows → is_given id rows ≡ true
    → (x : Text) × (first_of id rows ≡ Some x)
given_is_read id [] full given = cc
given_is_read id (r ∷ rs) full given =
    go (bytes_eq r.id id) (given_is_read id rs full.1) given
  where
    go : (b : Bool)
        → (is_given id rs ≡ true → (x : Text) × (first_of id rs ≡ Some x))
        → option_map_or (λ q. explicit_source q.source)
        (cond b (Some r) (find (λ q. bytes_eq q.id id) rs)) false ≡ true
        → (x : Text) × (option_and_then (λ q. slice_get q.values 0)
        (cond b (Some r) (find (λ q. bytes_eq q.id id) rs)) ≡ Some x)
    go true below given = (full.0.0, ap (λ (l : List Text). slice_get l 0) full.0.1.1)
    go false below given = below given

-- ---- what is used

-- where no row is of this argument, a change of its row is a row after them
at_end : (id : Text) (change : Row → List Row) (missing rows : List Row) → has_row id rows ≡ false
    → at_row id change missing rows ≡ rows ++ missing
at_end id change missing [] none = refl
at_end id change missing (r ∷ rs) none =
    go (bytes_eq r.id id) (at_end id change missing rs) none
  where
    go : (b : Bool)
        → (has_row id rs ≡ false → at_row id change missing rs ≡ rs ++ missing)
        → b || has_row id rs ≡ false
        → (if b then change r ++ rs else r ∷ at_row id change missing rs) ≡ r ∷ (rs ++ missing)
    go true below none = cc
    go false below none = ap (λ (l : List Row). r ∷ l) (below none)

-- the row of a use, and of a default
abbrev pub row_by : Text → Reading → ValueSource → List Text → Row
row_by id how source values = record {
  id = id;
  values = values;
  count = None;
  source = Some source;
  reading = how;
}

full_row : (id : Text) (how : Reading) (source : ValueSource) (v : Text) (vs : List Text)
    → IsFull (row_by id how source (v ∷ vs) ∷ [])
full_row id how source v vs = ((v, (vs, refl)), tt)

-- a use that is the first one
pub first_use : (id : Text) (how : Reading) (vs : List Text) (rows : List Row)
    → has_row id rows ≡ false
    → with_values id how CommandLine vs (without id rows)
    ≡ rows ++ row_by id how CommandLine vs ∷ []
first_use id how vs rows none =
    ap (λ l. with_values id how CommandLine vs l)
    (at_end id (λ _. []) [] rows none ∙ append-nil rows)
    ∙ at_end id (more_values CommandLine vs) (row_by id how CommandLine vs ∷ []) rows none

pub use_grows : (id : Text) (how : Reading) (v : Text) (vs : List Text) (rows : List Row)
    → has_row id rows ≡ false
    → Grows rows (with_values id how CommandLine (v ∷ vs) (without id rows))
use_grows id how v vs rows none = record {
  more = row_by id how CommandLine (v ∷ vs) ∷ [];
  is = first_use id how (v ∷ vs) rows none;
  full = full_row id how CommandLine v vs;
}

-- an argument that isn't used twice has no row yet
pub no_row : (b : Bool) (k : ErrorKind) → (if b && not false then k ∷ [] else []) ≡ [] → b ≡ false
no_row true k none = cc
no_row false k none = refl

-- ---- defaults

default_grows : (rows : List Row) (a : Rule) → Grows rows (with_default rows a)
default_grows rows a = go (has_row a.id rows) refl a.defaults
  where
    go : (b : Bool) → has_row a.id rows ≡ b → (values : List Text)
        → Grows rows (if b then rows else default_rows a.id (reading_by a) values rows)
    go true e values = grows_none rows
    go false e [] = grows_none rows
    go false e (v ∷ vs) = record {
      more = row_by a.id (reading_by a) DefaultValue (v ∷ vs) ∷ [];
      is = at_end a.id (more_values DefaultValue (v ∷ vs))
          (row_by a.id (reading_by a) DefaultValue (v ∷ vs) ∷ []) rows e;
      full = full_row a.id (reading_by a) DefaultValue v vs;
    }

pub defaults_grow : (rules : List Rule) (rows : List Row)
    → Grows rows (fold with_default rows rules)
defaults_grow [] rows = grows_none rows
defaults_grow (a ∷ rest) rows =
    grows_then rows (with_default rows a) (fold with_default (with_default rows a) rest)
    (default_grows rows a) (defaults_grow rest (with_default rows a))
